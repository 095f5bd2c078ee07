-- What a proof shows of a zone, and the proofs that close one point.
use Rattle.std.specs.Prelude.{◌≡◌, ℕ, List, [], ◌∷◌, Option, ℤ, pos, negsuc, ◌≤ℤ◌, ◌<ℤ◌, int_lt, if◌then◌else◌, IfSome, All, slice_index_or, length, ◌<◌}
use Rattle.bp_theory.specs.Program.{Program, span_at, IsFeasible, MeetsRow, cost}
use Rattle.bp_theory.specs.Blocking.{Blocking}
use Rattle.bp_theory.specs.Claims.{Empties}
use Rattle.bp_theory.specs.declared.Span.{Span}
use Rattle.bp_theory.specs.declared.Row.{Row}
use Rattle.bp_theory.specs.declared.Sense.{Sense}
use Rattle.bp_theory.specs.declared.Sense.TheVariants.{Le, Ge, Eq, In}
use Rattle.bp_theory.specs.declared.Picked.TheVariants.{These}
use Rattle.bp_theory.specs.declared.Proof.{Proof}
use Rattle.search_laws.specs.GroveFacts.{IsSoundProof, KeepsBound}

-- a proof is sound and has its bound in a zone, which is no less than another
pub record IsShown (b : Blocking) (zone : List Span) (least : ℤ) (proof : Proof) (bound : ℤ) : Type 0 where
  pub sound : IsSoundProof b proof
  pub keeps : KeepsBound b zone proof bound
  pub no_less : least ≤ℤ bound

-- a sound proof shows that a zone has no point
pub record ShutsOff (b : Blocking) (zone : List Span) (proof : Proof) : Type 0 where
  pub sound : IsSoundProof b proof
  pub empties : Empties b zone proof

-- each span of a zone has one number
abbrev pub IsOnePoint : List Span → Type 0
IsOnePoint zone = All (λ s. s.lo ≡ s.hi) zone

-- a variable's span has more than one number
abbrev pub IsOpen : List Span → ℕ → Type 0
IsOpen zone v = (span_at zone v).lo <ℤ (span_at zone v).hi

-- the proof of scale 0 with one multiplier
abbrev pub row_proof : ℕ → ℤ → Proof
row_proof row m = record { scale = 0; mults = (row, m) ∷ []; picked = These [] }

-- the proof of scale 0 without multipliers that picks one block
abbrev pub block_proof : ℕ → Proof
block_proof block = record { scale = 0; mults = []; picked = These (block ∷ []) }

-- the sign by which a sum that misses a row empties its point
abbrev pub closing_sign : Sense → (low sum : ℤ) → ℤ
closing_sign Le low sum = negsuc 0
closing_sign Ge low sum = pos 1
closing_sign Eq low sum = if int_lt sum low then pos 1 else negsuc 0
closing_sign In low sum = if int_lt sum low then pos 1 else negsuc 0

-- a point is feasible, and cheaper than a given cost where there is one
pub record IsBetter (p : Program) (given : Option ℤ) (x : List ℤ) : Type 0 where
  pub feasible : IsFeasible p x
  pub cheaper : IfSome given (λ z. cost p x <ℤ z)

-- a row is there that a point misses
pub record IsMissed (p : Program) (x : List ℤ) (row : ℕ) : Type 0 where
  pub there : row < length p.rows
  pub missed : (d : Row) → MeetsRow x (slice_index_or p.rows row d) → ⊥
