-- The weak Lagrangian bound of a proof in a zone.
use Rattle.std.specs.Prelude.{◌≡◌, ◌≢◌, ◌≤◌, ◌^◌, IsSome, unsigned_abs, ℕ, zero, suc, ◌<◌, Bool, true, IsTrue, List, [], ◌∷◌, map, length, Option, Some, None, ℤ, pos, negsuc, ◌+ℤ◌, ◌-ℤ◌, ◌*ℤ◌, ◌<ℤ◌, ◌≤ℤ◌, ◌==◌, if◌then◌else◌, slice_index_or, All}
use Rattle.bp_theory.specs.Limits.{greatest_multiplier, greatest_scale}
use Rattle.std.specs.List.{list_any}
use Rattle.std.specs.Int.{int_min}
use Rattle.std.specs.List.Sorted.{IsStrictlyIncreasing}
use Rattle.bp_theory.specs.Sums.{sum_of, dot}
use Rattle.bp_theory.specs.Program.{span_at, IsInside, MeetsRow}
use Rattle.bp_theory.specs.Blocking.{Copy, Block, Blocking, coef_in, row_at}
use Rattle.bp_theory.specs.declared.Span.{Span}
use Rattle.bp_theory.specs.declared.Sense.{Sense}
use Rattle.bp_theory.specs.declared.Sense.TheVariants.{Le, Ge, Eq, In}
use Rattle.bp_theory.specs.declared.Row.{Row}
use Rattle.bp_theory.specs.declared.MasterRow.{MasterRow}
use Rattle.bp_theory.specs.declared.Picked.{Picked}
use Rattle.bp_theory.specs.declared.Picked.TheVariants.{Every, These}
use Rattle.bp_theory.specs.declared.Proof.{Proof}

-- the spans of a block's copies in a zone
abbrev pub spans_of : List Span → Block → List Span
spans_of zone block = map (λ c. span_at zone c.var) block.copies

-- the points of rows within spans
pub record IsPoint (rows : List Row) (spans : List Span) (y : List ℤ) : Type 0 where
  pub inside : IsInside spans y
  pub meets : All (MeetsRow y) rows

-- a value is reached by a point, and no point undercuts it
pub record IsLeast (rows : List Row) (spans : List Span) (costs : List ℤ) (v : ℤ) : Type 0 where
  pub point : List ℤ
  pub is_point : IsPoint rows spans point
  pub reached : dot costs point ≡ v
  pub least : (y : List ℤ) → IsPoint rows spans y → v ≤ℤ dot costs y

-- whether a block is picked
abbrev pub is_picked : Picked → ℕ → Bool
is_picked Every k = true
is_picked (These ks) k = list_any (λ j. j == k) ks

-- the rows that the points of a block must meet: its own, or none where the block isn't picked
abbrev pub priced_rows : Picked → ℕ → Block → List Row
priced_rows picked k block = if is_picked picked k then block.rows else []

-- the cost of a copy at a proof: scale times cost, less multipliers times coefficients
abbrev pub reduced_cost : Proof → Copy → ℤ
reduced_cost proof c = pos proof.scale *ℤ c.cost -ℤ sum_of (λ m. m.1 *ℤ coef_in c m.0) proof.mults

-- the least reduced cost of block k in a zone, over its points if it is picked, else over its box
abbrev pub IsPart : List Span → Proof → ℕ → Block → ℤ → Type 0
IsPart zone proof k block v =
    IsLeast (priced_rows proof.picked k block) (spans_of zone block) (map (reduced_cost proof) block.copies) v

-- the least reduced costs of the blocks from number k on, in order
abbrev pub AreParts : List Span → Proof → ℕ → List Block → List ℤ → Type 0
AreParts zone proof k [] [] = Unit {0}
AreParts zone proof k [] (v ∷ vs) = ⊥
AreParts zone proof k (b ∷ bs) [] = ⊥
AreParts zone proof k (b ∷ bs) (v ∷ vs) = IsPart zone proof k b v × AreParts zone proof (suc k) bs vs

-- the side of a row for a multiplier: the lower for a positive one, else the upper
abbrev pub side : MasterRow → ℤ → ℤ
side r (pos zero) = r.rhs
side r (pos (suc n)) = r.low
side r (negsuc n) = r.rhs

-- the side of the row of a number
abbrev pub side_at : Option MasterRow → ℤ → ℤ
side_at None p = pos 0
side_at (Some r) p = side r p

-- what a proof gives before the blocks: scale times constant, and multipliers times sides
abbrev pub base : Blocking → Proof → ℤ
base b proof = pos proof.scale *ℤ b.constant +ℤ sum_of (λ m. m.1 *ℤ side_at (row_at b m.0) m.1) proof.mults

-- the weak Lagrangian bound is v
pub record IsBound (b : Blocking) (zone : List Span) (proof : Proof) (v : ℤ) : Type 0 where
  pub parts : List ℤ
  pub are_parts : AreParts zone proof 0 b.blocks parts
  pub total : v ≡ base b proof +ℤ sum_of (λ z. z) parts

-- the bound is endless: a picked block has no point
pub record IsEndless (b : Blocking) (zone : List Span) (proof : Proof) : Type 0 where
  pub block : ℕ
  pub there : block < length b.blocks
  pub picked : IsTrue (is_picked proof.picked block)
  pub none : (d : Block) (y : List ℤ) → IsPoint (slice_index_or b.blocks block d).rows (spans_of zone (slice_index_or b.blocks block d)) y → ⊥

-- positive at `Ge`, negative at `Le`, either at `Eq` and `In`
abbrev pub SignFitsSense : Sense → ℤ → Type 0
SignFitsSense Le p = p <ℤ pos 0
SignFitsSense Ge p = pos 0 <ℤ p
SignFitsSense Eq p = Unit {0}
SignFitsSense In p = Unit {0}

-- a multiplier's sign fits a row that proofs may name
abbrev pub SignFits : Option MasterRow → ℤ → Type 0
SignFits None p = ⊥
SignFits (Some r) p = SignFitsSense r.sense p

-- each multiplier is that of a row that proofs may name, and its sign fits
abbrev pub SignsFit : Blocking → Proof → Type 0
SignsFit b proof = All (λ m. SignFits (row_at b m.0) m.1) proof.mults

-- the least of a cost times a number of a span: at one of its ends
abbrev pub end_cost : Span → ℤ → ℤ
end_cost s r = int_min (r *ℤ s.lo) (r *ℤ s.hi)

-- the least cost over a box, span by span
abbrev pub box_least : List Span → List ℤ → ℤ
box_least [] rs = pos 0
box_least (s ∷ ss) [] = pos 0
box_least (s ∷ ss) (r ∷ rs) = end_cost s r +ℤ box_least ss rs

-- picked blocks ascend and are there
abbrev pub ArePicked : ℕ → Picked → Type 0
ArePicked blocks Every = Unit {0}
ArePicked blocks (These ks) = IsStrictlyIncreasing ks × All (λ k. k < blocks) ks

-- a proof keeps the limits, and names rows that proofs may name and blocks that are there, each once and in order
pub record Fits (b : Blocking) (proof : Proof) : Type 0 where
  pub scale : proof.scale ≤ greatest_scale
  pub sizes : All (λ m. unsigned_abs m.1 ≤ greatest_multiplier) proof.mults
  pub nonzero : All (λ m. m.1 ≢ pos 0) proof.mults
  pub rows : All (λ m. IsSome (row_at b m.0)) proof.mults
  pub ascend : IsStrictlyIncreasing (map (λ m. m.0) proof.mults)
  pub picked : ArePicked (length b.blocks) proof.picked

-- the proof of scale 1 that names no row and picks no block
abbrev pub plain_proof : Proof
plain_proof = record { scale = 1; mults = []; picked = These [] }
