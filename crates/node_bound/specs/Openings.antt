-- What pricing shows of a zone.
use Rattle.std.specs.Prelude.{◌≡◌, ◌⊎◌, ◌<◌, ◌-◌, ◌^◌, ℕ, List, length, ℤ, pos, ◌*ℤ◌, ◌≤ℤ◌, IsTrue}
use Rattle.bp_theory.specs.Limits.{most_prefixes, number_limit}
use Rattle.bp_theory.specs.Blocking.{Blocking}
use Rattle.bp_theory.specs.Bound.{IsBound, IsEndless, is_picked, spans_of}
use Rattle.bp_theory.specs.declared.Proof.{Proof}
use Rattle.bp_theory.specs.declared.Span.{Span}
use Rattle.pricing_problem.specs.Priced.{IsExceeded}
use Rattle.pricing_problem.specs.declared.Cap.TheVariants.{At}
use Rattle.search_laws.specs.GroveFacts.{IsSoundProof}
use Rattle.search_laws.specs.Spread.{block_at}
use Rattle.search_laws.specs.Verdicts.{every_block, HasFewPrefixes}
use Rattle.node_bound.specs.Shown.{IsShown, ShutsOff}
use Rattle.node_bound.specs.declared.shown.Opening.{Opening}
use Rattle.node_bound.specs.declared.shown.Opening.TheVariants.{Empty, Open}

-- where prefixes are few, each block has a point in a zone, and a bound is no less than that of every block's points
abbrev pub IsStrong : Blocking → List Span → ℤ → Type 0
IsStrong b zone bound =
    HasFewPrefixes b zone → (IsEndless b zone every_block → ⊥) × ((w : ℤ) → IsBound b zone every_block w → w ≤ℤ bound)

-- a proof that shuts the zone off, or a strong bound of it no less than another
abbrev pub IsOpening : Blocking → List Span → ℤ → Opening → Type 0
IsOpening b zone least (Empty proof) = ShutsOff b zone proof
IsOpening b zone least (Open shown) = IsShown b zone least shown.proof shown.bound × IsStrong b zone shown.bound

-- pricing a picked block of a proof in a zone may be cut: its beginnings exceed the cap
pub record MayBeCut (b : Blocking) (zone : List Span) (proof : Proof) : Type 0 where
  pub block : ℕ
  pub there : block < length b.blocks
  pub picked : IsTrue (is_picked proof.picked block)
  pub exceeded : IsExceeded (At most_prefixes) (spans_of zone (block_at b block))

-- a bound is no less than what a sound proof shows of a zone, or it is the greatest there is, or the pricing may be cut
abbrev pub IsReached : Blocking → List Span → ℤ → Proof → Type 0
IsReached b zone bound proof = IsSoundProof b proof → 0 < proof.scale → (whole : ℤ) → IsBound b zone proof whole
    → (whole ≤ℤ (pos proof.scale *ℤ bound)) ⊎ ((bound ≡ pos (number_limit - 1)) ⊎ MayBeCut b zone proof)

-- a proof at scale 0
abbrev pub at_zero : Proof → Proof
at_zero proof = record { scale = 0; mults = proof.mults; picked = proof.picked }

-- a proof does not shut a zone off at scale 0, or its pricing may be cut
abbrev pub IsOfNoUse : Blocking → List Span → Proof → Type 0
IsOfNoUse b zone proof = ShutsOff b zone (at_zero proof) → MayBeCut b zone (at_zero proof)
