-- Bounds that are no less than that of every block's points, where prefixes are few, and no less than what proofs show.
use Rattle.std.proofs.Common.{◌≡◌, sym, subst, ℕ, ◌-◌, ◌<◌, ◌^◌, List, [], false, true≢false, ◌⊎◌, inl, inr, arith}
use Rattle.std.proofs.Math.IntN.{ℤ, pos, ◌*ℤ◌}
use Rattle.std.specs.Prelude.{◌≤ℤ◌, ◌<ℤ◌, length, unsigned_abs, IsTrue}
use Rattle.std.specs.Int.{int_min}
use Rattle.std.proofs.lemmas.Int.{ints, clamps, by_lt_z}
use Rattle.bp_theory.specs.Sums.{round_up}
use Rattle.bp_theory.specs.Blocking.{Blocking}
use Rattle.bp_theory.specs.Bound.{IsBound, IsEndless, spans_of}
use Rattle.bp_theory.specs.Claims.{Empties}
use Rattle.bp_theory.specs.declared.Proof.{Proof}
use Rattle.bp_theory.specs.declared.Span.{Span}
use Rattle.bp_theory.proofs.Whole.{le-mul_pos}
use Rattle.bp_theory.proofs.ShrinkProof.{one_bound_lem}
use Rattle.bp_theory.proofs.CutProof.{le-round_up}
use Rattle.search_laws.specs.Spread.{block_at}
use Rattle.search_laws.specs.Verdicts.{every_block}
use Rattle.pricing_problem.specs.Priced.{IsExceeded}
use Rattle.pricing_problem.specs.declared.Cap.TheVariants.{At}
use Rattle.node_bound.specs.Openings.{IsStrong, IsReached, MayBeCut}
use Rattle.node_bound.specs.Shown.{ShutsOff}

pub more_is_strong : (b : Blocking) (zone : List Span) (bound more : ℤ) → bound ≤ℤ more → IsStrong b zone bound → IsStrong b zone more
more_is_strong b zone bound more less strong few =
    let both = strong few in (both.0, (λ w h. let below = both.1 w h in omega (arith, ints, below, less)))

pub whole_is_strong : (b : Blocking) (zone : List Span) (whole bound : ℤ) → IsBound b zone every_block whole → whole ≤ℤ bound → IsStrong b zone bound
whole_is_strong b zone whole bound h less few = (
  (λ endless. one_bound_lem.not_both b zone every_block whole endless h),
  (λ w g. let same = one_bound_lem.one b zone every_block w whole g h in omega (arith, ints, same, less)),
)

pub cut_is_strong : (b : Blocking) (zone : List Span) (k : ℕ) (bound : ℤ) → k < length b.blocks → IsExceeded (At 1048576) (spans_of zone (block_at b k))
    → IsStrong b zone bound
cut_is_strong b zone k bound there exceeded few =
    absurd (omega (arith, exceeded, few k (record { copies = []; rows = [] }) there))

-- ---- what a bound reaches

-- the rounding of a whole bound reaches it, or is the greatest there is
pub rounding_reaches : (scale : ℕ) (whole rounded : ℤ) → 0 < scale → rounded ≡ int_min (round_up whole scale) (pos (2 ^ 62 - 1))
    → (whole ≤ℤ (pos scale *ℤ rounded)) ⊎ (rounded ≡ pos (2 ^ 62 - 1))
rounding_reaches scale whole rounded positive is = by (round_up whole scale) (le-round_up whole scale positive) is
  where
    kept : (r : ℤ) → rounded ≡ int_min r (pos (2 ^ 62 - 1)) → r ≤ℤ pos (2 ^ 62 - 1) → r ≡ rounded
    kept r e h = grind (arith, ints, clamps)

    cut : (r : ℤ) → rounded ≡ int_min r (pos (2 ^ 62 - 1)) → pos (2 ^ 62 - 1) <ℤ r → rounded ≡ pos (2 ^ 62 - 1)
    cut r e h = grind (arith, ints, clamps)

    by : (r : ℤ) → whole ≤ℤ (pos scale *ℤ r) → rounded ≡ int_min r (pos (2 ^ 62 - 1)) → (whole ≤ℤ (pos scale *ℤ rounded)) ⊎ (rounded ≡ pos (2 ^ 62 - 1))
    by r h e = by_lt_z (pos (2 ^ 62 - 1)) r
        (λ more. inr (cut r e more))
        (λ less. inl (subst (λ z. whole ≤ℤ (pos scale *ℤ z)) (kept r e less) h))

-- a whole bound that isn't above a scaled one is reached
pub unexceeded : (scale : ℕ) (bound whole : ℤ) → ((pos scale *ℤ bound) <ℤ whole → IsTrue false) → whole ≤ℤ (pos scale *ℤ bound)
unexceeded scale bound whole h = by_lt_z (pos scale *ℤ bound) whole (λ less. absurd (true≢false (sym (h less)))) (λ more. more)

-- a small whole bound at scale 1 is reached
pub reached_at_one : (scale : ℕ) (whole bound : ℤ) → scale ≡ 1 → unsigned_abs whole < 2 ^ 62
    → (whole ≤ℤ (pos scale *ℤ bound)) ⊎ (bound ≡ pos (2 ^ 62 - 1)) → whole ≤ℤ bound
reached_at_one scale whole bound one small (inl h) = once (subst (λ s. whole ≤ℤ (pos s *ℤ bound)) one h)
  where
    once : whole ≤ℤ (pos 1 *ℤ bound) → whole ≤ℤ bound
    once h = omega (arith, ints)
reached_at_one scale whole bound one small (inr e) = grind (arith, ints, clamps)

-- a greater bound reaches as much
pub reached_more : (b : Blocking) (zone : List Span) (bound more : ℤ) (proof : Proof) → bound ≤ℤ more → unsigned_abs more < 2 ^ 62
    → IsReached b zone bound proof → IsReached b zone more proof
reached_more b zone bound more proof less small reached = λ sound positive whole is. by whole (reached sound positive whole is)
  where
    greatest : bound ≡ pos (2 ^ 62 - 1) → more ≡ pos (2 ^ 62 - 1)
    greatest e = grind (arith, ints, clamps)

    by : (whole : ℤ) → (whole ≤ℤ (pos proof.scale *ℤ bound)) ⊎ ((bound ≡ pos (2 ^ 62 - 1)) ⊎ MayBeCut b zone proof)
        → (whole ≤ℤ (pos proof.scale *ℤ more)) ⊎ ((more ≡ pos (2 ^ 62 - 1)) ⊎ MayBeCut b zone proof)
    by whole (inl h) = let scaled = le-mul_pos proof.scale bound more less in inl (omega (arith, ints, h, scaled))
    by whole (inr (inl e)) = inr (inl (greatest e))
    by whole (inr (inr cut)) = inr (inr cut)

pub whole_is_reached : (b : Blocking) (zone : List Span) (bound : ℤ) (proof : Proof) (whole : ℤ) → IsBound b zone proof whole
    → (whole ≤ℤ (pos proof.scale *ℤ bound)) ⊎ (bound ≡ pos (2 ^ 62 - 1)) → IsReached b zone bound proof
whole_is_reached b zone bound proof whole is h = λ sound positive other other_is. by other (one_bound_lem.one b zone proof other whole other_is is) h
  where
    by : (other : ℤ) → other ≡ whole → (whole ≤ℤ (pos proof.scale *ℤ bound)) ⊎ (bound ≡ pos (2 ^ 62 - 1))
        → (other ≤ℤ (pos proof.scale *ℤ bound)) ⊎ ((bound ≡ pos (2 ^ 62 - 1)) ⊎ MayBeCut b zone proof)
    by other e (inl h) = inl (subst (λ z. z ≤ℤ (pos proof.scale *ℤ bound)) (sym e) h)
    by other e (inr h) = inr (inl h)

pub endless_is_reached : (b : Blocking) (zone : List Span) (bound : ℤ) (proof : Proof) → IsEndless b zone proof → IsReached b zone bound proof
endless_is_reached b zone bound proof endless = λ sound positive whole is. absurd (one_bound_lem.not_both b zone proof whole endless is)

pub cut_is_reached : (b : Blocking) (zone : List Span) (bound : ℤ) (proof : Proof) → MayBeCut b zone proof → IsReached b zone bound proof
cut_is_reached b zone bound proof cut = λ sound positive whole is. inr (inr cut)

-- ---- what shuts a zone off

-- a whole bound that isn't positive at scale 0 doesn't
pub whole_leaves_open : (b : Blocking) (zone : List Span) (proof : Proof) (whole : ℤ) → IsBound b zone proof whole → whole ≤ℤ pos 0 → ShutsOff b zone proof → ⊥
whole_leaves_open b zone proof whole is low off = by off.empties
  where
    by : Empties b zone proof → ⊥
    by (inl endless) = one_bound_lem.not_both b zone proof whole endless is
    by (inr other) =
        let same : other.0 ≡ whole = one_bound_lem.one b zone proof other.0 whole other.1 is in
        omega (arith, ints, same, low, other.3)
