-- Bounds rounded, and put together from parts.
use Rattle.std.proofs.Common.{◌≡◌, refl, subst, ℕ, suc, ◌+◌, ◌<◌, List, [], ◌∷◌, length, get_or, arith, inr}
use Rattle.std.proofs.Math.IntN.{ℤ, pos, ◌-ℤ◌, ◌*ℤ◌}
use Rattle.std.specs.Prelude.{◌≤ℤ◌}
use Rattle.std.proofs.lemmas.Int.{ints, by_lt_z}
use Rattle.bp_theory.specs.Sums.{round_up}
use Rattle.bp_theory.specs.Blocking.{Block}
use Rattle.bp_theory.specs.Bound.{IsPart, AreParts}
use Rattle.bp_theory.specs.Laws.{RoundedHolds, PartsAddUp}
use Rattle.bp_theory.specs.declared.Span.{Span}
use Rattle.bp_theory.specs.declared.Proof.{Proof}
use Rattle.bp_theory.proofs.CutProof.{round_up-le}

pub rounded_holds_lem : RoundedHolds
rounded_holds_lem b zone proof v positive bound =
    let z : ℤ = round_up v proof.scale in
    inr (
      v,
      bound,
      by_lt_z (pos proof.scale *ℤ (z -ℤ pos 1)) v
          (λ less. less)
          (λ more. absurd (falls z (round_up-le v (z -ℤ pos 1) proof.scale positive more))),
    )
  where
    falls : (z : ℤ) → z ≤ℤ (z -ℤ pos 1) → ⊥
    falls z h = omega (arith, ints)

parts_from_places : (zone : List Span) (proof : Proof) (k : ℕ) (bs : List Block) (vs : List ℤ) → length vs ≡ length bs
    → ((j : ℕ) (d : Block) → j < length bs → IsPart zone proof (k + j) (get_or bs j d) (get_or vs j (pos 0)))
    → AreParts zone proof k bs vs
parts_from_places zone proof k [] [] e h = tt
parts_from_places zone proof k [] (v ∷ vs) e h = absurd (omega arith)
parts_from_places zone proof k (b ∷ bs) [] e h = absurd (omega arith)
parts_from_places zone proof k (b ∷ bs) (v ∷ vs) e h =
    let first : k + 0 ≡ k = omega arith in (
      subst (λ n. IsPart zone proof n b v) first (h 0 b (omega arith)),
      parts_from_places zone proof (suc k) bs vs (omega arith)
          (λ j d l.
          let next : k + suc j ≡ suc k + j = omega arith in
          subst (λ n. IsPart zone proof n (get_or bs j d) (get_or vs j (pos 0))) next (h (suc j) d (omega arith))),
    )

pub parts_add_up_lem : PartsAddUp
parts_add_up_lem b zone proof vs e h = record {
  parts = vs;
  are_parts = parts_from_places zone proof 0 b.blocks vs e
      (λ j d l. let same : j ≡ 0 + j = omega arith in
      subst (λ n. IsPart zone proof n (get_or b.blocks j d) (get_or vs j (pos 0))) same (h j d l));
  total = refl;
}
