-- Valid certificates make true claims.
use Rattle.std.proofs.Common.{◌≡◌, refl, sym, ap, subst, ◌∙◌, Bool, true, false, List, [], get_or, Option, Some, None, arith, inl, inr}
use Rattle.std.proofs.Math.IntN.{ℤ, pos, ◌-ℤ◌, ◌*ℤ◌, zero-*ℤ, neg_ℤ-neg_ℤ}
use Rattle.std.specs.Prelude.{◌≤ℤ◌}
use Rattle.std.proofs.lemmas.Int.{ints, by_lt_z}
use Rattle.bp_theory.specs.Program.{Program, IsFeasible, IsInside, cost, in_sense}
use Rattle.bp_theory.specs.Blocking.{Blocking, IsFaithful}
use Rattle.bp_theory.specs.Bound.{SignsFit}
use Rattle.bp_theory.specs.Trees.{Tree, Leaf, leaves}
use Rattle.bp_theory.specs.Claims.{Holds, Empties, Certificate, IsValid, IsTrueClaim, Shows}
use Rattle.bp_theory.specs.Laws.{Older, ValidIsTrue}
use Rattle.bp_theory.specs.declared.Span.{Span}
use Rattle.bp_theory.specs.declared.Proof.{Proof}
use Rattle.bp_theory.specs.declared.Picked.TheVariants.{Every}
use Rattle.bp_theory.specs.declared.Cut.{Cut}
use Rattle.bp_theory.specs.declared.Claim.{Claim}
use Rattle.bp_theory.specs.declared.Claim.TheVariants.{Optimal, Infeasible, Bound}
use Rattle.bp_theory.proofs.Whole.{le-mul_pos}
use Rattle.bp_theory.proofs.DualityProof.{duality_lem}
use Rattle.bp_theory.proofs.CoverProof.{cover_lem}

holds_for_smaller : (b : Blocking) (zone : List Span) (proof : Proof) (y z : ℤ) → y ≤ℤ z → Holds b zone proof z → Holds b zone proof y
holds_for_smaller b zone proof y z h (inl endless) = inl endless
holds_for_smaller b zone proof y z h (inr found) =
    inr (found.0, found.1, omega (arith, ints, found.2, le-mul_pos proof.scale (y -ℤ pos 1) (z -ℤ pos 1) (omega (arith, ints))))

emptied_holds : (b : Blocking) (zone : List Span) (proof : Proof) (z : ℤ) → Empties b zone proof → Holds b zone proof z
emptied_holds b zone proof z (inl endless) = inl endless
emptied_holds b zone proof z (inr found) =
    inr (found.0, found.1, omega (arith, ints, found.3, ap (λ s. pos s *ℤ (z -ℤ pos 1)) found.2, zero-*ℤ (z -ℤ pos 1)))

pub older_lem : Older
older_lem = record { smaller = holds_for_smaller; emptied = emptied_holds }

-- where a proof holds for z, no feasible point of the zone costs less
pub holds_is_true : (p : Program) (b : Blocking) (zone : List Span) (proof : Proof) (z : ℤ) (x : List ℤ)
    → IsFaithful p b → SignsFit b proof → IsFeasible p x → IsInside zone x → Holds b zone proof z → z ≤ℤ cost p x
holds_is_true p b zone proof z x faithful fits feasible inside (inl endless) =
    absurd ((duality_lem p b zone proof x faithful fits feasible inside).0 endless)
holds_is_true p b zone proof z x faithful fits feasible inside (inr found) =
    let below = (duality_lem p b zone proof x faithful fits feasible inside).1 found.0 found.1 in
    by_lt_z (cost p x) z
    (λ less. absurd (omega (arith, ints, below, found.2, le-mul_pos proof.scale (cost p x) (z -ℤ pos 1) (omega (arith, ints)))))
    (λ more. more)

-- where a proof empties a zone, no feasible point lies in it
pub empties_is_true : (p : Program) (b : Blocking) (zone : List Span) (proof : Proof) (x : List ℤ)
    → IsFaithful p b → SignsFit b proof → IsFeasible p x → IsInside zone x → Empties b zone proof → ⊥
empties_is_true p b zone proof x faithful fits feasible inside (inl endless) =
    (duality_lem p b zone proof x faithful fits feasible inside).0 endless
empties_is_true p b zone proof x faithful fits feasible inside (inr found) =
    let below = (duality_lem p b zone proof x faithful fits feasible inside).1 found.0 found.1 in
    omega (arith, ints, below, found.3, ap (λ s. pos s *ℤ cost p x) found.2, zero-*ℤ (cost p x))

-- a value is turned into a cost, and back, by the same change of sign
pub in_sense_twice : (maximises : Bool) (v : ℤ) → in_sense maximises (in_sense maximises v) ≡ v
in_sense_twice true v = neg_ℤ-neg_ℤ v
in_sense_twice false v = refl

-- the leaf where a feasible point lies
leaf_of : (p : Program) (b : Blocking) (cert : Certificate) (x : List ℤ) → IsValid p b cert → IsFeasible p x
    → (leaf : Leaf) × SignsFit b leaf.proof × IsInside leaf.zone x × Shows p b cert.claim leaf
leaf_of p b cert x valid feasible =
    let once = cover_lem cert.tree p.spans x valid.splits feasible.inside in
    let d : Leaf = record { zone = p.spans; proof = record { scale = 0; mults = []; picked = Every }; is_open = false } in (
      get_or (leaves cert.tree p.spans) once.place d,
      valid.signs once.place d once.there,
      once.holds d,
      valid.shown once.place d once.there,
    )

-- under a claim that each leaf shows a cost, no feasible point costs less
none_cheaper : (p : Program) (b : Blocking) (cert : Certificate) (z : ℤ) → IsFaithful p b → IsValid p b cert
    → ((leaf : Leaf) → Shows p b cert.claim leaf → Holds b leaf.zone leaf.proof z)
    → (x : List ℤ) → IsFeasible p x → z ≤ℤ cost p x
none_cheaper p b cert z faithful valid shows x feasible =
    let found = leaf_of p b cert x valid feasible in
    holds_is_true p b found.0.zone found.0.proof z x faithful found.1 feasible found.2 (shows found.0 found.3)

pub truth_by : (p : Program) (b : Blocking) (claim : Claim) (point : Option (List ℤ)) (cuts : List Cut) (tree : Tree) → IsFaithful p b
    → IsValid p b (record { claim = claim; point = point; cuts = cuts; tree = tree }) → IsTrueClaim p claim
truth_by p b (Optimal v) None cuts tree faithful valid = absurd valid.point
truth_by p b (Optimal v) (Some x) cuts tree faithful valid = (
  x,
  record {
    feasible = valid.point.feasible;
    least = λ y feasible. subst (λ z. z ≤ℤ cost p y)
        (ap (in_sense p.maximises) (sym valid.point.has_value) ∙ in_sense_twice p.maximises (cost p x))
        (none_cheaper p b (record { claim = Optimal v; point = Some x; cuts = cuts; tree = tree }) (in_sense p.maximises v) faithful valid
        (λ leaf h. h) y feasible);
  },
  valid.point.has_value,
)
truth_by p b Infeasible point cuts tree faithful valid = λ x feasible.
    let found = leaf_of p b (record { claim = Infeasible; point = point; cuts = cuts; tree = tree }) x valid feasible in
    empties_is_true p b found.0.zone found.0.proof x faithful found.1 feasible found.2 found.3
truth_by p b (Bound bound None) point cuts tree faithful valid =
    none_cheaper p b (record { claim = Bound bound None; point = point; cuts = cuts; tree = tree }) (in_sense p.maximises bound) faithful valid
    (λ leaf h. h)
truth_by p b (Bound bound (Some v)) None cuts tree faithful valid = absurd valid.point
truth_by p b (Bound bound (Some v)) (Some x) cuts tree faithful valid = (
  none_cheaper p b (record { claim = Bound bound (Some v); point = Some x; cuts = cuts; tree = tree }) (in_sense p.maximises bound) faithful valid
      (λ leaf h. h),
  (x, valid.point),
)

pub valid_is_true_lem : ValidIsTrue
valid_is_true_lem p b cert faithful valid = truth_by p b cert.claim cert.point cert.cuts cert.tree faithful valid
