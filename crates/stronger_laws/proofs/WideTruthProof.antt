-- Valid certificates of any cuts, rows and splits make true claims.
use Rattle.std.proofs.Common.{◌≡◌, sym, ap, subst, ◌∙◌, List, [], map, length, get_or, Option, Some, None}
use Rattle.std.proofs.Math.IntN.{ℤ}
use Rattle.std.specs.Prelude.{◌≤ℤ◌, All}
use Rattle.std.proofs.lemmas.List.Elements.{All-nil}
use Rattle.bp_theory.specs.Program.{Program, IsFeasible, IsInside, MeetsRow, cost, in_sense}
use Rattle.bp_theory.specs.Blocking.{Blocking, IsFaithful, AddsUp}
use Rattle.bp_theory.specs.Decomposition.{Decomposition, proof_rows, full_row, blocking_of, HasVariablesBelow, IsClosed, HasPlaces}
use Rattle.bp_theory.specs.Bound.{SignsFit}
use Rattle.bp_theory.specs.Trees.{Leaf}
use Rattle.bp_theory.specs.Claims.{Holds, Shows, IsTrueClaim}
use Rattle.bp_theory.specs.declared.Row.{Row}
use Rattle.bp_theory.specs.declared.Claim.{Claim}
use Rattle.bp_theory.specs.declared.Claim.TheVariants.{Optimal, Infeasible, Bound}
use Rattle.bp_theory.proofs.TruthProof.{holds_is_true, empties_is_true, in_sense_twice}
use Rattle.bp_theory.proofs.FaithProof.{adding_up_lem}
use Rattle.bp_theory.proofs.DecompositionProof.{decomposition_lem}
use Rattle.bp_theory.proofs.CopyProof.{copies_of_each_lem}
use Rattle.search_laws.specs.Spread.{HasEachRow}
use Rattle.search_laws.proofs.RowsProof.{decomposition_has_all_lem}
use Rattle.stronger_laws.specs.WideRows.{wide_blocking}
use Rattle.stronger_laws.specs.Alike.{HasDistinctVariables}
use Rattle.stronger_laws.specs.AllCuts.{any_rows}
use Rattle.stronger_laws.specs.ClassTrees.{ClassTree, class_leaves}
use Rattle.stronger_laws.specs.WideClaims.{WideCertificate, IsWideValid}
use Rattle.stronger_laws.specs.Laws.{WideCertifiedIsTrue}
use Rattle.stronger_laws.specs.declared.AnyCut.{AnyCut}
use Rattle.stronger_laws.proofs.WideProof.{wide_is_faithful_lem}
use Rattle.stronger_laws.proofs.AllCutsProof.{all_cuts_are_met_lem}
use Rattle.stronger_laws.proofs.ClassCoverProof.{class_cover_lem}

-- what is known of a blocking by which classes are told
record TellsClasses (p : Program) (rows : List (Option Row)) (classes : Blocking) : Type 0 where
  faithful : IsFaithful p classes
  adds : AddsUp p rows classes
  has : HasEachRow p rows classes
  distinct : HasDistinctVariables classes

-- the leaf of a feasible point, or of another of the same cost
leaf_of : (p : Program) (rows : List (Option Row)) (classes b : Blocking) (cert : WideCertificate) (x : List ℤ) → TellsClasses p rows classes
    → IsWideValid p classes b cert → IsFeasible p x
    → (leaf : Leaf) × (y : List ℤ) × IsFeasible p y × (cost p y ≡ cost p x) × SignsFit b leaf.proof × IsInside leaf.zone y × Shows p b cert.claim leaf
leaf_of p rows classes b cert x tells valid feasible =
    let found = class_cover_lem p rows classes cert.tree p.spans x tells.faithful tells.adds tells.has tells.distinct (λ y h. h) valid.splits feasible feasible.inside in
    let k = found.3.0 in
    let leaf : Leaf = found.3.1 in
    let same : get_or (class_leaves classes cert.tree p.spans) k leaf ≡ leaf = found.3.3 in (
      leaf,
      found.0,
      found.1,
      found.2,
      subst (λ (l : Leaf). SignsFit b l.proof) same (valid.signs k leaf found.3.2),
      found.3.4,
      subst (λ (l : Leaf). Shows p b cert.claim l) same (valid.shown k leaf found.3.2),
    )

-- under a claim that each leaf shows a cost, no feasible point costs less
none_cheaper : (p : Program) (rows : List (Option Row)) (classes b : Blocking) (cert : WideCertificate) (z : ℤ) → TellsClasses p rows classes
    → IsFaithful p b → IsWideValid p classes b cert → ((leaf : Leaf) → Shows p b cert.claim leaf → Holds b leaf.zone leaf.proof z)
    → (x : List ℤ) → IsFeasible p x → z ≤ℤ cost p x
none_cheaper p rows classes b cert z tells faithful valid shows x feasible =
    let found = leaf_of p rows classes b cert x tells valid feasible in
    subst (λ c. z ≤ℤ c) found.3
    (holds_is_true p b found.0.zone found.0.proof z found.1 faithful found.4 found.2 found.5 (shows found.0 found.6))

wide_truth_by : (p : Program) (rows : List (Option Row)) (classes b : Blocking) (claim : Claim) (point : Option (List ℤ)) (cuts : List AnyCut) (tree : ClassTree)
    → TellsClasses p rows classes → IsFaithful p b
    → IsWideValid p classes b (record { claim = claim; point = point; cuts = cuts; tree = tree }) → IsTrueClaim p claim
wide_truth_by p rows classes b (Optimal v) None cuts tree tells faithful valid = absurd valid.point
wide_truth_by p rows classes b (Optimal v) (Some x) cuts tree tells faithful valid = (
  x,
  record {
    feasible = valid.point.feasible;
    least = λ y feasible. subst (λ z. z ≤ℤ cost p y)
        (ap (in_sense p.maximises) (sym valid.point.has_value) ∙ in_sense_twice p.maximises (cost p x))
        (none_cheaper p rows classes b (record { claim = Optimal v; point = Some x; cuts = cuts; tree = tree }) (in_sense p.maximises v) tells faithful valid
        (λ leaf h. h) y feasible);
  },
  valid.point.has_value,
)
wide_truth_by p rows classes b Infeasible point cuts tree tells faithful valid = λ x feasible.
    let found = leaf_of p rows classes b (record { claim = Infeasible; point = point; cuts = cuts; tree = tree }) x tells valid feasible in
    empties_is_true p b found.0.zone found.0.proof found.1 faithful found.4 found.2 found.5 found.6
wide_truth_by p rows classes b (Bound bound None) point cuts tree tells faithful valid =
    none_cheaper p rows classes b (record { claim = Bound bound None; point = point; cuts = cuts; tree = tree }) (in_sense p.maximises bound) tells faithful valid
    (λ leaf h. h)
wide_truth_by p rows classes b (Bound bound (Some v)) None cuts tree tells faithful valid = absurd valid.point
wide_truth_by p rows classes b (Bound bound (Some v)) (Some x) cuts tree tells faithful valid = (
  none_cheaper p rows classes b (record { claim = Bound bound (Some v); point = Some x; cuts = cuts; tree = tree }) (in_sense p.maximises bound) tells faithful valid
      (λ leaf h. h),
  (x, valid.point),
)

-- the blocking of a decomposition without cuts tells classes
classes_told : (p : Program) (d : Decomposition) → IsClosed p → HasPlaces p d
    → TellsClasses p (map full_row (proof_rows p d [])) (blocking_of p d [])
classes_told p d closed placed =
    let none : All (λ (row : Row). HasVariablesBelow (length p.spans) row.terms) [] = All-nil (λ (row : Row). HasVariablesBelow (length p.spans) row.terms) in
    let adds : AddsUp p (map full_row (proof_rows p d [])) (blocking_of p d []) = decomposition_lem.adds_up p d [] closed none in
    record {
      faithful = adding_up_lem p (map full_row (proof_rows p d [])) (blocking_of p d [])
          (decomposition_lem.implied p d [] (λ x feasible. All-nil (MeetsRow x))) adds;
      adds = adds;
      has = decomposition_has_all_lem.rows p d [] closed placed;
      distinct = copies_of_each_lem.ascend p d [];
    }

pub wide_certified_is_true_lem : WideCertifiedIsTrue
wide_certified_is_true_lem p d cert closed placed certified =
    let cuts : List Row = any_rows p d [] cert.cuts in
    wide_truth_by p (map full_row (proof_rows p d [])) (blocking_of p d []) (wide_blocking p d cuts) cert.claim cert.point cert.cuts cert.tree
    (classes_told p d closed placed)
    (wide_is_faithful_lem.faithful p d cuts closed (all_cuts_are_met_lem.closed p d cert.cuts certified.fitting)
    (λ x feasible. all_cuts_are_met_lem.met p d cert.cuts x closed certified.fitting feasible))
    certified.valid
