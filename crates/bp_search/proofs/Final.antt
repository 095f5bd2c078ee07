-- What the outcomes claim.
use Rattle.std.proofs.Common.{◌≡◌, refl, sym, subst, ap, ℕ, ◌<◌, ◌≤◌, List, [], ◌∷◌, ◌++◌, map, Option, Some, None, ℤ, get_or, arith, Bool, true, false}
use Rattle.std.specs.Prelude.{option_to_list, ◌≤ℤ◌, int_lt, if◌then◌else◌}
use Rattle.std.specs.Option.{unwrap_or}
use Rattle.std.specs.Int.{int_min}
use Rattle.std.proofs.lemmas.Int.{ints}
use Rattle.std.proofs.lemmas.List.Elements.{All-append, Contains-push, Contains-append_left}
use Rattle.bp_theory.specs.Program.{Program}
use Rattle.bp_theory.specs.Blocking.{IsFaithful}
use Rattle.bp_theory.specs.Decomposition.{blocking_of, proof_rows, full_row}
use Rattle.bp_theory.specs.Cuts.{cut_rows}
use Rattle.bp_theory.specs.Trees.{steps}
use Rattle.bp_theory.specs.declared.Row.{Row}
use Rattle.bp_theory.proofs.CutProof.{cuts_are_met_lem}
use Rattle.bp_theory.proofs.DecompositionProof.{decomposition_lem}
use Rattle.bp_theory.proofs.FaithProof.{adding_up_lem}
use Rattle.block_program.specs.Blocked.{BlockedProgram, IsFormed}
use Rattle.search_laws.specs.Grove.{GrowingTree, live_count, live_bounds, certificate_tree}
use Rattle.search_laws.specs.GroveFacts.{IsSearch, IsLeastOf, IsRemainingBound, best_cost}
use Rattle.search_laws.specs.Outcomes.{CutsFit, final_claim, stopped_claim}
use Rattle.search_laws.proofs.GroveProof.{All-one}
use Rattle.search_laws.proofs.OutcomeProof.{search_is_right_lem, read_off_is_certified_lem}
use Rattle.branch_tree.specs.Groves.{GroveState}
use Rattle.branch_tree.specs.declared.outcome.Outcome.{Outcome}
use Rattle.bp_search.specs.declared.kept.Kept.{Kept}
use Rattle.bp_search.specs.Searches.{kept_point, kept_cost, as_pair, IsRunning}
use Rattle.bp_search.specs.Ends.{given_steps, IsSearched, EndsWithin, IsOutOfSteps, ended, IsStopped, grove_in, point_of}
use Rattle.bp_search.proofs.Running.{given_is}

-- the blocking stands for the program
pub faithful : (b : BlockedProgram) → IsFormed b → IsFaithful b.named.program b.blocking
faithful b formed =
    let p : Program = b.named.program in
    let rows : List Row = cut_rows p b.dec [] b.cuts in
    subst (IsFaithful p) (sym formed.blocking)
    (adding_up_lem p (map full_row (proof_rows p b.dec rows)) (blocking_of p b.dec rows)
    (decomposition_lem.implied p b.dec rows (λ x feasible. cuts_are_met_lem.met p b.dec b.cuts x formed.kept.closed formed.cuts_kept.fitting feasible))
    (decomposition_lem.adds_up p b.dec rows formed.kept.closed (cuts_are_met_lem.closed p b.dec b.cuts)))

cuts_fit : (b : BlockedProgram) → IsFormed b → CutsFit b.named.program b.dec b.cuts
cuts_fit b formed = record { fitting = formed.cuts_kept.fitting; bounded = formed.cuts_kept.bounded }

with_cuts : (b : BlockedProgram) (t : GrowingTree) (best : Option (List ℤ)) → IsFormed b → IsSearch b.named.program b.blocking t best
    → IsSearch b.named.program (blocking_of b.named.program b.dec (cut_rows b.named.program b.dec [] b.cuts)) t best
with_cuts b t best formed search = subst (λ k. IsSearch b.named.program k t best) formed.blocking search

searched_end : (b : BlockedProgram) (most : ℕ) (g : GroveState) (best : Option Kept) → IsFormed b → IsRunning b g best → live_count g.tree ≡ 0
    → steps (certificate_tree g.tree) ≤ most → IsSearched b most g (kept_point best) (final_claim b.named.program (kept_point best))
searched_end b most g best formed run none few = record {
  standing = run.standing;
  root = run.root;
  search = run.search;
  few = few;
  certified = read_off_is_certified_lem.ended b.named.program b.dec b.cuts g.tree (kept_point best) (cuts_fit b formed)
      (with_cuts b g.tree (kept_point best) formed run.search) none;
}

-- where no leaf is live
pub ends : (b : BlockedProgram) (most : ℕ) (g : GroveState) (best : Option Kept) → IsFormed b → IsRunning b g best → live_count g.tree ≡ 0
    → steps (certificate_tree g.tree) ≤ most → EndsWithin b most (ended g best)
ends b most g None formed run none few = record {
  searched = searched_end b most g None formed run none few;
  none_live = none;
  none_feasible = search_is_right_lem.none b.named.program b.blocking g.tree (faithful b formed) run.search none;
}
ends b most g (Some k) formed run none few = record {
  searched = searched_end b most g (Some k) formed run none few;
  none_live = none;
  best = search_is_right_lem.best b.named.program b.blocking g.tree k.point (faithful b formed) run.search none;
  is_cost = run.costs;
}

-- the remaining bound
remains : (p : Program) (t : GrowingTree) (best : Option Kept) (v : ℤ) → kept_cost best ≡ best_cost p (kept_point best)
    → IsLeastOf (live_bounds t ++ option_to_list (kept_cost best)) v → IsRemainingBound p t (kept_point best) v
remains p t best v same least = subst (λ (c : Option ℤ). IsLeastOf (live_bounds t ++ option_to_list c) v) same least

searched_stop : (b : BlockedProgram) (most : ℕ) (g : GroveState) (best : Option Kept) (v : ℤ) → IsFormed b → IsRunning b g best
    → IsRemainingBound b.named.program g.tree (kept_point best) v → steps (certificate_tree g.tree) ≤ most
    → IsSearched b most g (kept_point best) (stopped_claim b.named.program (kept_point best) v)
searched_stop b most g best v formed run remaining few = record {
  standing = run.standing;
  root = run.root;
  search = run.search;
  few = few;
  certified = read_off_is_certified_lem.stopped b.named.program b.dec b.cuts g.tree (kept_point best) v (cuts_fit b formed)
      (with_cuts b g.tree (kept_point best) formed run.search) remaining;
}

-- where a leaf is live
out_of_steps : (b : BlockedProgram) (most : ℕ) (g : GroveState) (best : Option Kept) (v : ℤ) → IsFormed b → IsRunning b g best
    → 0 < live_count g.tree → steps (certificate_tree g.tree) ≡ most → IsLeastOf (live_bounds g.tree ++ option_to_list (kept_cost best)) v
    → IsOutOfSteps b most g (as_pair best) v
out_of_steps b most g None v formed run some spent least =
    let rest = remains b.named.program g.tree None v refl least in
    record {
      searched = searched_stop b most g None v formed run rest (omega (arith, spent));
      spent = spent;
      some_live = some;
      kept = tt;
      remaining = rest;
      none_below = search_is_right_lem.bound b.named.program b.blocking g.tree None v (faithful b formed) run.search rest;
    }
out_of_steps b most g (Some k) v formed run some spent least =
    let rest = remains b.named.program g.tree (Some k) v (given_is b.named.program (Some k) run.costs) least in
    record {
      searched = searched_stop b most g (Some k) v formed run rest (omega (arith, spent));
      spent = spent;
      some_live = some;
      kept = (run.search.feasible, run.costs);
      remaining = rest;
      none_below = search_is_right_lem.bound b.named.program b.blocking g.tree (Some k.point) v (faithful b formed) run.search rest;
    }

pub stops : (b : BlockedProgram) (most : ℕ) (g : GroveState) (best : Option Kept) (outcome : Outcome) → IsFormed b → IsRunning b g best
    → 0 < live_count g.tree → steps (certificate_tree g.tree) ≡ most → IsStopped g best outcome → EndsWithin b most outcome
stops b most g best outcome formed run some spent stop =
    subst (EndsWithin b most) (sym stop.is_outcome) (out_of_steps b most g best stop.bound formed run some spent stop.least)

-- the grove and the point of an outcome
pub ended_grove : (g : GroveState) (best : Option Kept) (outcome : Outcome) → outcome ≡ ended g best → grove_in outcome ≡ g
ended_grove g None outcome is = ap grove_in is
ended_grove g (Some k) outcome is = ap grove_in is

pub ended_point : (g : GroveState) (best : Option Kept) (outcome : Outcome) → outcome ≡ ended g best → point_of outcome ≡ kept_point best
ended_point g None outcome is = ap point_of is
ended_point g (Some k) outcome is = ap point_of is

pub stopped_grove : (g : GroveState) (best : Option Kept) (outcome : Outcome) → IsStopped g best outcome → grove_in outcome ≡ g
stopped_grove g best outcome stop = ap grove_in stop.is_outcome

pub stopped_point : (g : GroveState) (best : Option Kept) (outcome : Outcome) → IsStopped g best outcome → point_of outcome ≡ kept_point best
stopped_point g None outcome stop = ap point_of stop.is_outcome
stopped_point g (Some k) outcome stop = ap point_of stop.is_outcome

-- the less of a least number and another is the least of all
pub less_is_least : (zs : List ℤ) (a c : ℤ) → IsLeastOf zs a → IsLeastOf (zs ++ c ∷ []) (int_min a c)
less_is_least zs a c h = by (int_lt c a) refl
  where
    at_most : (z w : ℤ) → int_lt z w ≡ true → z ≤ℤ w
    at_most z w e = grind (arith, ints)

    at_least : (z w : ℤ) → int_lt z w ≡ false → w ≤ℤ z
    at_least z w e = grind (arith, ints)

    through : (x y z : ℤ) → x ≤ℤ y → y ≤ℤ z → x ≤ℤ z
    through x y z l m = omega (arith, ints, l, m)

    itself : (z : ℤ) → z ≤ℤ z
    itself z = omega (arith, ints)

    by : (t : Bool) → int_lt c a ≡ t → IsLeastOf (zs ++ c ∷ []) (if t then c else a)
    by true e = record {
      reached = Contains-push zs c;
      least = All-append (λ z. c ≤ℤ z) zs (c ∷ []) (λ k d l. through c a (get_or zs k d) (at_most c a e) (h.least k d l)) (All-one (λ z. c ≤ℤ z) c (itself c));
    }
    by false e = record {
      reached = Contains-append_left zs (c ∷ []) a h.reached;
      least = All-append (λ z. a ≤ℤ z) zs (c ∷ []) h.least (All-one (λ z. a ≤ℤ z) c (at_least c a e));
    }

-- the number of steps that stands for none given
pub most_is : (given : Option ℕ) → unwrap_or given 1152921504606846976 ≡ given_steps given
most_is None = refl
most_is (Some n) = refl
