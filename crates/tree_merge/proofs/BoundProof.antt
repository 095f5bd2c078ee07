-- The bounds of a merged tree are no worse than either's.
use Rattle.std.proofs.Common.{◌≡◌, refl, subst, true, false, List, [], ◌∷◌, ◌++◌, Option, Some, None, arith}
use Rattle.std.proofs.Math.IntN.{ℤ}
use Rattle.std.specs.Prelude.{◌≤ℤ◌, ◌<ℤ◌, int_lt, option_to_list, IfSome}
use Rattle.std.specs.List.{AllByRecursion}
use Rattle.std.specs.Int.{int_min}
use Rattle.std.proofs.lemmas.Int.{ints, clamps}
use Rattle.std.proofs.lemmas.List.Elements.{All-from_recursion, recursion_from_All, All-contains}
use Rattle.bp_theory.specs.Program.{Program, IsFeasible, cost}
use Rattle.bp_theory.specs.declared.Proof.{Proof}
use Rattle.search_laws.specs.declared.Side.TheVariants.{Low, High}
use Rattle.search_laws.specs.Grove.{GrowingTree, live, shut, fork, LiveLeaf, live_at, live_count, live_bounds}
use Rattle.search_laws.specs.GroveFacts.{IsRemainingBound, best_cost}
use Rattle.search_laws.specs.Verdicts.{better, cheaper_cost}
use Rattle.search_laws.proofs.Places.{recursion_parts, recursion-append}
use Rattle.search_laws.proofs.OutcomeProof.{search_is_right_lem}
use Rattle.tree_merge.specs.Merging.{same_split, raised, farther, is_beyond, least_live, merged, is_below, shut_by}
use Rattle.tree_merge.specs.Laws.{merged_by, BoundsRise, LeavesAreWorth}
use Rattle.tree_merge.proofs.TestFacts.{choose, less_by_test, no_less_by_test}
use Rattle.tree_merge.proofs.KeepProof.{better_is_feasible}

-- what holds of a number holds of each greater one
abbrev pub Rises : (ℤ → Type 0) → Type 0
Rises P = (z w : ℤ) → z ≤ℤ w → P z → P w

-- a fact of each live leaf's bound
abbrev pub IsOver : (ℤ → Type 0) → GrowingTree → Type 0
IsOver P t = AllByRecursion P (live_bounds t)

-- ---- the least bound

abbrev HoldsOf : (ℤ → Type 0) → Option ℤ → Type 0
HoldsOf P None = Unit {0}
HoldsOf P (Some z) = P z

both_hold : (P : ℤ → Type 0) (x y : Option ℤ) → HoldsOf P x → HoldsOf P y → HoldsOf P (cheaper_cost x y)
both_hold P None y h g = g
both_hold P (Some x) None h g = h
both_hold P (Some x) (Some y) h g = choose P (int_lt y x) y x (λ less. g) (λ more. h)

first_holds : (P : ℤ → Type 0) → Rises P → (x y : Option ℤ) → HoldsOf P (cheaper_cost x y) → HoldsOf P x
first_holds P rises None y h = tt
first_holds P rises (Some x) None h = h
first_holds P rises (Some x) (Some y) h = rises (int_min x y) x (least x y) h
  where
    least : (x y : ℤ) → int_min x y ≤ℤ x
    least x y = omega (arith, ints, clamps)

second_holds : (P : ℤ → Type 0) → Rises P → (x y : Option ℤ) → HoldsOf P (cheaper_cost x y) → HoldsOf P y
second_holds P rises None y h = h
second_holds P rises (Some x) None h = tt
second_holds P rises (Some x) (Some y) h = rises (int_min x y) y (least x y) h
  where
    least : (x y : ℤ) → int_min x y ≤ℤ y
    least x y = omega (arith, ints, clamps)

to_least : (P : ℤ → Type 0) (t : GrowingTree) → IsOver P t → HoldsOf P (least_live t)
to_least P (live p z) h = h.0
to_least P (shut p) h = tt
to_least P (fork v a low high) h =
    let parts = recursion_parts P (live_bounds low) (live_bounds high) h in
    both_hold P (least_live low) (least_live high) (to_least P low parts.0) (to_least P high parts.1)

from_least : (P : ℤ → Type 0) → Rises P → (t : GrowingTree) → HoldsOf P (least_live t) → IsOver P t
from_least P rises (live p z) h = (h, tt)
from_least P rises (shut p) h = tt
from_least P rises (fork v a low high) h =
    recursion-append P (live_bounds low) (live_bounds high)
    (from_least P rises low (first_holds P rises (least_live low) (least_live high) h)) (from_least P rises high (second_holds P rises (least_live low) (least_live high) h))

holds_beyond : (P : ℤ → Type 0) → Rises P → (x y : Option ℤ) → is_beyond x y ≡ true → HoldsOf P y → HoldsOf P x
holds_beyond P rises None y e h = tt
holds_beyond P rises (Some x) None e h = absurd (cc)
holds_beyond P rises (Some x) (Some y) e h = rises y x (less (less_by_test y x e)) h
  where
    less : y <ℤ x → y ≤ℤ x
    less k = omega (arith, ints, k)

holds_not_beyond : (P : ℤ → Type 0) → Rises P → (x y : Option ℤ) → is_beyond x y ≡ false → HoldsOf P x → HoldsOf P y
holds_not_beyond P rises x None e h = tt
holds_not_beyond P rises None (Some y) e h = absurd (cc)
holds_not_beyond P rises (Some x) (Some y) e h = rises x y (no_less_by_test y x e) h

-- ---- merging

raised_over : (P : ℤ → Type 0) → Rises P → (t : GrowingTree) (proof : Proof) (bound : ℤ) → IsOver P t → IsOver P (raised t proof bound)
raised_over P rises (live own least) proof bound h =
    choose (IsOver P) (int_lt least bound) (live proof bound) (live own least) (λ e. (rises least bound (less (less_by_test least bound e)) h.0, tt)) (λ e. h)
  where
    less : least <ℤ bound → least ≤ℤ bound
    less k = omega (arith, ints, k)
raised_over P rises (shut own) proof bound h = tt
raised_over P rises (fork v a low high) proof bound h =
    let parts = recursion_parts P (live_bounds low) (live_bounds high) h in
    recursion-append P (live_bounds (raised low proof bound)) (live_bounds (raised high proof bound))
    (raised_over P rises low proof bound parts.0) (raised_over P rises high proof bound parts.1)

raised_by_over : (P : ℤ → Type 0) → Rises P → (t : GrowingTree) (proof : Proof) (bound : ℤ) → P bound → IsOver P (raised t proof bound)
raised_by_over P rises (live own least) proof bound h =
    choose (IsOver P) (int_lt least bound) (live proof bound) (live own least) (λ e. (h, tt)) (λ e. (rises bound least (no_less_by_test least bound e) h, tt))
raised_by_over P rises (shut own) proof bound h = tt
raised_by_over P rises (fork v a low high) proof bound h =
    recursion-append P (live_bounds (raised low proof bound)) (live_bounds (raised high proof bound))
    (raised_by_over P rises low proof bound h) (raised_by_over P rises high proof bound h)

pub over_first : (P : ℤ → Type 0) → Rises P → (t u : GrowingTree) → IsOver P t → IsOver P (merged t u)
over_first P rises (shut p) u h = tt
over_first P rises (live p z) (shut q) h = tt
over_first P rises (live p z) (live q w) h = raised_over P rises (live p z) q w h
over_first P rises (live p z) (fork w c left right) h = raised_by_over P rises (fork w c left right) p z h.0
over_first P rises (fork v a low high) (shut q) h = tt
over_first P rises (fork v a low high) (live q w) h = raised_over P rises (fork v a low high) q w h
over_first P rises (fork v a low high) (fork w c left right) h =
    let t : GrowingTree = fork v a low high in
    let u : GrowingTree = fork w c left right in
    choose (IsOver P) (same_split v a w c) (fork v a (merged low left) (merged high right)) (farther t u)
    (λ same.
    let parts = recursion_parts P (live_bounds low) (live_bounds high) h in
    recursion-append P (live_bounds (merged low left)) (live_bounds (merged high right))
    (over_first P rises low left parts.0) (over_first P rises high right parts.1))
    (λ differ. choose (IsOver P) (is_beyond (least_live u) (least_live t)) u t
    (λ beyond. from_least P rises u (holds_beyond P rises (least_live u) (least_live t) beyond (to_least P t h))) (λ not. h))

pub over_second : (P : ℤ → Type 0) → Rises P → (t u : GrowingTree) → IsOver P u → IsOver P (merged t u)
over_second P rises (shut p) u h = tt
over_second P rises (live p z) (shut q) h = tt
over_second P rises (live p z) (live q w) h = raised_by_over P rises (live p z) q w h.0
over_second P rises (live p z) (fork w c left right) h = raised_over P rises (fork w c left right) p z h
over_second P rises (fork v a low high) (shut q) h = tt
over_second P rises (fork v a low high) (live q w) h = raised_by_over P rises (fork v a low high) q w h.0
over_second P rises (fork v a low high) (fork w c left right) h =
    let t : GrowingTree = fork v a low high in
    let u : GrowingTree = fork w c left right in
    choose (IsOver P) (same_split v a w c) (fork v a (merged low left) (merged high right)) (farther t u)
    (λ same.
    let parts = recursion_parts P (live_bounds left) (live_bounds right) h in
    recursion-append P (live_bounds (merged low left)) (live_bounds (merged high right))
    (over_second P rises low left parts.0) (over_second P rises high right parts.1))
    (λ differ. choose (IsOver P) (is_beyond (least_live u) (least_live t)) u t
    (λ beyond. h) (λ not. from_least P rises t (holds_not_beyond P rises (least_live u) (least_live t) not (to_least P u h))))

pub shut_over : (P : ℤ → Type 0) (t : GrowingTree) (best : Option ℤ) → IsOver P t → IsOver P (shut_by best t)
shut_over P (live p z) best h = choose (IsOver P) (is_below z best) (live p z) (shut p) (λ below. h) (λ not. tt)
shut_over P (shut p) best h = tt
shut_over P (fork v a low high) best h =
    let parts = recursion_parts P (live_bounds low) (live_bounds high) h in
    recursion-append P (live_bounds (shut_by best low)) (live_bounds (shut_by best high)) (shut_over P low best parts.0) (shut_over P high best parts.1)

-- ---- trees in which nothing is live

none_live : (t : GrowingTree) → live_count t ≡ 0 → IsOver (λ z. ⊥) t
none_live (live p z) h = let none : ⊥ = omega (arith, h) in absurd none
none_live (shut p) h = tt
none_live (fork v a low high) h =
    recursion-append (λ z. ⊥) (live_bounds low) (live_bounds high) (none_live low (omega (arith, h))) (none_live high (omega (arith, h)))

live_none : (t : GrowingTree) → IsOver (λ z. ⊥) t → live_count t ≡ 0
live_none (live p z) h = absurd h.0
live_none (shut p) h = refl
live_none (fork v a low high) h =
    let parts = recursion_parts (λ z. ⊥) (live_bounds low) (live_bounds high) h in
    let one = live_none low parts.0 in
    let two = live_none high parts.1 in
    omega (arith, one, two)

-- ---- what is left

-- a bound of all feasible points that no live bound is below is no greater than what is left
left_over : (p : Program) (t : GrowingTree) (best : Option (List ℤ)) (v w : ℤ) → IsOver (λ z. v ≤ℤ z) t → IfSome best (IsFeasible p)
    → ((x : List ℤ) → IsFeasible p x → v ≤ℤ cost p x) → IsRemainingBound p t best w → v ≤ℤ w
left_over p t best v w over feasible each left =
    All-contains (λ z. v ≤ℤ z) (live_bounds t ++ option_to_list (best_cost p best)) w
    (All-from_recursion (λ z. v ≤ℤ z) (live_bounds t ++ option_to_list (best_cost p best))
    (recursion-append (λ z. v ≤ℤ z) (live_bounds t) (option_to_list (best_cost p best)) over (by best feasible))) left.reached
  where
    by : (best : Option (List ℤ)) → IfSome best (IsFeasible p) → AllByRecursion (λ z. v ≤ℤ z) (option_to_list (best_cost p best))
    by None h = tt
    by (Some x) h = (each x h, tt)

-- the live bounds are no less than what is left
over_left : (p : Program) (t : GrowingTree) (best : Option (List ℤ)) (v : ℤ) → IsRemainingBound p t best v → IsOver (λ z. v ≤ℤ z) t
over_left p t best v left =
    (recursion_parts (λ z. v ≤ℤ z) (live_bounds t) (option_to_list (best_cost p best))
    (recursion_from_All (λ z. v ≤ℤ z) (live_bounds t ++ option_to_list (best_cost p best)) left.least)).0

at_least : (v : ℤ) → Rises (λ z. v ≤ℤ z)
at_least v z w h k = omega (arith, ints, h, k)

pub bounds_rise_lem : BoundsRise
bounds_rise_lem = record {
  first = λ p b t u best other v w faithful one two left now.
      left_over p (merged_by (best_cost p best) (best_cost p other) t u) (better p best other) v w
      (shut_over (λ z. v ≤ℤ z) (merged t u) (cheaper_cost (best_cost p best) (best_cost p other)) (over_first (λ z. v ≤ℤ z) (at_least v) t u (over_left p t best v left)))
      (better_is_feasible p best other one.feasible two.feasible) (search_is_right_lem.bound p b t best v faithful one left) now;
  second = λ p b t u best other v w faithful one two left now.
      left_over p (merged_by (best_cost p best) (best_cost p other) t u) (better p best other) v w
      (shut_over (λ z. v ≤ℤ z) (merged t u) (cheaper_cost (best_cost p best) (best_cost p other)) (over_second (λ z. v ≤ℤ z) (at_least v) t u (over_left p u other v left)))
      (better_is_feasible p best other one.feasible two.feasible) (search_is_right_lem.bound p b u other v faithful two left) now;
  first_ended = λ t u best other none.
      live_none (merged_by best other t u)
      (shut_over (λ z. ⊥) (merged t u) (cheaper_cost best other) (over_first (λ z. ⊥) (λ z w l h. h) t u (none_live t none)));
  second_ended = λ t u best other none.
      live_none (merged_by best other t u)
      (shut_over (λ z. ⊥) (merged t u) (cheaper_cost best other) (over_second (λ z. ⊥) (λ z w l h. h) t u (none_live u none)));
}

pub leaves_are_worth_lem : LeavesAreWorth
leaves_are_worth_lem (live p z) best [] leaf h =
    choose (λ (m : GrowingTree). live_at m [] ≡ Some leaf → leaf.bound <ℤ best) (int_lt z best) (live p z) (shut p)
    (λ below g. is_it below g) (λ not g. absurd (cc)) h
  where
    is_it : int_lt z best ≡ true → Some (record { proof = p; bound = z }) ≡ Some leaf → leaf.bound <ℤ best
    is_it below g =
        let same : record { proof = p; bound = z } ≡ leaf = cc in
        subst (λ (l : LiveLeaf). l.bound <ℤ best) same (less_by_test z best below)
leaves_are_worth_lem (live p z) best (side ∷ path) leaf h =
    absurd (choose (λ (m : GrowingTree). live_at m (side ∷ path) ≡ Some leaf → ⊥) (int_lt z best) (live p z) (shut p) (λ below g. absurd (cc)) (λ not g. absurd (cc)) h)
leaves_are_worth_lem (shut p) best path leaf h = absurd (cc)
leaves_are_worth_lem (fork v a low high) best [] leaf h = absurd (cc)
leaves_are_worth_lem (fork v a low high) best (Low ∷ path) leaf h = leaves_are_worth_lem low best path leaf h
leaves_are_worth_lem (fork v a low high) best (High ∷ path) leaf h = leaves_are_worth_lem high best path leaf h
