-- A blocking that adds up to a program is faithful.
use Rattle.std.proofs.Common.{◌≡◌, refl, sym, ap, subst, ◌∙◌, ℕ, zero, suc, List, [], ◌∷◌, map, get_or, Option, Some, None, arith}
use Rattle.std.proofs.Math.IntN.{ℤ, pos, ◌+ℤ◌, ◌*ℤ◌}
use Rattle.std.specs.Prelude.{option_map}
use Rattle.std.specs.List.{AllZip}
use Rattle.std.proofs.lemmas.Int.{ints}
use Rattle.std.proofs.lemmas.List.{get_or-map}
use Rattle.std.proofs.lemmas.List.Elements.{All-contains}
use Rattle.bp_theory.specs.Program.{value_at, activity, Meets, MeetsRow}
use Rattle.bp_theory.specs.Blocking.{Copy, Block, all_copies, coef_in, copy_cost, copy_activity, restriction, StandsFor, Mirrors, sides_of}
use Rattle.bp_theory.specs.Laws.{AddingUpIsFaithful}
use Rattle.bp_theory.specs.declared.Term.{Term}
use Rattle.bp_theory.specs.declared.Row.{Row}
use Rattle.bp_theory.specs.declared.MasterRow.{MasterRow}
use Rattle.bp_theory.proofs.KeyLaws.{sum_of-same_keys}

-- terms that stand for others have their activity
pub activity_of_places : (k : Block) (x : List ℤ) (terms full : List Term) → AllZip (StandsFor k) terms full
    → activity terms (restriction x k) ≡ activity full x
activity_of_places k x [] [] h = refl
activity_of_places k x [] (u ∷ us) h = absurd h
activity_of_places k x (t ∷ ts) [] h = absurd h
activity_of_places k x (t ∷ ts) (u ∷ us) h =
    let d : Copy = record { var = 0; cost = pos 0; coefs = [] } in
    let here : value_at (restriction x k) t.var ≡ value_at x u.var =
    get_or-map (λ c. value_at x c.var) k.copies t.var d (pos 0) h.0.there ∙ ap (value_at x) (h.0.var d) in
    let product : t.coef *ℤ value_at (restriction x k) t.var ≡ u.coef *ℤ value_at x u.var =
    ap (λ z. z *ℤ value_at (restriction x k) t.var) h.0.coef ∙ ap (λ z. u.coef *ℤ z) here in
    omega (arith, ints, product, activity_of_places k x ts us h.1)

-- a row that mirrors one that a point meets is met
pub Mirrors_meets : (k : Block) (row full : Row) (x : List ℤ) → Mirrors k row full → MeetsRow x full → MeetsRow (restriction x k) row
Mirrors_meets k row full x mirrors meets =
    subst (λ a. Meets row.sense row.low row.rhs a) (sym (activity_of_places k x row.terms full.terms mirrors.terms))
    (subst (λ h. Meets row.sense row.low h (activity full.terms x)) (sym mirrors.rhs)
    (subst (λ l. Meets row.sense l full.rhs (activity full.terms x)) (sym mirrors.low)
    (subst (λ s. Meets s full.low full.rhs (activity full.terms x)) (sym mirrors.sense) meets)))

-- the full row behind a row that proofs may name
pub full_row : (rows : List (Option Row)) (i : ℕ) (r : MasterRow) → get_or (map (option_map sides_of) rows) i None ≡ Some r
    → (full : Row) × (get_or rows i None ≡ Some full) × (sides_of full ≡ r)
full_row [] i r e = absurd (cc)
full_row (None ∷ rows) zero r e = absurd (cc)
full_row (Some full ∷ rows) zero r e = (full, refl, cc)
full_row (o ∷ rows) (suc i) r e = full_row rows i r e

pub adding_up_lem : AddingUpIsFaithful
adding_up_lem p rows b implied adds = record {
  known = adds.known;
  points = λ x feasible k d l j e m.
      let found = adds.mirrored k d l j e m in
      Mirrors_meets (get_or b.blocks k d) (get_or (get_or b.blocks k d).rows j e) found.0 x found.2
      (All-contains (MeetsRow x) p.rows found.0 feasible.rows found.1);
  costs = λ x feasible.
      ap (λ z. z +ℤ copy_cost x (all_copies b)) adds.constant
      ∙ ap (λ z. p.constant +ℤ z)
      (sum_of-same_keys (λ c. c.var) (λ c. c.cost) (λ t. t.var) (λ t. t.coef) (value_at x) (all_copies b) p.costs adds.costs);
  rows = λ x feasible i r e.
      let found = full_row rows i r (ap (λ rs. get_or rs i None) (sym adds.sides) ∙ e) in
      let met : Meets found.0.sense found.0.low found.0.rhs (copy_activity x i (all_copies b)) =
      subst (λ a. Meets found.0.sense found.0.low found.0.rhs a)
      (sym (sum_of-same_keys (λ c. c.var) (λ c. coef_in c i) (λ t. t.var) (λ t. t.coef) (value_at x) (all_copies b) found.0.terms
      (adds.coefs i found.0 found.1)))
      (implied x feasible i found.0 found.1) in
      subst (λ (m : MasterRow). Meets m.sense m.low m.rhs (copy_activity x i (all_copies b))) found.2 met;
}
