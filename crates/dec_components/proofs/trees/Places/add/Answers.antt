use Rattle.std.proofs.Common.{◌≡◌, ◌<◌, ◌≤◌, ◌+◌, ◌++◌, ◌∷◌, [], ℕ, true, List, Option, Some, None, length, get_or, arith, refl, sym, ◌∙◌, ap, subst, add-one}
use Rattle.std.proofs.lemmas.Bool.{both_ways}
use Rattle.dec_components.specs.Forest.{IsNumbered}
use Rattle.dec_components.proofs.NumberLemmas.{any_place, numbered_master, numbered_child, numbered_root}
use Rattle.dec_components.proofs.trees.Places.add.Goals as goal

pub returns-then-is_master-clause-numbered : goal.returns-then-is_master-clause-numbered
returns-then-is_master-clause-numbered c = λ p master is tied numbered.
    subst (λ (xs : List (Option ℕ)). IsNumbered p master c.args.parents.now xs c.args.self.now.blocks) (sym c.in_ok-push.ensures.items)
    (numbered_master p master c.args.parents.now c.args.self.now.places.items c.args.self.now.blocks c.requires.there tied.forest (is.0 c.if-is_master.true) numbered)

pub returns-then-parent-row-clause-numbered : goal.returns-then-parent-row-clause-numbered
returns-then-parent-row-clause-numbered c = λ p master is tied numbered.
    let parents = c.args.parents.now in
    let places = c.args.self.now.places.items in
    let row : c.len-row.result ≡ length places = omega (arith, c.len-row.ensures) in
    let low : get_or parents (length places) 0 < length places = subst (λ (r : ℕ). get_or parents r 0 < r) row c.if-parent-row.true in
    let q = get_or parents (length places) 0 in
    let place : c.index-place.result.now ≡ get_or places q None =
    c.index-place.ensures ∙ ap (λ (r : ℕ). get_or places (get_or parents r 0) c.index-place.result.now) row ∙ any_place places q c.index-place.result.now low in
    subst (λ (xs : List (Option ℕ)). IsNumbered p master parents xs c.args.self.now.blocks)
    (ap (λ (x : Option ℕ). places ++ (x ∷ [])) (sym place) ∙ sym c.in_ok-push-2.ensures.items)
    (numbered_child p master parents places c.args.self.now.blocks q c.requires.there tied.forest refl low numbered)

pub returns-clause-numbered : goal.returns-clause-numbered
returns-clause-numbered c = λ p master is tied numbered.
    let parents = c.args.parents.now in
    let places = c.args.self.now.places.items in
    let row : c.len-row.result ≡ length places = omega (arith, c.len-row.ensures) in
    let high : length places ≤ get_or parents (length places) 0 = subst (λ (r : ℕ). r ≤ get_or parents r 0) row c.if-parent-row.false in
    let root : get_or parents (length places) 0 ≡ length places = omega (arith, high, c.requires.forest (length places) c.requires.there) in
    subst (λ (xs : List (Option ℕ)). IsNumbered p master parents xs (c.args.self.now.blocks + 1)) (sym c.in_ok-push-3.ensures.items)
    (subst (λ (n : ℕ). IsNumbered p master parents (places ++ (Some c.args.self.now.blocks ∷ [])) n) (sym (add-one c.args.self.now.blocks))
    (numbered_root p master parents places c.args.self.now.blocks c.requires.there tied.forest root (λ inside. both_ways c.args.is_master c.if-is_master.false (is.1 inside)) numbered))
