-- A copy has the number that a point gives its variable, or its block doesn't agree.
use Rattle.std.proofs.Common.{◌≡◌, ◌∙◌, sym, ap, ℕ, ◌<◌, List, [], map, length, get_or, arith, ⊎_elim, true≢false, w64, to_z, of_z}
use Rattle.std.proofs.Math.IntN.{ℤ, pos}
use Rattle.std.proofs.lemmas.Int.{ints}
use Rattle.std.proofs.lemmas.Bool.{cases_lt}
use Rattle.std.proofs.lemmas.List.{get_or-map}
use Rattle.bp_theory.specs.Program.{value_at}
use Rattle.bp_theory.specs.Blocking.{Copy}
use Rattle.column_assignment.specs.Deals.{point_at}
use Rattle.column_assignment.proofs.agree.block_agrees.Goals as goal

-- the variable at a place
var_at : (copies : List Copy) (vars : List ℕ) (place : ℕ) (d : Copy) → vars ≡ map (λ (c : Copy). c.var) copies → place < length copies
    → get_or vars place 0 ≡ (get_or copies place d).var
var_at copies vars place d are inside =
    ap (λ (vs : List ℕ). get_or vs place 0) are ∙ get_or-map (λ (c : Copy). c.var) copies place d 0 inside

pub loop-place-preserved : goal.loop-place-preserved
loop-place-preserved c = λ i d l.
    let copies : List Copy = c.args.block.now.block.copies in
    let place : ℕ = c.loop-place.place in
    let inside : place < length copies = omega (arith, c.loop-place-test.true, c.var_count-place-end.ensures) in
    let own : to_z w64 (of_z w64 c.number_of.result) ≡ c.number_of.result = omega (arith, ints) in
    let told : to_z w64 (of_z w64 c.number_at.result) ≡ c.number_at.result = omega (arith, ints) in
    let even : c.number_of.result ≡ c.number_at.result = sym own ∙ ap (to_z w64) c.if-number_of-number_at.false ∙ told in
    ⊎_elim
    (λ less. c.loop-place.invariant i d less)
    (λ more.
    let same : i ≡ place = omega (arith, l, more) in
    ap (λ n. value_at (point_at c.args.used.now c.args.column) n) same
    ∙ sym c.number_of.ensures ∙ even ∙ c.number_at.ensures
    ∙ ap (value_at c.args.point.now) (var_at copies c.vars-vars.result.now place d c.vars-vars.ensures inside)
    ∙ ap (λ n. value_at c.args.point.now (get_or copies n d).var) (sym same))
    (cases_lt i place)

pub returns-then-number_of-number_at : goal.returns-then-number_of-number_at
returns-then-number_of-number_at c =
    let none : Copy = record { var = 0; cost = pos 0; coefs = [] } in
    let copies : List Copy = c.args.block.now.block.copies in
    let place : ℕ = c.loop-place.place in
    let inside : place < length copies = omega (arith, c.loop-place-test.true, c.var_count-place-end.ensures) in (
      (λ no. absurd (true≢false (sym no))),
      (λ has. absurd (c.if-number_of-number_at.true (ap (of_z w64)
          (c.number_of.ensures ∙ has place none inside
          ∙ sym (c.number_at.ensures ∙ ap (value_at c.args.point.now) (var_at copies c.vars-vars.result.now place none c.vars-vars.ensures inside)))))),
    )
