use Rattle.std.proofs.Common.{◌≡◌, ◌∙◌, ℕ, List, length, arith, to_z, of_z, ap}
use Rattle.std.specs.Prelude.{ℤ}
use Rattle.std.specs.Int.{w128}
use Rattle.std.proofs.lemmas.Int.{ints}
use Rattle.std.proofs.lemmas.List.{length-map}
use Rattle.bp_theory.specs.Blocking.{Copy}
use Rattle.reduced_costs.proofs.Steps.{box_more, box_all, box_within}
use Rattle.reduced_costs.proofs.boxes.box_least.Goals as goal

pub overflow_cast-place : goal.overflow_cast-place
overflow_cast-place c =
    let all : length c.vars-place-end.result.now ≡ length c.args.block.now.block.copies =
    ap (λ (xs : List ℕ). length xs) c.vars-place-end.ensures ∙ length-map c.args.block.now.block.copies (λ (k : Copy). k.var) in
    omega (arith, all, c.loop-place-test.true, c.requires.block.few)

pub plus-sum-requires : goal.plus-sum-requires
plus-sum-requires c =
    let more : ℤ = to_z w128 (of_z w128 c.copy_least-end.result) in
    let same : more ≡ c.copy_least-end.result = omega (arith, ints) in
    let all : length c.vars-place-end.result.now ≡ length c.args.block.now.block.copies =
    ap (λ (xs : List ℕ). length xs) c.vars-place-end.ensures ∙ length-map c.args.block.now.block.copies (λ (k : Copy). k.var) in
    let h = box_more c.args.zone.now c.args.proof.now c.args.block.now.block c.loop-place.place (to_z w128 c.loop-place.sum-bits) more
    (omega (arith, all, c.loop-place-test.true)) c.loop-place.invariant (λ d. same ∙ c.copy_least-end.ensures d) c.requires.block.size in
    omega (arith, ints, h.1)

pub loop-place-preserved : goal.loop-place-preserved
loop-place-preserved c =
    let more : ℤ = to_z w128 (of_z w128 c.copy_least-end.result) in
    let same : more ≡ c.copy_least-end.result = omega (arith, ints) in
    let all : length c.vars-place-end.result.now ≡ length c.args.block.now.block.copies =
    ap (λ (xs : List ℕ). length xs) c.vars-place-end.ensures ∙ length-map c.args.block.now.block.copies (λ (k : Copy). k.var) in
    let h = box_more c.args.zone.now c.args.proof.now c.args.block.now.block c.loop-place.place (to_z w128 c.loop-place.sum-bits) more
    (omega (arith, all, c.loop-place-test.true)) c.loop-place.invariant (λ d. same ∙ c.copy_least-end.ensures d) c.requires.block.size in
    omega (arith, ints, h.0, c.plus-sum.ensures)

pub returns-clause-value : goal.returns-clause-value
returns-clause-value c =
    let all : length c.vars-place-end.result.now ≡ length c.args.block.now.block.copies =
    ap (λ (xs : List ℕ). length xs) c.vars-place-end.ensures ∙ length-map c.args.block.now.block.copies (λ (k : Copy). k.var) in
    box_all c.args.zone.now c.args.proof.now c.args.block.now.block c.loop-place.place (to_z w128 c.loop-place.sum-bits)
    (omega (arith, all, c.loop-place-test.false)) c.loop-place.invariant

pub returns-clause-size : goal.returns-clause-size
returns-clause-size c =
    let all : length c.vars-place-end.result.now ≡ length c.args.block.now.block.copies =
    ap (λ (xs : List ℕ). length xs) c.vars-place-end.ensures ∙ length-map c.args.block.now.block.copies (λ (k : Copy). k.var) in
    let value = box_all c.args.zone.now c.args.proof.now c.args.block.now.block c.loop-place.place (to_z w128 c.loop-place.sum-bits)
    (omega (arith, all, c.loop-place-test.false)) c.loop-place.invariant in
    omega (arith, ints, value, box_within c.args.zone.now c.args.proof.now c.args.block.now.block)
