use Rattle.std.proofs.Common.{◌≡◌, arith, to_z, of_z, subst, sym}
use Rattle.std.specs.Prelude.{ℤ}
use Rattle.std.specs.Int.{w128}
use Rattle.std.proofs.lemmas.Int.{ints}
use Rattle.bp_theory.specs.Bound.{IsBound}
use Rattle.node_bound.proofs.Strong.{whole_is_reached, endless_is_reached, cut_is_reached}
use Rattle.node_eval.proofs.raise.raised.Goals as goal

pub returns-in-Whole-clause-reached : goal.returns-in-Whole-clause-reached
returns-in-Whole-clause-reached c =
    let whole : ℤ = to_z w128 (of_z w128 c.in-Whole.whole) in
    let same : whole ≡ c.in-Whole.whole = omega (arith, ints) in
    whole_is_reached c.args.node.program.now.blocking c.args.node.zone.now c.raised_to.result.bound c.args.proof whole
    (subst (IsBound c.args.node.program.now.blocking c.args.node.zone.now c.args.proof) (sym same) c.in-Whole.ensures.answer) c.raised_to.ensures.reached

pub returns-in-Endless-clause-reached : goal.returns-in-Endless-clause-reached
returns-in-Endless-clause-reached c =
    endless_is_reached c.args.node.program.now.blocking c.args.node.zone.now c.args.shown.bound c.args.proof c.in-Endless.ensures.answer

pub returns-in-Cut-clause-reached : goal.returns-in-Cut-clause-reached
returns-in-Cut-clause-reached c =
    let answer = c.in-Cut.ensures.answer in
    cut_is_reached c.args.node.program.now.blocking c.args.node.zone.now c.args.shown.bound c.args.proof
    (record { block = c.in-Cut.field-0; there = answer.0; picked = answer.1; exceeded = answer.2 })
