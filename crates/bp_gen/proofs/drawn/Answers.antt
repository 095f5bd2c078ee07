use Rattle.std.proofs.Common.{◌≡◌, ◌∙◌, arith}
use Rattle.bp_gen.specs.Generator.{weight_at, cost_at}
use Rattle.bp_gen.proofs.Draws.{drawn_by, drawn_small, drawn_length}
use Rattle.bp_gen.proofs.drawn.Goals as goal

pub loop-preserved : goal.loop-preserved
loop-preserved c =
    drawn_by c.args.seed c.loop.counter c.loop.weights.items c.loop.costs.items c.push.new.self.items c.push-in-loop.new.self.items
    c.loop.state c.next-first.result c.next-state.result c.loop.invariant c.next-first.ensures c.next-state.ensures
    c.in_ok-push.ensures.items c.in_ok-push-2.ensures.items

pub returns-clause-small : goal.returns-clause-small
returns-clause-small c = drawn_small c.args.seed c.loop.counter c.loop.weights.items c.loop.invariant.weights_are

pub returns-clause-each_weight : goal.returns-clause-each_weight
returns-clause-each_weight c =
    let exact : c.loop.counter ≡ c.args.count = omega arith in
    drawn_length (weight_at c.args.seed) c.loop.counter c.loop.weights.items c.loop.invariant.weights_are ∙ exact

pub returns-clause-each_cost : goal.returns-clause-each_cost
returns-clause-each_cost c =
    let exact : c.loop.counter ≡ c.args.count = omega arith in
    drawn_length (cost_at c.args.seed) c.loop.counter c.loop.costs.items c.loop.invariant.costs_are ∙ exact
