use Rattle.std.proofs.Common.{sym, subst, List}
use Rattle.std.proofs.Math.IntN.{pos, ◌+ℤ◌}
use Rattle.bp_theory.specs.declared.Span.{Span}
use Rattle.state_graph.specs.Expansions.{IsBuilt, IsLeft}
use Rattle.layer_graph.specs.declared.graph.Arc.{Arc}
use Rattle.state_graph.proofs.ExpandLaws.{read_gone, read_left}
use Rattle.state_graph.proofs.expand.place.Goals as goal

pub returns-then-not-leave-clause-built : goal.returns-then-not-leave-clause-built
returns-then-not-leave-clause-built c = λ states at within b.
    read_gone c.args.layer.now states c.args.from c.args.number.now c.args.frontier.now.states.list.items c.args.frontier.now.arcs
    c.args.state.now at c.if-not-leave.ensures.gone b

pub returns-clause-built : goal.returns-clause-built
returns-clause-built c = λ states at within b.
    subst (λ (arcs : List Arc). IsBuilt c.args.layer.now states c.args.from (c.args.number.now +ℤ pos 1) c.find_or_add.new.self.list.items arcs)
    (sym c.in_ok-push.ensures.added)
    (read_left c.args.layer.now states c.args.from c.args.number.now c.args.frontier.now.states.list.items c.find_or_add.new.self.list.items c.args.frontier.now.arcs
    c.args.state.now c.as_slice.result.now c.in_ok-to.to c.arc_of.result
    at within c.requires.shaped
    (subst (λ (left : List Span). IsLeft c.args.layer.now c.args.state.now c.args.number.now left) (sym c.as_slice.ensures.value) c.if-not-leave.ensures.left)
    c.in_ok-to.ensures.found c.in_ok-to.ensures.grown c.arc_of.ensures b)
