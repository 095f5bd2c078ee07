use Rattle.std.proofs.Common.{Option, sym, subst, arith}
use Rattle.std.specs.Prelude.{ℤ}
use Rattle.std.proofs.lemmas.Int.{ints}
use Rattle.search_laws.specs.GroveFacts.{Settles}
use Rattle.node_bound.proofs.Leaves.{reaches}
use Rattle.node_bound.proofs.settle.settled.Goals as goal

pub returns-in-Some-clause-next : goal.returns-in-Some-clause-next
returns-in-Some-clause-next c = (
  c.requires.shown.sound,
  subst (λ (k : Option ℤ). Settles c.args.b.now.blocking k c.args.turn.now.zone c.args.shown.proof) (sym c.in-Some.is)
      (reaches c.args.b.now.blocking c.args.turn.now.zone c.args.turn.now.bound c.args.shown.proof c.args.shown.bound c.in-Some.best c.requires.shown
      (omega (arith, ints, c.if-shown-best.true))),
)
