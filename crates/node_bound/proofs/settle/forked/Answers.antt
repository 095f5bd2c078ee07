use Rattle.std.proofs.Common.{◌≡◌, arith, to_z, of_z, sym, subst}
use Rattle.std.specs.Prelude.{ℤ}
use Rattle.std.specs.Int.{w64}
use Rattle.std.proofs.lemmas.Int.{ints}
use Rattle.search_laws.specs.Verdicts.{IsFork}
use Rattle.node_bound.proofs.Leaves.{fork_is}
use Rattle.node_bound.proofs.settle.forked.Goals as goal

pub returns-clause-next : goal.returns-clause-next
returns-clause-next c =
    let at : to_z w64 (of_z w64 c.place.result) ≡ c.place.result = omega (arith, ints) in
    let bound : to_z w64 (of_z w64 c.args.shown.bound) ≡ c.args.shown.bound = omega (arith, ints) in
    subst (λ (z : ℤ). IsFork c.args.b.now.blocking c.args.turn.now.depth c.args.turn.now.zone c.args.turn.now.bound c.args.known c.args.var (to_z w64 (of_z w64 c.place.result)) c.args.shown.proof z)
    (sym bound)
    (subst (λ (z : ℤ). IsFork c.args.b.now.blocking c.args.turn.now.depth c.args.turn.now.zone c.args.turn.now.bound c.args.known c.args.var z c.args.shown.proof c.args.shown.bound)
    (sym at)
    (fork_is c.args.b.now.blocking c.args.turn.now.depth c.args.turn.now.zone c.args.turn.now.bound c.args.known c.args.var c.span-span.result c.place.result c.args.shown.proof c.args.shown.bound
    c.span-span.ensures c.place.ensures.above c.place.ensures.below c.place.ensures.deep c.requires.shown c.requires.below))
