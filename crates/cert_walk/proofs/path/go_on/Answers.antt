use Rattle.std.proofs.Common.{◌≡◌, [], rules, refl, ◌∙◌}
use Rattle.cert_walk.proofs.Pathing.{fork_there, fork_proper, back_zone, high_zone, pop_in, push_in, begins_to, back_to, high_to, goes_root}
use Rattle.cert_walk.proofs.path.go_on.Goals as goal

pub loop-fork-init : goal.loop-fork-init
loop-fork-init c = (
  c.requires.zone,
  c.requires.forks,
  refl,
  refl,
  λ ts t kept is. begins_to c.args.b.now.named.program.spans ts t c.args.path.place.zone c.args.path.forks.items kept is,
)

pub to_high-place-requires-clause-there : goal.to_high-place-requires-clause-there
to_high-place-requires-clause-there c =
    let root = c.args.b.now.named.program.spans in
    let parts = pop_in root c.loop-fork.forks.items c.pop.new.self.items c.in-Some.fork c.in-Some.ensures.items c.loop-fork.invariant.1 in
    fork_there root c.loop-fork.place.zone c.in-Some.fork parts.1 c.loop-fork.invariant.0

pub to_high-place-requires-clause-below : goal.to_high-place-requires-clause-below
to_high-place-requires-clause-below c =
    let root = c.args.b.now.named.program.spans in
    let parts = pop_in root c.loop-fork.forks.items c.pop.new.self.items c.in-Some.fork c.in-Some.ensures.items c.loop-fork.invariant.1 in
    parts.1.below

pub returns-then-not-fork-clause-path : goal.returns-then-not-fork-clause-path
returns-then-not-fork-clause-path c =
    let root = c.args.b.now.named.program.spans in
    let parts = pop_in root c.loop-fork.forks.items c.pop.new.self.items c.in-Some.fork c.in-Some.ensures.items c.loop-fork.invariant.1 in
    record {
      zone = high_zone root c.loop-fork.place.zone c.to_high-place.result.zone c.in-Some.fork parts.1 c.to_high-place.ensures.zone c.loop-fork.invariant.0;
      forks = push_in root c.pop.new.self.items c.push.new.self.items c.in-Some.fork c.high_fork.result c.in_ok-push.ensures.items c.high_fork.ensures parts.0 parts.1;
    }

pub returns-then-not-fork-clause-moved : goal.returns-then-not-fork-clause-moved
returns-then-not-fork-clause-moved c = λ ts t kept is.
    let both = high_to c.args.b.now.named.program.spans ts t c.loop-fork.place.zone c.to_high-place.result.zone c.loop-fork.forks.items c.pop.new.self.items c.push.new.self.items
    c.in-Some.fork c.high_fork.result c.in-Some.ensures.items c.if-not-fork.true c.to_high-place.ensures.zone c.in_ok-push.ensures.items c.high_fork.ensures
    (c.loop-fork.invariant.4 ts t kept is) in
    record { forks = both.0; zone = both.1 }

pub back-place-requires-clause-there : goal.back-place-requires-clause-there
back-place-requires-clause-there c =
    let root = c.args.b.now.named.program.spans in
    let parts = pop_in root c.loop-fork.forks.items c.pop.new.self.items c.in-Some.fork c.in-Some.ensures.items c.loop-fork.invariant.1 in
    fork_there root c.loop-fork.place.zone c.in-Some.fork parts.1 c.loop-fork.invariant.0

pub back-place-requires-clause-proper : goal.back-place-requires-clause-proper
back-place-requires-clause-proper c =
    let root = c.args.b.now.named.program.spans in
    let parts = pop_in root c.loop-fork.forks.items c.pop.new.self.items c.in-Some.fork c.in-Some.ensures.items c.loop-fork.invariant.1 in
    fork_proper root c.in-Some.fork parts.1

pub loop-fork-preserved : goal.loop-fork-preserved
loop-fork-preserved c =
    let root = c.args.b.now.named.program.spans in
    let parts = pop_in root c.loop-fork.forks.items c.pop.new.self.items c.in-Some.fork c.in-Some.ensures.items c.loop-fork.invariant.1 in (
      back_zone root c.loop-fork.place.zone c.back-place.result.zone c.in-Some.fork parts.1 c.back-place.ensures.zone c.loop-fork.invariant.0,
      parts.0,
      c.back-place.ensures.line ∙ c.loop-fork.invariant.2,
      c.back-place.ensures.left ∙ c.loop-fork.invariant.3,
      λ ts t kept is. back_to root ts t c.loop-fork.place.zone c.back-place.result.zone c.loop-fork.forks.items c.pop.new.self.items c.in-Some.fork c.in-Some.ensures.items
          c.if-not-fork.false c.back-place.ensures.zone (c.loop-fork.invariant.4 ts t kept is),
    )

pub returns-clause-moved : goal.returns-clause-moved
returns-clause-moved c =
    let none : c.loop-fork.forks.items ≡ [] = search rules in
    let empty : c.pop.new.self.items ≡ [] = search rules in
    λ ts t kept is. goes_root c.args.b.now.named.program.spans ts t c.loop-fork.place.zone c.loop-fork.forks.items (record { place = c.loop-fork.place; forks = c.pop.new.self }) none
    empty refl (c.loop-fork.invariant.4 ts t kept is)
