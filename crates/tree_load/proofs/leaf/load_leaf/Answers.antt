use Rattle.std.proofs.Common.{◌≡◌, ◌∙◌, ◌*◌, ◌-◌, ◌^◌, ◌↔◌, IsTrue, sym, ap, subst, arith, rules, to_z, of_z, w64}
use Rattle.std.specs.Prelude.{ℤ, pos, neg_ℤ, ◌<ℤ◌}
use Rattle.std.specs.Int.{w128, int_min}
use Rattle.bp_theory.specs.Sums.{round_up}
use Rattle.bp_theory.specs.Bound.{IsBound}
use Rattle.tree_load.specs.Rooms.{SettlesBy}
use Rattle.tree_load.proofs.Descent.{settles_by, can_round, yes_by, not_by}
use Rattle.tree_load.proofs.leaf.load_leaf.Goals as goal

pub round-requires-clause-scale : goal.round-requires-clause-scale
round-requires-clause-scale c =
    let whole : to_z w128 (of_z w128 c.in-Some.bound) ≡ c.in-Some.bound = search rules in
    let found : IsBound c.args.b.now.blocking c.args.zone.now c.args.proof.now c.in-Some.bound = rw c.in-Some.is at c.in_ok-bound.ensures.bound in
    let can = can_round c.args.b.now.blocking c.args.best.now c.args.zone.now c.args.proof.now c.in-Some.bound c.requires.can found
    (not_by c.settles.result (subst (λ (z : ℤ). IsTrue c.settles.result ↔ SettlesBy c.args.best.now c.args.proof.now.scale z) whole c.settles.ensures) c.if-settles.false) in
    let some = can.positive in
    omega (arith, some)

pub round-requires-clause-above : goal.round-requires-clause-above
round-requires-clause-above c =
    let whole : to_z w128 (of_z w128 c.in-Some.bound) ≡ c.in-Some.bound = search rules in
    let found : IsBound c.args.b.now.blocking c.args.zone.now c.args.proof.now c.in-Some.bound = rw c.in-Some.is at c.in_ok-bound.ensures.bound in
    let can = can_round c.args.b.now.blocking c.args.best.now c.args.zone.now c.args.proof.now c.in-Some.bound c.requires.can found
    (not_by c.settles.result (subst (λ (z : ℤ). IsTrue c.settles.result ↔ SettlesBy c.args.best.now c.args.proof.now.scale z) whole c.settles.ensures) c.if-settles.false) in
    subst (λ z. neg_ℤ (pos (c.args.proof.now.scale * 2 ^ 62)) <ℤ z) (sym whole) can.above

pub returns-then-settles-clause-loads : goal.returns-then-settles-clause-loads
returns-then-settles-clause-loads c =
    let whole : to_z w128 (of_z w128 c.in-Some.bound) ≡ c.in-Some.bound = search rules in
    let found : IsBound c.args.b.now.blocking c.args.zone.now c.args.proof.now c.in-Some.bound = rw c.in-Some.is at c.in_ok-bound.ensures.bound in (
      c.in_ok-copy.ensures ∙ c.in_ok-own.ensures,
      (settles_by c.args.b.now.blocking c.args.best.now c.args.zone.now c.args.proof.now c.in-Some.bound found).0 (yes_by c.settles.result (subst (λ (z : ℤ). IsTrue c.settles.result ↔ SettlesBy c.args.best.now c.args.proof.now.scale z) whole c.settles.ensures) c.if-settles.true),
    )

pub returns-else-settles-clause-loads : goal.returns-else-settles-clause-loads
returns-else-settles-clause-loads c =
    let found : IsBound c.args.b.now.blocking c.args.zone.now c.args.proof.now c.in-Some.bound = rw c.in-Some.is at c.in_ok-bound.ensures.bound in
    let whole : to_z w128 (of_z w128 c.in-Some.bound) ≡ c.in-Some.bound = search rules in
    let not = not_by c.settles.result (subst (λ (z : ℤ). IsTrue c.settles.result ↔ SettlesBy c.args.best.now c.args.proof.now.scale z) whole c.settles.ensures) c.if-settles.false in
    let back : to_z w64 (of_z w64 c.round.result) ≡ c.round.result = search rules in (
      c.in_ok-copy.ensures ∙ c.in_ok-own.ensures,
      (λ settled. not ((settles_by c.args.b.now.blocking c.args.best.now c.args.zone.now c.args.proof.now c.in-Some.bound found).1 settled)),
      (
        c.in-Some.bound,
        found,
        back ∙ c.round.ensures ∙ ap (λ (z : ℤ). int_min (round_up z c.args.proof.now.scale) (pos (2 ^ 62 - 1))) whole,
      ),
    )
