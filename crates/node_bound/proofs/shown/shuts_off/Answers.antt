use Rattle.std.proofs.Common.{◌≡◌, rules, arith, to_z, of_z, subst, sym}
use Rattle.std.specs.Prelude.{ℤ, pos}
use Rattle.std.specs.Int.{w128}
use Rattle.std.proofs.lemmas.Int.{ints, by_lt_z}
use Rattle.bp_theory.specs.Bound.{IsBound}
use Rattle.node_bound.proofs.Strong.{whole_leaves_open}
use Rattle.node_bound.proofs.shown.shuts_off.Goals as goal

pub returns : goal.returns
returns c =
    let whole : ℤ = to_z w128 (of_z w128 c.box_bound.result) in
    let same : whole ≡ c.box_bound.result = omega (arith, ints) in
    let is_bound : IsBound c.args.b.now.blocking c.args.zone.now c.args.proof.now whole =
    subst (IsBound c.args.b.now.blocking c.args.zone.now c.args.proof.now) (sym same) c.box_bound.ensures.bound in (
      Prim.search rules,
      λ off. by_lt_z (pos 0) whole
          (λ more. Prim.search rules)
          (λ low. absurd (whole_leaves_open c.args.b.now.blocking c.args.zone.now c.args.proof.now whole is_bound low off)),
    )
