use Rattle.std.proofs.Common.{◌≡◌, subst, sym, to_z, of_z, w64, arith, ◌<◌, ◌^◌}
use Rattle.std.specs.Prelude.{ℤ, unsigned_abs}
use Rattle.std.proofs.lemmas.Int.{ints}
use Rattle.bp_theory.specs.Bound.{IsBound, plain_proof}
use Rattle.branch_tree.proofs.Standing.{plant_whole, plant_kept}
use Rattle.branch_tree.proofs.grove.Grove.plant.Goals as goal

pub invariant_of-result : goal.invariant_of-result
invariant_of-result c =
    plant_whole c.args.b.now.named.program.spans c.in_ok-root.root c.plain.result (to_z w64 (of_z w64 c.plain_bound-bound.result))
    c.new-queue.result c.add.new.self c.key_at.result c.root-2.result c.plain.ensures c.in_ok-root.ensures.zone c.new-queue.ensures
    c.key_at.ensures c.root-2.ensures c.in_ok-add.ensures.added

pub returns-clause-kept : goal.returns-clause-kept
returns-clause-kept c =
    let same : to_z w64 (of_z w64 c.plain_bound-bound.result) ≡ c.plain_bound-bound.result = omega (arith, ints, c.plain_bound-bound.ensures.small) in
    plant_kept c.args.b.now c.in_ok-root.root c.plain.result (to_z w64 (of_z w64 c.plain_bound-bound.result)) c.add.new.self c.plain.ensures
    c.in_ok-root.ensures.spans
    (subst (IsBound c.args.b.now.blocking c.args.b.now.named.program.spans plain_proof) (sym same) c.plain_bound-bound.ensures.bound)
    (subst (λ (z : ℤ). unsigned_abs z < 2 ^ 62) (sym same) c.plain_bound-bound.ensures.small)

pub returns-clause-standing : goal.returns-clause-standing
returns-clause-standing c = (invariant_of-result c).0
