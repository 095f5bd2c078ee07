use Rattle.std.proofs.Common.{◌≡◌, sym, ap, arith, to_z, of_z, subst}
use Rattle.std.specs.Prelude.{ℤ}
use Rattle.std.specs.Int.{w128}
use Rattle.std.proofs.lemmas.Int.{ints}
use Rattle.bp_theory.specs.Bound.{IsBound, plain_proof}
use Rattle.bp_theory.specs.declared.Proof.{Proof}
use Rattle.search_laws.specs.GroveFacts.{IsSoundProof}
use Rattle.search_laws.specs.Verdicts.{every_block}
use Rattle.node_memory.proofs.EveryBlock.{every_small}
use Rattle.node_bound.proofs.BoxLemmas.{boxes_are_points}
use Rattle.node_bound.proofs.Leaves.{plain_sound}
use Rattle.node_bound.proofs.Strong.{whole_is_strong, reached_at_one}
use Rattle.node_bound.proofs.boxes.boxed.Goals as goal

pub raised_to-requires-clause-sound : goal.raised_to-requires-clause-sound
raised_to-requires-clause-sound c = subst (IsSoundProof c.args.b.now.blocking) (sym c.plain-proof.ensures) (plain_sound c.args.b.now.blocking)

pub returns-clause-strong : goal.returns-clause-strong
returns-clause-strong c =
    let whole : ℤ = to_z w128 (of_z w128 c.box_bound-whole.result) in
    let same : whole ≡ c.box_bound-whole.result = omega (arith, ints) in
    let plain_bound : IsBound c.args.b.now.blocking c.args.turn.now.zone plain_proof c.box_bound-whole.result =
    subst (λ (p : Proof). IsBound c.args.b.now.blocking c.args.turn.now.zone p c.box_bound-whole.result) c.plain-proof.ensures c.box_bound-whole.ensures.bound in
    let own : IsBound c.args.b.now.blocking c.args.turn.now.zone every_block c.box_bound-whole.result =
    boxes_are_points c.args.b.now.blocking c.args.turn.now.zone c.box_bound-whole.result c.requires.rowless plain_bound in
    let is_bound : IsBound c.args.b.now.blocking c.args.turn.now.zone every_block whole =
    subst (IsBound c.args.b.now.blocking c.args.turn.now.zone every_block) (sym same) own in
    whole_is_strong c.args.b.now.blocking c.args.turn.now.zone whole c.raised_to.result.bound is_bound
    (reached_at_one c.plain-proof.result.scale whole c.raised_to.result.bound (ap (λ (p : Proof). p.scale) c.plain-proof.ensures)
    (every_small c.args.b.now c.args.turn.now.zone whole c.blocks-2.ensures.formed c.requires.turn.in_spans is_bound) c.raised_to.ensures.reached)
