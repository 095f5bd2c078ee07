use Rattle.std.proofs.Common.{◌≡◌, sym, ap, arith, to_z, of_z, subst}
use Rattle.std.specs.Prelude.{ℤ}
use Rattle.std.specs.Int.{w128}
use Rattle.std.proofs.lemmas.Int.{ints}
use Rattle.bp_theory.specs.Bound.{IsBound}
use Rattle.bp_theory.specs.declared.Proof.{Proof}
use Rattle.search_laws.specs.Verdicts.{every_block}
use Rattle.node_memory.proofs.EveryBlock.{every_small}
use Rattle.node_bound.proofs.Strong.{whole_is_strong, reached_at_one}
use Rattle.node_bound.proofs.shown.opened.Goals as goal

pub returns-in-Whole-clause-opening : goal.returns-in-Whole-clause-opening
returns-in-Whole-clause-opening c =
    let whole : ℤ = to_z w128 (of_z w128 c.in-Whole.whole) in
    let same : whole ≡ c.in-Whole.whole = omega (arith, ints) in
    let own : IsBound c.args.b.now.blocking c.args.turn.now.zone every_block c.in-Whole.whole =
    subst (λ (p : Proof). IsBound c.args.b.now.blocking c.args.turn.now.zone p c.in-Whole.whole) c.every-proof.ensures c.in-Whole.ensures.answer in
    let is_bound : IsBound c.args.b.now.blocking c.args.turn.now.zone every_block whole =
    subst (IsBound c.args.b.now.blocking c.args.turn.now.zone every_block) (sym same) own in (
      c.raised_to.ensures.shown c.args.turn.now.bound c.in_ok-own.ensures,
      whole_is_strong c.args.b.now.blocking c.args.turn.now.zone whole c.raised_to.result.bound is_bound
          (reached_at_one c.every-proof.result.scale whole c.raised_to.result.bound (ap (λ (p : Proof). p.scale) c.every-proof.ensures)
          (every_small c.args.b.now c.args.turn.now.zone whole c.blocks-2.ensures.formed c.requires.turn.in_spans is_bound) c.raised_to.ensures.reached),
    )
