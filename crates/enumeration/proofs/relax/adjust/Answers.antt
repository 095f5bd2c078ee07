use Rattle.std.proofs.Common.{refl, sym, subst, pos, arith}
use Rattle.bp_theory.specs.Program.{MeetsRow}
use Rattle.enumeration.proofs.PlaceLaws.{many_spans}
use Rattle.enumeration.proofs.RelaxLaws.{undercut_scaled, undercut_more}
use Rattle.enumeration.proofs.relax.adjust.Goals as goal

pub loop-row-init : goal.loop-row-init
loop-row-init c = record {
  len = omega (arith, c.scale_costs.ensures.len, c.requires.many);
  below = undercut_scaled c.args.form.now.rows.items c.args.zone.now c.args.costs.now (record { scale = 1048576; offset = pos 0; costs = c.scale_costs.new.to })
      refl c.if-not-scale_costs.ensures.scaled;
}

pub loop-row-preserved : goal.loop-row-preserved
loop-row-preserved c = record {
  len = omega (arith, c.add_row.ensures.len, c.loop-row.invariant.len);
  below = undercut_more c.args.form.now.rows.items c.args.zone.now c.args.costs.now c.loop-row.relaxed c.add_row.new.relaxed c.loop-row.row c.index.result.now
      (omega (arith, c.loop-row-test.true, c.args.form.now.rows.ok.0, c.len-row-end.ensures))
      (omega (
        arith,
        c.loop-row.invariant.len,
        c.loop-row.relaxed.costs.ok.0,
        many_spans c.args.form.now c.args.zone.now c.args.costs.now c.requires.priceable,
        c.args.form.now.spans.ok.0,
      ))
      c.add_row.ensures.scale
      (λ y many met. c.if-not-add_row.ensures.paid y (omega (arith, many, c.loop-row.relaxed.costs.ok.0)) (subst (MeetsRow y) (sym c.index.ensures) met))
      c.loop-row.invariant.below;
}
