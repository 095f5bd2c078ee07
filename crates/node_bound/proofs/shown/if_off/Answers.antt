use Rattle.std.proofs.Common.{rules}
use Rattle.std.specs.Prelude.{pos}
use Rattle.std.proofs.lemmas.Int.{by_lt_z}
use Rattle.node_bound.specs.Openings.{at_zero}
use Rattle.node_bound.proofs.Strong.{whole_leaves_open}
use Rattle.node_bound.proofs.shown.if_off.Goals as goal

pub returns-in-Whole-2-clause-off : goal.returns-in-Whole-2-clause-off
returns-in-Whole-2-clause-off c off =
    by_lt_z (pos 0) c.in-Whole.whole
    (λ more. absurd (Prim.search rules))
    (λ low. absurd (whole_leaves_open c.args.node.program.now.blocking c.args.node.zone.now (at_zero c.args.scaled) c.in-Whole.whole c.in-Whole.ensures.answer low off))
