use Rattle.std.proofs.Common.{◌<◌, List, length, sym, subst, ap, ◌∙◌}
use Rattle.bp_theory.specs.Program.{IsInside}
use Rattle.bp_theory.specs.declared.Row.{Row}
use Rattle.bp_model.specs.Named.{NamedProgram}
use Rattle.node_bound.proofs.Leaves.{terms_can_sum}
use Rattle.node_bound.proofs.point.sign.Goals as goal

pub activity-sum-requires : goal.activity-sum-requires
activity-sum-requires c =
    let rows = c.all_rows.ensures.rows ∙ ap (λ (m : NamedProgram). m.program.rows) c.model.ensures.model in
    terms_can_sum c.model.result.now c.args.point.now c.all_rows.result.now c.args.row c.index-all_rows-row.result c.as_slice.result.now c.all_rows.ensures.kept
    (subst (λ (m : NamedProgram). IsInside m.program.spans c.args.point.now) (sym c.model.ensures.model) c.requires.inside)
    c.all_rows.ensures.rows c.index-all_rows-row.is (subst (λ (rs : List Row). c.args.row < length rs) (sym rows) c.requires.there) c.as_slice.ensures
