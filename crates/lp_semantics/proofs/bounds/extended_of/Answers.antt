-- An infinity has the sign of its run.
use Rattle.std.proofs.Common.{◌∙◌, sym, true, false}
use Rattle.lp_semantics.proofs.SignLemmas.{endless_is}
use Rattle.lp_semantics.proofs.bounds.extended_of.Goals as goal

pub returns-then-is_negative_run : goal.returns-then-is_negative_run
returns-then-is_negative_run c =
    endless_is c.args.value.now c.in-Endless.signs c.as_slice-in-Endless.result.now true c.in-Endless.is c.as_slice-in-Endless.ensures
    (sym c.if-is_negative_run.true ∙ c.is_negative_run.ensures)

pub returns-else-is_negative_run : goal.returns-else-is_negative_run
returns-else-is_negative_run c =
    endless_is c.args.value.now c.in-Endless.signs c.as_slice-in-Endless.result.now false c.in-Endless.is c.as_slice-in-Endless.ensures
    (sym c.if-is_negative_run.false ∙ c.is_negative_run.ensures)
