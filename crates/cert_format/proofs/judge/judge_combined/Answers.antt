use Rattle.std.proofs.Common.{sym, ◌∙◌, arith}
use Rattle.cert_format.proofs.LowRows.{combined_low}
use Rattle.cert_format.proofs.judge.judge_combined.Goals as goal

pub overflow_cast-result : goal.overflow_cast-result
overflow_cast-result c =
    let low = combined_low c.args.frame.now c.args.cuts c.args.value (sym c.is_combined.ensures ∙ c.if-is_combined.true) in
    omega (arith, low, c.args.frame.now.few_rows)
