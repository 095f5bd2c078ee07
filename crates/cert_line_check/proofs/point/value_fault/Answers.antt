use Rattle.std.proofs.Common.{refl, sym}
use Rattle.std.proofs.lemmas.Bool.{true≢false}
use Rattle.cert_line_check.proofs.Points.{miss_fault, value_differs}
use Rattle.cert_line_check.proofs.point.value_fault.Goals as goal

pub returns-in-Some : goal.returns-in-Some
returns-in-Some c = miss_fault c.args.model.now.program c.args.value.now c.args.point.now c.in-Some.miss c.miss_kind.result c.miss_kind.ensures c.in-Some.ensures.miss

pub returns-else-has_value : goal.returns-else-has_value
returns-else-has_value c =
    value_differs c.args.model.now.program c.args.value.now c.args.point.now (c.in-None.ensures.feasible.0 refl)
    (λ same. true≢false (sym (c.if-has_value.ensures.1 same)))
