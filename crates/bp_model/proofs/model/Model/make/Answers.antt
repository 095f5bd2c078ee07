-- Each refusal has its cause, and what is assembled is made of the parts.
use Rattle.std.proofs.Common.{◌≡◌, ◌≤◌, List, sym, subst, IfErr}
use Rattle.bp_theory.specs.Limits.{most_digits}
use Rattle.bp_theory.specs.Digits.{zone_bits}
use Rattle.bp_theory.specs.declared.Span.{Span}
use Rattle.bp_model.specs.Named.{NamedProgram, IsKept}
use Rattle.bp_model.specs.Parts.{NoneCrossed, HasModelFault, Makes}
use Rattle.bp_model.proofs.MakeLemmas.{makes, small_costs_at, small_rows_at, costs_fault_at, rows_fault_at, limit_fault, handed_on}
use Rattle.bp_model.proofs.model.Model.make.Goals as goal

pub returns-in_err-costs-clause-fault : goal.returns-in_err-costs-clause-fault
returns-in_err-costs-clause-fault c =
    let proper = subst (λ (spans : List Span). NoneCrossed spans) c.as_slice.ensures c.in_ok-check_spans.ensures.crossed in
    let bits = subst (λ (spans : List Span). zone_bits spans ≤ most_digits c.args.parts.limits) c.as_slice.ensures c.in_ok-check_spans.ensures.bits in
    let fault = costs_fault_at c.args.parts c.in_err-costs.field-0.0 c.as_slice-3.result.now c.as_slice-2.result.now c.requires proper bits c.as_slice-3.ensures c.as_slice-2.ensures c.in_err-costs.ensures.fault in
    handed_on c.from_residual-in_err-costs.result c.in_err-costs.field-0.0 (HasModelFault c.args.parts) c.from_residual-in_err-costs.ensures.1 fault

pub returns-in_err-rows-clause-fault : goal.returns-in_err-rows-clause-fault
returns-in_err-rows-clause-fault c =
    let proper = subst (λ (spans : List Span). NoneCrossed spans) c.as_slice.ensures c.in_ok-check_spans.ensures.crossed in
    let bits = subst (λ (spans : List Span). zone_bits spans ≤ most_digits c.args.parts.limits) c.as_slice.ensures c.in_ok-check_spans.ensures.bits in
    let small = small_costs_at c.args.parts c.as_slice-3.result.now c.as_slice-2.result.now c.in_ok-costs.costs c.as_slice-3.ensures c.as_slice-2.ensures c.in_ok-costs.ensures.tidied in
    let fault = rows_fault_at c.args.parts c.in_ok-costs.costs c.in_err-rows.field-0.0 c.as_slice-5.result.now c.as_slice-4.result.now c.requires proper bits small c.as_slice-5.ensures c.as_slice-4.ensures c.in_err-rows.ensures.fault in
    handed_on c.from_residual-in_err-rows.result c.in_err-rows.field-0.0 (HasModelFault c.args.parts) c.from_residual-in_err-rows.ensures.1 fault

pub returns-then-not-keeps_limits-clause-fault : goal.returns-then-not-keeps_limits-clause-fault
returns-then-not-keeps_limits-clause-fault c =
    let proper = subst (λ (spans : List Span). NoneCrossed spans) c.as_slice.ensures c.in_ok-check_spans.ensures.crossed in
    let bits = subst (λ (spans : List Span). zone_bits spans ≤ most_digits c.args.parts.limits) c.as_slice.ensures c.in_ok-check_spans.ensures.bits in
    let small = small_costs_at c.args.parts c.as_slice-3.result.now c.as_slice-2.result.now c.in_ok-costs.costs c.as_slice-3.ensures c.as_slice-2.ensures c.in_ok-costs.ensures.tidied in
    let small_rows = small_rows_at c.args.parts c.as_slice-5.result.now c.as_slice-4.result.now c.in_ok-rows.rows c.as_slice-5.ensures c.as_slice-4.ensures c.in_ok-rows.ensures.tidied in
    limit_fault c.args.parts c.in_ok-costs.costs c.in_ok-rows.rows proper bits small small_rows c.if-not-keeps_limits.ensures

pub returns-clause-made : goal.returns-clause-made
returns-clause-made c =
    let small = small_costs_at c.args.parts c.as_slice-3.result.now c.as_slice-2.result.now c.in_ok-costs.costs c.as_slice-3.ensures c.as_slice-2.ensures c.in_ok-costs.ensures.tidied in
    let small_rows = small_rows_at c.args.parts c.as_slice-5.result.now c.as_slice-4.result.now c.in_ok-rows.rows c.as_slice-5.ensures c.as_slice-4.ensures c.in_ok-rows.ensures.tidied in
    subst (λ (m : NamedProgram). Makes c.args.parts m) (sym c.assembled.ensures.value) (makes c.args.parts c.in_ok-costs.costs c.in_ok-rows.rows small.tidied small_rows)
