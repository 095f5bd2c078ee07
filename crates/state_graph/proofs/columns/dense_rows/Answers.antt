use Rattle.std.proofs.Common.{◌∙◌, sym, ap, subst, ◌+◌, List, length, arith}
use Rattle.std.proofs.Math.IntN.{ℤ}
use Rattle.std.specs.Prelude.{Option, IfSome, IfNone, sum_by, ◌^◌, ◌<◌}
use Rattle.bp_theory.specs.declared.Span.{Span}
use Rattle.pricing_problem.specs.Form.{term_size, row_size}
use Rattle.bp_theory.specs.declared.Row.{Row}
use Rattle.bp_theory.specs.declared.Term.{Term}
use Rattle.state_graph.specs.Columns.{AreCoefs}
use Rattle.state_graph.proofs.ColumnLaws.{dense_more, longer}
use Rattle.state_graph.proofs.columns.dense_rows.Goals as goal

pub loop-row-preserved : goal.loop-row-preserved
loop-row-preserved c =
    let coefs : AreCoefs c.as_slice.result.now c.args.count c.in-Some.coefs =
    subst (λ (o : Option (List ℤ)). IfSome o (λ (cs : List ℤ). AreCoefs c.as_slice.result.now c.args.count cs)) c.in-Some.is c.in_ok-coefs.ensures.coefs in
    record {
      many = ap (λ (ds : List (List ℤ)). length ds) c.in_ok-push-in-Some.ensures.added ∙ longer c.loop-row.dense c.in-Some.coefs ∙ ap (λ n. n + 1) c.loop-row.invariant.many;
      each = dense_more c.args.rows.now c.args.count c.loop-row.row-index c.loop-row.dense c.push.new.self c.in-Some.coefs c.as_slice.result.now c.row-item.result
          c.loop-row-test.true c.row-item.is c.loop-row.invariant.many c.in_ok-push-in-Some.ensures.added c.as_slice.ensures coefs c.loop-row.invariant.each;
    }

pub returns-in-None-clause-none : goal.returns-in-None-clause-none
returns-in-None-clause-none c = λ spans small.
    let none : (ss : List Span) → sum_by (term_size ss) c.as_slice.result.now < 2 ^ 62 → ⊥ =
    subst (λ (o : Option (List ℤ)). IfNone o ((ss : List Span) → sum_by (term_size ss) c.as_slice.result.now < 2 ^ 62 → ⊥)) c.in-None.is c.in_ok-coefs.ensures.none in
    let row : row_size spans c.row-item.result < 2 ^ 62 =
    subst (λ (r : Row). row_size spans r < 2 ^ 62) (sym c.row-item.is) (small c.loop-row.row-index c.row-item.result c.loop-row-test.true) in
    none spans (subst (λ (ts : List Term). sum_by (term_size spans) ts < 2 ^ 62) (sym c.as_slice.ensures) (omega (arith, row)))
