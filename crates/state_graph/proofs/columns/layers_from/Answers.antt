use Rattle.std.proofs.Common.{◌≡◌, refl, sym, subst, ◌+◌, ◌-◌, ◌<◌, ℕ, List, [], length, arith}
use Rattle.std.proofs.Math.IntN.{ℤ}
use Rattle.std.specs.Prelude.{Option, IfSome, IfNone}
use Rattle.bp_theory.specs.Program.{span_at}
use Rattle.bp_theory.specs.declared.Span.{Span}
use Rattle.state_graph.specs.Windows.{coef_of}
use Rattle.state_graph.specs.Columns.{IsLong, hull_with, AreWidened, AreRefined}
use Rattle.state_graph.specs.declared.layers.Layer.{Layer}
use Rattle.state_graph.proofs.ColumnLaws.{dense_wide}
use Rattle.state_graph.proofs.LayerLaws.{IsSoFar, so_far_none, so_far_more, so_far_all, so_far_fits}
use Rattle.state_graph.proofs.columns.layers_from.Goals as goal

pub loop-var-init : goal.loop-var-init
loop-var-init c =
    subst (λ (ls : List Layer). IsSoFar (length c.args.rows.now) c.args.spans.now c.args.dense.now (length c.args.spans.now) ls c.in_ok-hulls.hulls c.in_ok-twins.twins) (sym c.new-layers.ensures.items)
    (so_far_none (length c.args.rows.now) c.args.spans.now c.args.dense.now (length c.args.spans.now) c.in_ok-hulls.hulls c.in_ok-twins.twins (omega arith)
    (λ row l. omega (arith, dense_wide c.args.rows.now (length c.args.spans.now) c.args.dense.now c.requires.coefs row [] (omega (arith, l, c.requires.coefs.many))))
    c.in_ok-hulls.ensures.each (λ row l. c.in_ok-hulls.ensures.zeros row (omega (arith, l, c.in_ok-hulls.ensures.each))) c.in_ok-twins.ensures)

pub column_of-requires : goal.column_of-requires
column_of-requires c = λ k d l.
    omega (arith, dense_wide c.args.rows.now (length c.args.spans.now) c.args.dense.now c.requires.coefs k d l, c.loop-var-test.true, c.loop-var.auto.var)

pub loop-var-preserved : goal.loop-var-preserved
loop-var-preserved c =
    let back : c.loop-var.var ≡ c.loop-var.var - 1 + 1 = omega (arith, c.loop-var-test.true) in
    let wider : AreWidened c.as_slice.result.now c.as_slice-in-loop-var.result.now (span_at c.args.spans.now (c.loop-var.var - 1)) c.in-Some.wider =
    subst (λ (o : Option (List Span)). IfSome o (λ (w : List Span). AreWidened c.as_slice.result.now c.as_slice-in-loop-var.result.now (span_at c.args.spans.now (c.loop-var.var - 1)) w)) c.in-Some.is c.in_ok-wider.ensures.wider in
    let refined : AreRefined c.loop-var.twins c.in_ok-column.column c.in_ok-finer.finer =
    subst (λ (ts : List ℕ). AreRefined ts c.in_ok-column.column c.in_ok-finer.finer) c.as_slice-in-loop-var-2.ensures
    (subst (λ (cs : List ℤ). AreRefined c.as_slice-in-loop-var-2.result.now cs c.in_ok-finer.finer) c.as_slice-in-loop-var-3.ensures c.in_ok-finer.ensures) in
    so_far_more (length c.args.rows.now) c.args.spans.now c.args.dense.now (c.loop-var.var - 1) c.loop-var.layers.items c.push.new.self.items c.loop-var.hulls c.in-Some.wider c.loop-var.twins c.in_ok-finer.finer c.in_ok-column.column
    (span_at c.args.spans.now (c.loop-var.var - 1))
    (omega (arith, c.loop-var-test.true, c.loop-var.auto.var)) c.requires.coefs.many
    (λ row l. omega (arith, dense_wide c.args.rows.now (length c.args.spans.now) c.args.dense.now c.requires.coefs row [] (omega (arith, l, c.requires.coefs.many)), c.loop-var-test.true, c.loop-var.auto.var))
    refl c.in_ok-column.ensures
    (subst (λ (hs : List Span). AreWidened hs c.in_ok-column.column (span_at c.args.spans.now (c.loop-var.var - 1)) c.in-Some.wider) c.as_slice.ensures
    (subst (λ (cs : List ℤ). AreWidened c.as_slice.result.now cs (span_at c.args.spans.now (c.loop-var.var - 1)) c.in-Some.wider) c.as_slice-in-loop-var.ensures wider))
    refined
    c.in_ok-push.ensures.items
    (subst (λ n. IsSoFar (length c.args.rows.now) c.args.spans.now c.args.dense.now n c.loop-var.layers.items c.loop-var.hulls c.loop-var.twins) back c.loop-var.invariant)

pub returns-clause-layers : goal.returns-clause-layers
returns-clause-layers c =
    so_far_all c.args.rows.now c.args.spans.now c.args.dense.now c.loop-var.var c.loop-var.layers.items c.reverse.new.self.items c.loop-var.hulls c.loop-var.twins
    (omega (arith, c.loop-var-test.false)) c.reverse.ensures.items c.requires.coefs c.requires.form.places c.loop-var.invariant

pub returns-in-None-clause-none : goal.returns-in-None-clause-none
returns-in-None-clause-none c =
    let back : c.loop-var.var ≡ c.loop-var.var - 1 + 1 = omega (arith, c.loop-var-test.true) in
    let none : (row : ℕ) × (row < length c.as_slice.result.now) × IsLong (hull_with (span_at c.as_slice.result.now row) (coef_of c.as_slice-in-loop-var.result.now row) (span_at c.args.spans.now (c.loop-var.var - 1))) =
    subst (λ (o : Option (List Span)). IfNone o ((row : ℕ) × (row < length c.as_slice.result.now)
    × IsLong (hull_with (span_at c.as_slice.result.now row) (coef_of c.as_slice-in-loop-var.result.now row) (span_at c.args.spans.now (c.loop-var.var - 1)))))
    c.in-None.is c.in_ok-wider.ensures.none in
    absurd (so_far_fits c.args.rows.now c.args.spans.now c.args.dense.now (c.loop-var.var - 1) c.loop-var.layers.items c.loop-var.hulls c.loop-var.twins c.in_ok-column.column
    (span_at c.args.spans.now (c.loop-var.var - 1))
    (omega (arith, c.loop-var-test.true, c.loop-var.auto.var)) c.requires.coefs
    (λ row l. omega (arith, dense_wide c.args.rows.now (length c.args.spans.now) c.args.dense.now c.requires.coefs row [] (omega (arith, l, c.requires.coefs.many)), c.loop-var-test.true, c.loop-var.auto.var))
    c.requires.form.sizes refl c.in_ok-column.ensures
    (subst (λ n. IsSoFar (length c.args.rows.now) c.args.spans.now c.args.dense.now n c.loop-var.layers.items c.loop-var.hulls c.loop-var.twins) back c.loop-var.invariant)
    (subst (λ (hs : List Span). (row : ℕ) × (row < length hs) × IsLong (hull_with (span_at hs row) (coef_of c.in_ok-column.column row) (span_at c.args.spans.now (c.loop-var.var - 1)))) c.as_slice.ensures
    (subst (λ (cs : List ℤ). (row : ℕ) × (row < length c.as_slice.result.now) × IsLong (hull_with (span_at c.as_slice.result.now row) (coef_of cs row) (span_at c.args.spans.now (c.loop-var.var - 1))))
    c.as_slice-in-loop-var.ensures none)))
