-- Rows can be summed at a point inside, and the pool stays one of its block.
use Rattle.std.proofs.Common.{sym, subst, List, get_or, All}
use Rattle.bp_theory.specs.Program.{IsInside}
use Rattle.bp_theory.specs.declared.Row.{Row}
use Rattle.bp_theory.specs.declared.Span.{Span}
use Rattle.bp_model.specs.Miss.{CanSum}
use Rattle.bp_model.proofs.PointLemmas.{can_sum}
use Rattle.col_pool.proofs.PoolLemmas.{pool_kept}
use Rattle.col_pool.proofs.pool.Pool.add.Goals as goal

pub first_missed-requires-clause-sums : goal.first_missed-requires-clause-sums
first_missed-requires-clause-sums c =
    let block = c.args.block.now in
    let point = c.args.point.now in
    let form = c.requires.pool.small.form in
    let inside = subst (λ (spans : List Span). IsInside spans point) c.spans.ensures.spans c.in_default.ensures in
    subst (λ (rows : List Row). All (λ row. CanSum point row.terms) rows) (sym c.rows.ensures)
    (λ k d l. let row : Row = get_or block.block.rows k d in can_sum block.spans point row.terms _ inside (form.places k d l) (form.sizes k d l))

pub returns-in-Ok-clause-pool : goal.returns-in-Ok-clause-pool
returns-in-Ok-clause-pool c =
    pool_kept c.args.block.now c.args.self.now c.keep.new.self c.in-Ok.column c.keep.result c.requires.pool c.in-Ok.ensures.pooled
    c.keep.ensures.kept c.keep.ensures.same
