use Rattle.std.proofs.Common.{sym, subst, List}
use Rattle.bp_theory.specs.declared.Row.{Row}
use Rattle.bp_theory.specs.declared.Span.{Span}
use Rattle.block_pricers.specs.Pricers.{spans_of, IsUngraphed}
use Rattle.block_pricers.proofs.desk.Desk.make.Goals as goal

pub returns-clause-search : goal.returns-clause-search
returns-clause-search c = λ is.
    subst (λ (rows : List Row). IsUngraphed c.args.room.now rows (spans_of c.in_ok-pricer.pricer)) (sym c.in_ok-pricer.ensures.block.rows_same)
    (subst (λ (spans : List Span). IsUngraphed c.args.room.now c.args.block.now.block.rows spans) (sym c.in_ok-pricer.ensures.block.spans_same) (c.in_ok-pricer.ensures.search is))
