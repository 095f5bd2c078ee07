use Rattle.std.proofs.Common.{◌≡◌, ◌∙◌, ◌++◌, ap, subst, ℕ, List, [], length}
use Rattle.std.specs.Prelude.{OnOk}
use Rattle.bp_theory.specs.Blocking.{Block}
use Rattle.search_laws.specs.Spread.{block_at, class_at, class_blocks}
use Rattle.report_lines.specs.Blocks.{class_line}
use Rattle.report_lines.proofs.Pieces.{class_line_same}
use Rattle.report_lines.proofs.sizes.push_class.Goals as goal

pub returns : goal.returns
returns c =
    let is_block : c.block-block.result.now.block ≡ block_at c.args.b.now.blocking c.first-first.result =
    c.block-block.ensures.block (record { copies = []; rows = [] }) in
    let is_first = c.first-first.ensures in
    let is_named : c.block-block.result.now.block ≡ block_at c.args.b.now.blocking (class_at c.args.root.now.firsts c.args.class) =
    is_block ∙ ap (block_at c.args.b.now.blocking) is_first in
    subst (λ (line : List ℕ). OnOk c.push_class_line.result (c.push_class_line.new.text.items ≡ c.args.text.now.items ++ line))
    (class_line_same c.args.class _ _ _ _ _ _ _ _ is_first c.size-size.ensures
    (c.var_count-vars.ensures ∙ ap (λ (k : Block). length k.copies) is_named) (c.row_count.ensures ∙ ap (λ (k : Block). length k.rows) is_named))
    c.push_class_line.ensures
