use Rattle.std.proofs.Common.{◌≡◌, ◌+◌, subst, List, ℕ}
use Rattle.std.specs.Prelude.{OnOk, codes, decimal}
use Rattle.report_lines.proofs.Pieces.{five_named, pushed_if_ok}
use Rattle.report_lines.proofs.sizes.push_class_line.Goals as goal

pub returns : goal.returns
returns c =
    subst (λ (text : List ℕ). OnOk c.extend_from_slice.result (c.extend_from_slice.new.self.items ≡ text))
    (five_named c.args.text.now.items (codes "class ") (decimal (c.args.class + 1)) (codes " first ") (decimal (c.args.first + 1))
    (codes " size ") (decimal c.args.size) (codes " variables ") (decimal c.args.vars) (codes " rows ") (decimal c.args.rows) (codes "\n")
    _ _ _ _ _ c.in_ok-push_named.ensures c.in_ok-push_named-2.ensures c.in_ok-push_named-3.ensures c.in_ok-push_named-4.ensures
    c.in_ok-push_named-5.ensures)
    (pushed_if_ok c.extend_from_slice.result _ _ _ c.extend_from_slice.ensures.items)
