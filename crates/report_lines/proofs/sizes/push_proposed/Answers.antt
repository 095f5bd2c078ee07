use Rattle.std.proofs.Common.{◌≡◌, subst, List, ℕ}
use Rattle.std.specs.Prelude.{OnOk, codes, decimal}
use Rattle.report_lines.proofs.Pieces.{three_named, pushed_if_ok}
use Rattle.report_lines.proofs.sizes.push_proposed.Goals as goal

pub returns : goal.returns
returns c =
    subst (λ (text : List ℕ). OnOk c.extend_from_slice.result (c.extend_from_slice.new.self.items ≡ text))
    (three_named c.args.text.now.items (codes "proposed blocks ") (decimal c.args.blocks) (codes " classes ") (decimal c.args.classes)
    (codes " master ") (decimal c.args.master) (codes "\n") _ _ _ c.in_ok-push_named.ensures c.in_ok-push_named-2.ensures c.in_ok-push_named-3.ensures)
    (pushed_if_ok c.extend_from_slice.result _ _ _ c.extend_from_slice.ensures.items)
