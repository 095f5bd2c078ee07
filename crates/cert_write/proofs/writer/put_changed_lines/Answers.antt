use Rattle.std.proofs.Common.{◌∙◌}
use Rattle.cert_write.proofs.TreeLines.{one_change, one_after, all_changes, all_after}
use Rattle.cert_write.proofs.writer.put_changed_lines.Goals as goal

pub loop-line-preserved : goal.loop-line-preserved
loop-line-preserved g c =
    let lines = g.L.NodeLines.lines in
    let before = c.loop-line in
    let put = c.in_ok-put_changed_line.ensures in record {
      text = one_change c.in-Some.line (lines before.lines) (lines c.advance.new.self) before.had.items c.put_changed_line.new.had.items before.out.items c.put_changed_line.new.out.items
          c.in-Some.ensures c.in_ok-advance.ensures put.last put.text ∙ before.invariant.text;
      last = one_after c.in-Some.line (lines before.lines) (lines c.advance.new.self) before.had.items c.put_changed_line.new.had.items c.in-Some.ensures c.in_ok-advance.ensures put.last
          ∙ before.invariant.last;
    }

pub returns-clause-text : goal.returns-clause-text
returns-clause-text g c =
    let lines = g.L.NodeLines.lines in
    λ tree is. all_changes (lines c.args.lines.now) (lines c.loop-line.lines) c.args.had.now.items c.loop-line.had.items tree c.args.out.now.items c.loop-line.out.items c.in_default.ensures is
    c.loop-line.invariant.text

pub returns-clause-last : goal.returns-clause-last
returns-clause-last g c =
    let lines = g.L.NodeLines.lines in
    λ tree is. all_after (lines c.args.lines.now) (lines c.loop-line.lines) c.args.had.now.items c.loop-line.had.items tree c.in_default.ensures is c.loop-line.invariant.last
