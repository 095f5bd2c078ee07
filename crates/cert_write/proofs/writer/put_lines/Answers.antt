use Rattle.std.proofs.Common.{◌∙◌}
use Rattle.cert_format.specs.Text.{One}
use Rattle.cert_write.proofs.TreeLines.{one_more, all_lines}
use Rattle.cert_write.proofs.writer.put_lines.Goals as goal

pub loop-line-preserved : goal.loop-line-preserved
loop-line-preserved g c =
    let lines = g.L.NodeLines.lines in
    one_more One c.in-Some.line (lines c.loop-line.lines) (lines c.advance.new.self) c.loop-line.out.items c.put_line.new.out.items c.in-Some.ensures c.in_ok-advance.ensures c.in_ok-put_line.ensures
    ∙ c.loop-line.invariant

pub returns : goal.returns
returns g c =
    let lines = g.L.NodeLines.lines in
    λ tree is. all_lines One (lines c.args.lines.now) (lines c.loop-line.lines) tree c.args.out.now.items c.loop-line.out.items c.in_default.ensures is c.loop-line.invariant
