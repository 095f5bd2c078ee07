use Rattle.report_lines.specs.Blocks.{line_of_class}
use Rattle.report_lines.proofs.Pieces.{piece_more}
use Rattle.report_lines.proofs.sizes.push_classes.Goals as goal

pub loop-class-preserved : goal.loop-class-preserved
loop-class-preserved c =
    piece_more (line_of_class c.args.b.now c.args.root.now) c.loop-class.class c.args.text.now.items c.loop-class.text.items c.push_class.new.text.items
    c.loop-class.invariant c.in_ok-push_class.ensures
