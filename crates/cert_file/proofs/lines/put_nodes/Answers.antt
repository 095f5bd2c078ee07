use Rattle.std.proofs.Common.{Bool, ◌∙◌, List, ap, refl, sym, subst, drop}
use Rattle.std.specs.Prelude.{IsTrue}
use Rattle.cert_format.specs.Text.{Two}
use Rattle.cert_format.specs.Preorder.{Line, line_of}
use Rattle.cert_write.specs.LineTexts.{lines_text, changing_lines, mults_behind}
use Rattle.cert_write.proofs.TreeLines.{one_after, all_after}
use Rattle.cert_file.proofs.Appending.{left_parts, none_written, line_written, line_stopped, between_stopped, all_written, of_tree}
use Rattle.cert_file.proofs.lines.put_nodes.Goals as goal

pub loop-line-init : goal.loop-line-init
loop-line-init g c = record {
  written = none_written c.args.name.now _ (g.F.Shelf.file c.args.shelf.now) _;
  last = refl;
  told = refl;
  faults = refl;
  reads = refl;
}

pub loop-line-preserved : goal.loop-line-preserved
loop-line-preserved g c =
    let lines = g.L.NodeLines.lines in
    let file = g.F.Shelf.file in
    let before = c.loop-line in
    let parts = left_parts c.in-Some.line (lines before.lines) (lines c.advance.new.self) before.had.items c.put_node.new.had.items c.in-Some.ensures c.in-Ok-advance.ensures c.in-Ok.ensures.last in
    record {
      written = line_written c.args.name.now _ (file c.args.shelf.now) (file before.shelf) (file c.put_node.new.shelf) _ _ _ _ before.invariant.written parts
          (λ t. c.in-Ok.ensures.files (subst (λ (x : Bool). IsTrue x) (sym before.invariant.told) t));
      last = one_after c.in-Some.line (lines before.lines) (lines c.advance.new.self) before.had.items c.put_node.new.had.items c.in-Some.ensures c.in-Ok-advance.ensures c.in-Ok.ensures.last
          ∙ before.invariant.last;
      told = c.in-Ok.ensures.told ∙ before.invariant.told;
      faults = c.in-Ok.ensures.cause ∙ before.invariant.faults;
      reads = c.in-Ok.ensures.reads ∙ before.invariant.reads;
    }

pub returns-in-Err-clause-files : goal.returns-in-Err-clause-files
returns-in-Err-clause-files g c = λ told tree is.
    let lines = g.L.NodeLines.lines in
    let file = g.F.Shelf.file in
    let line = c.in-Some.line in
    let had = c.loop-line.had.items in
    let parts = left_parts line (lines c.loop-line.lines) (drop 1 (lines c.loop-line.lines)) had (mults_behind had (line_of line)) c.in-Some.ensures refl refl in
    of_tree c.args.name.now (file c.args.shelf.now) (file c.put_node.new.shelf) c.args.had.now.items (lines c.args.lines.now) tree _ is
    (line_stopped c.args.name.now _ (file c.args.shelf.now) (file c.loop-line.shelf) (file c.put_node.new.shelf) _ _ _ _ c.in-Err.stop c.loop-line.invariant.written parts
    (λ t. c.in-Err.ensures.files (subst (λ (x : Bool). IsTrue x) (sym c.loop-line.invariant.told) t)) told)

pub returns-in-Err-advance-clause-files : goal.returns-in-Err-advance-clause-files
returns-in-Err-advance-clause-files g c = λ told tree is.
    let lines = g.L.NodeLines.lines in
    let file = g.F.Shelf.file in
    let line = c.in-Some.line in
    let had = c.loop-line.had.items in
    let parts = left_parts line (lines c.loop-line.lines) (drop 1 (lines c.loop-line.lines)) had c.put_node.new.had.items c.in-Some.ensures refl c.in-Ok.ensures.last in
    let written = line_written c.args.name.now _ (file c.args.shelf.now) (file c.loop-line.shelf) (file c.put_node.new.shelf) _ _ _ _ c.loop-line.invariant.written parts
    (λ t. c.in-Ok.ensures.files (subst (λ (x : Bool). IsTrue x) (sym c.loop-line.invariant.told) t)) in
    of_tree c.args.name.now (file c.args.shelf.now) (file c.put_node.new.shelf) c.args.had.now.items (lines c.args.lines.now) tree _ is
    (between_stopped c.args.name.now _ (file c.args.shelf.now) (file c.put_node.new.shelf) _ _ written told)

pub returns-clause-files : goal.returns-clause-files
returns-clause-files g c = λ told tree is.
    let lines = g.L.NodeLines.lines in
    let file = g.F.Shelf.file in
    let none = ap (λ (ls : List Line). lines_text Two (changing_lines c.loop-line.had.items ls)) c.in_default.ensures in
    of_tree c.args.name.now (file c.args.shelf.now) (file c.loop-line.shelf) c.args.had.now.items (lines c.args.lines.now) tree _ is
    (all_written c.args.name.now _ (file c.args.shelf.now) (file c.loop-line.shelf) _ _ c.loop-line.invariant.written none told)

pub returns-clause-last : goal.returns-clause-last
returns-clause-last g c = λ tree is.
    let lines = g.L.NodeLines.lines in
    all_after (lines c.args.lines.now) (lines c.loop-line.lines) c.args.had.now.items c.loop-line.had.items tree c.in_default.ensures is c.loop-line.invariant.last
