use Rattle.std.proofs.Common.{◌≡◌, [], length, arith, refl, sym}
use Rattle.std.proofs.lemmas.Option.{get_or_from_slice_get}
use Rattle.bp_theory.proofs.ZipLaws.{AllZip-length}
use Rattle.bp_theory.specs.Program.{IsWithin}
use Rattle.report_lines.proofs.PointLines.{text-none, text-more, text-all}
use Rattle.report_lines.proofs.searches.push_point.Goals as goal

-- the point has one number for each variable
pub bounds-point-var : goal.bounds-point-var
bounds-point-var c =
    let long : length c.args.m.now.program.spans ≡ length c.args.point.now = AllZip-length IsWithin _ _ c.requires.inside in
    omega arith

pub loop-var-init : goal.loop-var-init
loop-var-init c = text-none c.args.m.now.names c.args.text.now.items

pub loop-var-preserved : goal.loop-var-preserved
loop-var-preserved c =
    let long : length c.args.m.now.program.spans ≡ length c.args.point.now = AllZip-length IsWithin _ _ c.requires.inside in
    text-more c.args.m.now.names c.args.point.now c.loop-var.var c.args.text.now.items _ _ _ _ (omega arith) (omega arith)
    c.loop-var.invariant c.in_ok-push_line.ensures
    (sym (get_or_from_slice_get c.args.m.now.names c.loop-var.var c.name.result.now [] c.name.ensures)) refl

pub returns : goal.returns
returns c =
    let long : length c.args.m.now.program.spans ≡ length c.args.point.now = AllZip-length IsWithin _ _ c.requires.inside in
    text-all c.args.m.now.names c.args.point.now c.loop-var.var c.args.text.now.items _ (omega arith) c.loop-var.invariant
