use Rattle.std.proofs.Common.{◌≡◌, ◌+◌, ◌*◌, sym, subst, arith}
use Rattle.cut_sums.specs.PlainSteps.{AreFirstBelow}
use Rattle.cut_sums.specs.Rows.{program_of}
use Rattle.cut_sums.proofs.PlainLemmas.{none_below}
use Rattle.round_cut.proofs.plain.cuts_below.Goals as goal

pub loop-number-init : goal.loop-number-init
loop-number-init c =
    let s = c.args.rows.now in
    subst (AreFirstBelow (program_of s) s.b.now.dec c.args.most 0) (sym c.new-cuts.ensures.items) (none_below (program_of s) s.b.now.dec c.args.most)

pub loop-number-preserved : goal.loop-number-preserved
loop-number-preserved c =
    let s = c.args.rows.now in
    let up : 2 * c.loop-number.number + 2 ≡ 2 * (c.loop-number.number + 1) = omega arith in
    subst (λ n. AreFirstBelow (program_of s) s.b.now.dec c.args.most n c.add_plain.new.cuts.items) up c.in_ok-add_plain.ensures

pub returns : goal.returns
returns c =
    let s = c.args.rows.now in
    let end : c.loop-number.number ≡ c.args.end = omega arith in
    subst (λ n. AreFirstBelow (program_of s) s.b.now.dec c.args.most (2 * n) c.loop-number.cuts.items) end c.loop-number.invariant
