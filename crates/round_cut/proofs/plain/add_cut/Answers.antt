use Rattle.std.proofs.Common.{◌+◌, ℕ, sym, subst, arith}
use Rattle.std.specs.Prelude.{ℤ}
use Rattle.cut_sums.specs.PlainSteps.{rank_of, AreFirstBelow, IsPlainOf}
use Rattle.cut_sums.specs.Rows.{program_of}
use Rattle.cut_sums.proofs.PlainLemmas.{full_below, none_of, one_more_below}
use Rattle.round_cut.proofs.plain.add_cut.Goals as goal

pub returns-then-len-most : goal.returns-then-len-most
returns-then-len-most c =
    let s = c.args.rows.now in
    let m : ℕ × ℤ = c.args.mult.now in
    full_below (program_of s) s.b.now.dec c.args.most (rank_of m) (rank_of m + 1) c.args.cuts.now.items c.requires.first (omega arith) (omega (arith, c.len.ensures))

pub returns-in-None : goal.returns-in-None
returns-in-None c =
    let s = c.args.rows.now in
    let p = program_of s in
    let d = s.b.now.dec in
    let m : ℕ × ℤ = c.args.mult.now in
    none_of p d c.args.most m c.args.cuts.now.items c.requires.unit c.requires.first (subst (IsPlainOf p d m) c.in-None.is c.in_ok-found.ensures)

pub returns-in_ok-push-in-Some : goal.returns-in_ok-push-in-Some
returns-in_ok-push-in-Some c =
    let s = c.args.rows.now in
    let p = program_of s in
    let d = s.b.now.dec in
    let m : ℕ × ℤ = c.args.mult.now in
    subst (AreFirstBelow p d c.args.most (rank_of m + 1)) (sym c.in_ok-push-in-Some.ensures.items)
    (one_more_below p d c.args.most m c.args.cuts.now.items c.in-Some.cut c.requires.unit c.requires.first (omega (arith, c.len.ensures))
    (subst (IsPlainOf p d m) c.in-Some.is c.in_ok-found.ensures))
