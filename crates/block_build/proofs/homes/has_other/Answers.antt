-- One that differs is found, and where none is, none differs.
use Rattle.std.proofs.Common.{◌∙◌, ℕ, Some, get_or, ap, arith}
use Rattle.block_build.proofs.GatherLemmas.{same_more, any_default}
use Rattle.block_build.proofs.homes.has_other.Goals as goal

pub loop-i-preserved : goal.loop-i-preserved
loop-i-preserved c =
    let home : ℕ = get_or c.args.homes.now c.loop-i.i 0 in
    same_more c.args.homes.now c.args.list c.loop-i.i home c.loop-i-test.true (any_default c.args.homes.now c.loop-i.i 0 home c.loop-i-test.true) c.loop-i.invariant c.if-differs.ensures

pub returns-then-differs : goal.returns-then-differs
returns-then-differs c =
    (c.loop-i.i, c.loop-i-test.true, λ d e. c.if-differs.ensures (e ∙ ap Some (any_default c.args.homes.now c.loop-i.i d 0 c.loop-i-test.true)))

pub returns : goal.returns
returns c = λ other. other.2 0 (c.loop-i.invariant other.0 0 (omega (arith, other.1, c.loop-i-test.false)))
