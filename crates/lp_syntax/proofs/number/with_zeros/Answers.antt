use Rattle.std.proofs.Common.{◌≡◌, ◌∙◌, arith}
use Rattle.std.specs.Prelude.{min}
use Rattle.lp_syntax.proofs.NumberLemmas.{zeros_step, zeros_whole}
use Rattle.lp_syntax.proofs.number.with_zeros.Goals as goal

pub loop-zero-preserved : goal.loop-zero-preserved
loop-zero-preserved c = zeros_step c.args.value c.loop-zero._zero c.loop-zero.grown c.min-grown.result c.loop-zero.invariant c.min-grown.ensures

pub returns : goal.returns
returns c =
    let end : c.loop-zero._zero ≡ min c.args.zeros 21 = omega arith in
    c.loop-zero.invariant ∙ zeros_whole c.args.value c.args.zeros c.loop-zero._zero end
