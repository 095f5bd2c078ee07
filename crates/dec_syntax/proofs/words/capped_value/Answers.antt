use Rattle.std.proofs.Common.{◌+◌, ◌-◌, ◌*◌, ℕ, arith}
use Rattle.std.proofs.lemmas.List.Sums.{fold_more}
use Rattle.dec_syntax.proofs.words.capped_value.Goals as goal

pub loop-digit-preserved : goal.loop-digit-preserved
loop-digit-preserved c =
    let f : ℕ → ℕ → ℕ = λ v d. 10 * v + (d - 48) in
    omega (arith, fold_more f 0 c.args.digits.now c.loop-digit.digit-index 0 (omega arith))
