use Rattle.std.proofs.Common.{◌≡◌, ◌-◌, ◌∙◌, length, ap, arith}
use Rattle.lp_token.specs.Lexeme.{is_point}
use Rattle.lp_syntax.proofs.NumberLemmas.{places_at}
use Rattle.lp_syntax.proofs.number.decimal_places.Goals as goal

pub returns-then-mantissa-at-eq46 : goal.returns-then-mantissa-at-eq46
returns-then-mantissa-at-eq46 c = places_at c.args.mantissa.now c.loop-at.at c.loop-at.invariant.inside c.loop-at.invariant.none (λ l. ap is_point c.if-mantissa-at-eq46.true)

pub returns : goal.returns
returns c =
    let none : 0 ≡ length c.args.mantissa.now - c.loop-at.at - 1 = omega arith in
    none ∙ places_at c.args.mantissa.now c.loop-at.at c.loop-at.invariant.inside c.loop-at.invariant.none (λ l. absurd (omega arith))
