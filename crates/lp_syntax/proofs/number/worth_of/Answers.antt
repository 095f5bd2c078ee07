use Rattle.std.proofs.Common.{◌∙◌, subst}
use Rattle.lp_token.specs.Lexeme.{exponent}
use Rattle.lp_syntax.specs.Number.{is_whole, whole_value, numerator, denominator, decimal_places, shrinks}
use Rattle.lp_syntax.specs.Worth.{IsParted}
use Rattle.lp_syntax.proofs.NumberLemmas.{worth_is_symbol}
use Rattle.lp_syntax.proofs.number.worth_of.Goals as goal

pub returns-clause-worth : goal.returns-clause-worth
unfolding is_whole whole_value numerator denominator decimal_places shrinks
returns-clause-worth c =
    subst (λ m. IsParted m (exponent c.args.bytes.now) c.parted_worth.result) (c.split_at.ensures.front ∙ c.exponent_start.ensures.mantissa)
    (subst (λ e. IsParted c.split_at.result.0.now e c.parted_worth.result) (c.split_at.ensures.back ∙ c.exponent_start.ensures.exponent) c.parted_worth.ensures)

pub returns-clause-symbol : goal.returns-clause-symbol
returns-clause-symbol c = λ in_bounds. worth_is_symbol in_bounds c.args.bytes.now c.parted_worth.result (returns-clause-worth c)
