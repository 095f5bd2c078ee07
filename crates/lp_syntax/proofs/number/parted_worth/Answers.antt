use Rattle.std.proofs.Common.{◌∙◌, sym}
use Rattle.lp_syntax.proofs.NumberLemmas.{parted_shrunk, parted_fraction, parted_grown}
use Rattle.lp_syntax.proofs.number.parted_worth.Goals as goal

pub returns-then-has_minus : goal.returns-then-has_minus
returns-then-has_minus c = parted_shrunk c.args.mantissa.now c.args.exponent.now c.decimal_places-places.result c.capped_number-shift.result c.shifted_worth.result c.requires (sym c.has_minus.ensures ∙ c.if-has_minus.true) c.decimal_places-places.ensures c.capped_number-shift.ensures c.shifted_worth.ensures

pub returns-then-shift-places : goal.returns-then-shift-places
returns-then-shift-places c = parted_fraction c.args.mantissa.now c.args.exponent.now c.decimal_places-places.result c.capped_number-shift.result c.shifted_worth-then-shift-places.result c.requires (sym c.has_minus.ensures ∙ c.if-has_minus.false) c.decimal_places-places.ensures c.capped_number-shift.ensures c.if-shift-places.true c.shifted_worth-then-shift-places.ensures

pub returns-else-shift-places : goal.returns-else-shift-places
returns-else-shift-places c = parted_grown c.args.mantissa.now c.args.exponent.now c.decimal_places-places.result c.capped_number-shift.result c.capped_number.result c.with_zeros.result c.whole_worth.result c.requires (sym c.has_minus.ensures ∙ c.if-has_minus.false) c.decimal_places-places.ensures c.capped_number-shift.ensures c.if-shift-places.false c.capped_number.ensures c.with_zeros.ensures c.whole_worth.ensures
