-- The numbers of variables that can help a row: those that can't stay at an end.
use Rattle.std.specs.Prelude.{int_lt, zero, suc, List, [], ◌∷◌, ℤ, pos, negsuc, if◌then◌else◌}
use Rattle.bp_theory.specs.declared.Span.{Span}
use Rattle.bp_theory.specs.declared.Sense.{Sense}
use Rattle.bp_theory.specs.declared.Sense.TheVariants.{Le, Ge, Eq, In}

-- the lower end of a span alone
abbrev pub lower_end : Span → Span
lower_end s = record { lo = s.lo; hi = s.lo }

-- the upper end of a span alone
abbrev pub upper_end : Span → Span
upper_end s = record { lo = s.hi; hi = s.hi }

-- where a row has only an upper side: the lower end of a variable that adds to the sum and doesn't lower the cost,
-- the upper end of one that takes from the sum and doesn't raise the cost, else the whole span
abbrev pub span_at_most : (coef : ℤ) → Span → (cost : ℤ) → Span
span_at_most (pos zero) s r = s
span_at_most (pos (suc n)) s r = if int_lt r (pos 0) then s else lower_end s
span_at_most (negsuc n) s r = if int_lt (pos 0) r then s else upper_end s

-- where a row has only a lower side: the upper end of a variable that adds to the sum and doesn't raise the cost,
-- the lower end of one that takes from the sum and doesn't lower the cost, else the whole span
abbrev pub span_at_least : (coef : ℤ) → Span → (cost : ℤ) → Span
span_at_least (pos zero) s r = s
span_at_least (pos (suc n)) s r = if int_lt (pos 0) r then s else upper_end s
span_at_least (negsuc n) s r = if int_lt r (pos 0) then s else lower_end s

-- by the sense of a row; where it has both sides each number can help
abbrev pub narrowed_span : Sense → (coef : ℤ) → Span → (cost : ℤ) → Span
narrowed_span Le a s r = span_at_most a s r
narrowed_span Ge a s r = span_at_least a s r
narrowed_span Eq a s r = s
narrowed_span In a s r = s

-- the narrowed spans of a zone
abbrev pub narrowed : Sense → (coefs : List ℤ) → List Span → (costs : List ℤ) → List Span
narrowed sense [] ss rs = []
narrowed sense (a ∷ as') [] rs = []
narrowed sense (a ∷ as') (s ∷ ss) [] = []
narrowed sense (a ∷ as') (s ∷ ss) (r ∷ rs) = narrowed_span sense a s r ∷ narrowed sense as' ss rs
