-- Mixed-integer rounding cuts in whole numbers (Nemhauser and Wolsey, A recursive procedure to generate all cuts for
-- 0-1 mixed integer programs, 1990; Marchand and Wolsey, Aggregation and mixed integer rounding to solve MIPs, 2001).
use Rattle.std.specs.Prelude.{◌≡◌, ℕ, ◌*◌, ◌<◌, ◌≤◌, sum_by, Bool, List, length, Option, Some, None, ℤ, pos, negsuc, neg_ℤ, ◌+ℤ◌, ◌-ℤ◌, ◌*ℤ◌, ◌==◌, if◌then◌else◌, slice_index_or, unsigned_abs, All}
use Rattle.std.specs.List.{range_with_len, list_any}
use Rattle.std.specs.Int.{int_min, int_div_euclid, int_rem_euclid}
use Rattle.bp_theory.specs.Sums.{sum_of}
use Rattle.bp_theory.specs.Program.{Program, span_at, activity_limit}
use Rattle.bp_theory.specs.Decomposition.{ProofRow, whole_row, link_row, no_row}
use Rattle.bp_theory.specs.Cuts.{row_coefficient, terms_of}
use Rattle.bp_theory.specs.declared.Sense.{Sense}
use Rattle.bp_theory.specs.declared.Sense.TheVariants.{Le, Ge, Eq, In}
use Rattle.bp_theory.specs.declared.Row.{Row}
use Rattle.stronger_laws.specs.declared.MirCut.{MirCut}

-- the rounding function of a divisor and a remainder: remainder times quotient, and the rest, at most the remainder
abbrev pub mir_function : (divisor remainder : ℕ) → ℤ → ℤ
mir_function d r a = pos r *ℤ int_div_euclid a (pos d) +ℤ int_min (int_rem_euclid a (pos d)) (pos r)

-- ---- slacks of rows

-- the side that a row's slack is measured from, for a multiplier: the upper at `Le`, the lower at `Ge`, and between two
-- sides the one that the multiplier's sign fits
abbrev pub slack_side : Sense → (low rhs u : ℤ) → ℤ
slack_side Le low rhs u = rhs
slack_side Ge low rhs u = low
slack_side Eq low rhs u = low
slack_side In low rhs (pos n) = low
slack_side In low rhs (negsuc n) = rhs

-- the multiplier of a row by which its rounded slack is put back: below an upper side the slack has the multiplier for
-- coefficient and is the side less the row, above a lower side it has the multiplier's negative and is the row less the
-- side, and an equation has none
abbrev pub put_back : (divisor remainder : ℕ) → Sense → ℤ → ℤ
put_back d r Le u = neg_ℤ (mir_function d r u)
put_back d r Ge u = mir_function d r (neg_ℤ u)
put_back d r Eq u = pos 0
put_back d r In (pos n) = mir_function d r (neg_ℤ (pos n))
put_back d r In (negsuc n) = neg_ℤ (mir_function d r (negsuc n))

-- an equation has one side
abbrev pub HasOneSide : Sense → (low rhs : ℤ) → Type 0
HasOneSide Le low rhs = Unit {0}
HasOneSide Ge low rhs = Unit {0}
HasOneSide Eq low rhs = low ≡ rhs
HasOneSide In low rhs = Unit {0}

-- a cut combines rows of the program and earlier cuts, by multipliers of any sign
abbrev pub IsCombinable : ProofRow → Type 0
IsCombinable (whole_row row) = HasOneSide row.sense row.low row.rhs
IsCombinable (link_row v k) = ⊥
IsCombinable no_row = ⊥

-- the side of a row for a multiplier, and the multiplier that puts its slack back
abbrev pub named_side : ProofRow → ℤ → ℤ
named_side (whole_row row) u = slack_side row.sense row.low row.rhs u
named_side (link_row v k) u = pos 0
named_side no_row u = pos 0

abbrev pub named_put_back : (divisor remainder : ℕ) → ProofRow → ℤ → ℤ
named_put_back d r (whole_row row) u = put_back d r row.sense u
named_put_back d r (link_row v k) u = pos 0
named_put_back d r no_row u = pos 0

-- ---- sums of rows

-- the row of a multiplier
abbrev pub row_of : List ProofRow → ℕ × ℤ → ProofRow
row_of rows m = slice_index_or rows m.0 no_row

-- the coefficient of a variable in the rows together, each times its weight
abbrev pub weighted_coefficient : List ProofRow → (ℕ × ℤ → ℤ) → List (ℕ × ℤ) → ℕ → ℤ
weighted_coefficient rows weight ms v = sum_of (λ m. weight m *ℤ row_coefficient (row_of rows m) v) ms

-- the sides of the rows together, each times its weight
abbrev pub weighted_side : List ProofRow → (ℕ × ℤ → ℤ) → List (ℕ × ℤ) → ℤ
weighted_side rows weight ms = sum_of (λ m. weight m *ℤ named_side (row_of rows m) m.1) ms

-- the coefficient of a variable in the sum of the rows, each times its multiplier
abbrev pub summed : List ProofRow → MirCut → ℕ → ℤ
summed rows cut v = weighted_coefficient rows (λ m. m.1) cut.rows v

-- whether a variable is measured from its upper end
abbrev pub is_upper : MirCut → ℕ → Bool
is_upper cut v = list_any (λ u. u == v) cut.upper

-- the end that a variable is measured from
abbrev pub end_of : Program → MirCut → ℕ → ℤ
end_of p cut v = if is_upper cut v then (span_at p.spans v).hi else (span_at p.spans v).lo

-- a weighted sum of these ends
abbrev pub at_ends : Program → MirCut → (ℕ → ℤ) → ℤ
at_ends p cut f = sum_of (λ v. f v *ℤ end_of p cut v) (range_with_len 0 (length p.spans))

-- the side of the sum, where variables are measured from their ends
abbrev pub summed_side : Program → List ProofRow → MirCut → ℤ
summed_side p rows cut = weighted_side rows (λ m. m.1) cut.rows -ℤ at_ends p cut (summed rows cut)

-- the remainder of that side by the divisor
abbrev pub full_remainder : Program → List ProofRow → MirCut → ℕ
full_remainder p rows cut = unsigned_abs (int_rem_euclid (summed_side p rows cut) (pos cut.divisor))

-- a remainder where it is lowered, else the full one
abbrev pub lowered_to : Option ℕ → ℕ → ℕ
lowered_to None full = full
lowered_to (Some r) full = r

-- the remainder that a cut rounds by
abbrev pub remainder_of : Program → List ProofRow → MirCut → ℕ
remainder_of p rows cut = lowered_to cut.lowered (full_remainder p rows cut)

-- ---- the row of a cut

-- a coefficient, rounded in the measure of its variable
abbrev pub rounded_by : (divisor remainder : ℕ) → (upper : Bool) → ℤ → ℤ
rounded_by d r upper a = if upper then neg_ℤ (mir_function d r (neg_ℤ a)) else mir_function d r a

-- the rounded coefficient of a variable, before slacks are put back
abbrev pub rounded_coefficient : Program → List ProofRow → MirCut → ℕ → ℤ
rounded_coefficient p rows cut v = rounded_by cut.divisor (remainder_of p rows cut) (is_upper cut v) (summed rows cut v)

-- the multiplier that puts the slack of a row back
abbrev pub slack_weight : Program → List ProofRow → MirCut → ℕ × ℤ → ℤ
slack_weight p rows cut m = named_put_back cut.divisor (remainder_of p rows cut) (row_of rows m) m.1

-- the coefficient of a variable in the cut's row
abbrev pub mir_coefficient : Program → List ProofRow → MirCut → ℕ → ℤ
mir_coefficient p rows cut v =
    rounded_coefficient p rows cut v +ℤ weighted_coefficient rows (slack_weight p rows cut) cut.rows v

-- the lower side of the cut's row
abbrev pub mir_low : Program → List ProofRow → MirCut → ℤ
mir_low p rows cut =
    mir_function cut.divisor (remainder_of p rows cut) (summed_side p rows cut)
    +ℤ at_ends p cut (rounded_coefficient p rows cut)
    +ℤ weighted_side rows (slack_weight p rows cut) cut.rows

-- the row of a cut
abbrev pub mir_row : Program → List ProofRow → MirCut → Row
mir_row p rows cut = record {
  sense = Ge;
  low = mir_low p rows cut;
  rhs = mir_low p rows cut;
  terms = terms_of p (mir_coefficient p rows cut);
}

-- a lowered remainder is below the full one
abbrev pub IsLowered : Option ℕ → ℕ → Type 0
IsLowered None full = Unit {0}
IsLowered (Some r) full = r < full

-- a cut over rows that may be combined, with a divisor of 2 at least and a remainder of 1 at least
pub record IsFittingMir (p : Program) (rows : List ProofRow) (cut : MirCut) : Type 0 where
  pub divides : 2 ≤ cut.divisor
  pub combines : All (λ m. IsCombinable (row_of rows m)) cut.rows
  pub positive : 0 < remainder_of p rows cut
  pub lowered : IsLowered cut.lowered (full_remainder p rows cut)

-- the greatest size of a row's sides together with that of its sums
abbrev pub named_limit : Program → ProofRow → ℕ
named_limit p (whole_row row) = activity_limit p row
named_limit p (link_row v k) = 0
named_limit p no_row = 0

-- the same of a combination of rows
abbrev pub combination_limit : Program → List ProofRow → List (ℕ × ℤ) → ℕ
combination_limit p rows ms = sum_by (λ m. unsigned_abs m.1 * named_limit p (row_of rows m)) ms
