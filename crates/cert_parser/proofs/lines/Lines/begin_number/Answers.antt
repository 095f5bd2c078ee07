use Rattle.std.proofs.Common.{Err, ap, ◌≡◌, ℕ, ◌-◌, [], ◌∷◌, ◌++◌, ℤ, pos, nat_abs, negsuc, refl, sym, ◌∙◌, subst}
use Rattle.cert_format.specs.Stages.{sort, IsOfSort}
use Rattle.cert_parser.specs.Readers.{stage_of}
use Rattle.cert_format.specs.declared.fault.CertKind.TheVariants.{Syntax}
use Rattle.cert_format.specs.declared.spots.Sort.{Sort}
use Rattle.cert_format.specs.declared.spots.Sort.TheVariants.{Natural}
use Rattle.cert_parser.specs.Standing.{StandsFor}
use Rattle.cert_parser.specs.declared.lines.Part.TheVariants.{Minus}
use Rattle.cert_parser.proofs.Bytes.{sort_is}
use Rattle.cert_parser.proofs.ReaderSteps.{digits_begun, minus_begun, syntax_between, shallow_dry, no_digit}
use Rattle.cert_parser.proofs.WordSteps.{at_fault, at_done}
use Rattle.cert_parser.proofs.lines.Lines.begin_number.Goals as goal

-- a number of a natural sort is not negative
natural_plain : (t : Sort) (z : ℤ) (m : ℕ) → t ≡ Natural → IsOfSort t z → z ≡ negsuc m → ⊥
natural_plain t z m is of_sort minus =
    let P : Sort → Type 0 = λ x. IsOfSort x z in
    let plain : z ≡ pos (nat_abs z) = subst P is of_sort in
    let wrong : negsuc m ≡ pos (nat_abs z) = sym minus ∙ plain in cc

pub returns-in-Wordy-clause-steps : goal.returns-in-Wordy-clause-steps
returns-in-Wordy-clause-steps c =
    let r = c.args.self.now in
    let frame = c.args.frame.now in
    λ above root cuts text number small between may none. at_fault above root cuts frame r text c.args.byte r.line Syntax (Err c.fault.result) (ap Err c.fault.ensures)
    (syntax_between above root cuts frame r number text c.args.byte r.line between may none
    (λ z of_sort. let P : Sort → Type 0 = λ t. IsOfSort t z in absurd (subst P (sort_is above root cuts r between.count r.spot ∙ sym c.in-Wordy.ensures) of_sort))
    (shallow_dry above root cuts frame r between.count c.args.byte (sym (c.if-awaits_deep.ensures above root cuts between.count between.counts.highs))) refl)

pub returns-then-digit-clause-steps : goal.returns-then-digit-clause-steps
returns-then-digit-clause-steps c =
    let r = c.args.self.now in
    let frame = c.args.frame.now in
    λ above root cuts text number small between may none.
    let P : Sort → Type 0 = λ t. IsOfSort t (pos (c.args.byte - 48)) in
    at_done above root cuts frame c.begin_digits.new.self _ text c.args.byte c.begin_digits.result c.begin_digits.ensures.done c.begin_digits.ensures.digits
    (digits_begun above root cuts frame r number text c.args.byte between (sym c.if-digit.ensures) (subst P (c.in-Natural.ensures ∙ sym (sort_is above root cuts r between.count r.spot)) refl) (sym (c.if-awaits_deep.ensures above root cuts between.count between.counts.highs)))

pub returns-else-digit-clause-steps : goal.returns-else-digit-clause-steps
returns-else-digit-clause-steps c =
    let r = c.args.self.now in
    let frame = c.args.frame.now in
    λ above root cuts text number small between may none. at_fault above root cuts frame r text c.args.byte r.line Syntax (Err c.fault-else-digit.result) (ap Err c.fault-else-digit.ensures)
    (syntax_between above root cuts frame r number text c.args.byte r.line between may none
    (λ z of_sort. (no_digit c.args.byte (sym c.if-digit.ensures), λ m minus. absurd (natural_plain (sort (stage_of above root cuts r between.count)) z m (sort_is above root cuts r between.count r.spot ∙ sym c.in-Natural.ensures) of_sort minus)))
    (shallow_dry above root cuts frame r between.count c.args.byte (sym (c.if-awaits_deep.ensures above root cuts between.count between.counts.highs))) refl)

pub returns-then-digit-2-clause-steps : goal.returns-then-digit-2-clause-steps
returns-then-digit-2-clause-steps c =
    let r = c.args.self.now in
    let frame = c.args.frame.now in
    λ above root cuts text number small between may none.
    let P : Sort → Type 0 = λ t. IsOfSort t (pos (c.args.byte - 48)) in
    at_done above root cuts frame c.begin_digits-then-digit-2.new.self _ text c.args.byte c.begin_digits-then-digit-2.result c.begin_digits-then-digit-2.ensures.done c.begin_digits-then-digit-2.ensures.digits
    (digits_begun above root cuts frame r number text c.args.byte between (sym c.if-digit-2.ensures) (subst P (c.in-Whole.ensures ∙ sym (sort_is above root cuts r between.count r.spot)) tt) (sym (c.if-awaits_deep.ensures above root cuts between.count between.counts.highs)))

pub returns-then-byte-eq45-clause-steps : goal.returns-then-byte-eq45-clause-steps
returns-then-byte-eq45-clause-steps c =
    let r = c.args.self.now in
    let frame = c.args.frame.now in
    λ above root cuts text number small between may none.
    let P : ℕ → Type 0 = λ b. StandsFor above root cuts frame (record r { part = Minus }) (text ++ b ∷ []) in
    subst P (sym c.if-byte-eq45.true) (minus_begun above root cuts frame r number text between (sort_is above root cuts r between.count r.spot ∙ sym c.in-Whole.ensures) (sym (c.if-awaits_deep.ensures above root cuts between.count between.counts.highs)))

pub returns-else-byte-eq45-clause-steps : goal.returns-else-byte-eq45-clause-steps
returns-else-byte-eq45-clause-steps c =
    let r = c.args.self.now in
    let frame = c.args.frame.now in
    λ above root cuts text number small between may none. at_fault above root cuts frame r text c.args.byte r.line Syntax (Err c.fault-else-byte-eq45.result) (ap Err c.fault-else-byte-eq45.ensures)
    (syntax_between above root cuts frame r number text c.args.byte r.line between may none
    (λ z of_sort. (no_digit c.args.byte (sym c.if-digit-2.ensures), λ m minus. c.if-byte-eq45.false))
    (shallow_dry above root cuts frame r between.count c.args.byte (sym (c.if-awaits_deep.ensures above root cuts between.count between.counts.highs))) refl)

pub returns-then-awaits_deep-clause-steps : goal.returns-then-awaits_deep-clause-steps
returns-then-awaits_deep-clause-steps c =
    λ above root cuts text number small between may none. c.begin_deep.ensures.steps above root cuts c.args.frame.now text number small between (sym (c.if-awaits_deep.ensures above root cuts between.count between.counts.highs)) may
