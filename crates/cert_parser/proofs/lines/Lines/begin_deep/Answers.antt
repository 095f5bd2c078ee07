use Rattle.std.proofs.Common.{Err, ap, ℕ, [], ◌∷◌, ◌++◌, refl, sym, subst}
use Rattle.cert_format.specs.declared.fault.CertKind.TheVariants.{Syntax}
use Rattle.cert_parser.specs.declared.lines.Part.TheVariants.{DeepMinus}
use Rattle.cert_parser.specs.Standing.{StandsFor}
use Rattle.cert_parser.proofs.ReaderSteps.{deep_digit, deep_minus_begun, deep_other, no_digit}
use Rattle.cert_parser.proofs.WordSteps.{at_fault}
use Rattle.cert_parser.proofs.lines.Lines.begin_deep.Goals as goal

pub returns-then-digit-clause-steps : goal.returns-then-digit-clause-steps
returns-then-digit-clause-steps c =
    let r = c.args.self.now in
    λ above root cuts frame text number small between is may. at_fault above root cuts frame r text c.args.byte r.line c.deep_kind.result (Err c.fault.result) (ap Err c.fault.ensures)
    (deep_digit above root cuts frame r number text c.args.byte r.line c.deep_kind.result between is (sym c.if-digit.ensures) (c.deep_kind.ensures above root cuts between.count) refl)

pub returns-then-byte-eq45-clause-steps : goal.returns-then-byte-eq45-clause-steps
returns-then-byte-eq45-clause-steps c =
    let r = c.args.self.now in
    λ above root cuts frame text number small between is may.
    let P : ℕ → Type 0 = λ b. StandsFor above root cuts frame (record r { part = DeepMinus }) (text ++ b ∷ []) in
    subst P (sym c.if-byte-eq45.true) (deep_minus_begun above root cuts frame r number text between is)

pub returns-clause-steps : goal.returns-clause-steps
returns-clause-steps c =
    let r = c.args.self.now in
    λ above root cuts frame text number small between is may. at_fault above root cuts frame r text c.args.byte r.line Syntax (Err c.fault-2.result) (ap Err c.fault-2.ensures)
    (deep_other above root cuts frame r number text c.args.byte r.line between is may (no_digit c.args.byte (sym c.if-digit.ensures)) c.if-byte-eq45.false refl)
