use Rattle.std.proofs.Common.{Err, ap, refl, sym, arith}
use Rattle.cert_format.specs.declared.fault.CertKind.TheVariants.{Syntax}
use Rattle.cert_parser.proofs.ReaderSteps.{digit_behind_minus, syntax_minus, no_digit}
use Rattle.cert_parser.proofs.WordSteps.{at_fault, at_done}
use Rattle.cert_parser.proofs.lines.Lines.behind_minus.Goals as goal

pub returns-then-byte-eq48-clause-steps : goal.returns-then-byte-eq48-clause-steps
returns-then-byte-eq48-clause-steps c =
    let r = c.args.self.now in
    λ above root cuts frame text small stands. at_fault above root cuts frame r text c.args.byte r.line Syntax (Err c.fault.result) (ap Err c.fault.ensures) (syntax_minus above root cuts frame r text c.args.byte r.line stands c.requires (λ low high. omega (arith, c.if-byte-eq48.true)) refl)

pub returns-then-digit-clause-steps : goal.returns-then-digit-clause-steps
returns-then-digit-clause-steps c =
    let r = c.args.self.now in
    λ above root cuts frame text small stands. at_done above root cuts frame c.begin_digits.new.self _ text c.args.byte c.begin_digits.result c.begin_digits.ensures.done c.begin_digits.ensures.digits (digit_behind_minus above root cuts frame r text c.args.byte stands c.requires (sym c.if-digit.ensures) c.if-byte-eq48.false)

pub returns-clause-steps : goal.returns-clause-steps
returns-clause-steps c =
    let r = c.args.self.now in
    λ above root cuts frame text small stands. at_fault above root cuts frame r text c.args.byte r.line Syntax (Err c.fault-2.result) (ap Err c.fault-2.ensures) (syntax_minus above root cuts frame r text c.args.byte r.line stands c.requires (λ low high. no_digit c.args.byte (sym c.if-digit.ensures) (omega arith) high) refl)
