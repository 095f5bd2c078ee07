use Rattle.std.proofs.Common.{Err, ap, refl, arith}
use Rattle.cert_format.specs.declared.fault.CertKind.TheVariants.{Syntax}
use Rattle.cert_parser.proofs.ReaderSteps.{zero_digit, digits_more}
use Rattle.cert_parser.proofs.WordSteps.{at_fault}
use Rattle.cert_parser.proofs.lines.Lines.more_digits.Goals as goal

pub returns-then-value-eq0-clause-steps : goal.returns-then-value-eq0-clause-steps
returns-then-value-eq0-clause-steps c =
    let r = c.args.self.now in
    λ above root cuts frame text small stands. at_fault above root cuts frame r text c.args.byte r.line Syntax (Err c.fault.result) (ap Err c.fault.ensures) (zero_digit above root cuts frame r text c.args.negative c.args.value c.args.byte r.line stands c.requires.part c.if-value-eq0.true c.requires.digit refl)

pub returns-clause-steps : goal.returns-clause-steps
returns-clause-steps c =
    let r = c.args.self.now in
    λ above root cuts frame text small stands. digits_more above root cuts frame r text c.args.negative c.args.value c.args.byte c.saturating_add.result stands c.requires.part (omega arith) c.requires.digit (omega arith)
