use Rattle.std.proofs.Common.{Err, ap, refl, sym}
use Rattle.cert_format.specs.declared.fault.CertKind.TheVariants.{Syntax}
use Rattle.cert_parser.proofs.ReaderSteps.{deep_minus_digit, deep_minus_other, no_digit}
use Rattle.cert_parser.proofs.WordSteps.{at_fault}
use Rattle.cert_parser.proofs.lines.Lines.behind_deep_minus.Goals as goal

pub returns-then-digit-clause-steps : goal.returns-then-digit-clause-steps
returns-then-digit-clause-steps c =
    let r = c.args.self.now in
    λ above root cuts frame text small stands. at_fault above root cuts frame r text c.args.byte r.line c.deep_kind.result (Err c.fault.result) (ap Err c.fault.ensures)
    (deep_minus_digit above root cuts frame r text c.args.byte r.line c.deep_kind.result stands c.requires (sym c.if-digit.ensures) (c.deep_kind.ensures above root cuts stands.count) refl)

pub returns-clause-steps : goal.returns-clause-steps
returns-clause-steps c =
    let r = c.args.self.now in
    λ above root cuts frame text small stands. at_fault above root cuts frame r text c.args.byte r.line Syntax (Err c.fault-2.result) (ap Err c.fault-2.ensures)
    (deep_minus_other above root cuts frame r text c.args.byte r.line stands c.requires (no_digit c.args.byte (sym c.if-digit.ensures)) refl)
