use Rattle.std.proofs.Common.{Err, ap, refl}
use Rattle.cert_format.specs.declared.fault.CertKind.TheVariants.{Syntax}
use Rattle.cert_parser.proofs.ReaderSteps.{fresh_between, cut_deep_minus}
use Rattle.cert_parser.proofs.Finishing.{cut_between, cut_word, cut_minus}
use Rattle.cert_parser.proofs.Finishing.{end_fault}
use Rattle.cert_parser.proofs.lines.Lines.end.Goals as goal

pub returns-in_default-clause-ends : goal.returns-in_default-clause-ends
returns-in_default-clause-ends c =
    let r = c.args.self.now in
    let frame = c.args.frame.now in
    λ above root cuts text stands. end_fault above root cuts frame r text r.line Syntax (Err c.fault.result) (ap Err c.fault.ensures) (cut_between above root cuts frame r _ text r.line (fresh_between above root cuts frame r text stands c.in-Fresh.is) c.in_default.not-Over refl)

pub returns-in-InWord-clause-ends : goal.returns-in-InWord-clause-ends
returns-in-InWord-clause-ends c =
    let r = c.args.self.now in
    λ above root cuts text stands. end_fault above root cuts c.args.frame.now r text r.line Syntax (Err c.fault-in-InWord.result) (ap Err c.fault-in-InWord.ensures) (cut_word above root cuts c.args.frame.now r text c.in-InWord.word c.in-InWord.done r.line stands c.in-InWord.is refl)

pub returns-in-Minus-clause-ends : goal.returns-in-Minus-clause-ends
returns-in-Minus-clause-ends c =
    let r = c.args.self.now in
    λ above root cuts text stands. end_fault above root cuts c.args.frame.now r text r.line Syntax (Err c.fault-in-Minus.result) (ap Err c.fault-in-Minus.ensures) (cut_minus above root cuts c.args.frame.now r text r.line stands c.in-Minus.is refl)

pub returns-in-DeepMinus-clause-ends : goal.returns-in-DeepMinus-clause-ends
returns-in-DeepMinus-clause-ends c =
    let r = c.args.self.now in
    λ above root cuts text stands. end_fault above root cuts c.args.frame.now r text r.line Syntax (Err c.fault-in-DeepMinus.result) (ap Err c.fault-in-DeepMinus.ensures) (cut_deep_minus above root cuts c.args.frame.now r text r.line stands c.in-DeepMinus.is refl)

pub returns-in-Digits-clause-ends : goal.returns-in-Digits-clause-ends
returns-in-Digits-clause-ends c =
    let r = c.args.self.now in
    λ above root cuts text stands. end_fault above root cuts c.args.frame.now r text r.line c.last_kind.result (Err c.fault-in-Digits.result) (ap Err c.fault-in-Digits.ensures) (c.last_kind.ensures above root cuts text stands)
