use Rattle.std.proofs.Common.{true, false, sym, arith}
use Rattle.std.proofs.lemmas.Bool.{true≢false}
use Rattle.cert_parser.proofs.ReaderSteps.{fresh_between}
use Rattle.cert_parser.proofs.WordSteps.{within_word, within_some, number_stops}
use Rattle.cert_parser.proofs.Telling.{told_behind}
use Rattle.cert_parser.proofs.lines.Lines.step.Goals as goal

pub returns-in-Fresh-clause-steps : goal.returns-in-Fresh-clause-steps
returns-in-Fresh-clause-steps c = λ above root cuts text small stands. c.begin.ensures.steps above root cuts text false small (fresh_between above root cuts c.args.frame.now c.args.self.now text stands c.in-Fresh.is) (λ e. absurd (true≢false (sym e)))

pub returns-in-InWord-clause-steps : goal.returns-in-InWord-clause-steps
returns-in-InWord-clause-steps c =
    λ above root cuts text small stands.
    let some = within_some above root cuts c.args.frame.now c.args.self.now text c.in-InWord.word c.in-InWord.done stands c.in-InWord.is in
    c.go_on.ensures.steps above root cuts text small (λ none. absurd (omega arith)) (within_word above root cuts c.args.frame.now c.args.self.now text c.in-InWord.word c.in-InWord.done stands c.in-InWord.is)

pub returns-in-Minus-clause-steps : goal.returns-in-Minus-clause-steps
returns-in-Minus-clause-steps c = λ above root cuts text small stands. c.behind_minus.ensures.steps above root cuts c.args.frame.now text small stands

pub returns-in-DeepMinus-clause-steps : goal.returns-in-DeepMinus-clause-steps
returns-in-DeepMinus-clause-steps c = λ above root cuts text small stands. c.behind_deep_minus.ensures.steps above root cuts c.args.frame.now text small stands

pub returns-then-digit-clause-steps : goal.returns-then-digit-clause-steps
returns-then-digit-clause-steps c = λ above root cuts text small stands. c.more_digits.ensures.steps above root cuts c.args.frame.now text small stands

pub returns-in-Err-clause-steps : goal.returns-in-Err-clause-steps
returns-in-Err-clause-steps c =
    λ above root cuts text small stands. number_stops above root cuts c.args.frame.now c.end_number.new.self text c.args.byte c.in-Err.fault (c.in-Err.ensures.behind above root cuts text c.args.byte small stands (sym c.if-digit.ensures))

pub returns-in-Ok-clause-steps : goal.returns-in-Ok-clause-steps
returns-in-Ok-clause-steps c =
    λ above root cuts text small stands. c.begin-in-Ok.ensures.steps above root cuts text true small (c.in-Ok.ensures.behind above root cuts text c.args.byte small stands (sym c.if-digit.ensures)) (λ _. sym c.if-digit.ensures)

pub returns-in-Ok-clause-told : goal.returns-in-Ok-clause-told
returns-in-Ok-clause-told c = told_behind c.args.frame.now.limits c.args.self.now c.end_number.new.self c.begin-in-Ok.new.self c.begin-in-Ok.result c.in-Ok.ensures.stays c.begin-in-Ok.ensures.told
