use Rattle.std.proofs.Common.{refl, sym, ap, ◌∙◌}
use Rattle.cert_format.specs.Spots.{picked_word}
use Rattle.cert_parser.proofs.WordSteps.{word_begun, no_word_begun, may_follow}
use Rattle.cert_parser.proofs.lines.Lines.begin.Goals as goal

pub returns-in-Some-clause-steps : goal.returns-in-Some-clause-steps
returns-in-Some-clause-steps c =
    λ above root cuts text number small between apart.
    let begun = word_begun above root cuts c.args.frame.now c.args.self.now number text _ c.args.byte c.in-Some.word between small refl (sym (ap (picked_word c.args.byte) c.words_at.ensures) ∙ sym c.in-Some.ensures) apart in
    c.go_on.ensures.steps above root cuts text small (λ none. begun.1) begun.0

pub returns-in-None-clause-steps : goal.returns-in-None-clause-steps
returns-in-None-clause-steps c =
    λ above root cuts text number small between apart.
    c.begin_number.ensures.steps above root cuts text number small between (may_follow number c.args.byte apart)
    (no_word_begun above root cuts c.args.frame.now c.args.self.now number text _ c.args.byte between small refl (sym (ap (picked_word c.args.byte) c.words_at.ensures) ∙ sym c.in-None.ensures))
