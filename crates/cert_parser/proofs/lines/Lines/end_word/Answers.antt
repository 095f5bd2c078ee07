use Rattle.std.proofs.Common.{Err, ap, refl, sym}
use Rattle.cert_format.specs.declared.fault.CertKind.TheVariants.{Length}
use Rattle.cert_parser.specs.Readers.{waits_after, root_after, cuts_after}
use Rattle.cert_parser.specs.declared.lines.Part.TheVariants.{Fresh}
use Rattle.cert_parser.proofs.WordSteps.{at_fault, end_at_fault, line_ends_well, other_ends_well}
use Rattle.cert_parser.proofs.Telling.{told_as}
use Rattle.cert_parser.proofs.lines.Lines.end_word.Goals as goal

pub returns-then-is_faulty_end-clause-steps : goal.returns-then-is_faulty_end-clause-steps
returns-then-is_faulty_end-clause-steps c =
    let r = c.args.self.now in
    let frame = c.args.frame.now in
    λ above root cuts text byte count small at is last. at_fault above root cuts frame r text byte r.line Length (Err c.fault.result) (ap Err c.fault.ensures) (end_at_fault above root cuts frame r c.args.word count byte r.line text Length at (c.if-is_faulty_end.ensures above root cuts at.count) is last refl)

pub returns-then-ends_line-clause-steps : goal.returns-then-ends_line-clause-steps
returns-then-ends_line-clause-steps c =
    λ above root cuts text byte count small at is last. line_ends_well above (waits_after above c.in-Ok.event) root (root_after above root c.in-Ok.event) cuts (cuts_after cuts c.in-Ok.event) c.args.frame.now c.args.self.now c.after_word.new.self c.args.word count byte _ text at small (c.if-is_faulty_end.ensures above root cuts at.count)
    (λ n. c.in-Ok.ensures.place above root cuts n at.counts.highs) (c.in-Ok.ensures.highs above cuts at.counts.highs) c.in-Ok.ensures.keeps is last (sym c.if-ends_line.ensures) c.saturating_add-self.ensures

pub returns-else-ends_line-clause-steps : goal.returns-else-ends_line-clause-steps
returns-else-ends_line-clause-steps c =
    λ above root cuts text byte count small at is last. other_ends_well above (waits_after above c.in-Ok.event) root (root_after above root c.in-Ok.event) cuts (cuts_after cuts c.in-Ok.event) c.args.frame.now c.args.self.now c.after_word.new.self c.args.word count byte text at (c.if-is_faulty_end.ensures above root cuts at.count)
    (λ n. c.in-Ok.ensures.place above root cuts n at.counts.highs) (c.in-Ok.ensures.highs above cuts at.counts.highs) c.in-Ok.ensures.keeps is last (sym c.if-ends_line.ensures)

pub returns-then-ends_line-clause-told : goal.returns-then-ends_line-clause-told
returns-then-ends_line-clause-told c = told_as c.args.frame.now.limits c.args.self.now c.after_word.new.self Fresh _ c.in-Ok.event (c.in-Ok.ensures.told c.args.frame.now.limits)

pub returns-else-ends_line-clause-told : goal.returns-else-ends_line-clause-told
returns-else-ends_line-clause-told c = told_as c.args.frame.now.limits c.args.self.now c.after_word.new.self Fresh _ c.in-Ok.event (c.in-Ok.ensures.told c.args.frame.now.limits)
