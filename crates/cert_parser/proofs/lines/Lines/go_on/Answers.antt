use Rattle.std.proofs.Common.{Err, ◌≡◌, ℕ, List, length, refl, ap, subst, arith, get_or}
use Rattle.cert_format.specs.declared.fault.CertKind.TheVariants.{Syntax}
use Rattle.cert_parser.proofs.WordSteps.{at_fault, syntax_word, word_goes_on}
use Rattle.cert_parser.proofs.lines.Lines.go_on.Goals as goal

pub returns-then-bytes-done-clause-steps : goal.returns-then-bytes-done-clause-steps
returns-then-bytes-done-clause-steps c =
    let r = c.args.self.now in
    let frame = c.args.frame.now in
    let P : List ℕ → Type 0 = λ bs. get_or bs c.args.done 0 ≡ c.args.byte → ⊥ in
    λ above root cuts text small begun at. at_fault above root cuts frame r text c.args.byte r.line Syntax (Err c.fault-then-bytes-done.result) (ap Err c.fault-then-bytes-done.ensures)
    (syntax_word above root cuts frame r c.args.word c.args.done c.args.byte r.line text at (subst P c.bytes_of-bytes.ensures c.if-bytes-done.true) begun refl)

pub returns-then-done-bytes-clause-steps : goal.returns-then-done-bytes-clause-steps
returns-then-done-bytes-clause-steps c = λ above root cuts text small begun at. absurd (omega (arith, at.part.within, ap length c.bytes_of-bytes.ensures))

pub returns-then-done-bytes-2-clause-steps : goal.returns-then-done-bytes-2-clause-steps
returns-then-done-bytes-2-clause-steps c =
    let P : List ℕ → Type 0 = λ bs. get_or bs c.args.done 0 ≡ c.args.byte in
    λ above root cuts text small begun at. word_goes_on above root cuts c.args.frame.now c.args.self.now c.args.word c.args.done c.args.byte text at (subst P c.bytes_of-bytes.ensures c.if-bytes-done.false) (omega (arith, ap length c.bytes_of-bytes.ensures))

pub returns-clause-steps : goal.returns-clause-steps
returns-clause-steps c =
    let P : List ℕ → Type 0 = λ bs. get_or bs c.args.done 0 ≡ c.args.byte in
    λ above root cuts text small begun at. c.end_word.ensures.steps above root cuts text c.args.byte c.args.done small at (subst P c.bytes_of-bytes.ensures c.if-bytes-done.false) (omega (arith, at.part.within, ap length c.bytes_of-bytes.ensures))
