use Rattle.std.proofs.Common.{sym, ◌∙◌}
use Rattle.std.proofs.lemmas.Bool.{true≢false}
use Rattle.cert_line_check.proofs.Lines.{weak_fault, open_fault}
use Rattle.cert_line_check.proofs.leaf.priced_fault.Goals as goal

pub returns-then-not-shown-clause-fault : goal.returns-then-not-shown-clause-fault
returns-then-not-shown-clause-fault c =
    weak_fault c.args.b.now.named.program c.args.b.now.blocking c.args.claim.now c.args.zone.now c.args.proof.now c.args.is_open
    c.requires.signs (λ h. true≢false (sym ((c.in_ok-shown.ensures.shown c.args.is_open).1 h) ∙ c.if-not-shown.true))

pub returns-then-not-may_be_open-clause-fault : goal.returns-then-not-may_be_open-clause-fault
returns-then-not-may_be_open-clause-fault c =
    open_fault c.args.b.now.named.program c.args.b.now.blocking c.args.claim.now c.args.zone.now c.args.proof.now c.args.is_open
    c.requires.signs ((c.in_ok-shown.ensures.shown c.args.is_open).0 c.if-not-shown.false) c.if-is_open.true
    (λ h. true≢false (sym (c.if-not-may_be_open.ensures.1 h)))
