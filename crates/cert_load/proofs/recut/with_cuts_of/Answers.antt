use Rattle.std.proofs.Common.{◌∙◌, sym, subst}
use Rattle.block_program.specs.Cuts.{KeepsCuts}
use Rattle.cert_format.specs.Kept.{certificate_of}
use Rattle.round_cut.proofs.PlainCuts.{kept_over}
use Rattle.round_cut.proofs.SeveralLemmas.{kept_is_not_at_fault}
use Rattle.cert_load.proofs.CutPrograms.{is_with_cuts}
use Rattle.cert_load.proofs.Cutting.{kept_cuts}
use Rattle.cert_load.proofs.recut.with_cuts_of.Goals as goal

pub with_cuts-requires-clause-few : goal.with_cuts-requires-clause-few
with_cuts-requires-clause-few c =
    let b = c.args.b.now in
    (subst (KeepsCuts b.named.program b.dec) (sym c.cuts.ensures) (kept_cuts b (certificate_of c.args.cert.now) c.requires.goes_with c.requires.valid)).few

pub with_cuts-requires-clause-rules : goal.with_cuts-requires-clause-rules
with_cuts-requires-clause-rules c =
    let b = c.args.b.now in
    kept_over b.named.program b.dec c.cuts.result.now
    (subst (KeepsCuts b.named.program b.dec) (sym c.cuts.ensures) (kept_cuts b (certificate_of c.args.cert.now) c.requires.goes_with c.requires.valid))

pub returns-in-Ok : goal.returns-in-Ok
returns-in-Ok c =
    is_with_cuts c.args.b.now c.in-Ok.c (certificate_of c.args.cert.now).cuts c.in-Ok.ensures.formed c.in-Ok.ensures.model c.in-Ok.ensures.dec
    (c.in-Ok.ensures.cuts ∙ c.cuts.ensures)

pub unreachable-requires : goal.unreachable-requires
unreachable-requires c =
    let b = c.args.b.now in
    let kept = subst (KeepsCuts b.named.program b.dec) (sym c.cuts.ensures) (kept_cuts b (certificate_of c.args.cert.now) c.requires.goes_with c.requires.valid) in
    let none = kept_is_not_at_fault b.named.program b.dec c.cuts.result.now c.in-Err-Sign.field-0 kept c.in-Err-Sign.ensures.fault in
    let is = c.in-Err-Sign.field-0-is in
    absurd (cc)

pub unreachable-requires-in-Err-Large : goal.unreachable-requires-in-Err-Large
unreachable-requires-in-Err-Large c =
    let b = c.args.b.now in
    let kept = subst (KeepsCuts b.named.program b.dec) (sym c.cuts.ensures) (kept_cuts b (certificate_of c.args.cert.now) c.requires.goes_with c.requires.valid) in
    let none = kept_is_not_at_fault b.named.program b.dec c.cuts.result.now c.in-Err-Large.field-0 kept c.in-Err-Large.ensures.fault in
    let is = c.in-Err-Large.field-0-is in
    absurd (cc)
