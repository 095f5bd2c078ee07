use Rattle.round_cut.proofs.PlainCuts.{kept_over}
use Rattle.round_cut.proofs.SeveralLemmas.{kept_is_not_at_fault}
use Rattle.cert_load.proofs.CutPrograms.{is_with_cuts}
use Rattle.search_start.proofs.cuts.with_kept.Goals as goal

pub with_cuts-requires-clause-few : goal.with_cuts-requires-clause-few
with_cuts-requires-clause-few c = c.requires.few

pub with_cuts-requires-clause-rules : goal.with_cuts-requires-clause-rules
with_cuts-requires-clause-rules c = kept_over c.args.b.now.named.program c.args.b.now.dec c.args.cuts.now c.requires

pub returns-in-Ok : goal.returns-in-Ok
returns-in-Ok c =
    is_with_cuts c.args.b.now c.in-Ok.c c.args.cuts.now c.in-Ok.ensures.formed c.in-Ok.ensures.model c.in-Ok.ensures.dec c.in-Ok.ensures.cuts

pub unreachable-requires : goal.unreachable-requires
unreachable-requires c =
    let none = kept_is_not_at_fault c.args.b.now.named.program c.args.b.now.dec c.args.cuts.now c.in-Err-Sign.field-0 c.requires c.in-Err-Sign.ensures.fault in
    let is = c.in-Err-Sign.field-0-is in
    absurd (cc)

pub unreachable-requires-in-Err-Large : goal.unreachable-requires-in-Err-Large
unreachable-requires-in-Err-Large c =
    let none = kept_is_not_at_fault c.args.b.now.named.program c.args.b.now.dec c.args.cuts.now c.in-Err-Large.field-0 c.requires c.in-Err-Large.ensures.fault in
    let is = c.in-Err-Large.field-0-is in
    absurd (cc)
