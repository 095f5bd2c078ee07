use Rattle.std.proofs.Common.{Err, ◌∙◌, ap, sym, subst}
use Rattle.bp_theory.specs.Claims.{IsCertified}
use Rattle.block_program.specs.Blocked.{BlockedProgram}
use Rattle.cert_text.specs.Programs.{GoesWith}
use Rattle.cert_load.proofs.CutPrograms.{goes_along}
use Rattle.bp_report.specs.Refusals.{from_refusal}
use Rattle.cert_load.specs.Loadings.{LoadsCert}
use Rattle.cert_format.specs.Kept.{certificate_of}
use Rattle.search_start.proofs.Beginning.{start_deep}
use Rattle.search_start.proofs.start.loaded_start.Goals as goal

pub load-requires-clause-cuts : goal.load-requires-clause-cuts
load-requires-clause-cuts c = ap (λ (x : BlockedProgram). x.cuts) c.in_ok-cut.ensures

pub load-requires-clause-goes_with : goal.load-requires-clause-goes_with
load-requires-clause-goes_with c =
    subst (λ (x : BlockedProgram). GoesWith x (certificate_of c.args.cert.now)) (sym c.in_ok-cut.ensures)
    (goes_along c.args.b.now (certificate_of c.args.cert.now).cuts (certificate_of c.args.cert.now) c.requires.goes_with)

pub load-requires-clause-valid : goal.load-requires-clause-valid
load-requires-clause-valid c =
    subst (λ (x : BlockedProgram). IsCertified x.named.program x.dec (certificate_of c.args.cert.now)) (sym c.in_ok-cut.ensures) c.requires.valid

pub returns-in-Err-Deep-clause-start : goal.returns-in-Err-Deep-clause-start
returns-in-Err-Deep-clause-start c = λ text spelled.
    let deep : LoadsCert c.in_ok-cut.cut (certificate_of c.args.cert.now) (Err c.in-Err-Deep.field-0) = c.in-Err-Deep.ensures in
    start_deep c.args.b.now c.in_ok-cut.cut c.args.leaf c.args.cert.now c.in-Err-Deep.line _ text c.in_ok-cut.ensures c.requires.valid (rw c.in-Err-Deep.field-0-is at deep) (c.in_ok-from_text-in-Err-Deep.ensures ∙ ap from_refusal c.in-Err-Deep.line-is) spelled
