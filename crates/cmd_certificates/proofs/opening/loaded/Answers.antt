use Rattle.std.proofs.Common.{Err, sym, ap, subst}
use Rattle.bp_theory.specs.Claims.{IsCertified}
use Rattle.block_program.specs.Blocked.{BlockedProgram}
use Rattle.cert_load.proofs.CutPrograms.{goes_along}
use Rattle.cert_text.specs.Programs.{GoesWith}
use Rattle.cert_load.specs.Loadings.{LoadsCert}
use Rattle.cert_format.specs.Kept.{certificate_of}
use Rattle.cmd_certificates.proofs.OpenProof.{cert_deep}
use Rattle.cmd_certificates.proofs.opening.loaded.Goals as goal

pub load-requires-clause-cuts : goal.load-requires-clause-cuts
load-requires-clause-cuts c = ap (λ (x : BlockedProgram). x.cuts) c.in_ok-program.ensures

pub load-requires-clause-goes_with : goal.load-requires-clause-goes_with
load-requires-clause-goes_with c =
    subst (λ (x : BlockedProgram). GoesWith x (certificate_of c.args.cert.now)) (sym c.in_ok-program.ensures)
    (goes_along c.args.b.now (certificate_of c.args.cert.now).cuts (certificate_of c.args.cert.now) c.requires.goes_with)

pub load-requires-clause-valid : goal.load-requires-clause-valid
load-requires-clause-valid c =
    subst (λ (x : BlockedProgram). IsCertified x.named.program x.dec (certificate_of c.args.cert.now)) (sym c.in_ok-program.ensures) c.requires.valid

pub returns-in-Err-Deep-clause-stopped : goal.returns-in-Err-Deep-clause-stopped
returns-in-Err-Deep-clause-stopped c = λ text spelled.
    let deep : LoadsCert c.in_ok-program.program (certificate_of c.args.cert.now) (Err c.in-Err-Deep.field-0) = c.in-Err-Deep.ensures in
    cert_deep c.args.b.now c.in_ok-program.program c.args.cert.now c.in-Err-Deep.line _ text c.in_ok-program.ensures c.requires.valid (rw c.in-Err-Deep.field-0-is at deep) c.in_ok-from_text-in-Err-Deep.ensures spelled
