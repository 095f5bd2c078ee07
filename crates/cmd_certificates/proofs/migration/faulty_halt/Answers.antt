use Rattle.std.proofs.Common.{refl, sym, subst, List, ℕ, Some}
use Rattle.frontend.specs.Written.{stops}
use Rattle.cmd_certificates.specs.Migrates.{TextMigrates, faulty}
use Rattle.cmd_certificates.proofs.migration.faulty_halt.Goals as goal

pub returns-in_ok-cert_text-in-At : goal.returns-in_ok-cert_text-in-At
returns-in_ok-cert_text-in-At c = λ b text reads.
    subst (λ (report : List ℕ). TextMigrates b (Some text) (stops 3 report)) (sym c.in_ok-cert_text-in-At.ensures)
    (faulty text c.in-At.line c.in-At.kind refl (rw c.in-At.is at reads))
