-- What is answered of a text in pieces is what reading the whole text and judging it answers.
use Rattle.std.specs.Prelude.{◌≡◌, ℕ, List, Option, Ok, Err}
use Rattle.block_program.specs.Blocked.{BlockedProgram}
use Rattle.cert_format.specs.Kept.{certificate_of}
use Rattle.cert_text.specs.Programs.{ReadsFor}
use Rattle.cert_format.specs.Text.{Kind}
use Rattle.cert_format.specs.declared.cert.Cert.{Cert}
use Rattle.cert_format.specs.declared.fault.CertFault.TheVariants as c
use Rattle.cert_check.specs.Judging.{IsJudgedWithin}
use Rattle.cert_check.specs.declared.judge.Judged.{Judged}
use Rattle.cert_stream.specs.Checks.{Finishes}
use Rattle.cert_stream.specs.declared.fault.FeedFault.TheVariants as f

-- the certificate that is read of the whole text is judged so
abbrev pub JudgedAsWhole : Type 0
JudgedAsWhole = (b : BlockedProgram) (visits : Option ℕ) (text : List ℕ) (judged : Judged) (cert : Cert) → Finishes b visits text (Ok judged) → ReadsFor b text (Ok cert)
    → IsJudgedWithin b (certificate_of cert) visits judged

-- the whole text has this fault
abbrev pub FaultyAsWhole : Type 0
FaultyAsWhole = (b : BlockedProgram) (visits : Option ℕ) (text : List ℕ) (line l : ℕ) (kind k : Kind) → Finishes b visits text (Err (f.At line kind)) → ReadsFor b text (Err (c.At l k))
    → (line ≡ l) × (kind ≡ k)

-- no text is judged in pieces and at fault as a whole
abbrev pub NotFaultyToo : Type 0
NotFaultyToo = (b : BlockedProgram) (visits : Option ℕ) (text : List ℕ) (judged : Judged) (line : ℕ) (kind : Kind) → Finishes b visits text (Ok judged) → ReadsFor b text (Err (c.At line kind)) → ⊥

-- nor the other way round
abbrev pub NotJudgedToo : Type 0
NotJudgedToo = (b : BlockedProgram) (visits : Option ℕ) (text : List ℕ) (line : ℕ) (kind : Kind) (cert : Cert) → Finishes b visits text (Err (f.At line kind)) → ReadsFor b text (Ok cert) → ⊥
