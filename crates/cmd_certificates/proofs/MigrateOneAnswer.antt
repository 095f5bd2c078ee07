-- The files are answered by one status.
use Rattle.std.proofs.Common.{◌≡◌, refl, sym, subst, ℕ, List, Option, Some, None}
use Rattle.bp_theory.specs.declared.Limits.{Limits}
use Rattle.bp_shelf.specs.Shelf.{Files}
use Rattle.block_program.specs.Blocked.{BlockedProgram}
use Rattle.cert_format.specs.Cert.{Cert}
use Rattle.cert_format.specs.Fault.{IsCertText, IsFirstCertFault}
use Rattle.cert_text.specs.Programs.{frame_for}
use Rattle.cert_format.specs.declared.fault.CertKind.{CertKind}
use Rattle.cert_format.proofs.LawProofs.{certificates_are_faultless}
use Rattle.frontend.specs.Front.{blocked, ends}
use Rattle.frontend.specs.Written.{Answer}
use Rattle.frontend.proofs.OneFront.{one_front}
use Rattle.frontend.proofs.Written.{HasOneStatus, one_text, no_text}
use Rattle.cmd_certificates.specs.Migrates.{TextMigrates, missing, faulty, migrated, Migrates, stopped, went_on}

-- no text has a certificate and a fault
read_or_faulty : (b : BlockedProgram) (text other : List ℕ) (c : Cert) (line : ℕ) (kind : CertKind) → text ≡ other → IsCertText (frame_for b) c text
    → IsFirstCertFault (frame_for b) other line kind → ⊥
read_or_faulty b text other c line kind same spells fault =
    certificates_are_faultless (frame_for b) c other line kind (subst (λ (t : List ℕ). IsCertText (frame_for b) c t) same spells) fault

one_file : (b : BlockedProgram) (file : Option (List ℕ)) (a c : Answer) → TextMigrates b file a → TextMigrates b file c → a.status ≡ c.status
one_file b file a c (missing x) (missing y) = refl
one_file b file a c (missing x) (faulty text line kind y fault) = absurd (no_text file text x y)
one_file b file a c (missing x) (migrated text new d y spells anew) = absurd (no_text file text x y)
one_file b file a c (faulty text line kind x fault) (missing y) = absurd (no_text file text y x)
one_file b file a c (faulty text line kind x fault) (faulty text' line' kind' y fault') = refl
one_file b file a c (faulty text line kind x fault) (migrated text' new d y spells anew) =
    absurd (read_or_faulty b text' text d line kind (one_text file text' text y x) spells fault)
one_file b file a c (migrated text new d x spells anew) (missing y) = absurd (no_text file text y x)
one_file b file a c (migrated text new d x spells anew) (faulty text' line kind y fault) =
    absurd (read_or_faulty b text text' d line kind (one_text file text text' x y) spells fault)
one_file b file a c (migrated text new d x spells anew) (migrated text' new' d' y spells' anew') = refl

pub one_answer : (limits : Limits) (files : Files) (lp cert : List ℕ) (dec : Option (List ℕ)) → HasOneStatus (Migrates limits files lp cert dec)
one_answer limits files lp cert dec a c (stopped s r x) (stopped s' r' y) = one_front limits files lp dec (ends s r) (ends s' r') x y
one_answer limits files lp cert dec a c (stopped s r x) (went_on b _ y h) = absurd (one_front limits files lp dec (ends s r) (blocked b) x y)
one_answer limits files lp cert dec a c (went_on b _ x h) (stopped s r y) = absurd (one_front limits files lp dec (blocked b) (ends s r) x y)
one_answer limits files lp cert dec a c (went_on b _ x h) (went_on b' _ y h') =
    let same : b' ≡ b = one_front limits files lp dec (blocked b') (blocked b) y x in
    one_file b (files cert) a c h (subst (λ (d : BlockedProgram). TextMigrates d (files cert) c) same h')
