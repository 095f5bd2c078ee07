-- What a text is answered is answered for its file, and for the files of a run.
use Rattle.std.proofs.Common.{◌≡◌, ◌∙◌, refl, sym, ap, subst, ℕ, ◌+◌, ◌*◌, ◌-◌, ◌<◌, ◌≤◌, ◌^◌, List, [], length, Option, Some, None, Result, Ok, Err, IfOk, IfErr, IsErrAnd, arith}
use Rattle.std.specs.Prelude.{min}
use Rattle.bp_theory.specs.declared.Limits.{Limits}
use Rattle.bp_shelf.specs.Shelf.{Files}
use Rattle.bp_shelf.specs.declared.shelf.ShelfFault.{ShelfFault}
use Rattle.bp_shelf.specs.declared.shelf.ShelfFault.TheVariants.{Missing, Failed, NoMemory}
use Rattle.block_program.specs.Blocked.{BlockedProgram}
use Rattle.cert_format.specs.Cert.{Cert}
use Rattle.cert_format.specs.Fault.{IsCertText}
use Rattle.cert_format.specs.Kept.{kept_cert}
use Rattle.cert_format.specs.Nodes.{nodes}
use Rattle.cert_format.specs.declared.cert.Cert.{Cert as Kept}
use Rattle.cert_text.specs.Programs.{frame_for}
use Rattle.cert_format.proofs.Fine.{text_nodes}
use Rattle.bp_report.specs.Report.{migrated_report}
use Rattle.frontend.specs.Front.{FilesCome, blocked}
use Rattle.frontend.specs.Halts.{ComesToHalt, CountsHalted}
use Rattle.frontend.specs.Written.{Answer, stops, IsHalt, IsTextHalt}
use Rattle.frontend.specs.declared.front.Halt.{Halt}
use Rattle.frontend.specs.declared.front.Halt.TheVariants.{Refused, Stopped}
use Rattle.cmd_certificates.specs.declared.migration.Migrated.{Migrated}
use Rattle.cmd_certificates.specs.Migrates.{TextMigrates, missing, Migrates, stopped, went_on, ReadsCert, ReadsFiles}

-- ---- a text

-- a text has fewer nodes than a count can tell
few_nodes : (b : BlockedProgram) (c : Cert) (text : List ℕ) → length text < 2 ^ 64 → IsCertText (frame_for b) c text → min (nodes c.tree) (2 ^ 64 - 1) ≡ nodes c.tree
few_nodes b c text short spells =
    let few : 12 + 8 * nodes c.tree ≤ length text = text_nodes (frame_for b) spells.0 c text spells.1 in
    omega (arith, few, short)

pub text_read : (b : BlockedProgram) (text : List ℕ) (cert : Kept) (m : Migrated) → length text < 2 ^ 64 → IsCertText (frame_for b) (kept_cert cert) text → m.b ≡ b → m.cert ≡ cert
    → m.reply.report.items ≡ migrated_report (min (nodes (kept_cert cert).tree) (2 ^ 64 - 1)) → m.reply.status ≡ 0 → ReadsCert b (Some text) m
text_read b text cert m short spells beside same told done =
    let back : (k : Kept) → k ≡ cert → IsCertText (frame_for b) (kept_cert k) text = λ k is. subst (λ (x : Kept). IsCertText (frame_for b) (kept_cert x) text) (sym is) spells in
    record {
      same = beside;
      text = text;
      is = refl;
      spells = back m.cert same;
      told = told ∙ ap migrated_report (few_nodes b (kept_cert cert) text short spells) ∙ ap (λ (x : Kept). migrated_report (nodes (kept_cert x).tree)) (sym same);
      done = done;
    }

-- ---- a file

pub file_read : (limits : Limits) (files : Files) (lp cert : List ℕ) (dec : Option (List ℕ)) (b : BlockedProgram) (front : List ℕ) (r : Result Migrated Halt) → FilesCome limits files lp dec (blocked b)
    → Some front ≡ files cert → IfOk r (λ m. ReadsCert b (Some front) m) → IfOk r (λ m. ReadsFiles limits files lp cert dec m)
file_read limits files lp cert dec b front (Ok m) come is h = (b, come, subst (λ (file : Option (List ℕ)). ReadsCert b file m) is h)
file_read limits files lp cert dec b front (Err e) come is h = tt

pub file_halted : (limits : Limits) (files : Files) (lp cert : List ℕ) (dec : Option (List ℕ)) (b : BlockedProgram) (front : List ℕ) (r : Result Migrated Halt) → FilesCome limits files lp dec (blocked b)
    → Some front ≡ files cert → IfErr r (IsTextHalt (TextMigrates b (Some front))) → IfErr r (IsHalt (Migrates limits files lp cert dec))
file_halted limits files lp cert dec b front (Ok m) come is halts = tt
file_halted limits files lp cert dec b front (Err (Refused report)) come is halts =
    went_on b (stops 3 report.items) come (subst (λ (file : Option (List ℕ)). TextMigrates b file (stops 3 report.items)) is halts)
file_halted limits files lp cert dec b front (Err (Stopped Missing)) come is halts = absurd (cc)
file_halted limits files lp cert dec b front (Err (Stopped Failed)) come is halts = tt
file_halted limits files lp cert dec b front (Err (Stopped NoMemory)) come is halts = tt

fault_halted : (limits : Limits) (files : Files) (lp cert : List ℕ) (dec : Option (List ℕ)) (b : BlockedProgram) (fault : ShelfFault) → FilesCome limits files lp dec (blocked b) → (fault ≡ Missing → files cert ≡ None)
    → IsHalt (Migrates limits files lp cert dec) (Stopped fault)
fault_halted limits files lp cert dec b Missing come gone = went_on b (stops 11 []) come (missing (gone refl))
fault_halted limits files lp cert dec b Failed come gone = tt
fault_halted limits files lp cert dec b NoMemory come gone = tt

pub fault_halts : {T : Type 0} (limits : Limits) (files : Files) (lp cert : List ℕ) (dec : Option (List ℕ)) (b : BlockedProgram) (fault : ShelfFault) (r : Result T Halt) → IsErrAnd r (λ e. e ≡ Stopped fault)
    → FilesCome limits files lp dec (blocked b) → (fault ≡ Missing → files cert ≡ None) → IfErr r (IsHalt (Migrates limits files lp cert dec))
fault_halts limits files lp cert dec b fault (Ok x) is come gone = tt
fault_halts limits files lp cert dec b fault (Err e) is come gone = subst (λ (s : Halt). IsHalt (Migrates limits files lp cert dec) s) (sym is) (fault_halted limits files lp cert dec b fault come gone)

pub still_missing : {T : Type 0} (fault : ShelfFault) → fault ≡ Missing → ◌≡◌ {A = Result T ShelfFault} (Err fault) (Err Missing)
still_missing {T} fault is = subst (λ (f : ShelfFault). ◌≡◌ {A = Result T ShelfFault} (Err fault) (Err f)) is refl

-- what a text is refused for raises no count
pub text_counts : {T : Type 0} (Right : Answer → Type 0) (r : Result T Halt) (before now : ℕ) → IfErr r (IsTextHalt Right) → now ≡ before → CountsHalted before now r
text_counts Right (Ok x) before now halts same = same
text_counts Right (Err (Refused report)) before now halts same = same
text_counts Right (Err (Stopped Missing)) before now halts same = same
text_counts Right (Err (Stopped Failed)) before now halts same = absurd (cc)
text_counts Right (Err (Stopped NoMemory)) before now halts same = same

-- ---- the front

front_halted : (limits : Limits) (files : Files) (lp cert : List ℕ) (dec : Option (List ℕ)) (halt : Halt) → ComesToHalt limits files lp dec halt → IsHalt (Migrates limits files lp cert dec) halt
front_halted limits files lp cert dec (Refused report) h = stopped 3 report.items h
front_halted limits files lp cert dec (Stopped Missing) h = stopped 11 [] h
front_halted limits files lp cert dec (Stopped Failed) h = tt
front_halted limits files lp cert dec (Stopped NoMemory) h = tt

pub front_halts : {T : Type 0} (limits : Limits) (files : Files) (lp cert : List ℕ) (dec : Option (List ℕ)) (halt : Halt) (r : Result T Halt) → IsErrAnd r (λ e. e ≡ halt) → ComesToHalt limits files lp dec halt
    → IfErr r (IsHalt (Migrates limits files lp cert dec))
front_halts limits files lp cert dec halt (Ok x) is h = tt
front_halts limits files lp cert dec halt (Err e) is h = subst (λ (s : Halt). IsHalt (Migrates limits files lp cert dec) s) (sym is) (front_halted limits files lp cert dec halt h)
