-- What stands of a certificate that was read and is written line by line.
use Rattle.std.proofs.Common.{◌≡◌, ◌≢◌, ◌⊎◌, ◌∙◌, inl, inr, refl, sym, ap, subst, ℕ, Bool, IsTrue, List, [], ◌∷◌, ◌++◌, map, Option, Some, Result, Ok, Err, IfOk, IfErr}
use Rattle.bp_shelf.specs.Shelf.{Files, OthersAsBefore}
use Rattle.block_program.specs.Blocked.{BlockedProgram}
use Rattle.bp_theory.specs.declared.Limits.{Limits}
use Rattle.bp_theory.specs.declared.Cut.{Cut}
use Rattle.cert_format.specs.Text.{Version}
use Rattle.cert_format.specs.Written.{written_cut}
use Rattle.cert_format.specs.Fault.{IsText}
use Rattle.cert_format.specs.Kept.{kept_cert}
use Rattle.cert_format.specs.Sketch.{tree_of}
use Rattle.cert_format.specs.Plain.{version_with, plain_text}
use Rattle.cert_format.specs.declared.cert.Cert.{Cert as Kept}
use Rattle.cert_write.specs.Changes.{changing_nodes}
use Rattle.cert_format.specs.Nodes.{nodes}
use Rattle.cert_text.specs.Programs.{frame_for}
use Rattle.cert_write.proofs.ChangeText.{rewritten}
use Rattle.cert_stream.specs.Streams.{Rewrites}
use Rattle.cert_file.specs.Appends.{CountsStop}
use Rattle.cert_file.specs.declared.stop.StreamStop.{StreamStop}
use Rattle.cert_file.specs.declared.stop.StreamStop.TheVariants.{Failed, NoMemory}
use Rattle.bp_report.specs.Report.{migrated_report}
use Rattle.frontend.specs.Halts.{CountsHalted}
use Rattle.frontend.specs.Written.{Answer, IsHalt, LeavesText}
use Rattle.frontend.specs.Endings.{loses}
use Rattle.frontend.specs.declared.ending.Reply.{Reply}
use Rattle.frontend.specs.declared.ending.Unprinted.{Unprinted}
use Rattle.frontend.specs.declared.front.Halt.{Halt}
use Rattle.frontend.proofs.Drafts.{HasText, WriterComes, replied, unwritten, wanting, halt_comes, halt_unfailed}
use Rattle.cmd_certificates.specs.declared.migration.Migrated.{Migrated}
use Rattle.cmd_certificates.specs.Migrates.{version_anew, TextMigrates, migrated, Migrates, went_on, ReadsFiles}
use Rattle.cmd_certificates.specs.MigrateFiles.{HoldsPart, LeavesPart, MigrateLeaves, stands, part}
use Rattle.cmd_certificates.specs.Writes.{stop_status_of, IsAnew, WritesAnew, whole, failed, WritesMigrated}
use Rattle.cmd_certificates.specs.Writes as writing

-- the answer that writes a text
abbrev pub answer_with : Migrated → List ℕ → Answer
answer_with m text = record { status = m.reply.status; report = m.reply.report.items; text = Some text }

migrates_as : (b : BlockedProgram) (file : Option (List ℕ)) (s status : ℕ) (r report text : List ℕ) → status ≡ s → report ≡ r
    → TextMigrates b file (record { status = s; report = r; text = Some text }) → TextMigrates b file (record { status = status; report = report; text = Some text })
migrates_as b file s status r report text done told h = rw (done, told) h

-- the version that a certificate is written anew in
same_version : (cuts : List Cut) → version_with cuts ≡ version_anew (map written_cut cuts)
same_version [] = refl
same_version (cut ∷ cuts) = refl

-- each text in it is right
pub with_right : (limits : Limits) (files : Files) (lp cert : List ℕ) (dec : Option (List ℕ)) (m : Migrated) (new : List ℕ) (h : ReadsFiles limits files lp cert dec m)
    → IsText (frame_for h.0) (version_with m.cert.cuts) (kept_cert m.cert) new
    → Migrates limits files lp cert dec (answer_with m new)
with_right limits files lp cert dec m new h anew =
    let r = h.2 in
    went_on h.0 (answer_with m new) h.1
    (migrates_as h.0 (files cert) 0 m.reply.status (migrated_report (nodes (kept_cert m.cert).tree)) m.reply.report.items new r.done r.told
    (migrated r.text new (kept_cert m.cert) r.is r.spells (subst (λ (v : Version). IsText (frame_for h.0) v (kept_cert m.cert) new) (same_version m.cert.cuts) anew)))

-- the text of the certificate in it
abbrev pub text_anew : Migrated → List ℕ
text_anew m = plain_text (version_with m.cert.cuts) m.cert.claim m.cert.point m.cert.cuts (changing_nodes [] (tree_of m.cert.tree))

-- the answer that is meant
abbrev pub answer_of : Migrated → Answer
answer_of m = answer_with m (text_anew m)

pub is_right : (limits : Limits) (files : Files) (lp cert : List ℕ) (dec : Option (List ℕ)) (m : Migrated) → ReadsFiles limits files lp cert dec m → Migrates limits files lp cert dec (answer_of m)
is_right limits files lp cert dec m h =
    let r = h.2 in
    with_right limits files lp cert dec m (text_anew m) h (rewritten (frame_for h.0) r.spells.0 m.cert.claim m.cert.point m.cert.cuts (tree_of m.cert.tree) r.text r.spells.1)

-- what a writer did for the program that the certificate was read for
written_so : (limits : Limits) (files : Files) (lp cert : List ℕ) (dec : Option (List ℕ)) (name : List ℕ) (m : Migrated) (before now : Files) (result : Result (Unit {0}) StreamStop)
    → (h : ReadsFiles limits files lp cert dec m) → IsAnew m.b m.cert name before now result → Rewrites (frame_for h.0) m.cert name before now result
written_so limits files lp cert dec name m before now result h writes = subst (λ (b : BlockedProgram). IsAnew b m.cert name before now result) h.2.same writes h.2.text h.2.spells

-- it is written whole
whole_text : (limits : Limits) (files : Files) (lp cert : List ℕ) (dec : Option (List ℕ)) (name : List ℕ) (m : Migrated) (now : Files) (done : Unit {0}) → ReadsFiles limits files lp cert dec m
    → IsAnew m.b m.cert name files now (Ok done) → HasText (Migrates limits files lp cert dec) name files now m.reply
whole_text limits files lp cert dec name m now done h writes =
    let so = written_so limits files lp cert dec name m files now (Ok done) h writes in
    let new = so.holds.0 in
    record { text = Some new; right = with_right limits files lp cert dec m new h so.holds.1; stands = (so.holds.2, so.others) }

-- memory was wanting
part_text : (limits : Limits) (files : Files) (lp cert : List ℕ) (dec : Option (List ℕ)) (name : List ℕ) (m : Migrated) (now : Files) → ReadsFiles limits files lp cert dec m
    → IsAnew m.b m.cert name files now (Err NoMemory) → LeavesPart (Migrates limits files lp cert dec) name files now
part_text limits files lp cert dec name m now h writes =
    let so = written_so limits files lp cert dec name m files now (Err NoMemory) h writes in
    record { holds = by so.holds; others = so.others }
  where
    by : (now name ≡ files name) ⊎ ((xs : List ℕ) × (rest : List ℕ) × IsText (frame_for h.0) (version_with m.cert.cuts) (kept_cert m.cert) (xs ++ rest) × (now name ≡ Some xs))
        → (now name ≡ files name) ⊎ HoldsPart (Migrates limits files lp cert dec) (now name)
    by (inl stays) = inl stays
    by (inr begins) =
        inr (answer_with m (begins.0 ++ begins.1), with_right limits files lp cert dec m (begins.0 ++ begins.1) h begins.2, (begins.0, begins.1, refl, begins.3))

-- a writer that stopped
pub anew_stopped : (b : BlockedProgram) (cert : Kept) (told : Bool) (name : List ℕ) (before now : Files) (writes writes_now : ℕ) (reply : Reply) (stop : StreamStop)
    → (IsTrue told → IsAnew b cert name before now (Err stop)) → CountsStop {X = Unit {0}} writes writes_now (Err stop)
    → WritesAnew b cert told name before now writes writes_now reply (Err (loses (stop_status_of stop) reply))
anew_stopped b cert told name before now writes writes_now reply Failed anew counted = failed anew counted.1
anew_stopped b cert told name before now writes writes_now reply NoMemory anew counted = writing.wanting anew counted

-- nothing was written
unchanged : (Right : Answer → Type 0) (name : List ℕ) (before now : Files) → now ≡ before → LeavesPart Right name before now
unchanged Right name before now same = record { holds = inl (ap (λ (files : Files). files name) same); others = λ other apart. ap (λ (files : Files). files other) same }

-- ---- the run

comes_by : (limits : Limits) (told : Bool) (before : Files) (lp cert : List ℕ) (dec : Option (List ℕ)) (name : List ℕ) (now : Files) (reads between reads_now writes writes_now : ℕ)
    (r : Result Migrated Halt) (come : Result Reply Unprinted) → (IsTrue told → IfOk r (λ m. ReadsFiles limits before lp cert dec m)) → IfOk r (λ m. m.reply.status ≡ 0)
    → (IsTrue told → IfErr r (IsHalt (Migrates limits before lp cert dec))) → CountsHalted reads between r → reads_now ≡ between
    → WritesMigrated told name before now writes writes_now r come
    → WriterComes (Migrates limits before lp cert dec) (LeavesPart (Migrates limits before lp cert dec) name before now) told name before now reads reads_now writes writes_now come
comes_by limits told before lp cert dec name now reads between reads_now writes writes_now (Ok m) come read done halts counted same (whole x anew w) =
    replied m.reply (inl done) (λ is_told. whole_text limits before lp cert dec name m now x (read is_told) (anew is_told)) (same ∙ counted) w
comes_by limits told before lp cert dec name now reads between reads_now writes writes_now (Ok m) come read done halts counted same (failed anew rose) =
    unwritten (loses 8 m.reply) refl (λ is_told. (answer_of m, m.reply.report, refl, refl, is_right limits before lp cert dec m (read is_told)))
    (λ is_told. (written_so limits before lp cert dec name m before now (Err Failed) (read is_told) (anew is_told)).others) (same ∙ counted) rose
comes_by limits told before lp cert dec name now reads between reads_now writes writes_now (Ok m) come read done halts counted same (writing.wanting anew w) =
    wanting (loses 9 m.reply) refl (λ is_told. part_text limits before lp cert dec name m now (read is_told) (anew is_told)) (same ∙ counted) w
comes_by limits told before lp cert dec name now reads between reads_now writes writes_now (Err halt) come read done halts counted same ends =
    let Right : Answer → Type 0 = Migrates limits before lp cert dec in
    subst (λ (c : Result Reply Unprinted). WriterComes Right (LeavesPart Right name before now) told name before now reads reads_now writes writes_now c) (sym ends.0)
    (halt_comes Migrated Right (LeavesPart Right name before now) told name before now reads between reads_now writes writes_now halt (unchanged Right name before now) halts counted same ends.1 ends.2)

-- what a run came to that wrote a certificate anew, or was halted before it had one: reading the files left all as before
pub migrated_comes : (limits : Limits) (told told_then : Bool) (before files : Files) (lp cert : List ℕ) (dec : Option (List ℕ)) (name : List ℕ) (now : Files)
    (reads between reads_now writes writes_then writes_now : ℕ) (r : Result Migrated Halt) (come : Result Reply Unprinted) → (IsTrue told → IfOk r (λ m. ReadsFiles limits before lp cert dec m))
    → IfOk r (λ m. m.reply.status ≡ 0) → (IsTrue told → IfErr r (IsHalt (Migrates limits before lp cert dec))) → CountsHalted reads between r → told_then ≡ told → files ≡ before
    → writes_then ≡ writes → reads_now ≡ between → WritesMigrated told_then name files now writes_then writes_now r come
    → WriterComes (Migrates limits before lp cert dec) (LeavesPart (Migrates limits before lp cert dec) name before now) told name before now reads reads_now writes writes_now come
migrated_comes limits told told_then before files lp cert dec name now reads between reads_now writes writes_then writes_now r come read done halts counted same_told same_files same_writes same_reads ends =
    let a : WritesMigrated told name files now writes_then writes_now r come = subst (λ (t : Bool). WritesMigrated t name files now writes_then writes_now r come) same_told ends in
    let b : WritesMigrated told name before now writes_then writes_now r come = subst (λ (fs : Files). WritesMigrated told name fs now writes_then writes_now r come) same_files a in
    comes_by limits told before lp cert dec name now reads between reads_now writes writes_now r come read done halts counted same_reads
    (subst (λ (n : ℕ). WritesMigrated told name before now n writes_now r come) same_writes b)

-- the reply to it is none of a failed write
anew_unfailed : (b : BlockedProgram) (cert : Kept) (told : Bool) (name : List ℕ) (before now : Files) (writes writes_now : ℕ) (reply : Reply) (come : Result Reply Unprinted) → reply.status ≡ 0
    → WritesAnew b cert told name before now writes writes_now reply come → IfOk come (λ r. r.status ≢ 8)
anew_unfailed b cert told name before now writes writes_now reply come done (whole x anew w) = λ e. absurd (cc)
anew_unfailed b cert told name before now writes writes_now reply come done (failed anew rose) = tt
anew_unfailed b cert told name before now writes writes_now reply come done (writing.wanting anew w) = tt

pub migrated_unfailed : (told : Bool) (name : List ℕ) (before now : Files) (writes writes_now : ℕ) (r : Result Migrated Halt) (come : Result Reply Unprinted) → IfOk r (λ m. m.reply.status ≡ 0)
    → WritesMigrated told name before now writes writes_now r come → IfOk come (λ reply. reply.status ≢ 8)
migrated_unfailed told name before now writes writes_now (Ok m) come done ends = anew_unfailed m.b m.cert told name before now writes writes_now m.reply come done ends
migrated_unfailed told name before now writes writes_now (Err halt) come done ends = subst (λ (c : Result Reply Unprinted). IfOk c (λ reply. reply.status ≢ 8)) (sym ends.0) (halt_unfailed halt)

-- the files after such a run
pub migrated_leaves : (limits : Limits) (lp cert : List ℕ) (dec : Option (List ℕ)) (name : List ℕ) (before now : Files) (status : ℕ)
    → LeavesText (Migrates limits before lp cert dec) name before now status ⊎ (LeavesPart (Migrates limits before lp cert dec) name before now × (status ≡ 9))
    → MigrateLeaves limits lp cert dec name before now status
migrated_leaves limits lp cert dec name before now status (inl leaves) = stands leaves
migrated_leaves limits lp cert dec name before now status (inr begins) = part begins.0 begins.1

pub part_others : (Right : Answer → Type 0) (name : List ℕ) (before now : Files) → LeavesPart Right name before now → OthersAsBefore name before now
part_others Right name before now begins = begins.others
