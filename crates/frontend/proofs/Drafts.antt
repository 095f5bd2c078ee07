-- How a run ends that writes one file, by what it came to.
use Rattle.std.proofs.Common.{◌≡◌, ◌≢◌, ◌⊎◌, ◌∙◌, ℕ, Bool, IsTrue, List, [], Option, Some, None, Result, Ok, Err, IfOk, IfErr, Vec, Global, refl, sym, ap, subst, inl, inr}
use Rattle.bp_shelf.specs.Shelf.{Files, OthersAsBefore, Rose, Writes, CountsFailed}
use Rattle.bp_shelf.specs.declared.shelf.ShelfFault.{ShelfFault}
use Rattle.bp_shelf.specs.declared.shelf.ShelfFault.TheVariants.{Missing, Failed, NoMemory}
use Rattle.frontend.specs.Answers.{FailsToWrite}
use Rattle.frontend.specs.Endings.{bare, loses, come_of, write_status_of, IsReplyStatus, Finishes, printed, silent, WritesText, written, WritesDraft}
use Rattle.frontend.specs.Endings as endings
use Rattle.frontend.specs.Halts.{CountsHalted}
use Rattle.frontend.specs.Written.{Answer, stops, draft_answer, Answered, IsHalt, TextStands, LeavesText, answered, untouched, begun, StandsUnput}
use Rattle.frontend.specs.Written as leaves
use Rattle.frontend.specs.declared.draft.Draft.{Draft}
use Rattle.frontend.specs.declared.ending.Reply.{Reply}
use Rattle.frontend.specs.declared.ending.Unprinted.{Unprinted}
use Rattle.frontend.specs.declared.front.Halt.{Halt}
use Rattle.frontend.specs.declared.front.Halt.TheVariants.{Refused, Stopped}
use Rattle.frontend.proofs.Finishing.{HasCounts, IsRightCome, HasOneReply, HasEnd, has_end, no_other}
use Rattle.frontend.proofs.Finishing as counts
use Rattle.frontend.proofs.Written.{HasOneStatus}

-- the text that is right beside a reply stands
pub record HasText (Right : Answer → Type 0) (name : List ℕ) (before now : Files) (reply : Reply) : Type 0 where
  pub text : Option (List ℕ)
  pub right : Right (record { status = reply.status; report = reply.report.items; text = text })
  pub stands : TextStands name before now text

-- What a run came to that writes one file: a reply, beside which its text stands; or a read or a write that failed, want of memory, or a
-- file that isn't there.
pub data WriterComes (Right : Answer → Type 0) (Wanting : Type 0) (told : Bool) (name : List ℕ) (before now : Files) (reads reads_now writes writes_now : ℕ) : Result Reply Unprinted → Type 0 where
  replied : (reply : Reply) → IsReplyStatus reply.status → (IsTrue told → HasText Right name before now reply) → reads_now ≡ reads → writes_now ≡ writes
      → WriterComes Right Wanting told name before now reads reads_now writes writes_now (Ok reply)
  unread : (end : Unprinted) → end.status ≡ 7 → (IsTrue told → now ≡ before) → Rose reads reads_now → writes_now ≡ writes → WriterComes Right Wanting told name before now reads reads_now writes writes_now (Err end)
  unwritten : (end : Unprinted) → end.status ≡ 8 → (IsTrue told → (a : Answer) × (report : Vec ℕ Global) × (end.lost ≡ Some report) × (a.report ≡ report.items) × Right a) → (IsTrue told → OthersAsBefore name before now) → reads_now ≡ reads → Rose writes writes_now
      → WriterComes Right Wanting told name before now reads reads_now writes writes_now (Err end)
  wanting : (end : Unprinted) → end.status ≡ 9 → (IsTrue told → Wanting) → reads_now ≡ reads → writes_now ≡ writes → WriterComes Right Wanting told name before now reads reads_now writes writes_now (Err end)
  missing : (end : Unprinted) → end.status ≡ 11 → (IsTrue told → Right (stops 11 [])) → (IsTrue told → now ≡ before) → reads_now ≡ reads → writes_now ≡ writes
      → WriterComes Right Wanting told name before now reads reads_now writes writes_now (Err end)

writer_counts : (Right : Answer → Type 0) (Wanting : Type 0) (told : Bool) (name : List ℕ) (before now : Files) (reads reads_now writes writes_now : ℕ) (come : Result Reply Unprinted)
    → WriterComes Right Wanting told name before now reads reads_now writes writes_now come → HasCounts reads reads_now writes writes_now come
writer_counts Right Wanting told name before now reads reads_now writes writes_now come (replied reply is text r w) = counts.replied reply is r w
writer_counts Right Wanting told name before now reads reads_now writes writes_now come (unread end is same rose w) = counts.unread end is rose w
writer_counts Right Wanting told name before now reads reads_now writes writes_now come (unwritten end is some others r rose) = counts.unwritten end is r rose
writer_counts Right Wanting told name before now reads reads_now writes writes_now come (wanting end is stands r w) = counts.wanting end is r w
writer_counts Right Wanting told name before now reads reads_now writes writes_now come (missing end is right same r w) = counts.missing end is r w

writer_right : (Right : Answer → Type 0) (Wanting : Type 0) (told : Bool) (name : List ℕ) (before now : Files) (reads reads_now writes writes_now : ℕ) (come : Result Reply Unprinted) → IsTrue told
    → WriterComes Right Wanting told name before now reads reads_now writes writes_now come → IsRightCome (Answered Right) come
writer_right Right Wanting told name before now reads reads_now writes writes_now come is_told (replied reply is text r w) = let h = text is_told in (h.text, h.right)
writer_right Right Wanting told name before now reads reads_now writes writes_now come is_told (unread end is same rose w) = (λ e. absurd (cc), λ e. absurd (cc))
writer_right Right Wanting told name before now reads reads_now writes writes_now come is_told (unwritten end is some others r rose) = (
  λ e. absurd (cc),
  λ e.
      let a = some is_told in
      let right : Right (record { status = a.0.status; report = a.1.items; text = a.0.text }) = subst (λ (r : List ℕ). Right (record { status = a.0.status; report = r; text = a.0.text })) a.3 a.4 in
      (a.0.status, a.1, a.2, (a.0.text, right)),
)
writer_right Right Wanting told name before now reads reads_now writes writes_now come is_told (wanting end is stands r w) = (λ e. absurd (cc), λ e. absurd (cc))
writer_right Right Wanting told name before now reads reads_now writes writes_now come is_told (missing end is right same r w) = (λ e. (None, right is_told), λ e. absurd (cc))

-- ---- what stands

text_others : (name : List ℕ) (before now : Files) (text : Option (List ℕ)) → TextStands name before now text → OthersAsBefore name before now
text_others name before now None same = λ other apart. ap (λ (files : Files). files other) same
text_others name before now (Some text) stands = stands.1

-- the files after a run, by its status
writer_leaves : (Right : Answer → Type 0) (Wanting : Type 0) (told : Bool) (name : List ℕ) (before now : Files) (reads reads_now writes writes_now : ℕ) (come : Result Reply Unprinted)
    (status : ℕ) (lost : Option (Vec ℕ Global)) (tells : Bool) (taken taken_now : List ℕ) (faults faults_now puts puts_now : ℕ) → IsTrue told
    → WriterComes Right Wanting told name before now reads reads_now writes writes_now come → Finishes status lost tells taken taken_now faults faults_now puts puts_now come
    → LeavesText Right name before now status ⊎ (Wanting × (status ≡ 9))
writer_leaves Right Wanting told name before now reads reads_now writes writes_now come status lost tells taken taken_now faults faults_now puts puts_now is_told (replied reply is text r w) (printed _ st f p o) =
    let h = text is_told in
    inl (answered (record { answer = record { status = reply.status; report = reply.report.items; text = h.text }; right = h.right; of = sym st; stands = h.stands }))
writer_leaves Right Wanting told name before now reads reads_now writes writes_now come status lost tells taken taken_now faults faults_now puts puts_now is_told (replied reply is text r w) (endings.unput _ st l rose p o) =
    let h = text is_told in
    inl (leaves.unput reply.status (record { answer = record { status = reply.status; report = reply.report.items; text = h.text }; right = h.right; of = refl; stands = h.stands }) st)
writer_leaves Right Wanting told name before now reads reads_now writes writes_now come status lost tells taken taken_now faults faults_now puts puts_now is_told (unread end is same rose w) (silent _ st l f p o) =
    inl (untouched (same is_told) (inl (st ∙ is)))
writer_leaves Right Wanting told name before now reads reads_now writes writes_now come status lost tells taken taken_now faults faults_now puts puts_now is_told (unwritten end is some others r rose) (silent _ st l f p o) =
    inl (begun (others is_told) (st ∙ is))
writer_leaves Right Wanting told name before now reads reads_now writes writes_now come status lost tells taken taken_now faults faults_now puts puts_now is_told (wanting end is stands r w) (silent _ st l f p o) =
    inr (stands is_told, st ∙ is)
writer_leaves Right Wanting told name before now reads reads_now writes writes_now come status lost tells taken taken_now faults faults_now puts puts_now is_told (missing end is right same r w) (silent _ st l f p o) =
    inl (answered (record { answer = stops 11 []; right = right is_told; of = sym (st ∙ is); stands = same is_told }))

writer_others : (Right : Answer → Type 0) (Wanting : Type 0) (told : Bool) (name : List ℕ) (before now : Files) (reads reads_now writes writes_now : ℕ) (come : Result Reply Unprinted) → IsTrue told
    → (Wanting → OthersAsBefore name before now) → WriterComes Right Wanting told name before now reads reads_now writes writes_now come → OthersAsBefore name before now
writer_others Right Wanting told name before now reads reads_now writes writes_now come is_told part (replied reply is text r w) =
    let h = text is_told in text_others name before now h.text h.stands
writer_others Right Wanting told name before now reads reads_now writes writes_now come is_told part (unread end is same rose w) = text_others name before now None (same is_told)
writer_others Right Wanting told name before now reads reads_now writes writes_now come is_told part (unwritten end is some others r rose) = others is_told
writer_others Right Wanting told name before now reads reads_now writes writes_now come is_told part (wanting end is stands r w) = part (stands is_told)
writer_others Right Wanting told name before now reads reads_now writes writes_now come is_told part (missing end is right same r w) = text_others name before now None (same is_told)

-- where a write failed, it is that of the file, or that of the report, behind which the file stands
writer_failed : (Right : Answer → Type 0) (Wanting : Type 0) (told : Bool) (name : List ℕ) (before now : Files) (reads reads_now writes writes_now : ℕ) (come : Result Reply Unprinted)
    (status : ℕ) (lost : Option (Vec ℕ Global)) (tells : Bool) (taken taken_now : List ℕ) (faults faults_now puts puts_now : ℕ)
    → WriterComes Right Wanting told name before now reads reads_now writes writes_now come → Finishes status lost tells taken taken_now faults faults_now puts puts_now come → status ≡ 8
    → FailsToWrite (IsTrue told → StandsUnput Right name before now) writes writes_now faults faults_now puts puts_now taken taken_now
writer_failed Right Wanting told name before now reads reads_now writes writes_now come status lost tells taken taken_now faults faults_now puts puts_now (replied reply is text r w) (printed _ st f p o) =
    let u = no_other status (subst (λ (s : ℕ). IsReplyStatus s) (sym st) is) in λ e. absurd (u.write e)
writer_failed Right Wanting told name before now reads reads_now writes writes_now come status lost tells taken taken_now faults faults_now puts puts_now (replied reply is text r w) (endings.unput _ st l rose p o) =
    λ e. inr (record {
      rose = rose;
      no_write = w;
      once = p;
      stands = λ is_told.
          let h = text is_told in
          (reply.status, record { answer = record { status = reply.status; report = reply.report.items; text = h.text }; right = h.right; of = refl; stands = h.stands });
    })
writer_failed Right Wanting told name before now reads reads_now writes writes_now come status lost tells taken taken_now faults faults_now puts puts_now (unread end is same rose w) (silent _ st l f p o) = λ e. absurd (cc)
writer_failed Right Wanting told name before now reads reads_now writes writes_now come status lost tells taken taken_now faults faults_now puts puts_now (unwritten end is some others r rose) (silent _ st l f p o) =
    λ e. inl (record { rose = rose; no_fault = f; never = p; silent = o })
writer_failed Right Wanting told name before now reads reads_now writes writes_now come status lost tells taken taken_now faults faults_now puts puts_now (wanting end is stands r w) (silent _ st l f p o) = λ e. absurd (cc)
writer_failed Right Wanting told name before now reads reads_now writes writes_now come status lost tells taken taken_now faults faults_now puts puts_now (missing end is right same r w) (silent _ st l f p o) = λ e. absurd (cc)

-- the clauses of a command that writes one file
pub record HasWritersEnd (Right : Answer → Type 0) (Wanting : Type 0) (told : Bool) (name : List ℕ) (before now : Files) (reads reads_now writes writes_now status : ℕ) (lost : Option (Vec ℕ Global)) (tells : Bool)
    (taken taken_now : List ℕ) (faults faults_now puts puts_now : ℕ) : Type 0 where
  pub ends : HasEnd (Answered Right) told reads reads_now writes writes_now status lost tells taken taken_now faults faults_now puts puts_now
  pub leaves : IsTrue told → LeavesText Right name before now status ⊎ (Wanting × (status ≡ 9))
  pub others : IsTrue told → OthersAsBefore name before now
  pub failed : status ≡ 8 → FailsToWrite (IsTrue told → StandsUnput Right name before now) writes writes_now faults faults_now puts puts_now taken taken_now

pub writers_end : (Right : Answer → Type 0) (Wanting : Type 0) (told : Bool) (name : List ℕ) (before now : Files) (reads reads_now writes writes_now : ℕ) (come : Result Reply Unprinted) (status : ℕ)
    (lost : Option (Vec ℕ Global)) (tells : Bool) (taken taken_now : List ℕ) (faults faults_now puts puts_now : ℕ) → HasOneStatus Right → (Wanting → OthersAsBefore name before now)
    → WriterComes Right Wanting told name before now reads reads_now writes writes_now come → Finishes status lost tells taken taken_now faults faults_now puts puts_now come
    → HasWritersEnd Right Wanting told name before now reads reads_now writes writes_now status lost tells taken taken_now faults faults_now puts puts_now
writers_end Right Wanting told name before now reads reads_now writes writes_now come status lost tells taken taken_now faults faults_now puts puts_now one part comes ends =
    let one_reply : HasOneReply (Answered Right) = λ s t r q x y. one (record { status = s; report = r; text = x.0 }) (record { status = t; report = q; text = y.0 }) x.1 y.1 in
    record {
      ends = has_end (Answered Right) come told reads reads_now writes writes_now status lost tells taken taken_now faults faults_now puts puts_now one_reply
          (λ is_told. writer_right Right Wanting told name before now reads reads_now writes writes_now come is_told comes)
          (writer_counts Right Wanting told name before now reads reads_now writes writes_now come comes) ends;
      leaves = λ is_told. writer_leaves Right Wanting told name before now reads reads_now writes writes_now come status lost tells taken taken_now faults faults_now puts puts_now is_told comes ends;
      others = λ is_told. writer_others Right Wanting told name before now reads reads_now writes writes_now come is_told part comes;
      failed = writer_failed Right Wanting told name before now reads reads_now writes writes_now come status lost tells taken taken_now faults faults_now puts puts_now comes ends;
    }

-- ---- a text

-- a write that failed
pub text_unwritten : (told : Bool) (name text bytes : List ℕ) (before now : Files) (writes writes_now : ℕ) (reply : Reply) (fault : ShelfFault)
    → (IsTrue told → Writes name bytes before now (Err fault)) → CountsFailed {T = Unit {0}} writes writes_now (Err fault)
    → WritesText told name text before now writes writes_now reply (Err (loses (write_status_of fault) reply))
text_unwritten told name text bytes before now writes writes_now reply Missing files counted = endings.wanting files counted
text_unwritten told name text bytes before now writes writes_now reply Failed files counted = endings.unwritten files counted.1
text_unwritten told name text bytes before now writes writes_now reply NoMemory files counted = endings.wanting files counted

-- ---- a draft

-- what a run came to that was halted before it wrote, and left all as before
pub halt_comes : (T : Type 0) (Right : Answer → Type 0) (Wanting : Type 0) (told : Bool) (name : List ℕ) (before now : Files) (reads between reads_now writes writes_now : ℕ) (halt : Halt)
    → (now ≡ before → Wanting) → (IsTrue told → IsHalt Right halt) → CountsHalted {T = T} reads between (Err halt) → reads_now ≡ between → now ≡ before → writes_now ≡ writes
    → WriterComes Right Wanting told name before now reads reads_now writes writes_now (come_of (Err halt))
halt_comes T Right Wanting told name before now reads between reads_now writes writes_now (Refused report) whole halts counted r same w =
    replied (record { status = 3; report = report }) (inr (inl refl)) (λ is_told. record { text = None; right = halts is_told; stands = same }) (r ∙ counted) w
halt_comes T Right Wanting told name before now reads between reads_now writes writes_now (Stopped Missing) whole halts counted r same w = missing (bare 11) refl halts (λ is_told. same) (r ∙ counted) w
halt_comes T Right Wanting told name before now reads between reads_now writes writes_now (Stopped Failed) whole halts counted r same w =
    unread (bare 7) refl (λ is_told. same) (subst (λ (n : ℕ). Rose reads n) (sym r) counted.1) w
halt_comes T Right Wanting told name before now reads between reads_now writes writes_now (Stopped NoMemory) whole halts counted r same w = wanting (bare 9) refl (λ is_told. whole same) (r ∙ counted) w

-- what a run came to that wrote a draft
pub text_comes : (Right : Answer → Type 0) (told : Bool) (name : List ℕ) (before now : Files) (reads reads_now writes writes_now : ℕ) (d : Draft) (come : Result Reply Unprinted)
    → (IsTrue told → Right (draft_answer d)) → d.reply.status ≡ 0 → reads_now ≡ reads → WritesText told name d.text.items before now writes writes_now d.reply come
    → WriterComes Right (now ≡ before) told name before now reads reads_now writes writes_now come
text_comes Right told name before now reads reads_now writes writes_now d come right done same (written stands w) =
    replied d.reply (inl done) (λ is_told. record { text = Some d.text.items; right = right is_told; stands = stands is_told }) same w
text_comes Right told name before now reads reads_now writes writes_now d come right done same (endings.unwritten others rose) =
    unwritten (loses 8 d.reply) refl (λ is_told. (draft_answer d, d.reply.report, refl, refl, right is_told)) others same rose
text_comes Right told name before now reads reads_now writes writes_now d come right done same (endings.wanting stands w) = wanting (loses 9 d.reply) refl stands same w

draft_comes_by : (Right : Answer → Type 0) (told : Bool) (name : List ℕ) (before now : Files) (reads between reads_now writes writes_now : ℕ) (r : Result Draft Halt) (come : Result Reply Unprinted)
    → (IsTrue told → IfOk r (λ d. Right (draft_answer d))) → IfOk r (λ d. d.reply.status ≡ 0) → (IsTrue told → IfErr r (IsHalt Right)) → CountsHalted reads between r
    → reads_now ≡ between → WritesDraft told name before now writes writes_now r come
    → WriterComes Right (now ≡ before) told name before now reads reads_now writes writes_now come
draft_comes_by Right told name before now reads between reads_now writes writes_now (Ok d) come right done halts counted same ends =
    text_comes Right told name before now reads reads_now writes writes_now d come right done (same ∙ counted) ends
draft_comes_by Right told name before now reads between reads_now writes writes_now (Err halt) come right done halts counted same ends =
    subst (λ (c : Result Reply Unprinted). WriterComes Right (now ≡ before) told name before now reads reads_now writes writes_now c) (sym ends.0)
    (halt_comes Draft Right (now ≡ before) told name before now reads between reads_now writes writes_now halt (λ e. e) halts counted same ends.1 ends.2)

-- what a run came to that wrote a draft, or was halted before it had one: reading the files left all as before
pub draft_comes : (Right : Answer → Type 0) (told told_then : Bool) (name : List ℕ) (before files now : Files) (reads between reads_now writes writes_then writes_now : ℕ)
    (r : Result Draft Halt) (come : Result Reply Unprinted) → (IsTrue told → IfOk r (λ d. Right (draft_answer d))) → IfOk r (λ d. d.reply.status ≡ 0) → (IsTrue told → IfErr r (IsHalt Right))
    → CountsHalted reads between r → told_then ≡ told → files ≡ before → writes_then ≡ writes → reads_now ≡ between
    → WritesDraft told_then name files now writes_then writes_now r come
    → WriterComes Right (now ≡ before) told name before now reads reads_now writes writes_now come
draft_comes Right told told_then name before files now reads between reads_now writes writes_then writes_now r come right done halts counted same_told same_files same_writes same_reads ends =
    let a : WritesDraft told name files now writes_then writes_now r come = subst (λ (t : Bool). WritesDraft t name files now writes_then writes_now r come) same_told ends in
    let b : WritesDraft told name before now writes_then writes_now r come = subst (λ (fs : Files). WritesDraft told name fs now writes_then writes_now r come) same_files a in
    draft_comes_by Right told name before now reads between reads_now writes writes_now r come right done halts counted same_reads
    (subst (λ (n : ℕ). WritesDraft told name before now n writes_now r come) same_writes b)

-- the reply to a draft is none of a failed write
pub text_unfailed : (told : Bool) (name text : List ℕ) (before now : Files) (writes writes_now : ℕ) (reply : Reply) (come : Result Reply Unprinted) → reply.status ≡ 0
    → WritesText told name text before now writes writes_now reply come → IfOk come (λ r. r.status ≢ 8)
text_unfailed told name text before now writes writes_now reply come done (written stands w) = λ e. absurd (cc)
text_unfailed told name text before now writes writes_now reply come done (endings.unwritten others rose) = tt
text_unfailed told name text before now writes writes_now reply come done (endings.wanting same w) = tt

pub halt_unfailed : (halt : Halt) → IfOk (come_of (Err halt)) (λ reply. reply.status ≢ 8)
halt_unfailed (Refused report) = λ e. absurd (cc)
halt_unfailed (Stopped fault) = tt

pub draft_unfailed : (told : Bool) (name : List ℕ) (before now : Files) (writes writes_now : ℕ) (r : Result Draft Halt) (come : Result Reply Unprinted) → IfOk r (λ d. d.reply.status ≡ 0)
    → WritesDraft told name before now writes writes_now r come → IfOk come (λ reply. reply.status ≢ 8)
draft_unfailed told name before now writes writes_now (Ok d) come done ends = text_unfailed told name d.text.items before now writes writes_now d.reply come done ends
draft_unfailed told name before now writes writes_now (Err halt) come done ends = subst (λ (c : Result Reply Unprinted). IfOk c (λ reply. reply.status ≢ 8)) (sym ends.0) (halt_unfailed halt)

-- the files after such a run
pub draft_leaves : (Right : Answer → Type 0) (name : List ℕ) (before now : Files) (status : ℕ) → LeavesText Right name before now status ⊎ ((now ≡ before) × (status ≡ 9))
    → LeavesText Right name before now status
draft_leaves Right name before now status (inl leaves) = leaves
draft_leaves Right name before now status (inr same) = untouched same.0 (inr same.1)

-- and all others
pub draft_others : (name : List ℕ) (before now : Files) → now ≡ before → OthersAsBefore name before now
draft_others name before now same = text_others name before now None same
