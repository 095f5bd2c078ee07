-- How a run ends before anything is merged.
use Rattle.std.proofs.Common.{◌≡◌, ◌≢◌, ◌⊎◌, ◌∙◌, inl, inr, refl, sym, subst, ℕ, Bool, IsTrue, List, [], Option, None, Result, Ok, Err, IfOk, IfErr, IsErrAnd, arith}
use Rattle.bp_theory.specs.declared.Limits.{Limits}
use Rattle.bp_shelf.specs.Shelf.{Files, Rose}
use Rattle.bp_shelf.specs.declared.shelf.ShelfFault.{ShelfFault}
use Rattle.bp_shelf.specs.declared.shelf.ShelfFault.TheVariants.{Missing, Failed, NoMemory}
use Rattle.block_program.specs.Blocked.{BlockedProgram, IsFormed}
use Rattle.frontend.specs.Endings.{IsReplyStatus, bare}
use Rattle.frontend.specs.Front.{FilesCome, blocked}
use Rattle.frontend.specs.Halts.{ComesToHalt}
use Rattle.frontend.specs.Written.{Answer, stops, draft_answer}
use Rattle.frontend.specs.declared.front.Halt.TheVariants as halts
use Rattle.frontend.specs.declared.ending.Reply.{Reply}
use Rattle.frontend.specs.declared.ending.Unprinted.{Unprinted}
use Rattle.frontend.proofs.Drafts.{WriterComes, replied, unread, wanting, missing, text_comes, text_unfailed}
use Rattle.cmd_certificates.specs.Opens.{IsOpenedFile}
use Rattle.cmd_certificates.specs.Merges.{JoinsBoth, StopsBoth, MergesBlocked, apart, merged, Merges, stopped, went_on}
use Rattle.cmd_certificates.specs.Stops.{IsStop, IsRefusal, CountsStopped, come_by_stop, WritesMerged}
use Rattle.cmd_certificates.specs.declared.opening.Opened.{Opened}
use Rattle.cmd_certificates.specs.declared.opening.Stop.{Stop}
use Rattle.cmd_certificates.specs.declared.opening.Stop.TheVariants.{Refused, Stopped}
use Rattle.frontend.specs.declared.draft.Draft.{Draft}

-- what ends a run for some answers ends it for all that these are among
stop_as : (Right Wider : Answer → Type 0) (stop : Stop) → ((a : Answer) → Right a → Wider a) → IsStop Right stop → IsStop Wider stop
stop_as Right Wider (Refused reply) more h = more (stops reply.status reply.report.items) h
stop_as Right Wider (Stopped Missing) more h = more (stops 11 []) h
stop_as Right Wider (Stopped Failed) more h = tt
stop_as Right Wider (Stopped NoMemory) more h = tt

pub stops_as : {T : Type 0} (Right Wider : Answer → Type 0) (r : Result T Stop) → ((a : Answer) → Right a → Wider a) → IfErr r (IsStop Right) → IfErr r (IsStop Wider)
stops_as Right Wider (Ok x) more h = tt
stops_as Right Wider (Err stop) more h = stop_as Right Wider stop more h

pub stop_is : {T : Type 0} (Right Wider : Answer → Type 0) (stop : Stop) (r : Result T Stop) → ((a : Answer) → Right a → Wider a) → IsErrAnd r (λ e. e ≡ stop) → IsStop Right stop
    → IfErr r (IsStop Wider)
stop_is Right Wider stop (Ok x) more is h = tt
stop_is Right Wider stop (Err e) more is h = subst (λ (s : Stop). IsStop Wider s) (sym is) (stop_as Right Wider stop more h)

-- want of memory
pub memory_stops : {T : Type 0} (Right : Answer → Type 0) (r : Result T Stop) → IsErrAnd r (λ e. e ≡ Stopped NoMemory) → IfErr r (IsStop Right)
memory_stops Right (Ok x) is = tt
memory_stops Right (Err e) is = subst (λ (s : Stop). IsStop Right s) (sym is) tt

-- both files
pub both_merged : (files : Files) (b : BlockedProgram) (one other : List ℕ) (first second : Opened) (r : Result Draft Stop) → IsFormed b → IsOpenedFile files b one first
    → IsOpenedFile files b other second → IfOk r (λ m. JoinsBoth first second (draft_answer m)) → IfOk r (λ m. MergesBlocked files b one other (draft_answer m))
both_merged files b one other first second (Ok m) formed x y answers =
    let joined = answers b x.text y.text formed x.opened y.opened in
    merged x.text y.text first.from second.from joined.0 (draft_answer m) x.there y.there x.opened.opened y.opened.opened joined.1 joined.2
both_merged files b one other first second (Err stop) formed x y answers = tt

pub both_apart : (files : Files) (b : BlockedProgram) (one other : List ℕ) (first second : Opened) (r : Result Draft Stop) → IsOpenedFile files b one first
    → IsOpenedFile files b other second → IfErr r (StopsBoth first second) → IfErr r (IsStop (MergesBlocked files b one other))
both_apart files b one other first second (Ok m) x y ends = tt
both_apart files b one other first second (Err (Refused reply)) x y ends =
    let found = ends b x.text y.text x.opened y.opened in
    rw (found.2, found.3) (apart x.text y.text first.from second.from found.0 x.there y.there x.opened.opened y.opened.opened found.1)
both_apart files b one other first second (Err (Stopped Missing)) x y ends = absurd (cc)
both_apart files b one other first second (Err (Stopped Failed)) x y ends = tt
both_apart files b one other first second (Err (Stopped NoMemory)) x y ends = tt

-- a program in blocks
pub blocks_merged : (limits : Limits) (files : Files) (lp one other : List ℕ) (dec : Option (List ℕ)) (b : BlockedProgram) (r : Result Draft Stop) → FilesCome limits files lp dec (blocked b)
    → IfOk r (λ m. MergesBlocked files b one other (draft_answer m)) → IfOk r (λ m. Merges limits files lp one other dec (draft_answer m))
blocks_merged limits files lp one other dec b (Ok m) come h = went_on b (draft_answer m) come h
blocks_merged limits files lp one other dec b (Err stop) come h = tt

-- a front that comes to no program in blocks
pub front_stops : (limits : Limits) (files : Files) (lp one other : List ℕ) (dec : Option (List ℕ)) (fault : ShelfFault) → ComesToHalt limits files lp dec (halts.Stopped fault)
    → IsStop (Merges limits files lp one other dec) (Stopped fault)
front_stops limits files lp one other dec Missing h = stopped 11 [] h
front_stops limits files lp one other dec Failed h = tt
front_stops limits files lp one other dec NoMemory h = tt

-- a refusal's status
refusal_unfailed : (s : ℕ) → (s ≡ 3) ⊎ (s ≡ 6) → s ≢ 8
refusal_unfailed s (inl is) = λ other. omega (arith, is, other)
refusal_unfailed s (inr is) = λ other. omega (arith, is, other)

refusal_status : (s : ℕ) → (s ≡ 3) ⊎ (s ≡ 6) → IsReplyStatus s
refusal_status s (inl is) = inr (inl is)
refusal_status s (inr is) = inr (inr (inl is))

-- what a run came to that stopped before it wrote, and left all as before
stop_comes : (Right : Answer → Type 0) (told : Bool) (name : List ℕ) (before now : Files) (reads between reads_now writes writes_now : ℕ) (stop : Stop) → (IsTrue told → IsStop Right stop)
    → IsRefusal stop → CountsStopped {T = Draft} reads between (Err stop) → reads_now ≡ between → now ≡ before → writes_now ≡ writes
    → WriterComes Right (now ≡ before) told name before now reads reads_now writes writes_now (come_by_stop stop)
stop_comes Right told name before now reads between reads_now writes writes_now (Refused reply) stops refusal counted r same w =
    replied reply (refusal_status reply.status refusal) (λ is_told. record { text = None; right = stops is_told; stands = same }) (r ∙ counted) w
stop_comes Right told name before now reads between reads_now writes writes_now (Stopped Missing) stops refusal counted r same w = missing (bare 11) refl stops (λ is_told. same) (r ∙ counted) w
stop_comes Right told name before now reads between reads_now writes writes_now (Stopped Failed) stops refusal counted r same w =
    unread (bare 7) refl (λ is_told. same) (subst (λ (n : ℕ). Rose reads n) (sym r) counted.1) w
stop_comes Right told name before now reads between reads_now writes writes_now (Stopped NoMemory) stops refusal counted r same w = wanting (bare 9) refl (λ is_told. same) (r ∙ counted) w

comes_by : (Right : Answer → Type 0) (told : Bool) (name : List ℕ) (before now : Files) (reads between reads_now writes writes_now : ℕ) (r : Result Draft Stop) (come : Result Reply Unprinted)
    → (IsTrue told → IfOk r (λ d. Right (draft_answer d))) → IfOk r (λ d. d.reply.status ≡ 0) → (IsTrue told → IfErr r (IsStop Right)) → IfErr r IsRefusal
    → CountsStopped reads between r → reads_now ≡ between → WritesMerged told name before now writes writes_now r come
    → WriterComes Right (now ≡ before) told name before now reads reads_now writes writes_now come
comes_by Right told name before now reads between reads_now writes writes_now (Ok d) come right done stops refusals counted same ends =
    text_comes Right told name before now reads reads_now writes writes_now d come right done (same ∙ counted) ends
comes_by Right told name before now reads between reads_now writes writes_now (Err stop) come right done stops refusals counted same ends =
    subst (λ (c : Result Reply Unprinted). WriterComes Right (now ≡ before) told name before now reads reads_now writes writes_now c) (sym ends.0)
    (stop_comes Right told name before now reads between reads_now writes writes_now stop stops refusals counted same ends.1 ends.2)

-- what a run came to that wrote a merged certificate, or stopped before it had one: reading the files left all as before
pub merged_comes : (Right : Answer → Type 0) (told told_then : Bool) (name : List ℕ) (before files now : Files) (reads between reads_now writes writes_then writes_now : ℕ)
    (r : Result Draft Stop) (come : Result Reply Unprinted) → (IsTrue told → IfOk r (λ d. Right (draft_answer d))) → IfOk r (λ d. d.reply.status ≡ 0) → (IsTrue told → IfErr r (IsStop Right))
    → IfErr r IsRefusal → CountsStopped reads between r → told_then ≡ told → files ≡ before → writes_then ≡ writes → reads_now ≡ between
    → WritesMerged told_then name files now writes_then writes_now r come
    → WriterComes Right (now ≡ before) told name before now reads reads_now writes writes_now come
merged_comes Right told told_then name before files now reads between reads_now writes writes_then writes_now r come right done stops refusals counted same_told same_files same_writes same_reads ends =
    let a : WritesMerged told name files now writes_then writes_now r come = subst (λ (t : Bool). WritesMerged t name files now writes_then writes_now r come) same_told ends in
    let b : WritesMerged told name before now writes_then writes_now r come = subst (λ (fs : Files). WritesMerged told name fs now writes_then writes_now r come) same_files a in
    comes_by Right told name before now reads between reads_now writes writes_now r come right done stops refusals counted same_reads
    (subst (λ (n : ℕ). WritesMerged told name before now n writes_now r come) same_writes b)

-- the reply to it is none of a failed write
stop_unfailed : (stop : Stop) → IsRefusal stop → IfOk (come_by_stop stop) (λ reply. reply.status ≢ 8)
stop_unfailed (Refused reply) refusal = refusal_unfailed reply.status refusal
stop_unfailed (Stopped fault) refusal = tt

pub merged_unfailed : (told : Bool) (name : List ℕ) (before now : Files) (writes writes_now : ℕ) (r : Result Draft Stop) (come : Result Reply Unprinted) → IfOk r (λ d. d.reply.status ≡ 0)
    → IfErr r IsRefusal → WritesMerged told name before now writes writes_now r come → IfOk come (λ reply. reply.status ≢ 8)
merged_unfailed told name before now writes writes_now (Ok d) come done refusals ends = text_unfailed told name d.text.items before now writes writes_now d.reply come done ends
merged_unfailed told name before now writes writes_now (Err stop) come done refusals ends =
    subst (λ (c : Result Reply Unprinted). IfOk c (λ reply. reply.status ≢ 8)) (sym ends.0) (stop_unfailed stop refusals)
