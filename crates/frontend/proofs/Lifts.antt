-- What is right for a program in blocks is right for the files that come to it, and no other status is.
use Rattle.std.proofs.Common.{◌≡◌, subst, ℕ, Bool, List, Vec, Global, Option, ◌∙◌, [], ◌≢◌, ◌⊎◌, inl, inr, Result, Ok, Err}
use Rattle.bp_theory.specs.declared.Limits.{Limits}
use Rattle.bp_shelf.specs.Shelf.{Files, CountsFailed}
use Rattle.block_program.specs.Blocked.{BlockedProgram}
use Rattle.branch_tree.specs.declared.outcome.Outcome.{Outcome}
use Rattle.frontend.specs.Front.{FilesCome, blocked, ends}
use Rattle.frontend.specs.Answers.{AnswersFront, stopped, went_on, AnswersBy, IsOnly, CutsOff}
use Rattle.bp_shelf.specs.declared.shelf.ShelfFault.{ShelfFault}
use Rattle.bp_shelf.specs.declared.shelf.ShelfFault.TheVariants.{Missing, Failed, NoMemory}
use Rattle.frontend.specs.Endings.{status_of, IsRightReply}
use Rattle.frontend.specs.Halts.{ComesToHalt, CountsHalted}
use Rattle.frontend.specs.declared.ending.Reply.{Reply}
use Rattle.frontend.specs.declared.front.Halt.{Halt}
use Rattle.frontend.specs.declared.front.Halt.TheVariants.{Refused, Stopped}
use Rattle.frontend.proofs.Finishing.{HasOneReply}
use Rattle.frontend.proofs.OneFront.{one_front}

-- an answer for the program in blocks
pub lift_answers : (limits : Limits) (files : Files) (lp : List ℕ) (dec : Option (List ℕ)) (Stops : Type 0) (Right : BlockedProgram → ℕ → List ℕ → Type 0) (b : BlockedProgram)
    (status : ℕ) (tells : Bool) (before now : List ℕ) → FilesCome limits files lp dec (blocked b) → AnswersBy (Right b) status tells before now
    → AnswersBy (AnswersFront limits files lp dec Stops Right) status tells before now
lift_answers limits files lp dec Stops Right b status tells before now come answers = λ no_read no_write no_want.
    let answer = answers no_read no_write no_want in
    (answer.0, went_on b come answer.1, answer.2)

-- no other status is right
pub lift_only : (limits : Limits) (files : Files) (lp : List ℕ) (dec : Option (List ℕ)) (Stops : Type 0) (Right : BlockedProgram → ℕ → List ℕ → Type 0) (b : BlockedProgram)
    (status : ℕ) → FilesCome limits files lp dec (blocked b) → IsOnly (Right b) status → IsOnly (AnswersFront limits files lp dec Stops Right) status
lift_only limits files lp dec Stops Right b status come only = λ no_read no_write no_want meant report right. by meant report (only no_read no_write no_want) right
  where
    by : (meant : ℕ) (report : List ℕ) → ((m : ℕ) (r : List ℕ) → Right b m r → status ≡ m) → AnswersFront limits files lp dec Stops Right meant report → status ≡ meant
    by meant report each (stopped end stops) = absurd (one_front limits files lp dec (blocked b) (ends meant report) come end)
    by meant report each (went_on c other right) =
        let same : c ≡ b = one_front limits files lp dec (blocked c) (blocked b) other come in
        each meant report (subst (λ (d : BlockedProgram). Right d meant report) same right)

-- a beginning of an answer
pub lift_cut : (limits : Limits) (files : Files) (lp : List ℕ) (dec : Option (List ℕ)) (Stops : Option Outcome → Type 0)
    (Right : Option Outcome → BlockedProgram → ℕ → List ℕ → Type 0) (b : BlockedProgram) (status : ℕ) (lost : Option (Vec ℕ Global)) (tells : Bool) (before now : List ℕ)
    → FilesCome limits files lp dec (blocked b) → CutsOff (λ kept. Right kept b) status lost tells before now
    → CutsOff (λ kept. AnswersFront limits files lp dec (Stops kept) (Right kept)) status lost tells before now
lift_cut limits files lp dec Stops Right b status lost tells before now come cuts = λ is_fault.
    let cut = cuts is_fault in
    (cut.0, cut.1, cut.2, cut.3, went_on b come cut.4, cut.5)

-- where the files come to an end of the run, its status alone is right
pub stop_only : (limits : Limits) (files : Files) (lp : List ℕ) (dec : Option (List ℕ)) (Stops : Type 0) (Right : BlockedProgram → ℕ → List ℕ → Type 0) (status end : ℕ) (report : List ℕ)
    → FilesCome limits files lp dec (ends end report) → (status ≢ 8 → status ≡ end) → IsOnly (AnswersFront limits files lp dec Stops Right) status
stop_only limits files lp dec Stops Right status end report come is = λ no_read no_write no_want meant other right. is no_write ∙ by meant other right
  where
    by : (meant : ℕ) (other : List ℕ) → AnswersFront limits files lp dec Stops Right meant other → end ≡ meant
    by meant other (stopped come' stops) = one_front limits files lp dec (ends end report) (ends meant other) come come'
    by meant other (went_on c come' right) = absurd (one_front limits files lp dec (ends end report) (blocked c) come come')

-- the same where a file could not be had
pub fault_only : (limits : Limits) (files : Files) (lp : List ℕ) (dec : Option (List ℕ)) (Stops : Type 0) (Right : BlockedProgram → ℕ → List ℕ → Type 0) (status : ℕ) (fault : ShelfFault)
    → ComesToHalt limits files lp dec (Stopped fault) → status ≡ status_of fault → IsOnly (AnswersFront limits files lp dec Stops Right) status
fault_only limits files lp dec Stops Right status Missing come is = stop_only limits files lp dec Stops Right status 11 [] come (λ _. is)
fault_only limits files lp dec Stops Right status Failed come is = λ no_read no_write no_want meant other right. absurd (no_read is)
fault_only limits files lp dec Stops Right status NoMemory come is = λ no_read no_write no_want meant other right. absurd (no_want is)

-- the status of a print that met no fault
pub printed_status : (status wanted : ℕ) → (status ≡ wanted) ⊎ (status ≡ 8) → status ≢ 8 → status ≡ wanted
printed_status status wanted (inl same) no_fault = same
printed_status status wanted (inr fault) no_fault = absurd (no_fault fault)

-- right answers have one status where those for each program in blocks have
pub one_reply : (limits : Limits) (files : Files) (lp : List ℕ) (dec : Option (List ℕ)) (Stops : Type 0) (Right : BlockedProgram → ℕ → List ℕ → Type 0) → ((b : BlockedProgram) → HasOneReply (Right b))
    → HasOneReply (AnswersFront limits files lp dec Stops Right)
one_reply limits files lp dec Stops Right one s t r q (stopped a _) (stopped b _) = one_front limits files lp dec (ends s r) (ends t q) a b
one_reply limits files lp dec Stops Right one s t r q (stopped a _) (went_on c come right) = absurd (one_front limits files lp dec (ends s r) (blocked c) a come)
one_reply limits files lp dec Stops Right one s t r q (went_on b come right) (stopped a _) = absurd (one_front limits files lp dec (blocked b) (ends t q) come a)
one_reply limits files lp dec Stops Right one s t r q (went_on b come right) (went_on c come' right') =
    let same : c ≡ b = one_front limits files lp dec (blocked c) (blocked b) come' come in
    one b s t r q right (subst (λ (d : BlockedProgram). Right d t q) same right')

-- a halt that the files come to is right
pub halt_right : (limits : Limits) (files : Files) (lp : List ℕ) (dec : Option (List ℕ)) (Stops : Type 0) (Right : BlockedProgram → ℕ → List ℕ → Type 0) (halt : Halt) → Stops
    → ComesToHalt limits files lp dec halt → IsRightReply (AnswersFront limits files lp dec Stops Right) (Err halt)
halt_right limits files lp dec Stops Right (Refused report) stops come = stopped come stops
halt_right limits files lp dec Stops Right (Stopped Missing) stops come = stopped come stops
halt_right limits files lp dec Stops Right (Stopped Failed) stops come = tt
halt_right limits files lp dec Stops Right (Stopped NoMemory) stops come = tt

-- a reply that is right for the program in blocks
pub reply_right : (limits : Limits) (files : Files) (lp : List ℕ) (dec : Option (List ℕ)) (Stops : Type 0) (Right : BlockedProgram → ℕ → List ℕ → Type 0) (b : BlockedProgram) (r : Result Reply Halt)
    → FilesCome limits files lp dec (blocked b) → IsRightReply (Right b) r → IsRightReply (AnswersFront limits files lp dec Stops Right) r
reply_right limits files lp dec Stops Right b (Ok reply) come right = went_on b come right
reply_right limits files lp dec Stops Right b (Err (Refused report)) come right = went_on b come right
reply_right limits files lp dec Stops Right b (Err (Stopped Missing)) come right = went_on b come right
reply_right limits files lp dec Stops Right b (Err (Stopped Failed)) come right = tt
reply_right limits files lp dec Stops Right b (Err (Stopped NoMemory)) come right = tt

-- a read that failed halts a run
pub counts_halt : (T U : Type 0) (fault : ShelfFault) (before now : ℕ) → CountsFailed {T = T} before now (Err fault) → CountsHalted {T = U} before now (Err (Stopped fault))
counts_halt T U Missing before now counts = counts
counts_halt T U Failed before now counts = counts
counts_halt T U NoMemory before now counts = counts
