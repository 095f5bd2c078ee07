-- What each command answers makes the headline true.
use Rattle.std.proofs.Common.{◌≡◌, ◌≢◌, ◌∙◌, refl, sym, ap, subst, inl, inr, ◌⊎◌, ℕ, Bool, true, false, List, [], ◌++◌, Option, Some, None, IfSome, ◌≤◌, arith}
use Rattle.std.proofs.Math.IntN.{ℤ}
use Rattle.std.specs.Prelude.{IsTrue, is_none, ◌≤ℤ◌}
use Rattle.std.specs.Option.{option_map}
use Rattle.std.proofs.lemmas.List.{append-nil}
use Rattle.bp_theory.specs.declared.Limits.{Limits}
use Rattle.bp_theory.specs.Program.{IsFeasible, in_sense, cost}
use Rattle.bp_theory.specs.Claims.{NoneBetter}
use Rattle.bp_theory.specs.declared.Claim.{Claim}
use Rattle.bp_theory.proofs.TruthProof.{in_sense_twice}
use Rattle.bp_theory.proofs.CutProof.{certified_is_true_lem}
use Rattle.bp_theory.specs.declared.Cut.{Cut}
use Rattle.bp_theory.specs.Decomposition.{Decomposition}
use Rattle.bp_model.specs.Named.{NamedProgram}
use Rattle.bp_model.specs.Dec.{plain_of}
use Rattle.bp_shelf.specs.Shelf.{Files, OthersAsBefore}
use Rattle.lp_semantics.specs.Model.{Means}
use Rattle.bp_theory.specs.Trees.{Tree}
use Rattle.search_laws.specs.declared.Side.{Side}
use Rattle.search_laws.specs.Grove.{GrowingTree}
use Rattle.lp_semantics.specs.Reading as lp_text
use Rattle.lp_read.proofs.Readings as lp_laws
use Rattle.block_program.specs.Blocked.{BlockedProgram, IsFormed}
use Rattle.cert_format.specs.Cert.{Frame}
use Rattle.cert_format.specs.Fault.{IsCertText}
use Rattle.cert_format.specs.Written.{cert_of}
use Rattle.cert_text.specs.Programs.{frame_for}
use Rattle.cert_load.specs.Recut.{with_cuts}
use Rattle.cert_load.proofs.Frames.{same_frame}
use Rattle.branch_tree.specs.declared.outcome.Outcome.{Outcome}
use Rattle.branch_tree.specs.declared.outcome.Outcome.TheVariants.{Optimal, Infeasible, Budget}
use Rattle.bp_search.specs.Ends.{EndsWithin, given_steps, last_step}
use Rattle.bp_search.specs.Below.{steps_in}
use Rattle.bp_report.specs.Report.{solve_report}
use Rattle.cert_report.specs.Certificates.{accepted_report}
use Rattle.frontend.specs.Front.{Front, blocked, ends, BlocksCome, formed, refused, DecComes, plain, missing, faulty, read, FilesCome, missing_lp, faulty_lp, read_lp}
use Rattle.frontend.specs.Answers.{AnswersBy, stopped, went_on, IsStatus}
use Rattle.frontend.proofs.OneFront.{one_front, plain_front}
use Rattle.cmd_check.specs.Checks as checks
use Rattle.cmd_check.specs.Checks.{ChecksBlocked, ChecksWithin, ChecksVisiting, AnswersCheck}
use Rattle.search_start.specs.Cuttings.{HasCuts}
use Rattle.search_start.specs.Starts as starts
use Rattle.search_start.specs.Starts.{RefusesStart, IsStartAt, SearchesOver}
use Rattle.search_start.specs.Leaves.{IsWorkedOn}
use Rattle.cmd_solve.specs.Solves as solves
use Rattle.cmd_solve.specs.Solves.{SolvesBlocked, SolvesBelow, SolvesOn, SolvesBy, AnswersSolve}
use Rattle.search_outcome.specs.Outcomes.{outcome_status, outcome_certificate, IsSpelledOut, IsSaved}
use Rattle.cmd_solve.specs.Saves.{HasCertificate}
use Rattle.bp_cli.proofs.PlainForm.{plain_fault}
use Rattle.bp_cli.specs.Headline.{IsTrueReport, optimal, infeasible, budget, HasProgram, IsCount, IsStoppedAfter, IsOutcomeStatus, WasStopped, TellsTruly, AcceptsTruly}

-- ---- what files come to

-- what is true of an end, and of a program in blocks
abbrev EndsOrHas : (ℕ → Type 0) → (BlockedProgram → Type 0) → Front → Type 0
EndsOrHas Ends Has (blocked b) = Has b
EndsOrHas Ends Has (ends status report) = Ends status

abbrev IsRefusal : ℕ → Type 0
IsRefusal status = (status ≡ 3) ⊎ (status ≡ 11)

blocks_come : (m : NamedProgram) (d : Decomposition) (f : Front) → BlocksCome m d f → EndsOrHas IsRefusal (λ b. b.named ≡ m) f
blocks_come m d f (formed b named decs uncut is placed) = named
blocks_come m d f (refused fault known has) = inl refl

dec_comes : (files : Files) (m : NamedProgram) (name : Option (List ℕ)) (f : Front) → DecComes files m name f → EndsOrHas IsRefusal (λ b. b.named ≡ m) f
dec_comes files m name f (plain _ come) = blocks_come m (plain_of m.program) f come
dec_comes files m name f (missing n there) = inr refl
dec_comes files m name f (faulty n text line kind there fault) = inl refl
dec_comes files m name f (read n text d _ there reads come) = blocks_come m d f come

-- files come to an end under status 3 or 11, or to a program in blocks that the LP text means
files_come : (limits : Limits) (files : Files) (lp : List ℕ) (dec : Option (List ℕ)) (f : Front) → FilesCome limits files lp dec f → EndsOrHas IsRefusal (λ b. HasProgram limits (files lp) b.named) f
files_come limits files lp dec f (missing_lp there) = inr refl
files_come limits files lp dec f (faulty_lp text line kind there fault) = inl refl
files_come limits files lp dec f (read_lp text m _ there means come) = by f (dec_comes files m dec f come)
  where
    by : (g : Front) → EndsOrHas IsRefusal (λ b. b.named ≡ m) g → EndsOrHas IsRefusal (λ b. HasProgram limits (files lp) b.named) g
    by (blocked b) named = record { text = text; there = there; means = subst (λ (n : NamedProgram). Means limits text n) (sym named) means }
    by (ends status report) is = is

-- files that no longer hold the same come to the same where those that are read do
files_move : (limits : Limits) (before now : Files) (lp : List ℕ) (dec : Option (List ℕ)) (f : Front) → now lp ≡ before lp → ((name : List ℕ) → dec ≡ Some name → now name ≡ before name)
    → FilesCome limits before lp dec f → FilesCome limits now lp dec f
files_move limits before now lp dec f same others (missing_lp there) = missing_lp (same ∙ there)
files_move limits before now lp dec f same others (faulty_lp text line kind there fault) = faulty_lp text line kind (same ∙ there) fault
files_move limits before now lp dec f same others (read_lp text m _ there means come) = read_lp text m f (same ∙ there) means (by dec f others come)
  where
    by : (d : Option (List ℕ)) (g : Front) → ((name : List ℕ) → d ≡ Some name → now name ≡ before name) → DecComes before m d g → DecComes now m d g
    by d g still (plain _ come) = plain g come
    by d g still (missing name gone) = missing name (still name refl ∙ gone)
    by d g still (faulty name words line kind stands fault) = faulty name words line kind (still name refl ∙ stands) fault
    by d g still (read name words e _ stands reads come) = read name words e g (still name refl ∙ stands) reads come

-- ---- accepted files come to no end

abbrev NoEnd : Front → Type 0
NoEnd f = EndsOrHas (λ status. ⊥) (λ b. Unit {0}) f

plain_blocks : (limits : Limits) (text : List ℕ) (m : NamedProgram) (f : Front) → Means limits text m → BlocksCome m (plain_of m.program) f → NoEnd f
plain_blocks limits text m f means (formed b named decs uncut is placed) = tt
plain_blocks limits text m f means (refused fault known has) = absurd (plain_fault limits text m fault means known has)

plain_dec : (limits : Limits) (files : Files) (text : List ℕ) (m : NamedProgram) (f : Front) → Means limits text m → DecComes files m None f → NoEnd f
plain_dec limits files text m f means (plain _ come) = plain_blocks limits text m f means come

plain_files : (limits : Limits) (files : Files) (lp : List ℕ) (m : NamedProgram) (f : Front) → HasProgram limits (files lp) m → FilesCome limits files lp None f → NoEnd f
plain_files limits files lp m f has (missing_lp there) = let text = has.there in absurd (cc)
plain_files limits files lp m f has (faulty_lp text line kind there fault) =
    let same : text ≡ has.text = one_text (files lp) text has.text there has.there in
    absurd (lp_laws.model_or_fault limits has.text has.means.0 line kind has.means.1 (subst (λ (t : List ℕ). lp_text.HasLpTextFault limits t line kind) same fault))
  where
    one_text : (file : Option (List ℕ)) (t u : List ℕ) → file ≡ Some t → file ≡ Some u → t ≡ u
    one_text file t u a b = cc
plain_files limits files lp m f has (read_lp text n _ there means come) = plain_dec limits files text n f means come

-- ---- outcomes

-- a told outcome is true
true_outcome : (b : BlockedProgram) (most given : ℕ) (o : Outcome) → EndsWithin b most o → IsTrueReport b.named given (outcome_status o) (solve_report b.named given o)
true_outcome b most given (Optimal g point value) is = optimal point is.best refl refl
true_outcome b most given (Infeasible g) is = infeasible is.none_feasible refl (append-nil _)
true_outcome b most given (Budget g best bound) is =
    budget (in_sense b.named.program.maximises bound) (option_map (λ (k : List ℤ × ℤ). k.0) best) none (known best is.kept) refl refl
  where
    none : NoneBetter b.named.program (in_sense b.named.program.maximises bound)
    none x feasible = subst (λ (z : ℤ). z ≤ℤ cost b.named.program x) (sym (in_sense_twice b.named.program.maximises bound)) (is.none_below x feasible)

    known : (k : Option (List ℤ × ℤ)) → IfSome k (λ e. IsFeasible b.named.program e.0 × (e.1 ≡ cost b.named.program e.0))
        → IfSome (option_map (λ (e : List ℤ × ℤ). e.0) k) (IsFeasible b.named.program)
    known None h = tt
    known (Some e) h = h.0

outcome_statuses : (o : Outcome) → IsOutcomeStatus (outcome_status o)
outcome_statuses (Optimal g point value) = inl refl
outcome_statuses (Infeasible g) = inr (inl refl)
outcome_statuses (Budget g best bound) = inr (inr refl)

-- an outcome that is out of steps has taken them
spent : (b : BlockedProgram) (most : ℕ) (o : Outcome) → EndsWithin b most o → outcome_status o ≡ 5 → IsStoppedAfter (Some o) most
spent b most (Optimal g point value) is five = absurd (cc)
spent b most (Infeasible g) is five = absurd (cc)
spent b most (Budget g best bound) is five = record { grove = g; best = best; least = bound; is_kept = refl; taken = is.spent }

-- the steps that are told
count_all : (leaf : Option ℕ) (given : ℕ) → IsCount leaf given given
count_all None given = refl
count_all (Some number) given = omega arith

count_below : (tree : Tree) (leaf : Option ℕ) (path : List Side) (given told : ℕ) → IsWorkedOn tree leaf (Some path) → told ≤ given → IsCount leaf given told
count_below tree None path given told worked few = absurd (cc)
count_below tree (Some number) path given told worked few = few

-- what is told of a program in blocks
tells_true : (limits : Limits) (files : Files) (lp : List ℕ) (leaf : Option ℕ) (b : BlockedProgram) (most : ℕ) (steps : Option ℕ) (begun : Bool) (kept : Option Outcome) (status : ℕ) (report before now : List ℕ)
    → HasProgram limits (files lp) b.named → SolvesBlocked most steps kept b status report → (IsTrue begun → most ≡ given_steps steps) → now ≡ before ++ report
    → TellsTruly limits (files lp) leaf (given_steps steps) begun kept status before now
tells_true limits files lp leaf b most steps begun kept status report before now has right same printed = record {
  program = b.named;
  report = report;
  told = given_steps steps;
  counted = count_all leaf (given_steps steps);
  read = has;
  is_true = subst (λ (s : ℕ). IsTrueReport b.named (given_steps steps) s report) (sym right.has_status)
      (subst (λ (r : List ℕ). IsTrueReport b.named (given_steps steps) (outcome_status right.outcome) r) (sym right.has_report)
      (true_outcome b most (given_steps steps) right.outcome right.is_outcome));
  printed = printed;
  spent = λ five is_begun. subst (λ (k : Option Outcome). IsStoppedAfter k (given_steps steps)) (sym right.is_kept)
      (subst (λ (n : ℕ). IsStoppedAfter (Some right.outcome) n) (same is_begun)
      (spent b most right.outcome right.is_outcome (sym right.has_status ∙ five)));
}

-- what is told of a search below one leaf alone
tells_below : (limits : Limits) (files : Files) (lp : List ℕ) (leaf : Option ℕ) (b : BlockedProgram) (start : GrowingTree) (path : List Side) (steps : Option ℕ) (kept : Option Outcome) (status : ℕ)
    (report before now : List ℕ) → HasProgram limits (files lp) b.named → SolvesBelow start path steps kept b status report
    → ((told : ℕ) → told ≤ given_steps steps → IsCount leaf (given_steps steps) told) → now ≡ before ++ report
    → TellsTruly limits (files lp) leaf (given_steps steps) false kept status before now
tells_below limits files lp leaf b start path steps kept status report before now has right counts printed = record {
  program = b.named;
  report = report;
  told = right.is_outcome.taken;
  counted = counts right.is_outcome.taken right.is_outcome.few;
  read = has;
  is_true = subst (λ (s : ℕ). IsTrueReport b.named right.is_outcome.taken s report) (sym right.has_status)
      (subst (λ (r : List ℕ). IsTrueReport b.named right.is_outcome.taken (outcome_status right.outcome) r) (sym right.has_report)
      (true_outcome b (steps_in right.outcome) right.is_outcome.taken right.outcome right.is_outcome.ends));
  printed = printed;
  spent = λ five is_begun. absurd (cc);
}

-- ---- what `solve` tells

not_outcome : (status : ℕ) → IsOutcomeStatus status → (status ≡ 3) ⊎ (status ≡ 6) ⊎ (status ≡ 11) → ⊥
not_outcome status (inl zero) (inl three) = absurd (cc)
not_outcome status (inl zero) (inr (inl six)) = absurd (cc)
not_outcome status (inl zero) (inr (inr eleven)) = absurd (cc)
not_outcome status (inr (inl four)) (inl three) = absurd (cc)
not_outcome status (inr (inl four)) (inr (inl six)) = absurd (cc)
not_outcome status (inr (inl four)) (inr (inr eleven)) = absurd (cc)
not_outcome status (inr (inr five)) (inl three) = absurd (cc)
not_outcome status (inr (inr five)) (inr (inl six)) = absurd (cc)
not_outcome status (inr (inr five)) (inr (inr eleven)) = absurd (cc)

as_refusal : (status : ℕ) → IsRefusal status → (status ≡ 3) ⊎ (status ≡ 6) ⊎ (status ≡ 11)
as_refusal status (inl three) = inl three
as_refusal status (inr eleven) = inr (inr eleven)

-- an outcome's status is none of a run that was stopped
went_through : (status : ℕ) → IsOutcomeStatus status → (status ≢ 7) × (status ≢ 8) × (status ≢ 9)
went_through status (inl zero) = ((λ e. absurd (cc)), (λ e. absurd (cc)), (λ e. absurd (cc)))
went_through status (inr (inl four)) = ((λ e. absurd (cc)), (λ e. absurd (cc)), (λ e. absurd (cc)))
went_through status (inr (inr five)) = ((λ e. absurd (cc)), (λ e. absurd (cc)), (λ e. absurd (cc)))

refuses_status : (b : BlockedProgram) (leaf : Option ℕ) (text : List ℕ) (status : ℕ) (report : List ℕ) → RefusesStart b leaf text status report → (status ≡ 3) ⊎ (status ≡ 6) ⊎ (status ≡ 11)
refuses_status b leaf text status report (starts.faulty line kind fault is printed) = inl is
refuses_status b leaf text status report (starts.rejected cert line kind spells has fault is printed) = inr (inl is)
refuses_status b leaf text status report (starts.too_deep cert line spells has valid deep is printed) = inl is
refuses_status b leaf text status report (starts.no_leaf from number start named none is printed) = inl is

-- the program with cuts is of the same model
same_model : (limits : Limits) (files : Files) (lp : List ℕ) (b c : BlockedProgram) (own : List Cut) (cuts : ℕ) → HasCuts b own cuts c → HasProgram limits (files lp) b.named → HasProgram limits (files lp) c.named
same_model limits files lp b c own cuts over has = subst (λ (x : BlockedProgram). HasProgram limits (files lp) x.named) (sym over.is) has

-- what is answered under an outcome's status is told truly
solves_told : (limits : Limits) (files : Files) (lp : List ℕ) (steps : Option ℕ) (from : Option (List ℕ)) (leaf : Option ℕ) (cuts : ℕ) (kept : Option Outcome) (b : BlockedProgram) (status : ℕ) (report before now : List ℕ)
    → HasProgram limits (files lp) b.named → SolvesBy files from leaf steps cuts kept b status report → IsOutcomeStatus status → now ≡ before ++ report
    → TellsTruly limits (files lp) leaf (given_steps steps) (is_none from) kept status before now
solves_told limits files lp steps None leaf cuts kept b status report before now has right is printed =
    tells_true limits files lp leaf right.over (given_steps steps) steps true kept status report before now (same_model limits files lp b right.over [] cuts right.has_cuts has)
    right.solves (λ begun. refl) printed
solves_told limits files lp steps (Some name) leaf cuts kept b status report before now has (solves.missing gone none eleven empty) is printed =
    absurd (not_outcome status is (inr (inr eleven)))
solves_told limits files lp steps (Some name) leaf cuts kept b status report before now has (solves.refused text there none refuses) is printed =
    absurd (not_outcome status is (refuses_status b leaf text status report refuses))
solves_told limits files lp steps (Some name) leaf cuts kept b status report before now has (solves.went_on text from below c there start over right) is printed = on below start right
  where
    same : HasProgram limits (files lp) c.named
    same = same_model limits files lp b c start.start.cert.cuts cuts over has

    on : (below : Option (List Side)) → IsStartAt b leaf text from below → SolvesOn from.grove.tree below steps kept c status report
        → TellsTruly limits (files lp) leaf (given_steps steps) false kept status before now
    on None start right =
        tells_true limits files lp leaf c (last_step from.grove steps) steps false kept status report before now same right (λ begun. absurd (cc)) printed
    on (Some path) start right =
        tells_below limits files lp leaf c from.grove.tree path steps kept status report before now same right
        (λ told few. count_below start.start.cert.tree leaf path (given_steps steps) told start.worked_on few) printed

pub solves_truly : (limits : Limits) (files : Files) (lp : List ℕ) (dec : Option (List ℕ)) (steps : Option ℕ) (from : Option (List ℕ)) (leaf : Option ℕ) (cuts : ℕ) (kept : Option Outcome) (status : ℕ) (tells : Bool) (before now : List ℕ)
    → AnswersBy (AnswersSolve limits files lp dec steps from leaf cuts kept) status tells before now → IsTrue tells → IsOutcomeStatus status
    → TellsTruly limits (files lp) leaf (given_steps steps) (is_none from) kept status before now
solves_truly limits files lp dec steps from leaf cuts kept status tells before now answers heard is =
    let through = went_through status is in
    let answer = answers through.0 through.1 through.2 in
    by answer.0 answer.1 (answer.2 heard)
  where
    by : (report : List ℕ) → AnswersSolve limits files lp dec steps from leaf cuts kept status report → now ≡ before ++ report
        → TellsTruly limits (files lp) leaf (given_steps steps) (is_none from) kept status before now
    by report (stopped come stops) printed =
        absurd (not_outcome status is (as_refusal status (files_come limits files lp dec (ends status report) come)))
    by report (went_on b come right) printed =
        solves_told limits files lp steps from leaf cuts kept b status report before now (files_come limits files lp dec (blocked b) come) right is printed

-- ---- accepted files are told an outcome

solved_status : (b : BlockedProgram) (most : ℕ) (steps : Option ℕ) (kept : Option Outcome) (status : ℕ) (report : List ℕ) → SolvesBlocked most steps kept b status report → IsOutcomeStatus status
solved_status b most steps kept status report right = subst IsOutcomeStatus (sym right.has_status) (outcome_statuses right.outcome)

solves_unless : (limits : Limits) (files : Files) (lp : List ℕ) (dec : Option (List ℕ)) (steps leaf : Option ℕ) (cuts : ℕ) (kept : Option Outcome) (status : ℕ) (tells : Bool) (before now : List ℕ)
    → IsStatus status → AnswersBy (AnswersSolve limits files lp dec steps None leaf cuts kept) status tells before now → ((s : ℕ) (r : List ℕ) → FilesCome limits files lp dec (ends s r) → ⊥)
    → IsOutcomeStatus status ⊎ WasStopped status
solves_unless limits files lp dec steps leaf cuts kept status tells before now known answers accepted = by known
  where
    told_right : (report : List ℕ) → AnswersSolve limits files lp dec steps None leaf cuts kept status report → IsOutcomeStatus status
    told_right report (stopped come stops) = absurd (accepted status report come)
    told_right report (went_on b come right) = solved_status right.over (given_steps steps) steps kept status report right.solves

    going : (status ≢ 7) → (status ≢ 8) → (status ≢ 9) → IsOutcomeStatus status ⊎ WasStopped status
    going a b c = let answer = answers a b c in inl (told_right answer.0 answer.1)

    by : IsStatus status → IsOutcomeStatus status ⊎ WasStopped status
    by (inl is) = inl (inl is)
    by (inr (inl is)) = going (λ e. absurd (cc)) (λ e. absurd (cc)) (λ e. absurd (cc))
    by (inr (inr (inl is))) = going (λ e. absurd (cc)) (λ e. absurd (cc)) (λ e. absurd (cc))
    by (inr (inr (inr (inl is)))) = inl (inr (inl is))
    by (inr (inr (inr (inr (inl is))))) = inl (inr (inr is))
    by (inr (inr (inr (inr (inr (inl is)))))) = going (λ e. absurd (cc)) (λ e. absurd (cc)) (λ e. absurd (cc))
    by (inr (inr (inr (inr (inr (inr (inl is))))))) = inr (inl is)
    by (inr (inr (inr (inr (inr (inr (inr (inl is)))))))) = inr (inr (inl is))
    by (inr (inr (inr (inr (inr (inr (inr (inr (inl is))))))))) = inr (inr (inr is))
    by (inr (inr (inr (inr (inr (inr (inr (inr (inr (inl is)))))))))) = going (λ e. absurd (cc)) (λ e. absurd (cc)) (λ e. absurd (cc))
    by (inr (inr (inr (inr (inr (inr (inr (inr (inr (inr is)))))))))) = going (λ e. absurd (cc)) (λ e. absurd (cc)) (λ e. absurd (cc))

pub solves_accepted : (limits : Limits) (files : Files) (lp : List ℕ) (steps leaf : Option ℕ) (cuts : ℕ) (kept : Option Outcome) (status : ℕ) (tells : Bool) (before now : List ℕ)
    → IsStatus status → AnswersBy (AnswersSolve limits files lp None steps None leaf cuts kept) status tells before now → (m : NamedProgram) → HasProgram limits (files lp) m
    → IsOutcomeStatus status ⊎ WasStopped status
solves_accepted limits files lp steps leaf cuts kept status tells before now known answers m has =
    solves_unless limits files lp None steps leaf cuts kept status tells before now known answers (λ s r come. plain_files limits files lp m (ends s r) has come)

pub solves_decomposed : (limits : Limits) (files : Files) (lp : List ℕ) (dec : Option (List ℕ)) (steps leaf : Option ℕ) (cuts : ℕ) (kept : Option Outcome) (status : ℕ) (tells : Bool) (before now : List ℕ)
    → IsStatus status → AnswersBy (AnswersSolve limits files lp dec steps None leaf cuts kept) status tells before now → (b : BlockedProgram) → FilesCome limits files lp dec (blocked b)
    → IsOutcomeStatus status ⊎ WasStopped status
solves_decomposed limits files lp dec steps leaf cuts kept status tells before now known answers b come =
    solves_unless limits files lp dec steps leaf cuts kept status tells before now known answers (λ s r other. one_front limits files lp dec (ends s r) (blocked b) other come)

-- ---- the certificate that is written is accepted

-- a search is over the program in blocks that the files come to, with cuts
over_cuts : (files : Files) (from : Option (List ℕ)) (cuts : ℕ) (b c : BlockedProgram) → SearchesOver files from cuts b c → (all : List Cut) × (c ≡ with_cuts b all)
over_cuts files None cuts b c over = (over.1.1.added, over.1.1.is)
over_cuts files (Some name) cuts b c over = (over.1.3.cert.cuts ++ over.1.4.added, over.1.4.is)

-- the text of a valid certificate of a program with cuts is one of the program without them
spelled_over : (b : BlockedProgram) (cuts : List Cut) (o : Outcome) (text : List ℕ) → IsFormed b → IsSpelledOut (with_cuts b cuts) o text
    → IsCertText (frame_for b) (cert_of (outcome_certificate (with_cuts b cuts) o)) text
spelled_over b cuts o text made out =
    subst (λ (frame : Frame). IsCertText frame (cert_of (outcome_certificate (with_cuts b cuts) o)) text) (same_frame b cuts made) (_, out.spelled)

pub writes_certificate : (limits : Limits) (before now : Files) (lp cert : List ℕ) (dec from : Option (List ℕ)) (cuts : ℕ) (o : Outcome) → HasCertificate limits before lp dec (Some cert) from cuts now (Some o)
    → OthersAsBefore cert before now → cert ≢ lp → dec ≢ Some cert → (claim : Claim) × AnswersCheck limits now lp cert dec None 0 (accepted_report claim)
writes_certificate limits before now lp cert dec from cuts o has others apart away =
    let b = has.0 in
    let plain = plain_front limits before lp dec (blocked b) has.1 in
    let over = over_cuts before from cuts b has.2.0 has.2.1 in
    let c : BlockedProgram = with_cuts b over.0 in
    let saved : IsSaved c o (Some cert) now = subst (λ (x : BlockedProgram). IsSaved x o (Some cert) now) over.1 has.2.2 in
    let written = outcome_certificate c o in (
      written.claim,
      went_on b (files_move limits before now lp dec (blocked b) (others lp (λ e. apart (sym e))) (λ name is. others name (λ e. away (is ∙ ap (λ (t : List ℕ). Some t) e))) has.1)
          (checks.accepted saved.0 written saved.1 (spelled_over b over.0 o saved.0 plain.0 saved.2) saved.2.valid
          (certified_is_true_lem b.named.program b.dec written plain.0.kept.closed saved.2.valid) refl refl),
    )

-- ---- what `check` accepts

pub checks_truly : (limits : Limits) (files : Files) (lp cert : List ℕ) (dec : Option (List ℕ)) (visits : Option ℕ) (status : ℕ) (tells : Bool) (before now : List ℕ)
    → AnswersBy (AnswersCheck limits files lp cert dec visits) status tells before now → IsTrue tells → status ≡ 0 → AcceptsTruly limits (files lp) before now
checks_truly limits files lp cert dec visits status tells before now answers told zero =
    let through = went_through status (inl zero) in
    let answer = answers through.0 through.1 through.2 in
    by answer.0 answer.1 (answer.2 told)
  where
    by_blocks : (b : BlockedProgram) (report : List ℕ) → HasProgram limits (files lp) b.named → ChecksBlocked files cert b status report → now ≡ before ++ report → AcceptsTruly limits (files lp) before now
    by_blocks b report has (checks.missing gone eleven empty) printed = absurd (not_outcome status (inl zero) (inr (inr eleven)))
    by_blocks b report has (checks.faulty text line kind there fault three heard) printed = absurd (not_outcome status (inl zero) (inl three))
    by_blocks b report has (checks.accepted text c there spells valid is_true is heard) printed =
        record { program = b.named; claim = c.claim; read = has; is_true = is_true; printed = printed ∙ ap (λ (r : List ℕ). before ++ r) heard }
    by_blocks b report has (checks.rejected text c line kind there spells point fault six heard) printed = absurd (not_outcome status (inl zero) (inr (inl six)))

    within : (b : BlockedProgram) (most : ℕ) (report : List ℕ) → HasProgram limits (files lp) b.named → ChecksWithin most files cert b status report → now ≡ before ++ report → AcceptsTruly limits (files lp) before now
    within b most report has (checks.unknown line at ten heard) printed = let none : 0 ≡ 10 = sym zero ∙ ten in absurd (omega (arith, none))
    within b most report has (checks.known none right) printed = by_blocks b report has right printed

    visiting : (b : BlockedProgram) (given : Option ℕ) (report : List ℕ) → HasProgram limits (files lp) b.named → ChecksVisiting given files cert b status report → now ≡ before ++ report → AcceptsTruly limits (files lp) before now
    visiting b None report has right printed = by_blocks b report has right printed
    visiting b (Some most) report has right printed = within b most report has right printed

    by : (report : List ℕ) → AnswersCheck limits files lp cert dec visits status report → now ≡ before ++ report → AcceptsTruly limits (files lp) before now
    by report (stopped come stops) printed =
        absurd (not_outcome status (inl zero) (as_refusal status (files_come limits files lp dec (ends status report) come)))
    by report (went_on b come right) printed = visiting b visits report (files_come limits files lp dec (blocked b) come) right printed
