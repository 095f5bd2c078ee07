-- What a list is answered is answered for its file, of which one byte more is read than any list may have.
use Rattle.std.proofs.Common.{◌≡◌, ◌⊎◌, ◌<◌, ◌≤◌, ◌∙◌, ℕ, List, [], Option, Some, None, Result, Ok, Err, IsSome, IfSome, IfOk, IfErr, IsErrAnd, take, length, refl, sym, ap, subst, arith, inl, inr}
use Rattle.std.proofs.lemmas.Bool.{cases_lt}
use Rattle.std.proofs.lemmas.List.{length-take-le, take_all}
use Rattle.bp_theory.specs.Limits.{most_blocks, most_bytes}
use Rattle.bp_theory.specs.declared.Limits.{Limits}
use Rattle.bp_theory.specs.Decomposition.{Decomposition}
use Rattle.bp_model.specs.Named.{NamedProgram}
use Rattle.bp_shelf.specs.Shelf.{Files}
use Rattle.bp_shelf.specs.declared.shelf.ShelfFault.{ShelfFault}
use Rattle.bp_shelf.specs.declared.shelf.ShelfFault.TheVariants.{Missing, Failed, NoMemory}
use Rattle.dec_write.specs.declared.fault.RowsKind.{RowsKind}
use Rattle.dec_write.specs.declared.fault.RowsKind.TheVariants.{Blocks}
use Rattle.dec_write.specs.Rows.{ListsRows, HasRowsFault, too_long, at_token}
use Rattle.dec_components.specs.Joined.{IsFound, HasTooMany}
use Rattle.dec_write.specs.Text.{text_of}
use Rattle.bp_report.specs.Report.{detected_report}
use Rattle.bp_report.specs.Refusals.{rows_refusal}
use Rattle.frontend.specs.Front.{HasModel}
use Rattle.frontend.specs.Halts.{CountsHalted}
use Rattle.frontend.specs.Written.{Answer, stops, draft_answer, IsHalt, IsTextHalt}
use Rattle.frontend.specs.declared.draft.Draft.{Draft}
use Rattle.frontend.specs.declared.front.Halt.{Halt}
use Rattle.frontend.specs.declared.front.Halt.TheVariants.{Refused, Stopped}
use Rattle.cmd_decompose.specs.Detects.{DetectsBeside, many, found, RowsCome, missing, faulty, read, Detects, with_model}

-- a front of so many bytes is the whole list, or both are too long
front_or_long : (limit : ℕ) (all front : List ℕ) (most : ℕ) → limit < most → front ≡ take most all
    → (front ≡ all) ⊎ ((limit < length front) × (limit < length all))
front_or_long limit all front most above is_front = go (cases_lt most (length all))
  where
    go : (most < length all) ⊎ (length all ≤ most) → (front ≡ all) ⊎ ((limit < length front) × (limit < length all))
    go (inl more) =
        let size : length front ≡ most = ap length is_front ∙ length-take-le most all (omega arith) in
        inr (omega arith, omega arith)
    go (inr fits) = inl (is_front ∙ take_all most all fits)

long_fault : (front all : List ℕ) (m : NamedProgram) (line : ℕ) (kind : RowsKind) → most_bytes m.program.limits < length front → most_bytes m.program.limits < length all → HasRowsFault front m line kind → HasRowsFault all m line kind
long_fault front all m line kind far long (too_long _ at_none is_limit) = too_long long at_none is_limit
long_fault front all m line kind far long (at_token short _ _ _ _ _ _) = absurd (omega arith)

some_same : (a b : List ℕ) → ◌≡◌ {A = Option (List ℕ)} (Some a) (Some b) → a ≡ b
some_same a b e = cc

long_rows : (m : NamedProgram) (front all : List ℕ) (a : Answer) → most_bytes m.program.limits < length front → most_bytes m.program.limits < length all → RowsCome m (Some front) a → RowsCome m (Some all) a
long_rows m front all a far long (missing x) = absurd (cc)
long_rows m front all a far long (faulty list line kind x h) =
    faulty all line kind refl (long_fault front all m line kind far long (subst (λ (t : List ℕ). HasRowsFault t m line kind) (sym (some_same front list x)) h))
long_rows m front all a far long (read list master b x h come) =
    let lists : ListsRows front m master = subst (λ (t : List ℕ). ListsRows t m master) (sym (some_same front list x)) h in
    let short = lists.short in
    absurd (omega arith)

rows_whole : (m : NamedProgram) (all front : List ℕ) (a : Answer) (most : ℕ) → most_bytes m.program.limits < most → front ≡ take most all → RowsCome m (Some front) a → RowsCome m (Some all) a
rows_whole m all front a most above is_front come = go (front_or_long (most_bytes m.program.limits) all front most above is_front)
  where
    go : (front ≡ all) ⊎ ((most_bytes m.program.limits < length front) × (most_bytes m.program.limits < length all)) → RowsCome m (Some all) a
    go (inl same) = subst (λ (t : List ℕ). RowsCome m (Some t) a) same come
    go (inr far) = long_rows m front all a far.0 far.1 come

rows_file : (m : NamedProgram) (file : Option (List ℕ)) (front : List ℕ) (a : Answer) (most : ℕ) → most_bytes m.program.limits < most → IsSome file → IfSome file (λ all. front ≡ take most all)
    → RowsCome m (Some front) a → RowsCome m file a
rows_file m None front a most above there is_front come = let none : ⊥ = cc in absurd none
rows_file m (Some all) front a most above there is_front come = rows_whole m all front a most above is_front come

-- ---- the files

front_halted : (limits : Limits) (files : Files) (lp rows : List ℕ) (m : NamedProgram) (fault : ShelfFault) → HasModel limits (files lp) m → (fault ≡ Missing → files rows ≡ None)
    → IsHalt (Detects limits files lp rows) (Stopped fault)
front_halted limits files lp rows m Missing model gone = with_model m (stops 11 []) model (missing (gone refl))
front_halted limits files lp rows m Failed model gone = tt
front_halted limits files lp rows m NoMemory model gone = tt

pub still_missing : {T : Type 0} (fault : ShelfFault) → fault ≡ Missing → ◌≡◌ {A = Result T ShelfFault} (Err fault) (Err Missing)
still_missing {T} fault is = subst (λ (f : ShelfFault). ◌≡◌ {A = Result T ShelfFault} (Err fault) (Err f)) is refl

pub front_halts : {T : Type 0} (limits : Limits) (files : Files) (lp rows : List ℕ) (m : NamedProgram) (fault : ShelfFault) (r : Result T Halt) → IsErrAnd r (λ e. e ≡ Stopped fault) → HasModel limits (files lp) m
    → (fault ≡ Missing → files rows ≡ None) → IfErr r (IsHalt (Detects limits files lp rows))
front_halts limits files lp rows m fault (Ok x) is model gone = tt
front_halts limits files lp rows m fault (Err e) is model gone = subst (λ (s : Halt). IsHalt (Detects limits files lp rows) s) (sym is) (front_halted limits files lp rows m fault model gone)

pub list_found : (limits : Limits) (files : Files) (lp rows : List ℕ) (m : NamedProgram) (front : List ℕ) (r : Result Draft Halt) (most : ℕ) → most_bytes m.program.limits < most → HasModel limits (files lp) m → IsSome (files rows)
    → IfSome (files rows) (λ all. front ≡ take most all) → IfOk r (λ f. RowsCome m (Some front) (draft_answer f)) → IfOk r (λ f. Detects limits files lp rows (draft_answer f))
list_found limits files lp rows m front (Ok f) most above model there is_front come = with_model m (draft_answer f) model (rows_file m (files rows) front (draft_answer f) most above there is_front come)
list_found limits files lp rows m front (Err e) most above model there is_front come = tt

pub list_halted : (limits : Limits) (files : Files) (lp rows : List ℕ) (m : NamedProgram) (front : List ℕ) (r : Result Draft Halt) (most : ℕ) → most_bytes m.program.limits < most → HasModel limits (files lp) m → IsSome (files rows)
    → IfSome (files rows) (λ all. front ≡ take most all) → IfErr r (IsTextHalt (RowsCome m (Some front))) → IfErr r (IsHalt (Detects limits files lp rows))
list_halted limits files lp rows m front (Ok f) most above model there is_front halts = tt
list_halted limits files lp rows m front (Err (Refused report)) most above model there is_front halts =
    with_model m (stops 3 report.items) model (rows_file m (files rows) front (stops 3 report.items) most above there is_front halts)
list_halted limits files lp rows m front (Err (Stopped Missing)) most above model there is_front halts = absurd (cc)
list_halted limits files lp rows m front (Err (Stopped Failed)) most above model there is_front halts = tt
list_halted limits files lp rows m front (Err (Stopped NoMemory)) most above model there is_front halts = tt

-- what a text is refused for raises no count
pub list_counts : {T : Type 0} (Right : Answer → Type 0) (r : Result T Halt) (before now : ℕ) → IfErr r (IsTextHalt Right) → now ≡ before → CountsHalted before now r
list_counts Right (Ok x) before now halts same = same
list_counts Right (Err (Refused report)) before now halts same = same
list_counts Right (Err (Stopped Missing)) before now halts same = same
list_counts Right (Err (Stopped Failed)) before now halts same = absurd (cc)
list_counts Right (Err (Stopped NoMemory)) before now halts same = same

-- ---- a list

pub blocks_found : (m : NamedProgram) (list master : List ℕ) (r : Result Draft Halt) → ListsRows list m master → IfOk r (λ f. DetectsBeside m master (draft_answer f)) → IfOk r (λ f. RowsCome m (Some list) (draft_answer f))
blocks_found m list master (Ok f) lists come = read list master (draft_answer f) refl lists come
blocks_found m list master (Err e) lists come = tt

pub blocks_halted : {T : Type 0} (m : NamedProgram) (list master : List ℕ) (r : Result T Halt) → ListsRows list m master → IfErr r (IsTextHalt (DetectsBeside m master)) → IfErr r (IsTextHalt (RowsCome m (Some list)))
blocks_halted m list master (Ok f) lists halts = tt
blocks_halted m list master (Err (Refused report)) lists halts = read list master (stops 3 report.items) refl lists halts
blocks_halted m list master (Err (Stopped fault)) lists halts = halts

-- ---- a decomposition that was found

come_as : (m : NamedProgram) (master : List ℕ) (s status : ℕ) (r report x text : List ℕ) → status ≡ s → report ≡ r → text ≡ x
    → DetectsBeside m master (record { status = s; report = r; text = Some x }) → DetectsBeside m master (record { status = status; report = report; text = Some text })
come_as m master s status r report x text a b c come = rw (a, b, c) come

pub found_come : (m : NamedProgram) (master : List ℕ) (d : Decomposition) (f : Draft) → IsFound m.program master d → d.blocks ≤ most_blocks m.program.limits → f.text.items ≡ text_of m d
    → f.reply.report.items ≡ detected_report d.blocks → f.reply.status ≡ 0 → DetectsBeside m master (draft_answer f)
found_come m master d f is few text report done =
    come_as m master 0 f.reply.status (detected_report d.blocks) f.reply.report.items (text_of m d) f.text.items done report text (found d is few)

pub many_come : (m : NamedProgram) (master report : List ℕ) → HasTooMany m.program master → report ≡ rows_refusal 0 Blocks → DetectsBeside m master (stops 3 report)
many_come m master report more printed = subst (λ (r : List ℕ). DetectsBeside m master (stops 3 r)) (sym printed) (many more)
