-- What is told of the outcome of a search is what is answered by `solve`.
use Rattle.std.proofs.Common.{◌≡◌, ◌⊎◌, ◌∙◌, inl, inr, refl, sym, ap, ℕ, Bool, List, Vec, Global, Option, Some, None, ◌+◌}
use Rattle.bp_theory.specs.Trees.{steps}
use Rattle.bp_shelf.specs.Shelf.{Files}
use Rattle.block_program.specs.Blocked.{BlockedProgram}
use Rattle.search_laws.specs.declared.Side.{Side}
use Rattle.search_laws.specs.Grove.{GrowingTree, certificate_tree}
use Rattle.branch_tree.specs.declared.loaded.Loaded.{Loaded}
use Rattle.branch_tree.specs.declared.outcome.Outcome.{Outcome}
use Rattle.bp_search.specs.Ends.{EndsWithin, given_steps}
use Rattle.bp_search.specs.Below.{steps_in}
use Rattle.bp_report.specs.Report.{solve_report}
use Rattle.frontend.specs.Answers.{AnswersBy, IsOnly, CutsOff}
use Rattle.search_outcome.specs.Endings.{EndsOn, EndsAt}
use Rattle.cmd_solve.specs.Solves.{SolvesBlocked, SolvesOn, SolvesAt}
use Rattle.search_outcome.specs.Outcomes.{outcome_status, TellsOf, IsSaved}
use Rattle.cmd_solve.specs.Saves.{LeavesOn, LeavesAt}

one_outcome : (o p : Outcome) → (let x : Option Outcome = Some o in x) ≡ Some p → o ≡ p
one_outcome o p e = cc

-- an outcome of a search has its steps
pub within_on : (b : BlockedProgram) (start : GrowingTree) (below : Option (List Side)) (given : Option ℕ) (o : Outcome) (told : Option ℕ) → EndsOn b start below given o told
    → (most : ℕ) × EndsWithin b most o
within_on b start None given o told ends = (steps (certificate_tree start) + given_steps given, ends.0)
within_on b start (Some path) given o told ends = (steps_in o, ends.0.ends)

pub within_at : (b : BlockedProgram) (from : Option Loaded) (below : Option (List Side)) (given : Option ℕ) (o : Outcome) (told : Option ℕ) → EndsAt b from below given o told
    → (most : ℕ) × EndsWithin b most o
within_at b None below given o told ends = (given_steps given, ends.0)
within_at b (Some from) below given o told ends = within_on b from.grove.tree below given o told ends

-- what is told of an outcome
solves_within : (b : BlockedProgram) (most : ℕ) (given told : Option ℕ) (o : Outcome) (kept : Option Outcome) (status : ℕ) (report : List ℕ) → EndsWithin b most o → told ≡ given
    → TellsOf b told o kept status report → SolvesBlocked most given kept b status report
solves_within b most given told o kept status report ends same tells = record {
  outcome = o;
  is_kept = tells.is_kept;
  is_outcome = ends;
  has_status = tells.has_status;
  has_report = tells.has_report ∙ ap (λ (n : Option ℕ). solve_report b.named (given_steps n) o) same;
}

pub solves_on : (b : BlockedProgram) (start : GrowingTree) (below : Option (List Side)) (given : Option ℕ) (o : Outcome) (told : Option ℕ) (kept : Option Outcome) (status : ℕ) (report : List ℕ)
    → EndsOn b start below given o told → TellsOf b told o kept status report → SolvesOn start below given kept b status report
solves_on b start None given o told kept status report ends tells =
    solves_within b (steps (certificate_tree start) + given_steps given) given told o kept status report ends.0 ends.1 tells
solves_on b start (Some path) given o told kept status report ends tells = record {
  outcome = o;
  is_kept = tells.is_kept;
  is_outcome = ends.0;
  has_status = tells.has_status;
  has_report = tells.has_report ∙ ap (λ (n : Option ℕ). solve_report b.named (given_steps n) o) ends.1;
}

pub solves_at : (b : BlockedProgram) (from : Option Loaded) (below : Option (List Side)) (given : Option ℕ) (o : Outcome) (told : Option ℕ) (kept : Option Outcome) (status : ℕ) (report : List ℕ)
    → EndsAt b from below given o told → TellsOf b told o kept status report → SolvesAt from below given kept b status report
solves_at b None below given o told kept status report ends tells = solves_within b (given_steps given) given told o kept status report ends.0 ends.1 tells
solves_at b (Some from) below given o told kept status report ends tells = solves_on b from.grove.tree below given o told kept status report ends tells

pub answers_at : (b : BlockedProgram) (from : Option Loaded) (below : Option (List Side)) (given : Option ℕ) (o : Outcome) (told : Option ℕ) (kept : Option Outcome) (status : ℕ) (heard : Bool)
    (before now : List ℕ) → EndsAt b from below given o told → AnswersBy (TellsOf b told o kept) status heard before now
    → AnswersBy (SolvesAt from below given kept b) status heard before now
answers_at b from below given o told kept status heard before now ends answers = λ no_read no_write no_want.
    let x = answers no_read no_write no_want in
    (x.0, solves_at b from below given o told kept status x.0 ends x.1, x.2)

pub cut_at : (b : BlockedProgram) (from : Option Loaded) (below : Option (List Side)) (given : Option ℕ) (o : Outcome) (told : Option ℕ) (status : ℕ) (lost : Option (Vec ℕ Global)) (tells : Bool)
    (before now : List ℕ) → EndsAt b from below given o told → CutsOff (TellsOf b told o) status lost tells before now
    → CutsOff (λ kept. SolvesAt from below given kept b) status lost tells before now
cut_at b from below given o told status lost tells before now ends cuts = λ is_fault.
    let x = cuts is_fault in
    (x.0, x.1, x.2, x.3, solves_at b from below given o told x.0 x.1 x.2.items ends x.4, x.5)

-- what is answered of the outcome that is kept has its status
abbrev pub HasStatusOf : Option Outcome → ℕ → Type 0
HasStatusOf kept meant = (o : Outcome) × (kept ≡ Some o) × (meant ≡ outcome_status o)

-- one outcome is kept, so there is one such status
pub same_status : (kept : Option Outcome) (status meant : ℕ) → HasStatusOf kept status → HasStatusOf kept meant → status ≡ meant
same_status kept status meant has other = has.2 ∙ ap outcome_status (one_outcome has.0 other.0 (sym has.1 ∙ other.1)) ∙ sym other.2

pub status_on : (b : BlockedProgram) (start : GrowingTree) (below : Option (List Side)) (given : Option ℕ) (kept : Option Outcome) (meant : ℕ) (report : List ℕ)
    → SolvesOn start below given kept b meant report → HasStatusOf kept meant
status_on b start None given kept meant report right = (right.outcome, right.is_kept, right.has_status)
status_on b start (Some path) given kept meant report right = (right.outcome, right.is_kept, right.has_status)

status_at : (b : BlockedProgram) (from : Option Loaded) (below : Option (List Side)) (given : Option ℕ) (kept : Option Outcome) (meant : ℕ) (report : List ℕ)
    → SolvesAt from below given kept b meant report → HasStatusOf kept meant
status_at b None below given kept meant report right = (right.outcome, right.is_kept, right.has_status)
status_at b (Some from) below given kept meant report right = status_on b from.grove.tree below given kept meant report right

told_again : (b : BlockedProgram) (o : Outcome) (told : Option ℕ) (kept : Option Outcome) (meant : ℕ) → (kept ≡ None) ⊎ (kept ≡ Some o) → HasStatusOf kept meant
    → TellsOf b told o kept meant (solve_report b.named (given_steps told) o)
told_again b o told kept meant (inl none) has = let e = sym none ∙ has.1 in absurd (cc)
told_again b o told kept meant (inr same) has =
    let one : has.0 ≡ o = one_outcome has.0 o (sym has.1 ∙ same) in
    record { is_kept = same; has_status = has.2 ∙ ap outcome_status one; has_report = refl }

-- no other status is right
pub only_at : (b : BlockedProgram) (from : Option Loaded) (below : Option (List Side)) (given : Option ℕ) (o : Outcome) (told : Option ℕ) (kept : Option Outcome) (status : ℕ)
    → (kept ≡ None) ⊎ (kept ≡ Some o) → IsOnly (TellsOf b told o kept) status → IsOnly (SolvesAt from below given kept b) status
only_at b from below given o told kept status is only = λ no_read no_write no_want meant report right.
    only no_read no_write no_want meant (solve_report b.named (given_steps told) o)
    (told_again b o told kept meant is (status_at b from below given kept meant report right))

-- the certificate of an outcome is what its search left
pub leaves_on : (b : BlockedProgram) (start : GrowingTree) (below : Option (List Side)) (given : Option ℕ) (o : Outcome) (told : Option ℕ) (cert : Option (List ℕ)) (now : Files)
    → EndsOn b start below given o told → IsSaved b o cert now → LeavesOn start below given cert now b
leaves_on b start None given o told cert now ends saved = (o, ends.0, saved)
leaves_on b start (Some path) given o told cert now ends saved = (o, ends.0, saved)

pub leaves_at : (b : BlockedProgram) (from : Option Loaded) (below : Option (List Side)) (given : Option ℕ) (o : Outcome) (told : Option ℕ) (cert : Option (List ℕ)) (now : Files)
    → EndsAt b from below given o told → IsSaved b o cert now → LeavesAt from below given cert now b
leaves_at b None below given o told cert now ends saved = (o, ends.0, saved)
leaves_at b (Some from) below given o told cert now ends saved = leaves_on b from.grove.tree below given o told cert now ends saved
