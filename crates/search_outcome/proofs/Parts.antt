-- What stands of a certificate where memory was wanting.
use Rattle.std.proofs.Common.{◌≡◌, ap, inl, inr, ℕ, List, Option, Some, None}
use Rattle.bp_shelf.specs.Shelf.{Files}
use Rattle.block_program.specs.Blocked.{BlockedProgram}
use Rattle.branch_tree.specs.declared.outcome.Outcome.{Outcome}
use Rattle.frontend.specs.declared.ending.Reply.{Reply}
use Rattle.search_outcome.specs.Outcomes.{IsSolved, TellsOf, IsPartOf, HoldsPart, AsBeforeOr}
use Rattle.search_outcome.proofs.Outcomes.{tells}

-- where nothing was written
pub nothing_left : (Part : Option (List ℕ) → Type 0) (cert : Option (List ℕ)) (before now : Files) → now ≡ before → AsBeforeOr Part cert before now
nothing_left Part None before now same = tt
nothing_left Part (Some name) before now same = inl (ap (λ (files : Files). files name) same)

-- a part in one sense is one in another
pub left_as : (P Q : Option (List ℕ) → Type 0) (cert : Option (List ℕ)) (before now : Files) → ((file : Option (List ℕ)) → P file → Q file)
    → AsBeforeOr P cert before now → AsBeforeOr Q cert before now
left_as P Q None before now each left = tt
left_as P Q (Some name) before now each (inl same) = inl same
left_as P Q (Some name) before now each (inr part) = inr (each (now name) part)

-- the same of right answers
pub part_as : (R S : Option Outcome → ℕ → List ℕ → Type 0) (b : BlockedProgram) (cert : Option (List ℕ)) (before now : Files)
    → ((kept : Option Outcome) (status : ℕ) (report : List ℕ) → R kept status report → S kept status report)
    → AsBeforeOr (HoldsPart R b) cert before now → AsBeforeOr (HoldsPart S b) cert before now
part_as R S b cert before now each left = left_as (HoldsPart R b) (HoldsPart S b) cert before now by left
  where
    by : (file : Option (List ℕ)) → HoldsPart R b file → HoldsPart S b file
    by file h = record {
      outcome = h.outcome;
      status = h.status;
      report = h.report;
      right = each (Some h.outcome) h.status h.report h.right;
      part = h.part;
    }

-- a beginning of the certificate of an outcome that would have been told
pub part_told : (b : BlockedProgram) (told : Option ℕ) (o : Outcome) (reply : Reply) (cert : Option (List ℕ)) (before now : Files) → IsSolved b told o reply
    → AsBeforeOr (IsPartOf b o) cert before now → AsBeforeOr (HoldsPart (TellsOf b told o) b) cert before now
part_told b told o reply cert before now solved left = left_as (IsPartOf b o) (HoldsPart (TellsOf b told o) b) cert before now by left
  where
    by : (file : Option (List ℕ)) → IsPartOf b o file → HoldsPart (TellsOf b told o) b file
    by file part = record { outcome = o; status = reply.status; report = reply.report.items; right = tells b told o reply solved; part = part }
