-- What stands of a certificate where memory was wanting.
use Rattle.std.proofs.Common.{◌≡◌, ℕ, List, Option, Some}
use Rattle.bp_theory.specs.declared.Limits.{Limits}
use Rattle.bp_shelf.specs.Shelf.{Files}
use Rattle.block_program.specs.Blocked.{BlockedProgram}
use Rattle.search_laws.specs.declared.Side.{Side}
use Rattle.branch_tree.specs.declared.loaded.Loaded.{Loaded}
use Rattle.branch_tree.specs.declared.outcome.Outcome.{Outcome}
use Rattle.frontend.specs.Front.{FilesCome, blocked}
use Rattle.search_outcome.specs.Endings.{EndsAt}
use Rattle.cmd_solve.specs.Solves.{SolvesAt}
use Rattle.search_outcome.specs.Outcomes.{TellsOf, HoldsPart, AsBeforeOr}
use Rattle.cmd_solve.specs.Saves.{HoldsPartBy, LeavesPart}
use Rattle.search_outcome.proofs.Parts.{nothing_left, left_as, part_as}
use Rattle.cmd_solve.proofs.Told.{solves_at}
use Rattle.cmd_solve.proofs.Starting.{ComesFrom, begins, solves_from}

-- of an outcome of a search from a tree that was loaded, or from the start
pub part_at : (b : BlockedProgram) (from : Option Loaded) (below : Option (List Side)) (given : Option ℕ) (o : Outcome) (told : Option ℕ) (cert : Option (List ℕ)) (before now : Files)
    → EndsAt b from below given o told → AsBeforeOr (HoldsPart (TellsOf b told o) b) cert before now
    → AsBeforeOr (HoldsPart (λ kept. SolvesAt from below given kept b) b) cert before now
part_at b from below given o told cert before now ends left =
    part_as (TellsOf b told o) (λ kept. SolvesAt from below given kept b) b cert before now
    (λ kept status report right. solves_at b from below given o told kept status report ends right) left

-- of one from where it begins
pub started_part : (files : Files) (from : Option (List ℕ)) (leaf given : Option ℕ) (cuts : ℕ) (b c : BlockedProgram) (start : Option Loaded) (below : Option (List Side)) (cert : Option (List ℕ)) (before now : Files)
    → ComesFrom files from leaf cuts b c start below → AsBeforeOr (HoldsPart (λ kept. SolvesAt start below given kept c) c) cert before now
    → AsBeforeOr (HoldsPartBy files from leaf given cuts b) cert before now
started_part files from leaf given cuts b c start below cert before now come left =
    left_as (HoldsPart (λ kept. SolvesAt start below given kept c) c) (HoldsPartBy files from leaf given cuts b) cert before now by left
  where
    by : (file : Option (List ℕ)) → HoldsPart (λ kept. SolvesAt start below given kept c) c file → HoldsPartBy files from leaf given cuts b file
    by file h = (
      c,
      (start, begins files from leaf cuts b c start below come),
      record {
        outcome = h.outcome;
        status = h.status;
        report = h.report;
        right = solves_from files from leaf given cuts (Some h.outcome) b c start below h.status h.report come h.right;
        part = h.part;
      },
    )

-- of one of the program in blocks that the files come to
pub lift_part : (limits : Limits) (before : Files) (lp : List ℕ) (dec : Option (List ℕ)) (given : Option ℕ) (cert from : Option (List ℕ)) (leaf : Option ℕ) (cuts : ℕ) (now : Files) (b : BlockedProgram)
    → FilesCome limits before lp dec (blocked b) → AsBeforeOr (HoldsPartBy before from leaf given cuts b) cert before now → LeavesPart limits before lp dec given cert from leaf cuts now
lift_part limits before lp dec given cert from leaf cuts now b come left =
    left_as (HoldsPartBy before from leaf given cuts b)
    (λ file. (d : BlockedProgram) × FilesCome limits before lp dec (blocked d) × HoldsPartBy before from leaf given cuts d file) cert before now
    (λ file part. (b, come, part)) left

-- where the files come to none, or nothing was searched
pub untouched_part : (limits : Limits) (before : Files) (lp : List ℕ) (dec : Option (List ℕ)) (given : Option ℕ) (cert from : Option (List ℕ)) (leaf : Option ℕ) (cuts : ℕ) (now : Files) → now ≡ before
    → LeavesPart limits before lp dec given cert from leaf cuts now
untouched_part limits before lp dec given cert from leaf cuts now same =
    nothing_left (λ file. (d : BlockedProgram) × FilesCome limits before lp dec (blocked d) × HoldsPartBy before from leaf given cuts d file) cert before now same
