-- What is saved of the outcome of a search.
use Rattle.std.proofs.Common.{◌≡◌, ℕ, List, Option, Some, None}
use Rattle.bp_theory.specs.declared.Limits.{Limits}
use Rattle.block_program.specs.Blocked.{BlockedProgram}
use Rattle.branch_tree.specs.declared.outcome.Outcome.{Outcome}
use Rattle.bp_shelf.specs.Shelf.{Files}
use Rattle.frontend.specs.Front.{FilesCome, blocked}
use Rattle.branch_tree.specs.declared.loaded.Loaded.{Loaded}
use Rattle.search_start.specs.Starts.{BeginsBy}
use Rattle.search_outcome.specs.Outcomes.{SavesBlocked}
use Rattle.cmd_solve.specs.Saves.{SavesBy, HasCertificate}

-- what is saved of a search from the start, or from a loaded tree
pub saved_by : (files : Files) (from : Option (List ℕ)) (cuts : ℕ) (b c : BlockedProgram) (start : Option Loaded) (cert : Option (List ℕ)) (now : Files) (kept : Option Outcome)
    → BeginsBy files from cuts b c start → SavesBlocked c cert now kept → SavesBy files from cuts b cert now kept
saved_by files from cuts b c start cert now None begins saved = tt
saved_by files from cuts b c start cert now (Some outcome) begins saved = (c, (start, begins), saved)

-- where nothing is kept, nothing is saved
pub none_saved : (files : Files) (from : Option (List ℕ)) (cuts : ℕ) (b : BlockedProgram) (cert : Option (List ℕ)) (now : Files) (kept : Option Outcome) → kept ≡ None
    → SavesBy files from cuts b cert now kept
none_saved files from cuts b cert now None none = tt
none_saved files from cuts b cert now (Some outcome) none = absurd (cc)

-- what is saved of a program in blocks is so of the files that come to it
pub lift_saved : (limits : Limits) (before : Files) (lp : List ℕ) (dec cert from : Option (List ℕ)) (cuts : ℕ) (now : Files) (b : BlockedProgram) (kept : Option Outcome)
    → FilesCome limits before lp dec (blocked b) → SavesBy before from cuts b cert now kept → HasCertificate limits before lp dec cert from cuts now kept
lift_saved limits before lp dec cert from cuts now b None come saved = tt
lift_saved limits before lp dec cert from cuts now b (Some outcome) come saved = (b, come, saved)
