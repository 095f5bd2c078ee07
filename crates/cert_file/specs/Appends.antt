-- What writing lines one by one does to the files of a shelf.
use Rattle.std.specs.Prelude.{◌≡◌, ℕ, ◌≤◌, List, ◌++◌, Some, Result, Ok, Err}
use Rattle.bp_shelf.specs.Shelf.{Files, OthersAsBefore, Rose}
use Rattle.bp_shelf.specs.declared.shelf.ShelfFault.{ShelfFault}
use Rattle.bp_shelf.specs.declared.shelf.ShelfFault.TheVariants as faults
use Rattle.cert_file.specs.declared.stop.StreamStop.{StreamStop}
use Rattle.cert_file.specs.declared.stop.StreamStop.TheVariants.{Failed, NoMemory}

-- a text goes to the end of the named file: whole, or a beginning of it for want of memory; a write that failed may leave anything
abbrev pub Adds : {X : Type 0} → (name text : List ℕ) → (before now : Files) → Result X StreamStop → Type 0
Adds name text before now (Ok _) = (file : List ℕ) → before name ≡ Some file → now name ≡ Some (file ++ text)
Adds name text before now (Err NoMemory) =
    (file : List ℕ) → before name ≡ Some file → (part : List ℕ) × (rest : List ℕ) × (text ≡ part ++ rest) × (now name ≡ Some (file ++ part))
Adds name text before now (Err Failed) = Unit {0}

-- and all other files are as before
pub record Appends {X : Type 0} (name text : List ℕ) (before now : Files) (result : Result X StreamStop) : Type 0 where
  pub adds : Adds name text before now result
  pub others : OthersAsBefore name before now

-- the named file holds a text, or what it held for want of memory
abbrev pub Holds : (name text : List ℕ) → (before now : Files) → Result (Unit {0}) StreamStop → Type 0
Holds name text before now (Ok _) = now name ≡ Some text
Holds name text before now (Err NoMemory) = now name ≡ before name
Holds name text before now (Err Failed) = Unit {0}

pub record Heads (name text : List ℕ) (before now : Files) (result : Result (Unit {0}) StreamStop) : Type 0 where
  pub holds : Holds name text before now result
  pub others : OthersAsBefore name before now

-- why a write was not done; none answers that a file is missing
abbrev pub stop_of : ShelfFault → StreamStop
stop_of faults.Missing = NoMemory
stop_of faults.Failed = Failed
stop_of faults.NoMemory = NoMemory

-- the count of failed writes rose at `Failed`, and is as before else
abbrev pub CountsStop : {X : Type 0} → ℕ → ℕ → Result X StreamStop → Type 0
CountsStop before now (Ok _) = now ≡ before
CountsStop before now (Err Failed) = (before ≤ now) × Rose before now
CountsStop before now (Err NoMemory) = now ≡ before
