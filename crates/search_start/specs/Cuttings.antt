-- The cuts of the program that a search is over.
use Rattle.std.specs.Prelude.{◌≡◌, ℕ, ◌-◌, ◌≤◌, min, List, ◌++◌, length}
use Rattle.bp_theory.specs.Limits.{most_cuts}
use Rattle.bp_theory.specs.declared.Cut.{Cut}
use Rattle.block_program.specs.Blocked.{BlockedProgram}
use Rattle.block_program.specs.Cuts.{KeepsCuts}
use Rattle.cut_sums.specs.Plain.{AreFirstPlain}
use Rattle.round_cut.specs.Taken.{GoesOn}
use Rattle.cert_load.specs.Recut.{with_cuts}

-- how many cuts may be added behind those that there are: at most so many as are ordered, and no more than 256 in all
abbrev pub room_behind : List Cut → (ordered : ℕ) → ℕ
room_behind own ordered = min ordered (most_cuts - length own)

-- what is added where there is room for so many cuts: the program's plain cuts come first, in their order, and none of them is left out
-- while there is room; behind them come any others
pub record AreAdded (b : BlockedProgram) (room : ℕ) (added : List Cut) : Type 0 where
  pub plain : List Cut
  pub further : List Cut
  pub parts : added ≡ plain ++ further
  pub first : AreFirstPlain b.named.program b.dec room plain
  pub few : length added ≤ room

-- The program in blocks of the same model and decomposition that has these cuts and, behind them, those that are added where at most so
-- many are ordered: where none are ordered it has these alone. Each cut follows from the model's master rows and the cuts before it, so that each feasible
-- point of the model meets them all.
pub record HasCuts (b : BlockedProgram) (own : List Cut) (ordered : ℕ) (c : BlockedProgram) : Type 0 where
  pub added : List Cut
  pub adds : AreAdded b (room_behind own ordered) added
  pub kept : KeepsCuts b.named.program b.dec (own ++ added)
  pub is : c ≡ with_cuts b (own ++ added)

-- on the way there: the program has its plain cuts behind its own, as far as there is room
pub record HasPlain (b : BlockedProgram) (room : ℕ) (c : BlockedProgram) : Type 0 where
  pub plain : List Cut
  pub first : AreFirstPlain b.named.program b.dec room plain
  pub is : c ≡ with_cuts b (b.cuts ++ plain)

-- and it has others behind its own, and at most so many in all where there are others
pub record HasOthers (b : BlockedProgram) (most : ℕ) (c : BlockedProgram) : Type 0 where
  pub cuts : List Cut
  pub goes_on : GoesOn b.named.program b.dec b.cuts most cuts
  pub is : c ≡ with_cuts b cuts
