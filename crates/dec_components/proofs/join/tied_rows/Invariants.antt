use Rattle.std.proofs.Common.{◌≡◌, ◌<◌, ℕ, List, length, get_or}
use Rattle.dec_components.specs.Forest.{IsReady, IsSound, AreTiedHome, AreMarks}
use Rattle.dec_components.proofs.join.tied_rows.Given as goal

abbrev pub invariant-loop-row : goal.invariant-loop-row
invariant-loop-row l = record {
  ready : IsReady (length l.m.program.rows) (length l.m.program.spans) l.ties.parents.items l.ties.homes.items;
  homes : (master : List ℕ) → AreMarks l.m.program master l.marks → AreTiedHome l.m.program master l.ties.parents.items l.ties.homes.items l.row;
  sound : (master : List ℕ) → AreMarks l.m.program master l.marks → IsSound l.m.program master l.ties.parents.items l.ties.homes.items;
}
