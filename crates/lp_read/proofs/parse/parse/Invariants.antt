-- The symbols so far are read and noted, and the next one is held.
use Rattle.std.proofs.Common.{◌+◌, ◌-◌, ◌<◌, ◌≤◌, List, length}
use Rattle.std.specs.Prelude.{IfSome}
use Rattle.lp_token.specs.declared.Tok.{Tok}
use Rattle.lp_token.specs.Cut.{Cut, IsBetween}
use Rattle.lp_syntax.specs.Symbols.{symbols}
use Rattle.lp_syntax.specs.TreeIn.{IsNamed}
use Rattle.lp_read.specs.Noted.{HaveRoom}
use Rattle.lp_read.specs.Parsing.{IsReading}
use Rattle.lp_read.proofs.ReadAll.{held}
use Rattle.lp_read.proofs.parse.parse.Given as goal

abbrev pub invariant-read : goal.invariant-read
invariant-read l = record {
  between : IsBetween l.bytes l.cursor.place;
  room : HaveRoom l.state.notes;
  named : IfSome l.current (IsNamed l.bytes);
  ahead : IfSome l.current (λ _. l.at < l.cursor.place.at);
  behind : l.at ≤ l.cursor.place.at;
  reads : (tokens : List Tok) → Cut l.bytes tokens → IsReading l.fn.limits l.bytes (symbols l.bytes tokens) l.at l.current l.cursor l.state;
}

abbrev pub decreases-read : goal.decreases-read
decreases-read l = length l.bytes - l.cursor.place.at + held l.current
