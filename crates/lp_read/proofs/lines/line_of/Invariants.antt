-- The token is sought among those from the place on.
use Rattle.std.proofs.Common.{◌-◌, length}
use Rattle.lp_token.specs.Cut.{IsBetween}
use Rattle.lp_read.proofs.Seeking.{Sought}
use Rattle.lp_read.proofs.lines.line_of.Given as goal

abbrev pub invariant-seek : goal.invariant-seek
invariant-seek l = record { between : IsBetween l.bytes l.place; sought : Sought l.bytes l.fn.count l.place.at l.left }

abbrev pub decreases-seek : goal.decreases-seek
decreases-seek l = length l.bytes - l.place.at
