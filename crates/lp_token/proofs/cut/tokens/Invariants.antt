use Rattle.std.proofs.Common.{◌-◌, List, length}
use Rattle.lp_token.specs.declared.Tok.{Tok}
use Rattle.lp_token.specs.Cut.{IsBetween}
use Rattle.lp_token.proofs.Leads.{Leads}
use Rattle.lp_token.proofs.cut.tokens.Given as goal

abbrev pub invariant-cut : goal.invariant-cut
invariant-cut l = record { between : IsBetween l.bytes l.place; leads : Leads l.bytes l.found.items l.place.at }

abbrev pub decreases-cut : goal.decreases-cut
decreases-cut l = length l.bytes - l.place.at
