use Rattle.std.proofs.Common.{◌-◌, List, length}
use Rattle.lp_token.specs.declared.Tok.{Tok}
use Rattle.lp_token.specs.Cut.{IsBetween}
use Rattle.lp_token.proofs.Leads.{Leads}
use Rattle.lp_token.proofs.cut.check_cut.Given as goal

abbrev pub invariant-check : goal.invariant-check
invariant-check l = record { between : IsBetween l.bytes l.place; leads : (found : List Tok) × Leads l.bytes found l.place.at }

abbrev pub decreases-check : goal.decreases-check
decreases-check l = length l.bytes - l.place.at
