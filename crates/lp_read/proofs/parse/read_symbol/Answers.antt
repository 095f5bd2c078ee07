-- A symbol's own fault stands first.
use Rattle.std.proofs.Common.{sym, ◌∙◌}
use Rattle.lp_read.proofs.ReadOn.{stops_own}
use Rattle.lp_read.proofs.parse.read_symbol.Goals as goal

pub returns-in-Some-clause-fault : goal.returns-in-Some-clause-fault
returns-in-Some-clause-fault c = stops_own c.args.bytes.now c.args.at c.args.state c.args.symbol c.args.next c.in-Some.kind (sym (c.own_fault.ensures c.args.bytes.now) ∙ c.in-Some.is)

pub read_fit-requires-clause-fit : goal.read_fit-requires-clause-fit
read_fit-requires-clause-fit c = sym (c.own_fault.ensures c.args.bytes.now) ∙ c.in-None.is
