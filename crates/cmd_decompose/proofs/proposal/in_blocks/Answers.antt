use Rattle.frontend.specs.Front.{formed}
use Rattle.cmd_decompose.proofs.Proposed.{none_listed, never_refused}
use Rattle.cmd_decompose.proofs.proposal.in_blocks.Goals as goal

pub check_blocks-requires-clause-places : goal.check_blocks-requires-clause-places
check_blocks-requires-clause-places c = c.requires.guess.1.places

pub check_blocks-requires-clause-listed : goal.check_blocks-requires-clause-listed
check_blocks-requires-clause-listed c = none_listed c.args.model.program c.args.dec c.requires.guess

pub unreachable-requires : goal.unreachable-requires
unreachable-requires c =
    never_refused c.args.model c.args.dec c.in-Err.refused.fault c.requires.kept c.requires.guess c.in-Err.ensures.fault c.in-VarPlace.is

pub returns-in-Ok : goal.returns-in-Ok
returns-in-Ok c = formed c.in-Ok.b c.in-Ok.ensures.model c.in-Ok.ensures.dec c.in-Ok.ensures.cuts c.in-Ok.ensures.formed c.in-Ok.ensures.placed
