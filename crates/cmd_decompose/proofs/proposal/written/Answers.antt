use Rattle.cmd_decompose.proofs.Proposed.{reported_proposes}
use Rattle.cmd_decompose.proofs.proposal.written.Goals as goal

pub dec_text-requires-clause-places : goal.dec_text-requires-clause-places
dec_text-requires-clause-places c = c.requires.guess.1.places

pub dec_text-requires-clause-unlisted : goal.dec_text-requires-clause-unlisted
dec_text-requires-clause-unlisted c = c.requires.guess.1.unlisted

pub returns-clause-proposed : goal.returns-clause-proposed
returns-clause-proposed c =
    reported_proposes c.args.model c.args.dec c.in_ok-text.text.items c.in_ok-report.report.items c.requires.guess
    c.in_ok-text.ensures.read_back c.in_ok-text.ensures.text c.in_ok-report.ensures
