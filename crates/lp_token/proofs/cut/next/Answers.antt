-- The token behind the gap is the first.
use Rattle.std.proofs.Common.{sym, subst}
use Rattle.lp_token.specs.Cut.{IsGap}
use Rattle.lp_token.proofs.Leads.{next_fault}
use Rattle.lp_token.proofs.cut.next.Goals as goal

pub skip_blanks-here-requires-clause-place : goal.skip_blanks-here-requires-clause-place
skip_blanks-here-requires-clause-place c = c.requires.place.position

pub skip_blanks-here-requires-clause-clear : goal.skip_blanks-here-requires-clause-clear
skip_blanks-here-requires-clause-clear c = c.requires.place.clear

pub returns-then-here-bytes-clause-token : goal.returns-then-here-bytes-clause-token
returns-then-here-bytes-clause-token c = subst (IsGap c.args.bytes.now c.args.from.at) c.if-here-bytes.true c.skip_blanks-here.ensures.gap

pub returns-in-Ok-clause-token : goal.returns-in-Ok-clause-token
returns-in-Ok-clause-token c =
    let token = c.in-Ok.ensures.token in
    (subst (IsGap c.args.bytes.now c.args.from.at) (sym token.0) c.skip_blanks-here.ensures.gap, token.1, token.2)

pub returns-in-Err-clause-fault : goal.returns-in-Err-clause-fault
returns-in-Err-clause-fault c = next_fault c.args.bytes.now c.args.from.at c.skip_blanks-here.result.at c.in-Err.fault c.skip_blanks-here.ensures.gap c.in-Err.ensures.fault
