use Rattle.cert_stream.proofs.Alike.{judged_as_whole, faulty_as_whole, not_faulty_too, not_judged_too}
use Rattle.cert_stream.proofs.pieces_are_answered_as_the_whole.Goals as goal

pub returns-clause-judged : goal.returns-clause-judged
returns-clause-judged c = judged_as_whole

pub returns-clause-faulty : goal.returns-clause-faulty
returns-clause-faulty c = faulty_as_whole

pub returns-clause-not_faulty : goal.returns-clause-not_faulty
returns-clause-not_faulty c = not_faulty_too

pub returns-clause-not_judged : goal.returns-clause-not_judged
returns-clause-not_judged c = not_judged_too
