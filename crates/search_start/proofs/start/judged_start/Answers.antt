use Rattle.search_start.proofs.Beginning.{start_rejected, start_valid, start_known}
use Rattle.search_start.proofs.start.judged_start.Goals as goal

pub loaded_start-requires-clause-valid : goal.loaded_start-requires-clause-valid
loaded_start-requires-clause-valid c =
    start_valid c.args.b.now c.args.cert.now c.in_ok-judged.judged c.in-Accepted.field-0 c.in-Accepted.is c.in_ok-judged.ensures.judged

pub returns-in_ok-check_text-in-Rejected-clause-start : goal.returns-in_ok-check_text-in-Rejected-clause-start
returns-in_ok-check_text-in-Rejected-clause-start c = λ text spelled.
    start_rejected c.args.b.now c.args.leaf c.args.cert.now c.in_ok-judged.judged c.in-Rejected.line c.in-Rejected.kind _ text c.in-Rejected.is
    c.in_ok-judged.ensures.judged c.in_ok-check_text-in-Rejected.ensures spelled

pub unreachable-requires : goal.unreachable-requires
unreachable-requires c = start_known c.args.b.now c.args.cert.now c.in_ok-judged.judged c.in-Unknown.line c.in-Unknown.is c.in_ok-judged.ensures.judged
