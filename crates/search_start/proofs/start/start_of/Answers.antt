use Rattle.search_start.proofs.Beginning.{text_starts}
use Rattle.search_start.proofs.start.start_of.Goals as goal

pub judged_start-requires-clause-goes_with : goal.judged_start-requires-clause-goes_with
judged_start-requires-clause-goes_with c = let goes = c.requires.goes_with in rw c.in-Ok.is at goes

pub returns-in-Ok-clause-start : goal.returns-in-Ok-clause-start
returns-in-Ok-clause-start c = λ text reads.
    text_starts c.args.b.now c.args.leaf c.args.cuts text c.in-Ok.cert c.judged_start.result (rw c.in-Ok.is at reads) c.judged_start.ensures.start

pub returns-in-Err-clause-start : goal.returns-in-Err-clause-start
returns-in-Err-clause-start c = λ text reads.
    c.refused_start.ensures.start c.args.b.now c.args.leaf c.args.cuts text (rw c.in-Err.is at reads)

pub returns-in-Err-clause-usable : goal.returns-in-Err-clause-usable
returns-in-Err-clause-usable c = c.refused_start.ensures.usable c.args.leaf
