use Rattle.bp_search.proofs.Watched.{fresh_taken}
use Rattle.bp_search.proofs.watch.search_watched.Goals as goal

pub returns-clause-ends : goal.returns-clause-ends
returns-clause-ends g c = fresh_taken c.args.b.now c.in_ok-start.start c.resume_watched.result c.in_ok-start.ensures.fresh c.resume_watched.ensures.ends
