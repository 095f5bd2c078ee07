use Rattle.search_outcome.proofs.Watched.{ends_fresh, goes_fresh, ends_resumed, goes_resumed}
use Rattle.search_outcome.proofs.alone.watch_alone.Goals as goal

pub returns-in-None-clause-ends : goal.returns-in-None-clause-ends
returns-in-None-clause-ends g c = ends_fresh c.args.b.now c.args.from c.search_watched.result c.in-None.is c.search_watched.ensures.ends

pub returns-in-None-clause-goes_on : goal.returns-in-None-clause-goes_on
returns-in-None-clause-goes_on g c = goes_fresh c.args.b.now c.args.from c.search_watched.result c.in-None.is

pub returns-in-Some-clause-ends : goal.returns-in-Some-clause-ends
returns-in-Some-clause-ends g c = ends_resumed c.args.b.now c.args.from c.in-Some.from c.resume_watched.result c.in-Some.is c.resume_watched.ensures.ends

pub returns-in-Some-clause-goes_on : goal.returns-in-Some-clause-goes_on
returns-in-Some-clause-goes_on g c = goes_resumed c.args.b.now c.args.from c.in-Some.from c.resume_watched.result c.in-Some.is c.resume_watched.ensures.goes_on
