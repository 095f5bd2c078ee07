use Rattle.std.proofs.Common.{IfOk, subst}
use Rattle.bp_search.specs.Ends.{EndsWithin}
use Rattle.bp_search.proofs.Running.{fresh_last}
use Rattle.bp_search.proofs.search.Goals as goal

pub returns-clause-ends : goal.returns-clause-ends
returns-clause-ends c =
    subst (λ n. IfOk c.resume.result (EndsWithin c.args.b.now n)) (fresh_last c.args.b.now c.in_ok-start.start c.args.steps c.in_ok-start.ensures.fresh) c.resume.ensures.ends
