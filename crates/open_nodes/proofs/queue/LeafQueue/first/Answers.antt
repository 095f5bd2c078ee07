use Rattle.std.proofs.Common.{subst}
use Rattle.search_laws.specs.Queue.{IsFirstEntry}
use Rattle.open_nodes.specs.Queues.{Entries, queue_of}
use Rattle.open_nodes.proofs.Keys.{first_from_bound}
use Rattle.open_nodes.proofs.queue.LeafQueue.first.Goals as goal

pub returns-in-Some-clause-some : goal.returns-in-Some-clause-some
returns-in-Some-clause-some c =
    subst (λ (q : Entries). IsFirstEntry (queue_of q) c.in-Some.key.now.0 c.in-Some.key.now.1 c.in-Some.path.now) c.self.view_is
    (first_from_bound c.self.inside.entries _ _ _ c.in-Some.ensures.value c.in-Some.ensures.least)
