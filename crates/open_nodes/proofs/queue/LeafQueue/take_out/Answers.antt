use Rattle.std.proofs.Common.{subst}
use Rattle.search_laws.specs.Queue.{IsWithout}
use Rattle.open_nodes.specs.Queues.{Entries, queue_of}
use Rattle.open_nodes.proofs.Keys.{without_from_updates}
use Rattle.open_nodes.proofs.queue.LeafQueue.take_out.Goals as goal

pub returns-clause-without : goal.returns-clause-without
returns-clause-without c =
    subst (λ (q : Entries). IsWithout (queue_of q) c.args.key.now.0 c.args.key.now.1 (queue_of c.remove.new.self.entries)) c.self.view_is
    (without_from_updates c.self.inside.entries c.remove.new.self c.args.key.now.0 c.args.key.now.1 c.remove.ensures.updates)
