use Rattle.std.proofs.Common.{subst}
use Rattle.search_laws.specs.Queue.{IsWith}
use Rattle.open_nodes.specs.Queues.{Entries, queue_of}
use Rattle.open_nodes.proofs.Keys.{with_from_updates}
use Rattle.open_nodes.proofs.queue.LeafQueue.add.Goals as goal

pub returns-clause-added : goal.returns-clause-added
returns-clause-added c =
    subst (λ (q : Entries). IsWith (queue_of q) c.args.key.0 c.args.key.1 c.args.path (queue_of c.insert.new.self.entries)) c.self.view_is
    (with_from_updates c.self.inside.entries c.insert.new.self c.args.key.0 c.args.key.1 c.args.path c.in_ok-insert.ensures.updates)
