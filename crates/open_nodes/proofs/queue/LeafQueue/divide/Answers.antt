use Rattle.std.proofs.Common.{ap, ◌∙◌}
use Rattle.std.specs.Ordering.{is_eq}
use Rattle.std.specs.Map.{remove_entry}
use Rattle.std.specs.BTreeMap.{insert_entry}
use Rattle.open_nodes.specs.Queues.{Entries, key_cmp}
use Rattle.open_nodes.proofs.Keys.{added_and_taken}
use Rattle.open_nodes.proofs.queue.LeafQueue.divide.Goals as goal

pub returns-in-Err-clause-same : goal.returns-in-Err-clause-same
returns-in-Err-clause-same c =
    c.take_out.ensures.entries
    ∙ ap (λ (es : Entries). remove_entry (λ k. is_eq (key_cmp c.args.next k)) es)
    (c.in-Err.ensures.same ∙ c.in_ok-add.ensures.entries ∙ ap (λ k. insert_entry key_cmp c.args.self.now k c.args.low) c.key_at.ensures)
    ∙ added_and_taken c.args.self.now c.args.next.0 c.args.next.1 c.args.low c.requires.none
