-- The chain of the hash's slot is one longer.
use Rattle.std.proofs.Common.{refl, arith}
use Rattle.hash_index.proofs.IndexLemmas.{index_put, read_at}
use Rattle.hash_index.proofs.index.HashIndex.push.Goals as goal

pub returns-clause-added : goal.returns-clause-added
returns-clause-added c = λ hashes indexed.
    index_put c.args.self.now _ hashes c.args.hash c.slot_of-slot.result c.index-last.result.now c.len.result indexed c.slot_of-slot.ensures.slot c.slot_of-slot.ensures.there
    (read_at c.args.self.now.heads.items c.slot_of-slot.result c.index-last.result.now c.slot_of-slot.ensures.there c.index-last.ensures)
    (omega (arith, c.len.ensures, c.in_ok-push.ensures.len, indexed.many)) refl c.in_ok-push.ensures.items
