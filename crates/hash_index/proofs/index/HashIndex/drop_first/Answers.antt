-- Each hash stands one place lower.
use Rattle.std.proofs.Common.{◌∙◌, sym, ap, map, ◌-◌, length, arith}
use Rattle.std.proofs.lemmas.List.{length-map}
use Rattle.hash_index.proofs.IndexLemmas.{index_lower, whole}
use Rattle.hash_index.proofs.index.HashIndex.drop_first.Goals as goal

pub returns : goal.returns
returns c = λ hashes indexed.
    index_lower c.args.self.now _ hashes indexed (omega (arith, c.requires, indexed.many))
    (whole c.lower-2.new.numbers c.args.self.now.heads.items _ (sym (ap length c.lower-2.ensures ∙ length-map c.deref_mut-2.result.now (λ n. n - 1) ∙ c.deref_mut-2.ensures.len))
    ∙ c.lower-2.ensures ∙ ap (map (λ n. n - 1)) c.deref_mut-2.ensures.value)
    (whole c.lower.new.numbers c.remove.new.self.items _ (sym (ap length c.lower.ensures ∙ length-map c.deref_mut.result.now (λ n. n - 1) ∙ c.deref_mut.ensures.len))
    ∙ c.lower.ensures ∙ ap (map (λ n. n - 1)) (c.deref_mut.ensures.value ∙ c.remove.ensures.by_index.2))
