-- The new column's point is apart from the others, and its hash stands last.
use Rattle.std.proofs.Common.{◌≡◌, ◌∙◌, ◌++◌, ◌∷◌, [], List, map, length, sym, ap, subst, arith}
use Rattle.hash_index.specs.Indexed.{IsIndexOf}
use Rattle.hash_index.proofs.WalkLemmas.{hashes_more}
use Rattle.col_pool.specs.Indexed.{hash_of}
use Rattle.col_pool.specs.Pools.{AreApart, IsAbsent}
use Rattle.col_pool.specs.declared.column.Column.{Column}
use Rattle.col_pool.proofs.FoundLemmas.{apart_more, count}
use Rattle.col_pool.proofs.pool.Pool.put.Goals as goal

pub invariant_of-self-2 : goal.invariant_of-self-2
invariant_of-self-2 c =
    let had = c.self.inside.columns.items in
    let column = c.args.column in
    let items : c.push-2.new.self.items ≡ had ++ column ∷ [] =
    c.in-Ok.ensures.items ∙ ap (λ (cs : List Column). cs ++ column ∷ []) c.in_ok-reserve.ensures.items in (
      subst AreApart (sym items) (apart_more had column c.self.invariant.0 (subst (λ cs. IsAbsent cs column.point) (sym c.self.view_is) c.requires.new)),
      omega (arith, ap length items, count had column, ap length c.self.view_is, c.requires.room),
      subst (IsIndexOf c.push.new.self)
          (ap (λ h. map hash_of had ++ h ∷ []) c.requires.hash ∙ hashes_more hash_of had column ∙ ap (map hash_of) (sym items))
          (c.in_ok-push.ensures.added (map hash_of had) (subst (λ (cs : List Column). IsIndexOf c.grow.new.index (map hash_of cs)) c.deref.ensures.value c.in_ok-grow.ensures)),
    )
