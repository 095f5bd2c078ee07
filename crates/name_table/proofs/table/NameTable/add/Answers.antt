-- A name that isn't there goes last.
use Rattle.std.proofs.Common.{◌≡◌, ◌<◌, ◌+◌, ◌∙◌, ◌++◌, ◌∷◌, [], ◌^◌, sym, subst, ap, length, slice_get, Some, Contains, arith}
use Rattle.name_table.proofs.NameLemmas.{texts, distinct_texts, insert_text, pushed_at, length-texts}
use Rattle.name_table.proofs.table.NameTable.add.Goals as goal

pub invariant_of-self-2 : goal.invariant_of-self-2
invariant_of-self-2 c =
    let room : length (texts c.self.inside.table.keys) + 1 < 2 ^ 32 =
    subst (λ names. length names + 1 < 2 ^ 32) (sym c.self.view_is) c.requires in
    (distinct_texts c.insert.new.self.keys c.in_ok-insert.ensures.unique, grind (arith, room, length-texts c.self.inside.table.keys, c.in_ok-insert.ensures.len))

names : goal.returns-clause-names
names c =
    ap texts c.in_ok-insert.ensures.keys
    ∙ insert_text c.args.name.now c.self.inside.table.keys _ c.in_ok-from_str.ensures.ok
    (subst (λ names. Contains names c.args.name.now → ⊥) (sym c.self.view_is) c.in_default.ensures.absent)
    ∙ ap (λ names. names ++ c.args.name.now ∷ []) c.self.view_is

pub returns-clause-names : goal.returns-clause-names
returns-clause-names c = names c

pub returns-clause-number : goal.returns-clause-number
returns-clause-number c =
    subst (λ all. slice_get all c.len-place.result ≡ Some c.args.name.now) (sym (names c))
    (pushed_at c.args.self.now c.args.name.now c.len-place.result c.len-place.ensures.len)
