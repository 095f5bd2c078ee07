-- The sections one after another make the table.
use Rattle.std.proofs.Common.{◌≡◌, ◌≤◌, ◌∙◌, ap, sym, take, fold, map, replicate, length, arith, ℕ, List}
use Rattle.std.proofs.lemmas.List.{take_all}
use Rattle.std.proofs.lemmas.List.Folds.{fold-map}
use Rattle.lp_syntax.specs.TreeIn.{part_in}
use Rattle.lp_syntax.specs.Tree.{Name}
use Rattle.lp_semantics.specs.Numbered.{say_part, table_of, unsaid}
use Rattle.lp_syntax.specs.declared.tree.Part.{Part}
use Rattle.lp_semantics.specs.declared.bounds.Stated.{Stated}
use Rattle.lp_semantics.proofs.bounds.stated_of.Goals as goal

whole_table : (text : List ℕ) (names : List Name) (parts : List Part) (i : ℕ) (table : List Stated) → length parts ≤ i
    → table ≡ fold (λ t p. say_part names t (part_in text p)) (replicate (length names) unsaid) (take i parts)
    → table ≡ table_of names (map (part_in text) parts)
unfolding table_of
whole_table text names parts i table l e =
    e ∙ ap (fold (λ t p. say_part names t (part_in text p)) (replicate (length names) unsaid)) (take_all i parts l)
    ∙ sym (fold-map (say_part names) (part_in text) (replicate (length names) unsaid) parts)

pub returns : goal.returns
returns c = whole_table c.args.text.now c.args.names.now c.args.parts.now c.loop-part.part-index c.loop-part.table.items (omega arith) c.loop-part.invariant.0
