use Rattle.std.proofs.Common.{◌∙◌, ◌++◌, ◌∷◌, [], List, Option, Some, replicate, ap, append_assoc}
use Rattle.std.proofs.lemmas.List.{replicate_more}
use Rattle.bp_theory.specs.declared.MasterRow.{MasterRow}
use Rattle.block_build.specs.Gather.{link_sides}
use Rattle.block_build.proofs.assemble.push_link_sides.Goals as goal

pub loop-preserved : goal.loop-preserved
loop-preserved c =
    let old : List (Option MasterRow) = c.args.all.now.items in
    c.in_ok-push.ensures.items
    ∙ ap (λ (xs : List (Option MasterRow)). xs ++ Some link_sides ∷ []) c.loop.invariant
    ∙ append_assoc old (replicate c.loop.counter (Some link_sides)) (Some link_sides ∷ [])
    ∙ ap (λ (xs : List (Option MasterRow)). old ++ xs) (replicate_more c.loop.counter (Some link_sides))
