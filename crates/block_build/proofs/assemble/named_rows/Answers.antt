use Rattle.std.proofs.Common.{◌∙◌, ◌++◌, List, Option, Some, map, replicate, ap}
use Rattle.bp_theory.specs.Blocking.{sides_of}
use Rattle.bp_theory.specs.declared.Row.{Row}
use Rattle.bp_theory.specs.declared.MasterRow.{MasterRow}
use Rattle.block_build.specs.Gather.{link_sides}
use Rattle.block_build.proofs.assemble.named_rows.Goals as goal

pub returns : goal.returns
returns c =
    c.in_ok-push_cut_sides.ensures
    ∙ ap (λ (xs : List (Option MasterRow)). xs ++ map (λ (cut : Row). Some (sides_of cut)) c.args.cuts.now)
    (c.in_ok-push_link_sides.ensures ∙ ap (λ (xs : List (Option MasterRow)). xs ++ replicate c.args.links (Some link_sides)) c.in_ok-all.ensures)
