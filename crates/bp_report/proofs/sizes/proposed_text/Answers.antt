use Rattle.std.proofs.Common.{◌∙◌, ap, List, ℕ}
use Rattle.std.specs.Prelude.{Option, count_by, is_none}
use Rattle.bp_theory.specs.Decomposition.{Decomposition}
use Rattle.bp_report.proofs.Proposed.{proposed_as}
use Rattle.bp_report.proofs.sizes.proposed_text.Goals as goal

pub returns : goal.returns
returns c =
    proposed_as c.args.b.now c.args.root.now c.blocks-blocks.result c.first_classes-classes.result c.master_rows-master.result c.new-text.result.items c.push_proposed.new.text.items
    (c.blocks-blocks.ensures.blocks ∙ ap (λ (d : Decomposition). d.blocks) c.dec.ensures.dec) c.first_classes-classes.ensures
    (c.master_rows-master.ensures
    ∙ ap (λ (places : List (Option ℕ)). count_by is_none places) (c.places.ensures ∙ ap (λ (d : Decomposition). d.places) c.dec-2.ensures.dec))
    c.new-text.ensures.items c.in_ok-push_proposed.ensures
