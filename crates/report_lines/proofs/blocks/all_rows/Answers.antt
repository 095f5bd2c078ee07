use Rattle.std.proofs.Common.{◌≡◌, ◌∙◌, sym, ap, subst, ℕ, length, All, List, Option}
use Rattle.bp_theory.specs.Decomposition.{Decomposition, IsPlace}
use Rattle.report_lines.proofs.BlockRows.{all_places}
use Rattle.report_lines.proofs.blocks.all_rows.Goals as goal

pub rows_by_block-requires-clause-known : goal.rows_by_block-requires-clause-known
rows_by_block-requires-clause-known c =
    let places_are : c.places.result.now ≡ c.args.b.now.dec.places = c.places.ensures ∙ ap (λ (d : Decomposition). d.places) c.dec.ensures.dec in
    subst (λ (n : ℕ). All (IsPlace n) c.places.result.now) (sym c.blocks-2.ensures.blocks)
    (subst (λ (places : List (Option ℕ)). All (IsPlace (length c.args.b.now.blocking.blocks)) places) (sym places_are) (all_places c.args.b.now c.dec.ensures.formed))
