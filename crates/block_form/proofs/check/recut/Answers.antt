use Rattle.std.proofs.Common.{◌≡◌, ◌∙◌, ℕ, List, [], length, map, refl, sym, subst, arith}
use Rattle.bp_theory.specs.Cuts.{cut_rows}
use Rattle.bp_theory.specs.declared.Row.{Row}
use Rattle.bp_model.specs.Named.{NamedProgram}
use Rattle.bp_theory.specs.Decomposition.{Decomposition}
use Rattle.block_program.specs.Blocked.{RootBlock, AreMade, AreParts, ArePlaces}
use Rattle.block_program.specs.Cuts.{AreCutRows}
use Rattle.block_build.proofs.BlockingLemmas.{parts_cut}
use Rattle.block_build.proofs.CutLemmas.{rows_of_cuts}
use Rattle.block_build.proofs.PlaceLemmas.{vars_below, all_placed}
use Rattle.block_form.proofs.check.recut.Goals as goal

pub parts_with-requires : goal.parts_with-requires
parts_with-requires c =
    subst (λ (rows : List Row). AreCutRows c.args.b.now.named.program rows) (sym c.requires.rows)
    (rows_of_cuts c.args.b.now.named.program c.args.b.now.dec c.args.cuts c.requires.kept)

pub var_places-requires-clause-below : goal.var_places-requires-clause-below
var_places-requires-clause-below c =
    let b = c.args.b.now in
    let made : AreMade b.named b.dec (cut_rows b.named.program b.dec [] c.args.cuts) c.in_ok-blocks.blocks c.in_ok-blocks.named =
    subst (λ (rows : List Row). AreMade b.named b.dec rows c.in_ok-blocks.blocks c.in_ok-blocks.named) c.requires.rows c.in_ok-blocks.ensures in
    let parts = parts_cut b c.args.cuts c.in_ok-blocks.blocks c.in_ok-blocks.named c.model.ensures.formed c.requires.kept made in
    let vars : c.vars.result ≡ length b.named.program.spans =
    subst (λ (m : NamedProgram). c.vars.result ≡ length m.program.spans) c.model.ensures.model c.vars.ensures.vars in
    vars_below _ c.in_ok-blocks.blocks c.as_slice.result.now c.vars.result parts.formed refl c.as_slice.ensures vars

pub make-requires-clause-parts : goal.make-requires-clause-parts
make-requires-clause-parts c =
    let b = c.args.b.now in
    let made : AreMade b.named b.dec (cut_rows b.named.program b.dec [] c.args.cuts) c.in_ok-blocks.blocks c.in_ok-blocks.named =
    subst (λ (rows : List Row). AreMade b.named b.dec rows c.in_ok-blocks.blocks c.in_ok-blocks.named) c.requires.rows c.in_ok-blocks.ensures in
    subst (λ (m : NamedProgram). AreParts m c.in_ok-base.base.value.dec c.args.cuts c.in_ok-blocks.blocks c.in_ok-blocks.named) (sym c.in_ok-base.ensures.model)
    (subst (λ (d : Decomposition). AreParts b.named d c.args.cuts c.in_ok-blocks.blocks c.in_ok-blocks.named) (sym c.in_ok-base.ensures.dec)
    (parts_cut b c.args.cuts c.in_ok-blocks.blocks c.in_ok-blocks.named c.model.ensures.formed c.requires.kept made))

pub make-requires-clause-places : goal.make-requires-clause-places
make-requires-clause-places c =
    let b = c.args.b.now in
    let made : AreMade b.named b.dec (cut_rows b.named.program b.dec [] c.args.cuts) c.in_ok-blocks.blocks c.in_ok-blocks.named =
    subst (λ (rows : List Row). AreMade b.named b.dec rows c.in_ok-blocks.blocks c.in_ok-blocks.named) c.requires.rows c.in_ok-blocks.ensures in
    let parts = parts_cut b c.args.cuts c.in_ok-blocks.blocks c.in_ok-blocks.named c.model.ensures.formed c.requires.kept made in
    let vars : c.vars.result ≡ length b.named.program.spans =
    subst (λ (m : NamedProgram). c.vars.result ≡ length m.program.spans) c.model.ensures.model c.vars.ensures.vars in
    let each : length c.in_ok-places.places.items ≡ c.vars.result = omega (arith, c.in_ok-places.ensures.each, c.in_ok-places.places.ok) in
    subst (λ (m : NamedProgram). ArePlaces (map (λ (k : RootBlock). k.block) c.in_ok-blocks.blocks) (length m.program.spans) c.from_vec.result) (sym c.in_ok-base.ensures.model)
    (subst (λ (places : List (ℕ × ℕ)). ArePlaces (map (λ (k : RootBlock). k.block) c.in_ok-blocks.blocks) (length b.named.program.spans) places) (sym c.from_vec.ensures)
    (all_placed _ c.in_ok-blocks.blocks c.as_slice.result.now c.vars.result c.in_ok-places.places.items parts.formed refl c.as_slice.ensures vars each c.in_ok-places.ensures.places))
