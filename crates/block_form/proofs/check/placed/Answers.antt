use Rattle.std.proofs.Common.{◌≡◌, ℕ, List, [], length, map, refl, sym, subst, arith}
use Rattle.bp_theory.specs.declared.Cut.{Cut}
use Rattle.block_program.specs.Blocked.{RootBlock, AreParts, ArePlaces}
use Rattle.block_program.specs.declared.blocked.Base.{Base}
use Rattle.block_build.proofs.PlaceLemmas.{vars_below, all_placed}
use Rattle.block_form.proofs.check.placed.Goals as goal

pub var_places-requires-clause-below : goal.var_places-requires-clause-below
var_places-requires-clause-below c = vars_below _ c.args.blocks c.as_slice.result.now c.vars.result c.requires.formed refl c.as_slice.ensures c.vars.ensures.vars

pub make-requires-clause-parts : goal.make-requires-clause-parts
make-requires-clause-parts c =
    subst (λ (cuts : List Cut). AreParts c.in-Ok-new.base.value.model c.in-Ok-new.base.value.dec cuts c.args.blocks c.args.rows) (sym c.new-cuts.ensures)
    (subst (λ (b : Base). AreParts b.model b.dec [] c.args.blocks c.args.rows) (sym c.in-Ok-new.ensures.ok) c.requires)

pub make-requires-clause-places : goal.make-requires-clause-places
make-requires-clause-places c =
    let each : length c.in-Ok.places.items ≡ c.vars.result = omega (arith, c.in-Ok.ensures.each, c.in-Ok.places.ok) in
    subst (λ (b : Base). ArePlaces (map (λ (k : RootBlock). k.block) c.args.blocks) (length b.model.program.spans) c.from_vec.result) (sym c.in-Ok-new.ensures.ok)
    (subst (λ (places : List (ℕ × ℕ)). ArePlaces (map (λ (k : RootBlock). k.block) c.args.blocks) (length c.args.model.program.spans) places) (sym c.from_vec.ensures)
    (all_placed _ c.args.blocks c.as_slice.result.now c.vars.result c.in-Ok.places.items c.requires.formed refl c.as_slice.ensures c.vars.ensures.vars each c.in-Ok.ensures.places))
