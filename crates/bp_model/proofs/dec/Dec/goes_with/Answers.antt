use Rattle.std.proofs.Common.{◌≡◌, ◌↔◌, ◌∙◌, List, Option, ℕ, IsTrue, All, sym, subst, refl, arith, rules}
use Rattle.bp_theory.specs.Decomposition.{Decomposition, IsPlace}
use Rattle.bp_model.specs.Dec.{GoesWith}
use Rattle.bp_model.proofs.DecLemmas.{goes_with}
use Rattle.bp_model.proofs.dec.Dec.goes_with.Goals as goal

pub returns : goal.returns
returns c =
    let p = c.args.model.now.program in
    let d : Decomposition = record { blocks = c.self.inside.blocks; places = c.self.inside.places; listed = c.self.inside.listed } in
    let both = goes_with p d c.as_slice.result.now c.as_slice-2.result.now c.vars.result c.as_slice.ensures c.as_slice-2.ensures c.vars.ensures.vars
    (sym c.len.ensures ∙ c.if-len-rows.false ∙ c.rows.ensures.rows) (c.if-not-are_places.ensures.0 refl) in
    let listed = c.are_listed.ensures in (
      λ yes'. subst (λ (all : Decomposition). GoesWith p all) c.self.view_is (both.0 (listed.0 yes')),
      λ fits. listed.1 (both.1 (subst (λ (all : Decomposition). GoesWith p all) (sym c.self.view_is) fits)),
    )
