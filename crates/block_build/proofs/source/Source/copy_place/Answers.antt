use Rattle.std.proofs.Common.{◌≡◌, ◌∙◌, List, ℕ, [], sym, ap, subst, arith}
use Rattle.std.specs.List.Sorted.{IsStrictlyIncreasing}
use Rattle.std.proofs.lemmas.List.{get_or_read}
use Rattle.bp_theory.specs.Decomposition.{place_of, is_in}
use Rattle.block_build.specs.Homes.{homes_in}
use Rattle.block_program.proofs.StandLemmas.{passing_rise}
use Rattle.block_build.proofs.source.Source.copy_place.Goals as goal

pub index-requires : goal.index-requires
index-requires c = omega (arith, c.requires.var, c.requires.source.homes.0, c.args.self.now.homes.ok.0)

pub place_of-requires : goal.place_of-requires
place_of-requires c =
    let s = c.args.self.now in
    let own : c.as_slice.result.now ≡ homes_in s.model.now.program s.dec.now c.args.var =
    c.as_slice.ensures ∙ get_or_read s.homes.items c.args.var c.index.result.now (omega (arith, c.requires.var, c.requires.source.homes.0)) c.index.ensures []
    ∙ c.requires.source.homes.1 c.args.var c.requires.var in
    subst IsStrictlyIncreasing (sym own) (passing_rise (is_in s.model.now.program s.dec.now c.args.var) s.dec.now.blocks)

pub returns : goal.returns
returns c =
    let s = c.args.self.now in
    let own : c.as_slice.result.now ≡ homes_in s.model.now.program s.dec.now c.args.var =
    c.as_slice.ensures ∙ get_or_read s.homes.items c.args.var c.index.result.now (omega (arith, c.requires.var, c.requires.source.homes.0)) c.index.ensures []
    ∙ c.requires.source.homes.1 c.args.var c.requires.var in
    c.place_of.ensures.place ∙ ap (λ (ks : List ℕ). place_of ks c.args.block) own
