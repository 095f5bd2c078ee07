use Rattle.std.proofs.Common.{◌≡◌, ◌∙◌, ◌<◌, List, [], ℕ, All, length, map, get_or, sym, ap, subst, arith}
use Rattle.std.specs.Prelude.{pos}
use Rattle.std.specs.List.Sorted.{IsStrictlyIncreasing}
use Rattle.bp_theory.specs.Decomposition.{is_in, members, row_with_places}
use Rattle.bp_theory.specs.declared.Row.{Row}
use Rattle.bp_theory.specs.declared.Sense.TheVariants.{Le}
use Rattle.block_program.proofs.StandLemmas.{passing_few, passing_rise}
use Rattle.block_program.specs.Blocked.{RootBlock}
use Rattle.block_build.specs.Homes.{IsHeld}
use Rattle.block_build.specs.Shares.{placed_in}
use Rattle.block_build.specs.Source.{block_in}
use Rattle.block_build.proofs.GatherLemmas.{if_ok, passing_below}
use Rattle.block_build.proofs.HomeLemmas.{members_held}
use Rattle.block_build.proofs.ShareLemmas.{rows_placed, rows_there}
use Rattle.block_build.proofs.assemble.home_block.Goals as goal

pub block_rows-requires-clause-there : goal.block_rows-requires-clause-there
block_rows-requires-clause-there c =
    subst (λ (rs : List Row). All (λ i. i < length rs) c.args.rows.now) (sym c.all_rows.ensures.rows)
    (subst (λ (is : List ℕ). All (λ i. i < length c.args.source.now.model.now.program.rows) is) (sym c.requires.rows)
    (rows_there c.args.source.now.model.now.program c.args.source.now.dec.now c.args.block c.requires.source.places))

pub block_rows-requires-clause-few : goal.block_rows-requires-clause-few
block_rows-requires-clause-few c =
    let p = c.args.source.now.model.now.program in
    omega (
      arith,
      ap (λ (vs : List ℕ). length vs) c.requires.vars,
      passing_few (λ v. is_in p c.args.source.now.dec.now v c.args.block) (length p.spans),
      c.requires.source.kept.variables,
    )

pub block_rows-requires-clause-ascend : goal.block_rows-requires-clause-ascend
block_rows-requires-clause-ascend c =
    let p = c.args.source.now.model.now.program in
    subst IsStrictlyIncreasing (sym c.requires.vars) (passing_rise (λ v. is_in p c.args.source.now.dec.now v c.args.block) (length p.spans))

pub made_block-requires-clause-below : goal.made_block-requires-clause-below
made_block-requires-clause-below c =
    let p = c.args.source.now.model.now.program in
    subst (λ (vs : List ℕ). All (λ v. v < length p.spans) vs) (sym (c.in_ok-vars.ensures.items ∙ c.requires.vars))
    (passing_below (λ v. is_in p c.args.source.now.dec.now v c.args.block) (length p.spans))

pub made_block-requires-clause-few : goal.made_block-requires-clause-few
made_block-requires-clause-few c =
    let p = c.args.source.now.model.now.program in
    let d = c.args.source.now.dec.now in
    omega (
      arith,
      ap (λ (vs : List ℕ). length vs) (c.in_ok-vars.ensures.items ∙ c.requires.vars),
      passing_few (λ v. is_in p d v c.args.block) (length p.spans),
      c.requires.source.kept.variables,
    )

pub made_block-requires-clause-held : goal.made_block-requires-clause-held
made_block-requires-clause-held c =
    let p = c.args.source.now.model.now.program in
    let d = c.args.source.now.dec.now in
    subst (λ (vs : List ℕ). All (λ v. IsHeld p d v c.args.block) vs) (sym (c.in_ok-vars.ensures.items ∙ c.requires.vars)) (members_held p d c.args.block c.requires.there)

pub made_block-requires-clause-own : goal.made_block-requires-clause-own
made_block-requires-clause-own c =
    let p = c.args.source.now.model.now.program in
    let d = c.args.source.now.dec.now in
    let k = c.args.block in
    let none : Row = record { sense = Le; low = pos 0; rhs = pos 0; terms = [] } in
    let read : List ℕ → List Row → List ℕ → List Row = λ vs rs is. map (λ i. row_with_places vs (get_or rs i none)) is in
    c.in_ok-own.ensures none
    ∙ ap (λ (is : List ℕ). read c.args.vars.now c.all_rows.result.now is) c.requires.rows
    ∙ ap (λ (rs : List Row). read c.args.vars.now rs (placed_in k d.places)) c.all_rows.ensures.rows
    ∙ ap (λ (vs : List ℕ). read vs p.rows (placed_in k d.places)) (sym c.in_ok-vars.ensures.items)
    ∙ rows_placed p d k c.in_ok-vars.vars.items none c.requires.source.places

pub returns-clause-block : goal.returns-clause-block
returns-clause-block c =
    let s = c.args.source.now in
    let k = c.args.block in
    let vars : c.in_ok-vars.vars.items ≡ members s.model.now.program s.dec.now k = c.in_ok-vars.ensures.items ∙ c.requires.vars in
    if_ok c.made_block.result (λ (made : RootBlock). made.block ≡ block_in s k c.in_ok-vars.vars.items)
    (λ (made : RootBlock). made.block ≡ block_in s k (members s.model.now.program s.dec.now k))
    (λ made h. h ∙ ap (block_in s k) vars) c.made_block.ensures.block
