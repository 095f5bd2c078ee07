use Rattle.std.proofs.Common.{◌≡◌, ◌∙◌, ◌++◌, ◌∷◌, [], ◌<◌, List, ℕ, All, length, map, sym, ap, subst, arith}
use Rattle.bp_theory.specs.Decomposition.{rows_of, row_with_places}
use Rattle.block_program.specs.Blocked.{RootBlock}
use Rattle.block_build.specs.Homes.{IsHeld}
use Rattle.block_build.specs.Source.{block_in}
use Rattle.block_build.proofs.GatherLemmas.{all_single, single_has, if_ok}
use Rattle.block_build.proofs.BlockingLemmas.{no_lone_rows}
use Rattle.block_build.proofs.assemble.lone_block.Goals as goal

pub made_block-requires-clause-below : goal.made_block-requires-clause-below
made_block-requires-clause-below c =
    let one : c.push.new.self.items ≡ c.args.var ∷ [] = c.in_ok-push.ensures.items ∙ ap (λ (front : List ℕ). front ++ c.args.var ∷ []) c.in_ok-vars.ensures.items in
    subst (λ (xs : List ℕ). All (λ v. v < length c.args.source.now.model.now.program.spans) xs) (sym one) (all_single (length c.args.source.now.model.now.program.spans) c.args.var c.requires.var)

pub made_block-requires-clause-few : goal.made_block-requires-clause-few
made_block-requires-clause-few c =
    let one : c.push.new.self.items ≡ c.args.var ∷ [] = c.in_ok-push.ensures.items ∙ ap (λ (front : List ℕ). front ++ c.args.var ∷ []) c.in_ok-vars.ensures.items in
    omega (arith, ap (λ (xs : List ℕ). length xs) one)

pub made_block-requires-clause-held : goal.made_block-requires-clause-held
made_block-requires-clause-held c =
    let s = c.args.source.now in
    let one : c.push.new.self.items ≡ c.args.var ∷ [] = c.in_ok-push.ensures.items ∙ ap (λ (front : List ℕ). front ++ c.args.var ∷ []) c.in_ok-vars.ensures.items in
    subst (λ (n : ℕ). All (λ v. IsHeld s.model.now.program s.dec.now v n) c.push.new.self.items) (sym c.blocks-2.ensures.blocks)
    (subst (λ (xs : List ℕ). All (λ v. IsHeld s.model.now.program s.dec.now v s.dec.now.blocks) xs) (sym one)
    (single_has (λ v. IsHeld s.model.now.program s.dec.now v s.dec.now.blocks) c.args.var c.requires.lone))

pub made_block-requires-clause-own : goal.made_block-requires-clause-own
made_block-requires-clause-own c =
    let s = c.args.source.now in
    c.new.ensures.items
    ∙ ap (map (row_with_places c.push.new.self.items))
    (sym (ap (rows_of s.model.now.program s.dec.now) c.blocks-2.ensures.blocks ∙ no_lone_rows s.model.now.program s.dec.now c.requires.source.places))

pub returns-clause-block : goal.returns-clause-block
returns-clause-block c =
    let s = c.args.source.now in
    let one : c.push.new.self.items ≡ c.args.var ∷ [] = c.in_ok-push.ensures.items ∙ ap (λ (front : List ℕ). front ++ c.args.var ∷ []) c.in_ok-vars.ensures.items in
    if_ok c.made_block.result (λ (made : RootBlock). made.block ≡ block_in s c.blocks-2.result c.push.new.self.items)
    (λ (made : RootBlock). made.block ≡ block_in s s.dec.now.blocks (c.args.var ∷ []))
    (λ made h. h ∙ ap (λ n. block_in s n c.push.new.self.items) c.blocks-2.ensures.blocks ∙ ap (block_in s s.dec.now.blocks) one) c.made_block.ensures.block
