use Rattle.std.proofs.Common.{◌≡◌, ◌∙◌, ◌<◌, ◌++◌, ◌∷◌, [], List, ℕ, All, length, map, take, get_or, sym, ap, subst, arith, append_assoc}
use Rattle.std.proofs.lemmas.List.{map-append, take_more, take_all, get_or_read}
use Rattle.std.proofs.lemmas.List.Elements.{All-push}
use Rattle.bp_theory.specs.Blocking.{Block}
use Rattle.bp_theory.specs.Bound.{spans_of}
use Rattle.bp_theory.specs.Decomposition.{lone_variables}
use Rattle.block_program.specs.Blocked.{RootBlock, HaveRootSpans}
use Rattle.block_build.specs.Gather.{homeless}
use Rattle.block_build.specs.Homes.{IsHeld}
use Rattle.block_build.specs.Source.{block_in}
use Rattle.block_build.proofs.HomeLemmas.{homeless_are, lone_held}
use Rattle.block_build.proofs.assemble.push_lone_blocks.Goals as goal

pub lone_block-requires-clause-var : goal.lone_block-requires-clause-var
lone_block-requires-clause-var c =
    let s = c.args.source.now in
    let p = s.model.now.program in
    let d = s.dec.now in
    let many = c.in_ok-lone.lone.items in
    let inside : c.loop-i.i < length many = omega (arith, c.loop-i-test.true, c.len-i-end.ensures, c.in_ok-lone.lone.ok.0) in
    let read : c.index.result.now ≡ get_or many c.loop-i.i 0 = get_or_read many c.loop-i.i c.index.result.now inside c.index.ensures 0 in
    let lone : many ≡ lone_variables p d = c.in_ok-lone.ensures.vars ∙ ap homeless c.as_slice.ensures.value ∙ homeless_are p d s.homes.items c.requires.source.homes in
    let held = subst (λ (vs : List ℕ). All (λ v. (v < length p.spans) × IsHeld p d v d.blocks) vs) (sym lone) (lone_held p d) c.loop-i.i 0 inside in
    subst (λ v. v < length p.spans) (sym read) held.0

pub lone_block-requires-clause-lone : goal.lone_block-requires-clause-lone
lone_block-requires-clause-lone c =
    let s = c.args.source.now in
    let p = s.model.now.program in
    let d = s.dec.now in
    let many = c.in_ok-lone.lone.items in
    let inside : c.loop-i.i < length many = omega (arith, c.loop-i-test.true, c.len-i-end.ensures, c.in_ok-lone.lone.ok.0) in
    let read : c.index.result.now ≡ get_or many c.loop-i.i 0 = get_or_read many c.loop-i.i c.index.result.now inside c.index.ensures 0 in
    let lone : many ≡ lone_variables p d = c.in_ok-lone.ensures.vars ∙ ap homeless c.as_slice.ensures.value ∙ homeless_are p d s.homes.items c.requires.source.homes in
    let held = subst (λ (vs : List ℕ). All (λ v. (v < length p.spans) × IsHeld p d v d.blocks) vs) (sym lone) (lone_held p d) c.loop-i.i 0 inside in
    subst (λ v. IsHeld p d v d.blocks) (sym read) held.1

pub loop-i-preserved : goal.loop-i-preserved
loop-i-preserved c =
    let s = c.args.source.now in
    let f : ℕ → Block = λ v. block_in s s.dec.now.blocks (v ∷ []) in
    let many = c.in_ok-lone.lone.items in
    let i = c.loop-i.i in
    let old : List Block = map (λ (k : RootBlock). k.block) c.args.all.now.items in
    let pushed : c.push.new.self.items ≡ c.loop-i.all.items ++ c.in_ok-block.block ∷ [] = c.in_ok-push.ensures.items in
    let within : c.loop-i.i < length c.in_ok-lone.lone.items = omega (arith, c.loop-i-test.true, c.len-i-end.ensures, c.in_ok-lone.lone.ok.0) in
    let at : c.index.result.now ≡ get_or many i 0 = get_or_read many i c.index.result.now within c.index.ensures 0 in
    let made : c.in_ok-block.block.block ≡ f (get_or many i 0) = c.in_ok-block.ensures.block ∙ ap f at in record {
      blocks = ap (λ (all : List RootBlock). map (λ (k : RootBlock). k.block) all) pushed
          ∙ map-append (λ (k : RootBlock). k.block) c.loop-i.all.items (c.in_ok-block.block ∷ [])
          ∙ ap (λ (front : List Block). front ++ c.in_ok-block.block.block ∷ []) c.loop-i.invariant.blocks
          ∙ append_assoc old (map f (take i many)) (c.in_ok-block.block.block ∷ [])
          ∙ ap (λ (b : Block). old ++ (map f (take i many) ++ b ∷ [])) made
          ∙ ap (λ (back : List Block). old ++ back) (sym (ap (map f) (take_more many i 0 within) ∙ map-append f (take i many) (get_or many i 0 ∷ [])));
      spans = subst (λ (all : List RootBlock). HaveRootSpans s.model.now.program.spans all) (sym pushed)
          (All-push (λ (k : RootBlock). k.spans ≡ spans_of s.model.now.program.spans k.block) c.loop-i.all.items c.in_ok-block.block c.loop-i.invariant.spans c.in_ok-block.ensures.spans);
    }

pub returns-clause-blocks : goal.returns-clause-blocks
returns-clause-blocks c =
    let s = c.args.source.now in
    c.loop-i.invariant.blocks
    ∙ ap (λ (vs : List ℕ). map (λ (k : RootBlock). k.block) c.args.all.now.items ++ map (λ v. block_in s s.dec.now.blocks (v ∷ [])) vs)
    (take_all c.loop-i.i c.in_ok-lone.lone.items (omega (arith, c.loop-i-test.false, c.len-i-end.ensures, c.in_ok-lone.lone.ok.0))
    ∙ c.in_ok-lone.ensures.vars ∙ ap homeless c.as_slice.ensures.value ∙ homeless_are s.model.now.program s.dec.now s.homes.items c.requires.source.homes)
