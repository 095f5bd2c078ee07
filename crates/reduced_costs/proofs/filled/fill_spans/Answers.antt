use Rattle.std.proofs.Common.{◌≡◌, ◌∙◌, sym, ap, ℕ, List, [], ◌<◌, length, get_or, pos, arith}
use Rattle.std.proofs.lemmas.List.{ext_get_or, length-map, get_or-map}
use Rattle.bp_theory.specs.Program.{span_at}
use Rattle.bp_theory.specs.Bound.{spans_of}
use Rattle.bp_theory.specs.Blocking.{Copy}
use Rattle.reduced_costs.proofs.FillLemmas.{same_more}
use Rattle.reduced_costs.proofs.Steps.{var_there}
use Rattle.reduced_costs.proofs.filled.fill_spans.Goals as goal

abbrev none : Copy
none = record { var = 0; cost = pos 0; coefs = [] }

pub span-requires : goal.span-requires
span-requires c =
    let cs : List Copy = c.args.block.now.block.copies in
    let all : length c.vars-vars.result.now ≡ length cs = ap (λ (xs : List ℕ). length xs) c.vars-vars.ensures ∙ length-map cs (λ (k : Copy). k.var) in
    var_there c.args.zone.now cs c.loop-place.place c.vars-vars.result.now (omega (arith, all, c.loop-place-test.true)) c.vars-vars.ensures c.requires.there

pub returns : goal.returns
returns c =
    let cs : List Copy = c.args.block.now.block.copies in
    let all : length c.vars-vars.result.now ≡ length cs = ap (λ (xs : List ℕ). length xs) c.vars-vars.ensures ∙ length-map cs (λ (k : Copy). k.var) in
    let many : length (spans_of c.args.zone.now c.args.block.now.block) ≡ length cs = length-map cs (λ (k : Copy). span_at c.args.zone.now k.var) in
    let long : length c.loop-place.spans.items ≡ length cs = omega (arith, c.loop-place.invariant.0, c.loop-place.spans.ok.0) in
    ext_get_or (record { lo = pos 0; hi = pos 0 }) c.loop-place.spans.items (spans_of c.args.zone.now c.args.block.now.block) (omega (arith, many, long))
    (λ i l. c.loop-place.invariant.1 i (omega (arith, l, long, all, c.loop-place-test.false)))

pub loop-place-preserved : goal.loop-place-preserved
loop-place-preserved c =
    let cs : List Copy = c.args.block.now.block.copies in
    let all : length c.vars-vars.result.now ≡ length cs = ap (λ (xs : List ℕ). length xs) c.vars-vars.ensures ∙ length-map cs (λ (k : Copy). k.var) in
    let there : c.loop-place.place < length cs = omega (arith, all, c.loop-place-test.true) in
    let var : get_or c.vars-vars.result.now c.loop-place.place 0 ≡ (get_or cs c.loop-place.place none).var =
    ap (λ (vs : List ℕ). get_or vs c.loop-place.place 0) c.vars-vars.ensures ∙ get_or-map (λ (k : Copy). k.var) cs c.loop-place.place none 0 there in (
      c.loop-place.invariant.0,
      same_more (record { lo = pos 0; hi = pos 0 }) c.loop-place.spans.items (spans_of c.args.zone.now c.args.block.now.block) c.loop-place.place c.span.result
          (omega (arith, there, c.loop-place.invariant.0, c.loop-place.spans.ok.0))
          (c.span.ensures ∙ ap (span_at c.args.zone.now) var
          ∙ sym (get_or-map (λ (k : Copy). span_at c.args.zone.now k.var) cs c.loop-place.place none (record { lo = pos 0; hi = pos 0 }) there))
          c.loop-place.invariant.1,
    )
