use Rattle.std.proofs.Common.{◌≡◌, ◌∙◌, ◌<◌, ◌++◌, ◌∷◌, [], List, ℕ, length, map, take, get_or, sym, ap, arith}
use Rattle.std.proofs.lemmas.List.{map-append, take_more, take_all, get_or_default}
use Rattle.bp_theory.specs.Decomposition.{row_with_places}
use Rattle.bp_theory.specs.declared.Row.{Row}
use Rattle.block_build.proofs.gather.block_rows.Goals as goal

pub loop-number-preserved : goal.loop-number-preserved
loop-number-preserved c = λ d.
    let numbers = c.args.numbers.now in
    let i = c.loop-number.number-index in
    let n : ℕ = get_or numbers i 0 in
    let f : ℕ → Row = λ j. row_with_places c.args.vars.now (get_or c.args.rows.now j d) in
    let within : i < length numbers = omega arith in
    let inside : n < length c.args.rows.now = c.requires.there i 0 within in
    let made : c.in_ok-row.row ≡ f n =
    c.in_ok-row.ensures ∙ ap (row_with_places c.args.vars.now) (c.index-rows-number.is ∙ get_or_default c.args.rows.now n c.index-rows-number.result d inside) in
    c.in_ok-push.ensures.items ∙ ap (λ (all : List Row). all ++ c.in_ok-row.row ∷ []) (c.loop-number.invariant d)
    ∙ ap (λ (row : Row). map f (take i numbers) ++ row ∷ []) made
    ∙ sym (ap (map f) (take_more numbers i 0 within) ∙ map-append f (take i numbers) (n ∷ []))

pub returns : goal.returns
returns c = λ d.
    c.loop-number.invariant d
    ∙ ap (map (λ j. row_with_places c.args.vars.now (get_or c.args.rows.now j d))) (take_all c.loop-number.number-index c.args.numbers.now (omega (arith, c.loop-number-test.false)))
