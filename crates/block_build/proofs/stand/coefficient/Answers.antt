use Rattle.std.proofs.Common.{◌≡◌, ◌∙◌, get_or, sym, ap, arith, rules, to_z, of_z, Ok, Err}
use Rattle.std.specs.Prelude.{pos}
use Rattle.std.specs.Int.{w64}
use Rattle.std.proofs.lemmas.Int.{ints}
use Rattle.std.proofs.lemmas.List.Sorted.{answers_always}
use Rattle.bp_theory.specs.Program.{coefficient}
use Rattle.bp_theory.specs.declared.Term.{Term}
use Rattle.block_program.proofs.StandLemmas.{coefficient_at}
use Rattle.block_build.proofs.TermLemmas.{term_found}
use Rattle.block_build.proofs.stand.coefficient.Goals as goal

pub returns-in-Ok : goal.returns-in-Ok
returns-in-Ok c =
    let none : Term = record { var = 0; coef = pos 0 } in
    let here : Term = get_or c.args.terms.now c.in-Ok.place none in
    let same : to_z w64 (of_z w64 here.coef) ≡ here.coef = omega (arith, ints) in
    same ∙ sym (coefficient_at 0 c.args.terms.now c.in-Ok.place none c.requires c.in-Ok.ensures.bound)
    ∙ ap (coefficient c.args.terms.now)
    (term_found c.args.terms.now c.args.var (Ok c.in-Ok.place) c.requires
    (c.in-Ok.ensures.position (λ (t : Term). t.var) (answers_always _ _ _ (λ f a r g called. search rules))) none)

pub returns-in-Err : goal.returns-in-Err
returns-in-Err c =
    sym (term_found c.args.terms.now c.args.var (Err c.in-Err.field-0) c.requires (c.in-Err.ensures.position (λ (t : Term). t.var) (answers_always _ _ _ (λ f a r g called. search rules))))
