-- A term behind a sum stands in the place behind it.
use Rattle.std.proofs.Common.{◌≡◌, [], ◌∷◌, ◌++◌, Some, Result, Ok, Err, IfOk, refl, sym, ap, ◌∙◌}
use Rattle.std.proofs.lemmas.List.{map-append}
use Rattle.lp_syntax.specs.declared.tree.Sign.{Sign}
use Rattle.lp_syntax.specs.declared.tree.Sum.{Sum}
use Rattle.lp_syntax.specs.TreeIn.{sum_in, term_in}
use Rattle.lp_parser.specs.Parser.{longer}
use Rattle.lp_parser.proofs.stage.put_term.Goals as goal

-- a longer sum, as its text has it
longer_in : {A B E : Type 0} (f : A → B) (sum : Sum A) (s : Sign) (a : A) (r : Result (Sum A) E) → IfOk r (λ x. x.first ≡ sum.first) → IfOk r (λ x. x.more ≡ sum.more ++ (s, a) ∷ []) → IfOk r (λ x. sum_in f x ≡ longer (sum_in f sum) s (f a))
longer_in {B = B} f sum s a (Ok x) first more = rw (first, more, map-append {B = Sign × B} (λ m. (m.0, f m.1)) sum.more ((s, a) ∷ [])) refl
longer_in f sum s a (Err e) first more = tt

pub returns-in-Some : goal.returns-in-Some
returns-in-Some c = λ text.
    let before : c.args.gap.before ≡ Some (c.in-Some.sum, c.in-Some.sign) = ap (λ p. p.0) (sym c.into_parts-before.ensures) ∙ c.in-Some.is in
    let signs : c.args.gap.signs ≡ c.into_parts-before.result.1 = ap (λ p. p.1) (sym c.into_parts-before.ensures) in
    rw (before, signs)
    (longer_in (term_in text) c.in-Some.sum c.in-Some.sign (record { signs = c.into_parts-before.result.1; factor = c.args.factor; variable = c.args.variable }) c.longer.result c.longer.ensures.first c.longer.ensures.more)
