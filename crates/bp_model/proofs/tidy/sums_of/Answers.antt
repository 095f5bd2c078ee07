use Rattle.std.proofs.Common.{◌≡◌, sym, subst, List, ℕ, map, Vec, Global, IfOk}
use Rattle.std.specs.Prelude.{ℤ}
use Rattle.std.proofs.lemmas.Result.{IfOk-weaker}
use Rattle.bp_model.specs.Parts.{IsTidied}
use Rattle.bp_model.specs.Tidy.{as_term, nonzero}
use Rattle.bp_model.proofs.TidyLemmas.{map_tidies}
use Rattle.bp_model.proofs.tidy.sums_of.Goals as goal

pub returns : goal.returns
returns c =
    IfOk-weaker c.kept.result (λ kept. kept.items ≡ nonzero c.in_ok-sums.sums.entries) (λ sums. IsTidied c.args.terms.now (map as_term sums.items))
    (λ sums is.
    subst (λ (es : List (ℕ × ℤ)). IsTidied c.args.terms.now (map as_term es)) (sym is)
    (map_tidies c.args.terms.now c.in_ok-sums.sums.entries c.in_ok-sums.ensures.ordered c.in_ok-sums.ensures.sums))
    c.kept.ensures
