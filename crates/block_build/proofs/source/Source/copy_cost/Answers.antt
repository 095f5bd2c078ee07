use Rattle.std.proofs.Common.{◌≡◌, ◌∙◌, List, sym, ap, subst, arith, to_z, of_z, w64}
use Rattle.std.proofs.lemmas.Int.{ints}
use Rattle.bp_theory.specs.Program.{coefficient}
use Rattle.bp_theory.specs.Decomposition.{IsTidyFrom}
use Rattle.bp_theory.specs.declared.Term.{Term}
use Rattle.block_build.proofs.CopyLemmas.{first_cost, further_cost, behind_first}
use Rattle.block_build.proofs.source.Source.copy_cost.Goals as goal

pub coefficient-requires : goal.coefficient-requires
coefficient-requires c = subst (IsTidyFrom 0) (sym c.costs.ensures) c.requires.source.kept.tidy_costs

pub returns-then-copy_place-eq0 : goal.returns-then-copy_place-eq0
returns-then-copy_place-eq0 c =
    let same : to_z w64 (of_z w64 c.coefficient.result) ≡ c.coefficient.result = omega (arith, ints) in
    same ∙ c.coefficient.ensures ∙ ap (λ (costs : List Term). coefficient costs c.args.var) c.costs.ensures
    ∙ first_cost c.args.self.now c.args.block c.args.var c.requires.held (sym c.copy_place.ensures ∙ c.if-copy_place-eq0.true)

pub returns-else-copy_place-eq0 : goal.returns-else-copy_place-eq0
returns-else-copy_place-eq0 c =
    let later = behind_first c.copy_place.result c.if-copy_place-eq0.false in
    further_cost c.args.self.now c.args.block c.args.var later.0 c.requires.held (sym c.copy_place.ensures ∙ later.1)
