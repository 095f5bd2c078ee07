use Rattle.std.proofs.Common.{◌∙◌, ◌++◌, ◌∷◌, [], ◌<◌, ℕ, All, length, sym, subst, arith, List, get_or, ap, if◌then◌else◌}
use Rattle.std.proofs.lemmas.List.{get_or_default}
use Rattle.block_build.specs.Gather.{is_empty}
use Rattle.block_build.proofs.GatherLemmas.{passing_below, empty_by}
use Rattle.block_program.proofs.StandLemmas.{passing_more}
use Rattle.block_build.proofs.gather.homeless.Goals as goal

pub loop-v-preserved : goal.loop-v-preserved
loop-v-preserved c =
    c.in_ok-push_if.ensures ∙ ap (λ (all : List ℕ). if c.is_empty.result then all ++ c.loop-v.v ∷ [] else all) c.loop-v.invariant
    ∙ passing_more (λ v. is_empty (get_or c.args.homes.now v [])) c.loop-v.v c.is_empty.result
    (empty_by c.is_empty.result c.index-homes-v.result c.is_empty.ensures
    ∙ ap is_empty (c.index-homes-v.is ∙ get_or_default c.args.homes.now c.loop-v.v c.index-homes-v.result [] c.loop-v-test.true))

pub returns-clause-below : goal.returns-clause-below
returns-clause-below c =
    subst (λ (xs : List ℕ). All (λ v. v < length c.args.homes.now) xs) (sym c.loop-v.invariant)
    (λ k d l. omega (arith, passing_below (λ v. is_empty (get_or c.args.homes.now v [])) c.loop-v.v k d l))
