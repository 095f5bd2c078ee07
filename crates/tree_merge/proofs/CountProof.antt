-- How many nodes a merged tree has, and merging a tree with itself.
use Rattle.std.proofs.Common.{◌≡◌, refl, ap, ◌∙◌, ◌+◌, ◌≤◌, Option, arith}
use Rattle.std.proofs.Math.IntN.{ℤ}
use Rattle.std.specs.Prelude.{int_lt}
use Rattle.bp_theory.specs.declared.Proof.{Proof}
use Rattle.search_laws.specs.Grove.{GrowingTree, live, shut, fork}
use Rattle.search_laws.specs.Verdicts.{cheaper_cost}
use Rattle.branch_tree.specs.Groves.{made}
use Rattle.tree_merge.specs.Merging.{same_split, raised, farther, is_beyond, least_live, merged, is_below, shut_by}
use Rattle.tree_merge.specs.Laws.{NodesAddUp, MergedWithItself}
use Rattle.tree_merge.proofs.TestFacts.{choose}

made_raised : (t : GrowingTree) (proof : Proof) (bound : ℤ) → made (raised t proof bound) ≡ made t
made_raised (live own least) proof bound = choose (λ (m : GrowingTree). made m ≡ 1) (int_lt least bound) (live proof bound) (live own least) (λ less. refl) (λ more. refl)
made_raised (shut own) proof bound = refl
made_raised (fork v a low high) proof bound = omega (arith, made_raised low proof bound, made_raised high proof bound)

made_shut : (t : GrowingTree) (cost : Option ℤ) → made (shut_by cost t) ≡ made t
made_shut (live p z) cost = choose (λ (m : GrowingTree). made m ≡ 1) (is_below z cost) (live p z) (shut p) (λ below. refl) (λ not. refl)
made_shut (shut p) cost = refl
made_shut (fork v a low high) cost = omega (arith, made_shut low cost, made_shut high cost)

made_merged : (t u : GrowingTree) → made (merged t u) ≤ made t + made u
made_merged (shut p) u = omega arith
made_merged (live p z) (shut q) = omega arith
made_merged (live p z) (live q w) = omega (arith, made_raised (live p z) q w)
made_merged (live p z) (fork w c left right) = omega (arith, made_raised (fork w c left right) p z)
made_merged (fork v a low high) (shut q) = omega arith
made_merged (fork v a low high) (live q w) = omega (arith, made_raised (fork v a low high) q w)
made_merged (fork v a low high) (fork w c left right) =
    let t : GrowingTree = fork v a low high in
    let u : GrowingTree = fork w c left right in
    choose (λ (m : GrowingTree). made m ≤ made t + made u) (same_split v a w c) (fork v a (merged low left) (merged high right)) (farther t u)
    (λ same. omega (arith, made_merged low left, made_merged high right))
    (λ differ. choose (λ (m : GrowingTree). made m ≤ made t + made u) (is_beyond (least_live u) (least_live t)) u t (λ beyond. omega arith) (λ not. omega arith))

pub nodes_add_up_lem : NodesAddUp
nodes_add_up_lem t u cost other =
    let same = made_shut (merged t u) (cheaper_cost cost other) in
    let less = made_merged t u in
    omega (arith, same, less)

pub merged_with_itself_lem : MergedWithItself
merged_with_itself_lem (live p z) = choose (λ (m : GrowingTree). m ≡ live p z) (int_lt z z) (live p z) (live p z) (λ less. refl) (λ more. refl)
merged_with_itself_lem (shut p) = refl
merged_with_itself_lem (fork v a low high) =
    let t : GrowingTree = fork v a low high in
    choose (λ (m : GrowingTree). m ≡ t) (same_split v a v a) (fork v a (merged low low) (merged high high)) (farther t t)
    (λ same. ap (λ (m : GrowingTree). fork v a m (merged high high)) (merged_with_itself_lem low) ∙ ap (λ (m : GrowingTree). fork v a low m) (merged_with_itself_lem high))
    (λ differ. choose (λ (m : GrowingTree). m ≡ t) (is_beyond (least_live t) (least_live t)) t t (λ beyond. refl) (λ not. refl))
