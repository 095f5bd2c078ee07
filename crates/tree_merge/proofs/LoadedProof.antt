-- Two loaded trees made into one.
use Rattle.std.proofs.Common.{◌≡◌, refl, sym, ap, subst, ◌∙◌, ◌+◌, ◌<◌, ◌≤◌, ◌^◌, Bool, true, false, List, Option, Some, None, arith}
use Rattle.std.proofs.Math.IntN.{ℤ}
use Rattle.std.specs.Prelude.{int_lt, if◌then◌else◌, IfSome}
use Rattle.bp_theory.specs.Program.{Program, cost}
use Rattle.bp_theory.proofs.LimitLaws.{few_deep}
use Rattle.bp_theory.specs.Limits.{greatest_depth}
use Rattle.bp_theory.specs.declared.Limits.TheVariants.{Large}
use Rattle.bp_theory.specs.Trees.{depth, steps}
use Rattle.block_program.specs.Blocked.{BlockedProgram, IsFormed}
use Rattle.search_laws.specs.Grove.{GrowingTree, certificate_tree}
use Rattle.search_laws.specs.GroveFacts.{IsSearch, best_cost}
use Rattle.search_laws.specs.Verdicts.{better, cheaper_cost}
use Rattle.search_laws.proofs.DepthProof.{stays_shallow_lem}
use Rattle.branch_tree.specs.Groves.{GroveState, IsStanding, made}
use Rattle.branch_tree.specs.Adopted.{IsAdopted, IsSearchState, point_in}
use Rattle.tree_merge.specs.Merging.{merged, shut_by}
use Rattle.tree_merge.specs.Laws.{merged_by}
use Rattle.tree_merge.specs.Merges.{cost_in, cheaper_of}
use Rattle.tree_merge.proofs.TestFacts.{choose}
use Rattle.tree_merge.proofs.KeepProof.{merge_keeps_lem}
use Rattle.tree_merge.proofs.CountProof.{nodes_add_up_lem}

abbrev pub Best : Type 0
Best = Option (List ℤ × ℤ)

-- a best point has its cost beside it
abbrev pub HasItsCost : Program → Best → Type 0
HasItsCost p best = IfSome best (λ k. k.1 ≡ cost p k.0)

cost_is : (p : Program) (best : Best) → HasItsCost p best → cost_in best ≡ best_cost p (point_in best)
cost_is p None h = refl
cost_is p (Some k) h = ap Some h

pub cheaper_point : (p : Program) (best other : Best) → HasItsCost p best → HasItsCost p other → point_in (cheaper_of best other) ≡ better p (point_in best) (point_in other)
cheaper_point p None None h g = refl
cheaper_point p None (Some l) h g = refl
cheaper_point p (Some k) None h g = refl
cheaper_point p (Some k) (Some l) h g =
    by (int_lt l.1 k.1)
    ∙ ap (λ (z : ℤ). if int_lt z k.1 then Some l.0 else Some k.0) g
    ∙ ap (λ (z : ℤ). if int_lt (cost p l.0) z then Some l.0 else Some k.0) h
  where
    by : (t : Bool) → point_in (if t then Some l else Some k) ≡ (if t then Some l.0 else Some k.0)
    by true = refl
    by false = refl

pub cheaper_has_cost : (p : Program) (best other : Best) → HasItsCost p best → HasItsCost p other → HasItsCost p (cheaper_of best other)
cheaper_has_cost p None other h g = g
cheaper_has_cost p (Some k) None h g = h
cheaper_has_cost p (Some k) (Some l) h g = choose (λ (o : Best). HasItsCost p o) (int_lt l.1 k.1) (Some l) (Some k) (λ less. g) (λ more. h)

-- the merged tree has the facts of a search
pub merged_search : (b : BlockedProgram) (g k : GroveState) (best other : Best) → IsFormed b → IsSearchState b g best → IsSearchState b k other
    → IsSearch b.named.program b.blocking (merged_by (cost_in best) (cost_in other) g.tree k.tree) (point_in (cheaper_of best other))
merged_search b g k best other formed one two =
    let p : Program = b.named.program in
    let t : GrowingTree = g.tree in
    let u : GrowingTree = k.tree in
    subst (λ (x : Option (List ℤ)). IsSearch p b.blocking (merged_by (cost_in best) (cost_in other) t u) x) (sym (cheaper_point p best other one.costs two.costs))
    (subst (λ (c : Option ℤ). IsSearch p b.blocking (merged_by c (cost_in other) t u) (better p (point_in best) (point_in other))) (sym (cost_is p best one.costs))
    (subst (λ (c : Option ℤ). IsSearch p b.blocking (merged_by (best_cost p (point_in best)) c t u) (better p (point_in best) (point_in other))) (sym (cost_is p other two.costs))
    (merge_keeps_lem p b.blocking t u (point_in best) (point_in other) formed.kept.proper one.search two.search)))

-- the tree that the nodes come to
pub merged_tree : (cost x y : Option ℤ) (best other : Best) (m l r t u : GrowingTree) → m ≡ shut_by cost (merged l r) → cost ≡ cheaper_cost x y
    → x ≡ cost_in best → y ≡ cost_in other → l ≡ t → r ≡ u → m ≡ merged_by (cost_in best) (cost_in other) t u
merged_tree cost x y best other m l r t u is cost_is x_is y_is l_is r_is =
    is
    ∙ ap (λ (c : Option ℤ). shut_by c (merged l r)) (cost_is ∙ ap (λ (c : Option ℤ). cheaper_cost c y) x_is ∙ ap (λ (c : Option ℤ). cheaper_cost (cost_in best) c) y_is)
    ∙ ap (λ (n : GrowingTree). merged_by (cost_in best) (cost_in other) n r) l_is
    ∙ ap (λ (n : GrowingTree). merged_by (cost_in best) (cost_in other) t n) r_is

pub few_merged : (best other : Best) (m t u : GrowingTree) → m ≡ merged_by (cost_in best) (cost_in other) t u → made t + made u < 2 ^ 62 → made m < 2 ^ 62
few_merged best other m t u is few =
    let less = nodes_add_up_lem t u (cost_in best) (cost_in other) in
    let same : made m ≡ made (merged_by (cost_in best) (cost_in other) t u) = ap made is in
    omega (arith, less, same, few)

pub deep_merged : (b : BlockedProgram) (m : GrowingTree) (best : Option (List ℤ)) → IsSearch b.named.program b.blocking m best → depth (certificate_tree m) ≤ greatest_depth Large
deep_merged b m best search =
    omega (arith, stays_shallow_lem.depth b.named.program.limits m b.named.program.spans search.shallow, few_deep b.named.program.limits)

pub few_steps : (g : GroveState) (m : GrowingTree) → g.tree ≡ m → made m < 2 ^ 62 → steps (certificate_tree g.tree) < 2 ^ 62
few_steps g m is few =
    let same : steps (certificate_tree g.tree) ≡ steps (certificate_tree m) = ap (λ (t : GrowingTree). steps (certificate_tree t)) is in
    omega (arith, few, same)

pub merged_state : (b : BlockedProgram) (g k from : GroveState) (m : GrowingTree) (best other made_best : Best) → IsFormed b → IsSearchState b g best → IsSearchState b k other
    → m ≡ merged_by (cost_in best) (cost_in other) g.tree k.tree → IsAdopted b m from → IsStanding from → made_best ≡ cheaper_of best other
    → IsSearchState b from made_best
merged_state b g k from m best other made_best formed one two is adopted standing best_is =
    subst (λ (o : Best). IsSearchState b from o) (sym best_is)
    (record {
      standing = standing;
      root = adopted.root;
      search = subst (λ (t : GrowingTree). IsSearch b.named.program b.blocking t (point_in (cheaper_of best other))) (sym (adopted.tree ∙ is))
          (merged_search b g k best other formed one two);
      costs = cheaper_has_cost b.named.program best other one.costs two.costs;
    })
