use Rattle.std.proofs.Common.{◌≡◌, ◌∙◌, sym, subst, ◌+◌, ◌<◌, ◌≤◌, List, [], arith, length, get_or, pos}
use Rattle.std.specs.Prelude.{◌⊎◌, All}
use Rattle.std.proofs.lemmas.List.{get_or_read}
use Rattle.layer_graph.specs.Graphs.{IsArcSafe}
use Rattle.shortest_path.specs.Pairs.{arcs_with, IsLinked, LeadAlike, ArePairs}
use Rattle.layer_graph.specs.declared.graph.Arc.{Arc}
use Rattle.shortest_path.specs.declared.pairs.Pair.{Pair}
use Rattle.shortest_path.proofs.PairLaws.{IsLaid, laid_more, laid_ways, layer_cells, layer_linked, layer_alike}
use Rattle.shortest_path.proofs.pairs.pairs_in.Goals as goal

pub loop-k-preserved : goal.loop-k-preserved
loop-k-preserved c =
    let there : c.loop-k.k < length c.args.graph.now.steps.items = omega (arith, c.loop-k-test.true, c.len-layers.ensures, c.args.graph.now.steps.ok.0) in
    let is : c.as_slice-arcs.result.now ≡ get_or c.args.graph.now.steps.items c.loop-k.k [] =
    c.as_slice-arcs.ensures ∙ get_or_read c.args.graph.now.steps.items c.loop-k.k c.index.result.now there c.index.ensures [] in
    let safe : All (IsArcSafe c.args.graph.now.wide) c.as_slice-arcs.result.now =
    subst (λ (xs : List Arc). All (IsArcSafe c.args.graph.now.wide) xs) (sym is) (c.args.graph.now.safe c.loop-k.k [] there).each in
    let few : c.starts_of-starts.result ≤ c.args.graph.now.wide = c.starts_of-starts.ensures.most c.args.graph.now.wide c.loop-k.invariant.few safe in
    let ends : c.ends_of-ends.result ≤ c.args.graph.now.wide = c.ends_of-ends.ensures.most c.args.graph.now.wide c.args.graph.now.rooted safe in
    let made : (c.in_ok-list.list ≡ []) ⊎ ((length c.in_ok-list.list ≡ c.starts_of-starts.result) × ArePairs c.args.graph.now.wide c.as_slice-arcs.result.now (length c.as_slice-arcs.result.now) c.in_ok-list.list) =
    c.in_ok-list.ensures in
    subst (λ (xs : List (List Pair)). IsLaid c.args.graph.now.wide c.args.graph.now.steps.items xs (c.loop-k.k + 1) c.ends_of-ends.result) (sym c.in_ok-push.ensures.items)
    (laid_more c.args.graph.now.wide c.args.graph.now.steps.items c.loop-k.lists.items c.loop-k.k c.loop-k.nodes c.ends_of-ends.result c.in_ok-list.list c.loop-k.invariant
    (layer_cells c.args.graph.now.wide c.loop-k.nodes c.starts_of-starts.result c.as_slice-arcs.result.now c.in_ok-list.list made c.starts_of-starts.ensures.least few)
    (subst (λ (xs : List Arc). IsLinked c.args.graph.now.wide c.ends_of-ends.result xs c.in_ok-list.list) is
    (layer_linked c.args.graph.now.wide c.ends_of-ends.result c.starts_of-starts.result c.as_slice-arcs.result.now c.in_ok-list.list made few c.if-not-are_few.ensures c.ends_of-ends.ensures.above))
    (subst (λ (xs : List Arc). LeadAlike xs (arcs_with c.args.graph.now.wide xs c.in_ok-list.list)) is
    (layer_alike c.args.graph.now.wide c.starts_of-starts.result c.as_slice-arcs.result.now c.in_ok-list.list made c.starts_of-starts.ensures.above (λ j l. (safe j (record { from = 0; to = 0; label = record { lo = pos 0; hi = pos 0 } }) l).to)))
    c.ends_of-ends.ensures.some ends)

pub returns-clause-same : goal.returns-clause-same
returns-clause-same c =
    laid_ways c.args.graph.now.wide c.args.graph.now.steps.items c.loop-k.lists.items c.loop-k.k c.loop-k.nodes c.loop-k.invariant
    (omega (arith, c.loop-k-test.false, c.loop-k.auto.k-end, c.len-layers.ensures, c.args.graph.now.steps.ok.0))
