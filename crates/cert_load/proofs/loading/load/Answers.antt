use Rattle.std.proofs.Common.{◌∙◌, subst, None, Option, ℕ}
use Rattle.search_laws.specs.GroveFacts.{IsSearch}
use Rattle.cert_format.specs.Kept.{certificate_of}
use Rattle.open_nodes.specs.Trees as growing
use Rattle.tree_load.specs.Rooms.{rooms, FindsDeep, root_line}
use Rattle.cert_load.proofs.Reaching.{feasible_point, same_cost, searched_of, few_made, depth_low, loaded_of, few_steps}
use Rattle.cert_load.proofs.loading.load.Goals as goal

pub best_of-requires : goal.best_of-requires
best_of-requires c =
    feasible_point c.args.b.now (certificate_of c.args.cert.now) c.requires.valid

pub load_nodes-requires-clause-best : goal.load_nodes-requires-clause-best
load_nodes-requires-clause-best c =
    c.cost_in.ensures ∙ same_cost c.args.b.now c.in_ok-best.best (certificate_of c.args.cert.now).point c.in_ok-best.ensures.point c.in_ok-best.ensures.costs

pub adopt-requires : goal.adopt-requires
adopt-requires c =
    let cert = c.args.cert.now in
    let t = growing.tree_of c.in_ok-tree.tree in
    let low : FindsDeep c.args.b.now.named.program.limits (rooms t 0 c.args.b.now.named.program.spans) (root_line (certificate_of cert).point (certificate_of cert).cuts) None =
    subst (λ (o : Option ℕ). FindsDeep c.args.b.now.named.program.limits (rooms t 0 c.args.b.now.named.program.spans) (root_line (certificate_of cert).point (certificate_of cert).cuts) o) c.in-None.is c.in_ok-tree.ensures.deep in
    let search : IsSearch c.args.b.now.named.program c.args.b.now.blocking t (certificate_of cert).point =
    searched_of c.args.b.now (certificate_of cert) t c.blocks-2.ensures.formed c.requires.cuts c.requires.goes_with c.requires.valid c.in_ok-tree.ensures.loads low in
    record {
      kept = search.grove;
      deep = depth_low c.args.b.now (certificate_of cert) t c.requires.goes_with c.in_ok-tree.ensures.loads;
      few = few_made c.args.b.now (certificate_of cert) t c.requires.goes_with c.in_ok-tree.ensures.loads;
    }

pub invariant_of-result : goal.invariant_of-result
invariant_of-result c =
    let cert = c.args.cert.now in
    let t = growing.tree_of c.in_ok-tree.tree in
    record {
      few = few_steps c.args.b.now t c.in_ok-grove-in-None.grove
          (few_made c.args.b.now (certificate_of cert) t c.requires.goes_with c.in_ok-tree.ensures.loads) c.in_ok-grove-in-None.ensures.adopted;
    }

pub returns-in-Some : goal.returns-in-Some
returns-in-Some c =
    let t = growing.tree_of c.in_ok-tree.tree in record {
      tree = t;
      loads = c.in_ok-tree.ensures.loads;
      first = subst (λ (o : Option ℕ). FindsDeep c.args.b.now.named.program.limits (rooms t 0 c.args.b.now.named.program.spans) (root_line (certificate_of c.args.cert.now).point (certificate_of c.args.cert.now).cuts) o) c.in-Some.is
          c.in_ok-tree.ensures.deep;
    }

pub returns-in_ok-grove-in-None : goal.returns-in_ok-grove-in-None
returns-in_ok-grove-in-None c =
    let cert = c.args.cert.now in
    let t = growing.tree_of c.in_ok-tree.tree in
    let low : FindsDeep c.args.b.now.named.program.limits (rooms t 0 c.args.b.now.named.program.spans) (root_line (certificate_of cert).point (certificate_of cert).cuts) None =
    subst (λ (o : Option ℕ). FindsDeep c.args.b.now.named.program.limits (rooms t 0 c.args.b.now.named.program.spans) (root_line (certificate_of cert).point (certificate_of cert).cuts) o) c.in-None.is c.in_ok-tree.ensures.deep in
    let search : IsSearch c.args.b.now.named.program c.args.b.now.blocking t (certificate_of cert).point =
    searched_of c.args.b.now (certificate_of cert) t c.blocks-2.ensures.formed c.requires.cuts c.requires.goes_with c.requires.valid c.in_ok-tree.ensures.loads low in
    loaded_of c.args.b.now (certificate_of cert) t _ c.in_ok-tree.ensures.loads search c.in_ok-grove-in-None.ensures.adopted
    c.in_ok-grove-in-None.ensures.standing c.in_ok-best.ensures.point c.in_ok-best.ensures.costs
