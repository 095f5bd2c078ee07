use Rattle.std.proofs.Common.{refl, sym, subst, None}
use Rattle.bp_theory.specs.Trees.{Tree as theory}
use Rattle.cert_format.specs.Kept.{certificate_of}
use Rattle.cert_format.specs.Sketch.{tree_of}
use Rattle.open_nodes.specs.Trees as growing
use Rattle.open_nodes.specs.declared.tree.Tree.{Tree}
use Rattle.tree_load.specs.Rooms.{rooms, FindsDeep, root_line}
use Rattle.tree_load.specs.Nodes.{MayLoad}
use Rattle.cert_load.specs.Loadings.{IsLoadedTree}
use Rattle.tree_load.specs.declared.walk.Walk.{Walk}
use Rattle.cert_load.proofs.Reaching.{may_root, root_loaded}
use Rattle.cert_load.proofs.loading.load_nodes.Goals as goal

pub load_node-requires-clause-may : goal.load_node-requires-clause-may
load_node-requires-clause-may c =
    let at : Walk = record { zone = c.in_ok-zone.zone; depth = 0; line = c.root_line-line.result; deep = None } in
    subst (λ (u : theory). MayLoad c.args.b.now c.args.best.now at u) (sym c.tree.ensures)
    (may_root c.args.b.now (certificate_of c.args.cert.now) c.args.best.now at c.blocks-2.ensures.formed c.requires.cuts c.requires.goes_with
    c.requires.valid c.requires.best c.in_ok-zone.ensures.spans c.in_ok-zone.ensures.zone refl c.root_line-line.ensures)

pub returns-clause-loads : goal.returns-clause-loads
returns-clause-loads c =
    let at : Walk = record { zone = c.in_ok-zone.zone; depth = 0; line = c.root_line-line.result; deep = None } in
    subst (λ (t : Tree). IsLoadedTree c.args.b.now (certificate_of c.args.cert.now) (growing.tree_of t)) (sym c.into_inner.ensures)
    (root_loaded c.args.b.now (certificate_of c.args.cert.now) c.args.best.now at c.in_ok-tree.end (tree_of c.tree.result.now) (growing.tree_of c.in_ok-tree.tree.value)
    c.requires.best c.in_ok-zone.ensures.spans refl c.root_line-line.ensures refl c.tree.ensures c.in_ok-tree.ensures.loaded).loads

pub returns-clause-deep : goal.returns-clause-deep
returns-clause-deep c =
    let at : Walk = record { zone = c.in_ok-zone.zone; depth = 0; line = c.root_line-line.result; deep = None } in
    subst (λ (t : Tree). FindsDeep c.args.b.now.named.program.limits (rooms (growing.tree_of t) 0 c.args.b.now.named.program.spans) (root_line (certificate_of c.args.cert.now).point (certificate_of c.args.cert.now).cuts) c.in_ok-tree.end.deep)
    (sym c.into_inner.ensures)
    (root_loaded c.args.b.now (certificate_of c.args.cert.now) c.args.best.now at c.in_ok-tree.end (tree_of c.tree.result.now) (growing.tree_of c.in_ok-tree.tree.value)
    c.requires.best c.in_ok-zone.ensures.spans refl c.root_line-line.ensures refl c.tree.ensures c.in_ok-tree.ensures.loaded).found
