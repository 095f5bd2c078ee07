-- A tree that is loaded of a text has few nodes, since each has a line of eight bytes or more.
use Rattle.std.proofs.Common.{◌≡◌, refl, sym, ap, ◌∙◌, ℕ, ◌+◌, ◌*◌, ◌<◌, ◌≤◌, ◌^◌, List, length, arith}
use Rattle.bp_theory.specs.Trees.{Tree, shut_leaf, open_leaf, split}
use Rattle.search_laws.specs.Grove.{GrowingTree}
use Rattle.search_laws.specs.GroveFacts.{best_cost}
use Rattle.block_program.specs.Blocked.{BlockedProgram}
use Rattle.branch_tree.specs.Groves.{made}
use Rattle.branch_tree.specs.declared.loaded.Loaded.{Loaded}
use Rattle.cert_format.specs.Fault.{IsCertText}
use Rattle.cert_format.specs.Sketch.{tree_of}
use Rattle.cert_format.specs.Written.{written_tree}
use Rattle.cert_format.specs.Kept.{certificate_of, kept_cert}
use Rattle.cert_text.specs.Programs.{frame_for}
use Rattle.cert_format.specs.declared.cert.Cert.{Cert}
use Rattle.cert_format.specs.Nodes.{nodes}
use Rattle.cert_format.proofs.Fine.{text_nodes}
use Rattle.tree_load.specs.Rooms.{node_count}
use Rattle.cert_load.specs.Loadings.{IsLoadedOf}
use Rattle.tree_load.proofs.Descent.{made_of}

nodes_written : (t : Tree) → nodes (written_tree t) ≡ node_count t
nodes_written (shut_leaf p) = refl
nodes_written (open_leaf p) = refl
nodes_written (split v at low high) =
    let a : nodes (written_tree low) ≡ node_count low = nodes_written low in
    let b : nodes (written_tree high) ≡ node_count high = nodes_written high in
    omega arith

pub few_nodes : (b c : BlockedProgram) (cert : Cert) (text : List ℕ) (from : Loaded) → length text < 2 ^ 64 → IsCertText (frame_for b) (kept_cert cert) text
    → IsLoadedOf c (certificate_of cert) from → made from.grove.tree < 2 ^ 61
few_nodes b c cert text from short spelled loaded =
    let t : Tree = tree_of cert.tree in
    let few : 12 + 8 * nodes (written_tree t) ≤ length text = text_nodes (frame_for b) spelled.0 (kept_cert cert) text spelled.1 in
    let each : nodes (written_tree t) ≡ node_count t = nodes_written t in
    let all : made loaded.tree ≡ node_count t =
    made_of c.blocking (best_cost c.named.program (certificate_of cert).point) c.named.program.spans t loaded.tree loaded.loads in
    let same : made from.grove.tree ≡ made loaded.tree = ap (λ (g : GrowingTree). made g) loaded.adopted.tree in
    omega (arith, few, each, all, same, short)
