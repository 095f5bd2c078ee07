use Rattle.std.proofs.Common.{◌≡◌, ap, ◌∙◌, Bool}
use Rattle.std.specs.Prelude.{unwrap_or, []}
use Rattle.bp_model.specs.Named.{NamedProgram}
use Rattle.search_laws.specs.Grove.{certificate_tree}
use Rattle.branch_tree.specs.Groves.{GroveState}
use Rattle.open_nodes.specs.Trees.{tree_of}
use Rattle.cert_write.specs.Changes.{changing_nodes}
use Rattle.cert_text.specs.Outcomes.{grove_of, claim_of, point_of}
use Rattle.cert_write.proofs.CutTexts.{written_text}
use Rattle.cert_text.proofs.OutcomeText.{outcome_text}
use Rattle.cert_text.proofs.outcome.write_cert.Goals as goal

pub returns : goal.returns
returns c =
    let sense : c.maximises.result ≡ c.args.b.now.named.program.maximises = c.maximises.ensures ∙ ap (λ (n : NamedProgram). n.program.maximises) c.model.ensures.model in
    let claim : c.outcome_claim-claim.result ≡ claim_of c.args.b.now.named.program.maximises c.args.outcome.now =
    c.outcome_claim-claim.ensures ∙ ap (λ (m : Bool). claim_of m c.args.outcome.now) sense in
    let tree : certificate_tree (tree_of c.tree-tree.result.now) ≡ certificate_tree (grove_of c.args.outcome.now).tree =
    ap certificate_tree (c.tree-tree.ensures.tree ∙ ap (λ (g : GroveState). g.tree) c.outcome_grove.ensures) in
    outcome_text c.args.b.now c.model.ensures.formed c.args.outcome.now c.put_outcome.new.out.items c.requires
    (written_text c.outcome_claim-claim.result _ c.outcome_point.result.now (unwrap_or (point_of c.args.outcome.now) []) c.cuts.result.now c.args.b.now.cuts (changing_nodes [] (certificate_tree (tree_of c.tree-tree.result.now))) _
    c.new-out.result.items c.put_outcome.new.out.items c.new-out.ensures.items claim c.outcome_point.ensures c.cuts.ensures.cuts (ap (changing_nodes []) tree) c.in_ok-put_outcome.ensures)
