use Rattle.std.proofs.Common.{◌≡◌, Bool, sym, ap, subst, ◌∙◌}
use Rattle.std.specs.Prelude.{[], codes, IsTrue}
use Rattle.bp_model.specs.Named.{NamedProgram}
use Rattle.search_laws.specs.Grove.{certificate_tree}
use Rattle.branch_tree.specs.Groves.{GroveState}
use Rattle.open_nodes.specs.Trees.{tree_of}
use Rattle.cert_format.specs.Text.{Two}
use Rattle.cert_format.specs.Plain.{tree_text}
use Rattle.cert_write.specs.Changes.{changing_nodes}
use Rattle.cert_text.specs.Outcomes.{claim_of}
use Rattle.cert_file.proofs.Appending.{stopped_before, added_on}
use Rattle.cert_stream.proofs.Streaming.{behind_none, put_whole}
use Rattle.cert_stream.proofs.stream.write_stream.Goals as goal

pub returns-in-Err-put_nodes-clause-files : goal.returns-in-Err-put_nodes-clause-files
returns-in-Err-put_nodes-clause-files g c = λ told.
    let b = c.args.b.now in
    let o = c.args.outcome.now in
    let sense : c.maximises.result ≡ b.named.program.maximises = c.maximises.ensures ∙ ap (λ (n : NamedProgram). n.program.maximises) c.model.ensures.model in
    let t = certificate_tree (tree_of c.tree.result.now) in
    let first = subst (λ (x : Bool). IsTrue x) (sym c.in-Ok-put_heads.ensures.told) told in
    put_whole b c.model.ensures.formed o c.args.name.now c.outcome_claim-claim.result c.outcome_point.result.now c.cuts.result.now t (g.F.Shelf.file c.args.shelf.now) (g.F.Shelf.file c.put_heads.new.shelf)
    (g.F.Shelf.file c.put_nodes.new.shelf) _ c.requires
    (c.outcome_claim-claim.ensures ∙ ap (λ (m : Bool). claim_of m o) sense) c.outcome_point.ensures c.cuts.ensures.cuts
    (ap certificate_tree (c.tree.ensures.tree ∙ ap (λ (x : GroveState). x.tree) c.outcome_grove.ensures))
    (c.in-Ok-put_heads.ensures.files told)
    (stopped_before c.args.name.now (tree_text Two (changing_nodes [] t)) (codes "end\n") (g.F.Shelf.file c.put_heads.new.shelf) (g.F.Shelf.file c.put_nodes.new.shelf)
    c.in-Err-put_nodes.stop (behind_none c.args.name.now c.new-had.result.items t (g.F.Shelf.file c.put_heads.new.shelf) (g.F.Shelf.file c.put_nodes.new.shelf) _ c.new-had.ensures.items
    (c.in-Err-put_nodes.ensures.files first t c.in-Ok.ensures)))

pub returns-clause-files : goal.returns-clause-files
returns-clause-files g c = λ told.
    let b = c.args.b.now in
    let o = c.args.outcome.now in
    let sense : c.maximises.result ≡ b.named.program.maximises = c.maximises.ensures ∙ ap (λ (n : NamedProgram). n.program.maximises) c.model.ensures.model in
    let t = certificate_tree (tree_of c.tree.result.now) in
    let first = subst (λ (x : Bool). IsTrue x) (sym c.in-Ok-put_heads.ensures.told) told in
    let second = subst (λ (x : Bool). IsTrue x) (sym c.in-Ok-put_nodes.ensures.told) first in
    put_whole b c.model.ensures.formed o c.args.name.now c.outcome_claim-claim.result c.outcome_point.result.now c.cuts.result.now t (g.F.Shelf.file c.args.shelf.now) (g.F.Shelf.file c.put_heads.new.shelf)
    (g.F.Shelf.file c.put_end.new.shelf) c.put_end.result c.requires
    (c.outcome_claim-claim.ensures ∙ ap (λ (m : Bool). claim_of m o) sense) c.outcome_point.ensures c.cuts.ensures.cuts
    (ap certificate_tree (c.tree.ensures.tree ∙ ap (λ (x : GroveState). x.tree) c.outcome_grove.ensures))
    (c.in-Ok-put_heads.ensures.files told)
    (added_on c.args.name.now (tree_text Two (changing_nodes [] t)) (codes "end\n") (g.F.Shelf.file c.put_heads.new.shelf) (g.F.Shelf.file c.put_nodes.new.shelf)
    (g.F.Shelf.file c.put_end.new.shelf) c.in-Ok-put_nodes.field-0 c.put_end.result
    (behind_none c.args.name.now c.new-had.result.items t (g.F.Shelf.file c.put_heads.new.shelf) (g.F.Shelf.file c.put_nodes.new.shelf) _ c.new-had.ensures.items
    (c.in-Ok-put_nodes.ensures.files first t c.in-Ok.ensures)) (c.put_end.ensures.files second))
