use Rattle.std.proofs.Common.{◌∙◌, sym, ap, subst, List, ℕ, ℤ, ◌++◌, []}
use Rattle.bp_theory.specs.declared.Cut.{Cut}
use Rattle.cert_format.specs.Fault.{IsText}
use Rattle.cert_format.specs.Plain.{plain_text, version_with}
use Rattle.cert_format.specs.Sketch.{tree_of}
use Rattle.cert_write.specs.Changes.{changing_nodes}
use Rattle.cert_format.specs.Kept.{kept_cert}
use Rattle.cert_write.proofs.ChangeText.{rewritten}
use Rattle.cert_write.proofs.writer.rewrite.Goals as goal

pub returns : goal.returns
returns c =
    let cert = c.args.cert.now in
    let nodes = changing_nodes [] (tree_of cert.tree) in
    let text = plain_text (version_with c.as_slice-2.result.now) cert.claim c.as_slice.result.now c.as_slice-2.result.now nodes in
    let bytes = c.in_ok-put_changed_cert.ensures ∙ ap (λ (xs : List ℕ). xs ++ text) c.new-out.ensures.items
    ∙ ap (λ (zs : List ℤ). plain_text (version_with c.as_slice-2.result.now) cert.claim zs c.as_slice-2.result.now nodes) c.as_slice.ensures
    ∙ ap (λ (cs : List Cut). plain_text (version_with cs) cert.claim cert.point cs nodes) c.as_slice-2.ensures in
    λ frame old spells.
    let P : List ℕ → Type 0 = λ s. IsText frame (version_with cert.cuts) (kept_cert cert) s in
    subst P (sym bytes) (rewritten frame spells.0 cert.claim cert.point cert.cuts (tree_of cert.tree) old spells.1)
