use Rattle.std.proofs.Common.{◌∙◌, ap, List, [], ℕ, ◌++◌}
use Rattle.cert_format.proofs.PlainProof.{plain_lem}
use Rattle.cert_format.specs.Text.{One}
use Rattle.cert_format.specs.Plain.{plain_text}
use Rattle.cert_format.specs.Sketch.{tree_of}
use Rattle.cert_write.proofs.writer.write.Goals as goal

pub returns : goal.returns
returns c =
    let claim = c.args.claim.now in
    let point = c.args.point.now in
    let tree = tree_of c.args.tree.now in
    λ frame. c.in_ok-put_cert.ensures ∙ ap (λ (xs : List ℕ). xs ++ plain_text One claim point [] tree) c.new-out.ensures.items ∙ plain_lem frame One claim point [] tree
