use Rattle.std.proofs.Common.{Bool, sym, subst}
use Rattle.std.specs.Prelude.{[], codes, IsTrue}
use Rattle.cert_format.specs.Fault.{IsText}
use Rattle.cert_text.specs.Programs.{frame_for}
use Rattle.cert_format.specs.Kept.{kept_cert}
use Rattle.cert_format.specs.Sketch.{tree_of as sketched}
use Rattle.cert_format.specs.Text.{Two}
use Rattle.cert_format.specs.Plain.{version_with, tree_text}
use Rattle.cert_write.specs.Changes.{changing_nodes}
use Rattle.cert_stream.proofs.Streaming.{head_failed, behind_none, put_anew}
use Rattle.cert_file.proofs.Appending.{stopped_before, added_on}
use Rattle.cert_stream.proofs.stream.rewrite_stream.Goals as goal

pub returns-in-Err-clause-files : goal.returns-in-Err-clause-files
returns-in-Err-clause-files g c = λ told old spelled.
    head_failed (λ text. IsText (frame_for c.args._b.now) (version_with c.args.cert.now.cuts) (kept_cert c.args.cert.now) text) c.args.name.now _ (g.F.Shelf.file c.args.shelf.now) (g.F.Shelf.file c.put_heads.new.shelf) c.in-Err.stop
    (c.in-Err.ensures.files told)

pub returns-in-Err-put_nodes-clause-files : goal.returns-in-Err-put_nodes-clause-files
returns-in-Err-put_nodes-clause-files g c = λ told old spelled.
    let t = sketched c.tree.result.now in
    let first = subst (λ (x : Bool). IsTrue x) (sym c.in-Ok.ensures.told) told in
    put_anew (frame_for c.args._b.now) spelled.0 old c.args.cert.now c.args.name.now c.claim-claim.result c.named_point.result.now c.cuts.result.now t (g.F.Shelf.file c.args.shelf.now) (g.F.Shelf.file c.put_heads.new.shelf)
    (g.F.Shelf.file c.put_nodes.new.shelf) _ spelled.1 c.claim-claim.ensures c.named_point.ensures c.cuts.ensures c.tree.ensures (c.in-Ok.ensures.files told)
    (stopped_before c.args.name.now (tree_text Two (changing_nodes [] t)) (codes "end\n") (g.F.Shelf.file c.put_heads.new.shelf) (g.F.Shelf.file c.put_nodes.new.shelf)
    c.in-Err-put_nodes.stop (behind_none c.args.name.now c.new-had.result.items t (g.F.Shelf.file c.put_heads.new.shelf) (g.F.Shelf.file c.put_nodes.new.shelf) _ c.new-had.ensures.items
    (c.in-Err-put_nodes.ensures.files first t c.new-lines.ensures)))

pub returns-clause-files : goal.returns-clause-files
returns-clause-files g c = λ told old spelled.
    let t = sketched c.tree.result.now in
    let first = subst (λ (x : Bool). IsTrue x) (sym c.in-Ok.ensures.told) told in
    let second = subst (λ (x : Bool). IsTrue x) (sym c.in-Ok-put_nodes.ensures.told) first in
    put_anew (frame_for c.args._b.now) spelled.0 old c.args.cert.now c.args.name.now c.claim-claim.result c.named_point.result.now c.cuts.result.now t (g.F.Shelf.file c.args.shelf.now) (g.F.Shelf.file c.put_heads.new.shelf)
    (g.F.Shelf.file c.put_end.new.shelf) c.put_end.result spelled.1 c.claim-claim.ensures c.named_point.ensures c.cuts.ensures c.tree.ensures (c.in-Ok.ensures.files told)
    (added_on c.args.name.now (tree_text Two (changing_nodes [] t)) (codes "end\n") (g.F.Shelf.file c.put_heads.new.shelf) (g.F.Shelf.file c.put_nodes.new.shelf)
    (g.F.Shelf.file c.put_end.new.shelf) c.in-Ok-put_nodes.field-0 c.put_end.result
    (behind_none c.args.name.now c.new-had.result.items t (g.F.Shelf.file c.put_heads.new.shelf) (g.F.Shelf.file c.put_nodes.new.shelf) _ c.new-had.ensures.items
    (c.in-Ok-put_nodes.ensures.files first t c.new-lines.ensures)) (c.put_end.ensures.files second))
