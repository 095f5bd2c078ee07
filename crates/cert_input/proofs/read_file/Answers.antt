use Rattle.cert_text.proofs.GoesWithProof.{goes_with_read, read_by}
use Rattle.cert_input.proofs.Feeding.{file_reads, file_faults}
use Rattle.cert_input.proofs.read_file.Goals as goal

pub feed_file-requires-clause-fresh : goal.feed_file-requires-clause-fresh
feed_file-requires-clause-fresh g c = c.new-reader.ensures c.in_ok-frame.frame

pub returns-in-Ok-clause-read : goal.returns-in-Ok-clause-read
returns-in-Ok-clause-read g c =
    let builds = c.in_ok-fed.ensures.builds in
    let whole = rw c.in-Ok.is at builds in
    file_reads c.args.b.now c.in_ok-frame.frame (g.F.Shelf.tells c.args.shelf.now) (g.F.Shelf.file c.args.shelf.now c.args.name.now) c.feed_file.new.reader c.finish.result
    c.in_ok-frame.ensures.frame whole (c.finish.ensures whole.text whole.builds)

pub returns-in-Ok-clause-goes_with : goal.returns-in-Ok-clause-goes_with
returns-in-Ok-clause-goes_with g c =
    let builds = c.in_ok-fed.ensures.builds in
    let whole = rw c.in-Ok.is at builds in
    goes_with_read c.args.b.now c.in_ok-frame.ensures.formed whole.text whole.short c.finish.result
    (read_by c.args.b.now c.in_ok-frame.frame whole.text c.finish.result c.in_ok-frame.ensures.frame (c.finish.ensures whole.text whole.builds))

pub returns-clause-read : goal.returns-clause-read
returns-clause-read g c =
    let faults = c.in_ok-fed.ensures.faults in
    file_faults c.args.b.now c.in_ok-frame.frame (g.F.Shelf.tells c.args.shelf.now) (g.F.Shelf.file c.args.shelf.now c.args.name.now) c.in-Err.fault
    c.in_ok-frame.ensures.frame (rw c.in-Err.is at faults)
