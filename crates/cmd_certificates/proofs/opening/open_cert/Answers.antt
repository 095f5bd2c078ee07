use Rattle.std.proofs.Common.{◌≡◌}
use Rattle.bp_shelf.specs.declared.shelf.ShelfFault.TheVariants.{Missing}
use Rattle.cmd_certificates.proofs.OpenProof.{file_opened, file_stopped, read_stopped, still_missing, text_counts}
use Rattle.cmd_certificates.proofs.opening.open_cert.Goals as goal

pub returns-in_err-read-clause-stopped : goal.returns-in_err-read-clause-stopped
returns-in_err-read-clause-stopped g c = λ told.
    read_stopped (g.F.Shelf.file c.args.shelf.now) c.args.b.now c.args.name.now c.in_err-read.field-0.0 c.from_residual.result c.from_residual.ensures.1
    (λ (is : c.in_err-read.field-0.0 ≡ Missing). c.in_err-read.ensures.missing told (still_missing c.in_err-read.field-0.0 is))

pub opened_of-requires-clause-of_text : goal.opened_of-requires-clause-of_text
opened_of-requires-clause-of_text g c =
    let file = c.in_ok-read.ensures.read in
    (file.text, file.reads, file.short)

pub returns-clause-opened : goal.returns-clause-opened
returns-clause-opened g c = λ told.
    let file = c.in_ok-read.ensures.read in
    file_opened (g.F.Shelf.file c.args.shelf.now) c.args.b.now c.args.name.now file.text c.opened_of.result (file.there told) (c.opened_of.ensures.opened file.text file.reads)

pub returns-clause-stopped : goal.returns-clause-stopped
returns-clause-stopped g c = λ told.
    let file = c.in_ok-read.ensures.read in
    file_stopped (g.F.Shelf.file c.args.shelf.now) c.args.b.now c.args.name.now file.text c.opened_of.result (file.there told) (c.opened_of.ensures.stopped file.text file.reads)

pub returns-clause-cause : goal.returns-clause-cause
returns-clause-cause g c =
    let file = c.in_ok-read.ensures.read in
    text_counts c.args.b.now file.text c.opened_of.result (g.F.Shelf.read_faults c.args.shelf.now) (g.F.Shelf.read_faults c.read_file.new.shelf)
    (c.opened_of.ensures.stopped file.text file.reads) c.in_ok-read.ensures.cause
