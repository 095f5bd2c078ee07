use Rattle.std.proofs.Common.{sym, ap, Some, Err, append-nil}
use Rattle.std.specs.Option.{option_map}
use Rattle.cert_file.specs.declared.stop.StreamStop.{StreamStop}
use Rattle.search_outcome.proofs.Outcomes.{tells}
use Rattle.search_outcome.proofs.Parts.{part_told}
use Rattle.search_outcome.proofs.told.tell.Goals as goal

pub returns-in-Ok-save-clause-cut_off : goal.returns-in-Ok-save-clause-cut_off
returns-in-Ok-save-clause-cut_off g c = λ is_fault. (
  Some c.args.outcome,
  c.in-Ok.reply.status,
  c.in-Ok.reply.report,
  c.print.ensures.lost is_fault,
  tells c.args.b.now c.args.told c.args.outcome c.in-Ok.reply c.in-Ok.ensures,
  (λ heard. c.print.ensures.partly heard is_fault),
)

pub returns-in-Err-Failed-clause-cut_off : goal.returns-in-Err-Failed-clause-cut_off
returns-in-Err-Failed-clause-cut_off g c = λ is_fault. (
  Some c.args.outcome,
  c.in-Ok.reply.status,
  c.in-Ok.reply.report,
  c.unwritten.ensures.lost,
  tells c.args.b.now c.args.told c.args.outcome c.in-Ok.reply c.in-Ok.ensures,
  (λ heard. (0, sym (append-nil (g.O.Sink.taken c.args.out.now)))),
)

pub returns-clause-part : goal.returns-clause-part
returns-clause-part g c = λ told want.
    part_told c.args.b.now c.args.told c.args.outcome c.in-Ok.reply (option_map (λ name. name.now) c.args.cert) (g.F.Shelf.file c.args.shelf.now) (g.F.Shelf.file c.save.new.shelf)
    c.in-Ok.ensures (c.in-Err-NoMemory.ensures.part told (ap (λ (stop : StreamStop). Err stop) c.in-Err-NoMemory.field-0-is))
