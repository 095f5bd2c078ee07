use Rattle.std.proofs.Common.{refl, sym, subst, Result}
use Rattle.frontend.specs.declared.draft.Draft.{Draft}
use Rattle.cmd_certificates.specs.Stops.{WritesMerged}
use Rattle.cmd_certificates.specs.declared.opening.Stop.{Stop}
use Rattle.cmd_certificates.proofs.merging.write_merged.Goals as goal

pub returns-in-Ok-clause-writes : goal.returns-in-Ok-clause-writes
returns-in-Ok-clause-writes g c =
    subst (λ (merged : Result Draft Stop). WritesMerged (g.F.Shelf.tells c.args.shelf.now) c.args.new.now (g.F.Shelf.file c.args.shelf.now) (g.F.Shelf.file c.put_draft.new.shelf)
    (g.F.Shelf.write_faults c.args.shelf.now) (g.F.Shelf.write_faults c.put_draft.new.shelf) merged c.put_draft.result) (sym c.in-Ok.is) c.put_draft.ensures.writes

pub returns-in-Err-clause-writes : goal.returns-in-Err-clause-writes
returns-in-Err-clause-writes g c =
    subst (λ (merged : Result Draft Stop). WritesMerged (g.F.Shelf.tells c.args.shelf.now) c.args.new.now (g.F.Shelf.file c.args.shelf.now) (g.F.Shelf.file c.args.shelf.now)
    (g.F.Shelf.write_faults c.args.shelf.now) (g.F.Shelf.write_faults c.args.shelf.now) merged c.come_by.result) (sym c.in-Err.is) (c.come_by.ensures, refl, refl)
