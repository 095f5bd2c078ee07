use Rattle.std.proofs.Common.{refl, sym, subst, Result}
use Rattle.frontend.specs.Endings.{WritesDraft}
use Rattle.frontend.specs.declared.draft.Draft.{Draft}
use Rattle.frontend.specs.declared.front.Halt.{Halt}
use Rattle.frontend.proofs.draft.write_draft.Goals as goal

pub returns-in-Ok-clause-writes : goal.returns-in-Ok-clause-writes
returns-in-Ok-clause-writes g c =
    subst (λ (draft : Result Draft Halt). WritesDraft (g.F.Shelf.tells c.args.shelf.now) c.args.name.now (g.F.Shelf.file c.args.shelf.now) (g.F.Shelf.file c.put_draft.new.shelf)
    (g.F.Shelf.write_faults c.args.shelf.now) (g.F.Shelf.write_faults c.put_draft.new.shelf) draft c.put_draft.result) (sym c.in-Ok.is) c.put_draft.ensures.writes

pub returns-in-Err-clause-writes : goal.returns-in-Err-clause-writes
returns-in-Err-clause-writes g c =
    subst (λ (draft : Result Draft Halt). WritesDraft (g.F.Shelf.tells c.args.shelf.now) c.args.name.now (g.F.Shelf.file c.args.shelf.now) (g.F.Shelf.file c.args.shelf.now)
    (g.F.Shelf.write_faults c.args.shelf.now) (g.F.Shelf.write_faults c.args.shelf.now) draft c.halted.result) (sym c.in-Err.is) (c.halted.ensures, refl, refl)
