use Rattle.std.proofs.Common.{refl, sym, subst, Result}
use Rattle.frontend.specs.declared.front.Halt.{Halt}
use Rattle.cmd_certificates.specs.Writes.{WritesMigrated}
use Rattle.cmd_certificates.specs.declared.migration.Migrated.{Migrated}
use Rattle.cmd_certificates.proofs.migration.write_migrated.Goals as goal

pub returns-in-Ok-clause-writes : goal.returns-in-Ok-clause-writes
returns-in-Ok-clause-writes g c =
    subst (λ (migrated : Result Migrated Halt). WritesMigrated (g.F.Shelf.tells c.args.shelf.now) c.args.new.now (g.F.Shelf.file c.args.shelf.now) (g.F.Shelf.file c.put_migrated.new.shelf)
    (g.F.Shelf.write_faults c.args.shelf.now) (g.F.Shelf.write_faults c.put_migrated.new.shelf) migrated c.put_migrated.result) (sym c.in-Ok.is) c.put_migrated.ensures.writes

pub returns-in-Err-clause-writes : goal.returns-in-Err-clause-writes
returns-in-Err-clause-writes g c =
    subst (λ (migrated : Result Migrated Halt). WritesMigrated (g.F.Shelf.tells c.args.shelf.now) c.args.new.now (g.F.Shelf.file c.args.shelf.now) (g.F.Shelf.file c.args.shelf.now)
    (g.F.Shelf.write_faults c.args.shelf.now) (g.F.Shelf.write_faults c.args.shelf.now) migrated c.halted.result) (sym c.in-Err.is) (c.halted.ensures, refl, refl)
