use Rattle.std.proofs.Common.{◌≡◌, ◌∙◌, sym, subst, ap, Bool, IsTrue, Some}
use Rattle.std.specs.Option.{option_map}
use Rattle.bp_shelf.specs.Shelf.{Files}
use Rattle.bp_shelf.specs.declared.shelf.ShelfFault.TheVariants.{Missing}
use Rattle.cmd_certificates.specs.Migrates.{TextMigrates}
use Rattle.cmd_certificates.proofs.Lifted.{front_halts, fault_halts, still_missing, file_read, file_halted, text_counts}
use Rattle.cmd_certificates.proofs.migration.load_migrated.Goals as goal

pub returns-in_err-b-clause-halted : goal.returns-in_err-b-clause-halted
returns-in_err-b-clause-halted g c = λ told.
    front_halts c.args.sources.limits (g.F.Shelf.file c.args.shelf.now) c.args.sources.lp.now c.args.cert.now (option_map (λ name. name.now) c.args.sources.dec) c.in_err-b.field-0.0
    c.from_residual.result c.from_residual.ensures.1 (c.in_err-b.ensures.halted told)

pub returns-in_err-read-clause-halted : goal.returns-in_err-read-clause-halted
returns-in_err-read-clause-halted g c = λ told.
    let still : IsTrue (g.F.Shelf.tells c.load.new.shelf) = subst (λ (t : Bool). IsTrue t) (sym c.in_ok-b.ensures.told) told in
    fault_halts c.args.sources.limits (g.F.Shelf.file c.args.shelf.now) c.args.sources.lp.now c.args.cert.now (option_map (λ name. name.now) c.args.sources.dec) c.in_ok-b.b c.in_err-read.field-0.0
    c.from_residual-in_err-read.result c.from_residual-in_err-read.ensures.1 (c.in_ok-b.ensures.blocked told)
    (λ (is : c.in_err-read.field-0.0 ≡ Missing). ap (λ (files : Files). files c.args.cert.now) (sym c.in_ok-b.ensures.files) ∙ c.in_err-read.ensures.missing still (still_missing c.in_err-read.field-0.0 is))

pub returns-clause-read : goal.returns-clause-read
returns-clause-read g c = λ told.
    let still : IsTrue (g.F.Shelf.tells c.load.new.shelf) = subst (λ (t : Bool). IsTrue t) (sym c.in_ok-b.ensures.told) told in
    let file = c.in_ok-read.ensures.read in
    file_read c.args.sources.limits (g.F.Shelf.file c.args.shelf.now) c.args.sources.lp.now c.args.cert.now (option_map (λ name. name.now) c.args.sources.dec) c.in_ok-b.b file.text c.migrated_of.result (c.in_ok-b.ensures.blocked told)
    (sym (file.there still) ∙ ap (λ (files : Files). files c.args.cert.now) c.in_ok-b.ensures.files) (c.migrated_of.ensures.read file.text file.short file.reads)

pub returns-clause-halted : goal.returns-clause-halted
returns-clause-halted g c = λ told.
    let still : IsTrue (g.F.Shelf.tells c.load.new.shelf) = subst (λ (t : Bool). IsTrue t) (sym c.in_ok-b.ensures.told) told in
    let file = c.in_ok-read.ensures.read in
    file_halted c.args.sources.limits (g.F.Shelf.file c.args.shelf.now) c.args.sources.lp.now c.args.cert.now (option_map (λ name. name.now) c.args.sources.dec) c.in_ok-b.b file.text c.migrated_of.result (c.in_ok-b.ensures.blocked told)
    (sym (file.there still) ∙ ap (λ (files : Files). files c.args.cert.now) c.in_ok-b.ensures.files) (c.migrated_of.ensures.halted file.text file.reads)

pub returns-clause-cause : goal.returns-clause-cause
returns-clause-cause g c =
    let file = c.in_ok-read.ensures.read in
    text_counts (TextMigrates c.in_ok-b.b (Some file.text)) c.migrated_of.result (g.F.Shelf.read_faults c.args.shelf.now) (g.F.Shelf.read_faults c.read_file.new.shelf)
    (c.migrated_of.ensures.halted file.text file.reads) (c.in_ok-read.ensures.cause ∙ c.in_ok-b.ensures.cause)
