use Rattle.std.proofs.Common.{◌∙◌, sym, subst, Bool, IsTrue}
use Rattle.bp_shelf.specs.Shelf.{Files}
use Rattle.cmd_certificates.specs.Opens.{IsOpenedFile, RefusesFile}
use Rattle.cmd_certificates.specs.Merges.{MergesBlocked, first, second}
use Rattle.cmd_certificates.specs.Stops.{IsStop}
use Rattle.cmd_certificates.proofs.StopProof.{stop_is, both_merged, both_apart}
use Rattle.cmd_certificates.proofs.merging.merge_files.Goals as goal

pub returns-in_err-one-clause-stopped : goal.returns-in_err-one-clause-stopped
returns-in_err-one-clause-stopped g c = λ told.
    let files = g.F.Shelf.file c.args.shelf.now in
    stop_is (RefusesFile files c.args.b.now c.args.first.now) (MergesBlocked files c.args.b.now c.args.first.now c.args.second.now) c.in_err-one.field-0.0 c.from_residual.result
    (λ a h. first a h) c.from_residual.ensures.1 (c.in_err-one.ensures.stopped told)

pub returns-in_err-other-clause-stopped : goal.returns-in_err-other-clause-stopped
returns-in_err-other-clause-stopped g c = λ told.
    let files = g.F.Shelf.file c.args.shelf.now in
    let still : IsTrue (g.F.Shelf.tells c.open_cert.new.shelf) = subst (λ (t : Bool). IsTrue t) (sym c.in_ok-one.ensures.told) told in
    let x = c.in_ok-one.ensures.opened told in
    stop_is (RefusesFile files c.args.b.now c.args.second.now) (MergesBlocked files c.args.b.now c.args.first.now c.args.second.now) c.in_err-other.field-0.0 c.from_residual-in_err-other.result
    (λ a h. second x.text c.in_ok-one.one.from a x.there x.opened.opened h) c.from_residual-in_err-other.ensures.1
    (subst (λ (fs : Files). IsStop (RefusesFile fs c.args.b.now c.args.second.now) c.in_err-other.field-0.0) c.in_ok-one.ensures.files (c.in_err-other.ensures.stopped still))

pub join-requires-clause-model : goal.join-requires-clause-model
join-requires-clause-model g c = c.in_ok-other.ensures.usable.model ∙ sym c.in_ok-one.ensures.usable.model

pub join-requires-clause-dec : goal.join-requires-clause-dec
join-requires-clause-dec g c = c.in_ok-other.ensures.usable.dec ∙ sym c.in_ok-one.ensures.usable.dec

pub returns-clause-merged : goal.returns-clause-merged
returns-clause-merged g c = λ told.
    let files = g.F.Shelf.file c.args.shelf.now in
    let still : IsTrue (g.F.Shelf.tells c.open_cert.new.shelf) = subst (λ (t : Bool). IsTrue t) (sym c.in_ok-one.ensures.told) told in
    let x : IsOpenedFile files c.args.b.now c.args.first.now c.in_ok-one.one = c.in_ok-one.ensures.opened told in
    let y : IsOpenedFile files c.args.b.now c.args.second.now c.in_ok-other.other =
    subst (λ (fs : Files). IsOpenedFile fs c.args.b.now c.args.second.now c.in_ok-other.other) c.in_ok-one.ensures.files (c.in_ok-other.ensures.opened still) in
    both_merged files c.args.b.now c.args.first.now c.args.second.now c.in_ok-one.one c.in_ok-other.other c.join.result c.blocks-2.ensures.formed x y c.join.ensures.merged

pub returns-clause-stopped : goal.returns-clause-stopped
returns-clause-stopped g c = λ told.
    let files = g.F.Shelf.file c.args.shelf.now in
    let still : IsTrue (g.F.Shelf.tells c.open_cert.new.shelf) = subst (λ (t : Bool). IsTrue t) (sym c.in_ok-one.ensures.told) told in
    let x : IsOpenedFile files c.args.b.now c.args.first.now c.in_ok-one.one = c.in_ok-one.ensures.opened told in
    let y : IsOpenedFile files c.args.b.now c.args.second.now c.in_ok-other.other =
    subst (λ (fs : Files). IsOpenedFile fs c.args.b.now c.args.second.now c.in_ok-other.other) c.in_ok-one.ensures.files (c.in_ok-other.ensures.opened still) in
    both_apart files c.args.b.now c.args.first.now c.args.second.now c.in_ok-one.one c.in_ok-other.other c.join.result x y c.join.ensures.stopped
