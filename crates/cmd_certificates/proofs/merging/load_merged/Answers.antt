use Rattle.std.proofs.Common.{sym, subst, Bool, IsTrue, List, ℕ, Option, IfOk, IfErr}
use Rattle.std.specs.Option.{option_map}
use Rattle.bp_shelf.specs.Shelf.{Files}
use Rattle.frontend.specs.Written.{draft_answer}
use Rattle.cmd_certificates.specs.Merges.{MergesBlocked, Merges, stopped, went_on}
use Rattle.cmd_certificates.specs.Stops.{IsStop}
use Rattle.cmd_certificates.proofs.StopProof.{stops_as, blocks_merged, front_stops}
use Rattle.cmd_certificates.proofs.merging.load_merged.Goals as goal

pub returns-in-Ok-clause-merged : goal.returns-in-Ok-clause-merged
returns-in-Ok-clause-merged g c = λ told.
    let files = g.F.Shelf.file c.args.shelf.now in
    let still : IsTrue (g.F.Shelf.tells c.load.new.shelf) = subst (λ (t : Bool). IsTrue t) (sym c.in-Ok.ensures.told) told in
    blocks_merged c.args.sources.limits files c.args.sources.lp.now c.args.first.now c.args.second.now (option_map (λ name. name.now) c.args.sources.dec) c.in-Ok.b c.merge_files.result (c.in-Ok.ensures.blocked told)
    (subst (λ (fs : Files). IfOk c.merge_files.result (λ m. MergesBlocked fs c.in-Ok.b c.args.first.now c.args.second.now (draft_answer m))) c.in-Ok.ensures.files (c.merge_files.ensures.merged still))

pub returns-in-Ok-clause-stopped : goal.returns-in-Ok-clause-stopped
returns-in-Ok-clause-stopped g c = λ told.
    let files = g.F.Shelf.file c.args.shelf.now in
    let dec : Option (List ℕ) = option_map (λ name. name.now) c.args.sources.dec in
    let still : IsTrue (g.F.Shelf.tells c.load.new.shelf) = subst (λ (t : Bool). IsTrue t) (sym c.in-Ok.ensures.told) told in
    stops_as (MergesBlocked files c.in-Ok.b c.args.first.now c.args.second.now) (Merges c.args.sources.limits files c.args.sources.lp.now c.args.first.now c.args.second.now dec) c.merge_files.result
    (λ a h. went_on c.in-Ok.b a (c.in-Ok.ensures.blocked told) h)
    (subst (λ (fs : Files). IfErr c.merge_files.result (IsStop (MergesBlocked fs c.in-Ok.b c.args.first.now c.args.second.now))) c.in-Ok.ensures.files (c.merge_files.ensures.stopped still))

pub returns-in-Err-Refused-clause-stopped : goal.returns-in-Err-Refused-clause-stopped
returns-in-Err-Refused-clause-stopped g c = λ told.
    let halted = c.in-Err-Refused.ensures.halted told in
    rw c.in-Err-Refused.field-0-is (stopped 3 c.in-Err-Refused.report.items (rw c.in-Err-Refused.field-0-is at halted))

pub returns-in-Err-Stopped-clause-stopped : goal.returns-in-Err-Stopped-clause-stopped
returns-in-Err-Stopped-clause-stopped g c = λ told.
    let halted = c.in-Err-Stopped.ensures.halted told in
    rw c.in-Err-Stopped.field-0-is
    (front_stops c.args.sources.limits (g.F.Shelf.file c.args.shelf.now) c.args.sources.lp.now c.args.first.now c.args.second.now (option_map (λ name. name.now) c.args.sources.dec) c.in-Err-Stopped.fault
    (rw c.in-Err-Stopped.field-0-is at halted))
