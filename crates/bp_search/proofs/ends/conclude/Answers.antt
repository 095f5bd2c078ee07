use Rattle.std.proofs.Common.{◌≡◌, ◌∙◌, ◌<◌, subst, sym, arith}
use Rattle.search_laws.specs.Grove.{live_count}
use Rattle.cert_text.specs.Outcomes.{IsWritable}
use Rattle.bp_search.specs.Ends.{EndsWithin}
use Rattle.bp_search.proofs.Final.{ends, stops, ended_grove, ended_point, stopped_grove, stopped_point}
use Rattle.bp_search.proofs.Writable.{ended_writable, stopped_writable}
use Rattle.bp_search.proofs.ends.conclude.Goals as goal

pub returns-then-live-eq0-clause-ends : goal.returns-then-live-eq0-clause-ends
returns-then-live-eq0-clause-ends c = λ most stop.
    let none : live_count c.args.grove.tree ≡ 0 = sym c.live.ensures.live ∙ c.if-live-eq0.true in
    subst (EndsWithin c.args.b.now most) (sym c.ended.ensures)
    (ends c.args.b.now most c.args.grove c.args.best c.blocks-2.ensures.formed c.requires none stop.few)

pub returns-else-live-eq0-clause-ends : goal.returns-else-live-eq0-clause-ends
returns-else-live-eq0-clause-ends c = λ most stop.
    let some : 0 < live_count c.args.grove.tree = omega (arith, c.live.ensures.live, c.if-live-eq0.false) in
    stops c.args.b.now most c.args.grove c.args.best c.stopped.result c.blocks-2.ensures.formed c.requires some (stop.spent some) c.stopped.ensures

pub returns-then-live-eq0-clause-writable : goal.returns-then-live-eq0-clause-writable
returns-then-live-eq0-clause-writable c =
    let none : live_count c.args.grove.tree ≡ 0 = sym c.live.ensures.live ∙ c.if-live-eq0.true in
    subst (IsWritable c.args.b.now) (sym c.ended.ensures) (ended_writable c.args.b.now c.args.grove c.args.best c.blocks-2.ensures.formed c.requires none)

pub returns-else-live-eq0-clause-writable : goal.returns-else-live-eq0-clause-writable
returns-else-live-eq0-clause-writable c =
    let some : 0 < live_count c.args.grove.tree = omega (arith, c.live.ensures.live, c.if-live-eq0.false) in
    stopped_writable c.args.b.now c.args.grove c.args.best c.stopped.result c.blocks-2.ensures.formed c.requires some c.stopped.ensures

pub returns-then-live-eq0-clause-grove : goal.returns-then-live-eq0-clause-grove
returns-then-live-eq0-clause-grove c = ended_grove c.args.grove c.args.best c.ended.result c.ended.ensures

pub returns-then-live-eq0-clause-point : goal.returns-then-live-eq0-clause-point
returns-then-live-eq0-clause-point c = ended_point c.args.grove c.args.best c.ended.result c.ended.ensures

pub returns-else-live-eq0-clause-grove : goal.returns-else-live-eq0-clause-grove
returns-else-live-eq0-clause-grove c = stopped_grove c.args.grove c.args.best c.stopped.result c.stopped.ensures

pub returns-else-live-eq0-clause-point : goal.returns-else-live-eq0-clause-point
returns-else-live-eq0-clause-point c = stopped_point c.args.grove c.args.best c.stopped.result c.stopped.ensures
