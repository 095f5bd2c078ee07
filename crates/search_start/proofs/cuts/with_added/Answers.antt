use Rattle.std.proofs.Common.{◌∙◌, sym, ap, ◌+◌, List, length, arith}
use Rattle.std.proofs.lemmas.Result.{IfOk-weaker}
use Rattle.bp_theory.specs.declared.Cut.{Cut}
use Rattle.search_start.specs.Cuttings.{HasCuts, HasOthers}
use Rattle.search_start.proofs.CutLemmas.{none_added, both_added}
use Rattle.search_start.proofs.cuts.with_added.Goals as goal

pub returns-then-room-eq0 : goal.returns-then-room-eq0
returns-then-room-eq0 c =
    none_added c.args.b c.args.most c.blocks-2.ensures.formed (sym c.room_behind-room.ensures ∙ omega (arith, c.if-room-eq0.true))

pub returns : goal.returns
returns c =
    IfOk-weaker c.with_others.result (HasOthers c.in_ok-plain.plain (length c.cuts.result.now + c.room_behind-room.result)) (HasCuts c.args.b c.args.b.cuts c.args.most)
    (λ x others. both_added c.args.b c.in_ok-plain.plain x c.args.most c.room_behind-room.result (length c.cuts.result.now + c.room_behind-room.result) c.room_behind-room.ensures
    (ap (λ (cs : List Cut). length cs + c.room_behind-room.result) c.cuts.ensures.cuts) c.in_ok-plain.ensures others)
    c.with_others.ensures
