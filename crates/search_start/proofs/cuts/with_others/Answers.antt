use Rattle.std.proofs.Common.{◌≡◌, ◌∙◌, ap}
use Rattle.std.proofs.lemmas.Result.{IfOk-weaker}
use Rattle.cert_load.specs.Recut.{with_cuts}
use Rattle.search_start.specs.Cuttings.{HasOthers}
use Rattle.search_start.proofs.cuts.with_others.Goals as goal

pub returns : goal.returns
returns c =
    IfOk-weaker c.with_kept.result (λ x. x ≡ with_cuts c.args.b c.as_slice.result.now) (HasOthers c.args.b c.args.most)
    (λ x is. record { cuts = c.in_ok-cuts.cuts.items; goes_on = c.in_ok-cuts.ensures; is = is ∙ ap (with_cuts c.args.b) c.as_slice.ensures.value }) c.with_kept.ensures
