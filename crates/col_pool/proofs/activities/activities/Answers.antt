-- The sums that aren't 0 are the activities.
use Rattle.std.proofs.Common.{◌≡◌, sym, subst, ◌∙◌, ℕ, ◌<◌, ◌^◌, List, All}
use Rattle.std.specs.Prelude.{ℤ, unsigned_abs}
use Rattle.std.proofs.lemmas.Result.{IfOk-weaker}
use Rattle.col_pool.specs.Pools.{HasActivities}
use Rattle.col_pool.proofs.PoolLemmas.{activities_are}
use Rattle.col_pool.proofs.activities.activities.Goals as goal

pub narrowed-requires : goal.narrowed-requires
narrowed-requires c =
    let both = activities_are c.args.block.now c.args.point.now c.in_ok-sums.sums.entries c.requires.small c.requires.inside
    c.in_ok-sums.ensures.ordered c.in_ok-sums.ensures.sums in
    subst (λ (es : List (ℕ × ℤ)). All (λ (e : ℕ × ℤ). unsigned_abs e.1 < 2 ^ 62) es) (sym (c.deref.ensures.value ∙ c.in_ok-kept.ensures)) both.1

pub returns : goal.returns
returns c =
    let both = activities_are c.args.block.now c.args.point.now c.in_ok-sums.sums.entries c.requires.small c.requires.inside
    c.in_ok-sums.ensures.ordered c.in_ok-sums.ensures.sums in
    IfOk-weaker c.narrowed.result (λ acts. acts ≡ c.deref.result.now) (HasActivities c.args.block.now.block c.args.point.now)
    (λ acts is. subst (HasActivities c.args.block.now.block c.args.point.now) (sym (is ∙ c.deref.ensures.value ∙ c.in_ok-kept.ensures)) both.0)
    c.narrowed.ensures
