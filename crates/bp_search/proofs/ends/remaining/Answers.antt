use Rattle.std.proofs.Common.{◌≡◌, ◌∙◌, ◌++◌, subst, sym, ap, rules, to_z, of_z, w64, Some}
use Rattle.std.specs.Prelude.{ℤ, Option, option_to_list}
use Rattle.std.specs.Int.{int_min}
use Rattle.search_laws.specs.Grove.{live_bounds}
use Rattle.search_laws.specs.GroveFacts.{IsLeastOf}
use Rattle.bp_search.specs.declared.kept.Kept.{Kept}
use Rattle.bp_search.specs.Searches.{kept_cost}
use Rattle.bp_search.proofs.Final.{less_is_least}
use Rattle.bp_search.proofs.ends.remaining.Goals as goal

pub returns-in-Some : goal.returns-in-Some
returns-in-Some c =
    let same : to_z w64 (of_z w64 c.less.result) ≡ c.less.result = search rules in
    let first : to_z w64 (of_z w64 c.least-least.result) ≡ c.least-least.result = search rules in
    subst (λ (best : Option Kept). IsLeastOf (live_bounds c.args.grove.now.tree ++ option_to_list (kept_cost best)) (to_z w64 (of_z w64 c.less.result))) (sym c.in-Some.is)
    (subst (IsLeastOf (live_bounds c.args.grove.now.tree ++ option_to_list (kept_cost (Some c.in-Some.kept))))
    (sym (same ∙ c.less.ensures ∙ ap (λ (z : ℤ). int_min z c.in-Some.kept.cost) first))
    (less_is_least (live_bounds c.args.grove.now.tree) c.least-least.result c.in-Some.kept.cost c.least-least.ensures))
