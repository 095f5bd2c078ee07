use Rattle.std.proofs.Common.{refl, sym, subst, ◌<◌, ℕ, List, take, length}
use Rattle.std.specs.Prelude.{All}
use Rattle.bp_theory.specs.declared.Span.{Span}
use Rattle.enumeration.specs.Reach.{IsNarrowed}
use Rattle.enumeration.proofs.DivisorLaws.{unallowed}
use Rattle.search_price.proofs.pricer.SearchPricerPricer.price.Goals as goal

pub returns-then-is_missed-clause-answer : goal.returns-then-is_missed-clause-answer
returns-then-is_missed-clause-answer c = unallowed c.args.self.now.form.rows.items c.args.zone.now (c.if-is_missed.ensures.0 refl)

pub explore-requires-clause-order : goal.explore-requires-clause-order
explore-requires-clause-order c =
    subst (λ (xs : List ℕ). All (λ v. v < length c.args.zone.now) (take c.set_order-open.result xs)) (sym c.deref-3.ensures.value) c.set_order-open.ensures.order

pub explore-requires-clause-narrowed : goal.explore-requires-clause-narrowed
explore-requires-clause-narrowed c =
    subst (λ (xs : List ℕ). IsNarrowed c.args.zone.now (take c.set_order-open.result xs) 0 c.begin.new.dive.zone.items) (sym c.deref-3.ensures.value)
    (subst (λ (zs : List Span). IsNarrowed c.args.zone.now (take c.set_order-open.result c.set_order-open.new.order.items) 0 zs) (sym c.begin.ensures.zone)
    c.set_order-open.ensures.narrowed)
