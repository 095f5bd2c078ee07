use Rattle.std.proofs.Common.{sym, ap, subst, ◌∙◌, ◌<◌, ◌^◌, List, length, arith, rules}
use Rattle.std.specs.Prelude.{ℤ, zip, pos, unsigned_abs, All}
use Rattle.std.specs.Int.{w128}
use Rattle.std.proofs.lemmas.Int.{to_z-of_z}
use Rattle.search_laws.specs.declared.Column.{Column}
use Rattle.search_laws.specs.Master.{column_price, AreConvex, gap, short}
use Rattle.master_gap.specs.Restricted.{Restricted}
use Rattle.master_gap.proofs.Steps.{passed}
use Rattle.master_gap.proofs.Bounds.{price_small}
use Rattle.master_lp.proofs.Near.{near_best}
use Rattle.master_lp.proofs.measure.measured.Goals as goal

pub least_prices-requires-clause-small : goal.least_prices-requires-clause-small
least_prices-requires-clause-small c =
    let m : Restricted = record { cols = c.args.cols.now; rows = c.args.rows.now; counts = c.args.counts.now } in
    subst (λ (ms : List ℤ). All (λ (k : Column). unsigned_abs (column_price ms k) < 2 ^ 126) m.cols) (sym c.deref.ensures.value)
    (λ j d l. omega (arith, price_small m c.in_ok-mults.mults.items c.requires c.in_ok-mults.ensures j d l))

pub returns-clause-answer : goal.returns-clause-answer
returns-clause-answer c =
    let cols = c.args.cols.now in
    let rows = c.args.rows.now in
    let counts = c.args.counts.now in
    let weights = c.in_ok-weights.weights.items in
    let mults = c.in_ok-mults.mults.items in
    record {
      weights = c.in_ok-weights.ensures;
      mults = c.in_ok-mults.ensures;
      convex = subst (λ (ms : List ℤ). AreConvex cols (length counts) ms c.in_ok-convex.convex.items) c.deref.ensures.value c.in_ok-convex.ensures;
      gap_is =
          passed c.gap_of-gap.result c.gap_of-gap.type_inv
          ∙ c.gap_of-gap.ensures
          ∙ ap (λ (ws : List ℤ). gap rows counts (zip cols ws) c.deref-3.result.now c.deref-4.result.now) c.deref-2.ensures.value
          ∙ ap (λ (ms : List ℤ). gap rows counts (zip cols weights) ms c.deref-4.result.now) c.deref-3.ensures.value
          ∙ ap (λ (vs : List ℤ). gap rows counts (zip cols weights) mults vs) c.deref-4.ensures.value;
      short_is =
          to_z-of_z w128 c.in_ok-short.short (search rules)
          ∙ c.in_ok-short.ensures
          ∙ ap (λ (ws : List ℤ). pos (short rows counts (zip cols ws))) c.deref-5.ensures.value;
    }

pub returns-clause-near : goal.returns-clause-near
returns-clause-near c = near_best (record { cols = c.args.cols.now; rows = c.args.rows.now; counts = c.args.counts.now }) _ c.requires (returns-clause-answer c)
