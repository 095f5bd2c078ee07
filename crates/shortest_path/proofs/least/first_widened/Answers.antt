use Rattle.std.proofs.Common.{◌≡◌, ◌∙◌, refl, sym, subst, ◌<◌, arith, length}
use Rattle.std.proofs.Math.IntN.{pos}
use Rattle.std.specs.Prelude.{◌<ℤ◌, IsTrue, false}
use Rattle.std.proofs.lemmas.List.{get_or_read}
use Rattle.pricing_problem.proofs.Passed.{passed}
use Rattle.shortest_path.specs.Best.{cell_at}
use Rattle.shortest_path.specs.Short.{far}
use Rattle.shortest_path.proofs.ShortLaws.{widened_at, near_kept, far_none, not_less}
use Rattle.shortest_path.proofs.least.first_widened.Goals as goal

pub returns-then-not-has_short_way : goal.returns-then-not-has_short_way
returns-then-not-has_short_way c =
    let there : 0 < length c.args.cells.now.items = omega (arith, c.requires, c.args.cells.now.ok.0) in
    let read : c.index-cell.result.now ≡ cell_at c.args.cells.now.items 0 = get_or_read c.args.cells.now.items 0 c.index-cell.result.now there c.index-cell.ensures (pos 0) in
    sym (widened_at c.args.cells.now.items 0 there
    ∙ far_none (cell_at c.args.cells.now.items 0) (not_less (cell_at c.args.cells.now.items 0) far (λ way. absurd_true (c.if-not-has_short_way.ensures.1 (subst (λ z. z <ℤ far) (sym read) way)))))
  where
    absurd_true : IsTrue false → ⊥
    absurd_true e = absurd (cc)

pub returns : goal.returns
returns c =
    let there : 0 < length c.args.cells.now.items = omega (arith, c.requires, c.args.cells.now.ok.0) in
    let read : c.index-cell.result.now ≡ cell_at c.args.cells.now.items 0 = get_or_read c.args.cells.now.items 0 c.index-cell.result.now there c.index-cell.ensures (pos 0) in
    passed c.widened_of.result c.widened_of.type_inv ∙ c.widened_of.ensures ∙ read ∙ sym (widened_at c.args.cells.now.items 0 there ∙ near_kept (cell_at c.args.cells.now.items 0) (subst (λ z. z <ℤ far) read (c.if-not-has_short_way.ensures.0 refl)))
