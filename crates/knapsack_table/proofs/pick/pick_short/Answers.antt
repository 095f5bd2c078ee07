use Rattle.std.proofs.Common.{◌≡◌, ◌∙◌, sym, ap, subst, ◌+◌, ◌*◌, ◌≤◌, List, length, vec_len, arith}
use Rattle.std.specs.Prelude.{Some, None}
use Rattle.pricing_problem.proofs.Passed.{passed}
use Rattle.knapsack_table.specs.declared.items.Item.{Item}
use Rattle.knapsack_table.specs.Loads.{IsLoad}
use Rattle.knapsack_table.specs.Tables.{short_no_way, short_far, cell_at, row_from, row_at, IsTable, Reaches, worth_size}
use Rattle.knapsack_table.specs.Choices.{IsChosen, IsLeastLoad}
use Rattle.knapsack_table.proofs.StepLaws.{length-items_of}
use Rattle.knapsack_table.proofs.TableLaws.{rows_table}
use Rattle.knapsack_table.proofs.PickLaws.{short_apart, none_picked, some_picked, load_length}
use Rattle.knapsack_table.proofs.pick.pick_short.Goals as goal

pub fill-requires-clause-room : goal.fill-requires-clause-room
fill-requires-clause-room c =
    subst (λ n. (n + 1) * (c.args.top + 1) ≤ vec_len c.args.cells.now)
    (sym (ap length c.requires.items ∙ length-items_of c.args.knapsack.now.coefs.now c.args.knapsack.now.zone.now c.args.knapsack.now.costs.now c.requires.coefs c.requires.costs)) c.requires.room

pub returns-in-Some-clause-point : goal.returns-in-Some-clause-point
returns-in-Some-clause-point c =
    omega (
      arith,
      c.trace.new.point.ok.0,
      ap length c.trace.ensures.2,
      load_length c.args.knapsack.now.coefs.now c.args.knapsack.now.zone.now c.args.knapsack.now.costs.now c.trace.ensures.0 c.requires.coefs c.requires.costs
          (subst (λ (xs : List Item). IsLoad xs c.trace.ensures.0) c.requires.items c.trace.ensures.1.fits),
    )

pub returns-in-Some-clause-picked : goal.returns-in-Some-clause-picked
returns-in-Some-clause-picked c =
    let many : length c.args.knapsack.now.items.now ≡ length c.args.knapsack.now.zone.now =
    ap length c.requires.items ∙ length-items_of c.args.knapsack.now.coefs.now c.args.knapsack.now.zone.now c.args.knapsack.now.costs.now c.requires.coefs c.requires.costs in
    let table : IsTable short_no_way c.args.knapsack.now.items.now c.args.top (row_at c.fill.new.cells.items c.args.top (length c.args.knapsack.now.zone.now)) =
    subst (λ n. IsTable short_no_way c.args.knapsack.now.items.now c.args.top (row_at c.fill.new.cells.items c.args.top n)) many
    (rows_table short_no_way short_far c.args.knapsack.now.items.now c.args.top (row_at c.fill.new.cells.items c.args.top) c.fill.ensures.rows (short_apart (worth_size c.args.knapsack.now.items.now) c.requires.cost)) in
    let chosen : IsChosen short_no_way (row_at c.fill.new.cells.items c.args.top (length c.args.knapsack.now.zone.now)) c.args.row.now c.args.base.now (c.args.top + 1) (Some c.in-Some.weight) =
    subst (λ cs. IsChosen short_no_way (row_from cs (length c.args.knapsack.now.zone.now * (c.args.top + 1))) c.args.row.now c.args.base.now (c.args.top + 1) (Some c.in-Some.weight)) c.deref.ensures.value c.in-Some.ensures in
    let reached : Reaches c.args.knapsack.now.items.now c.trace.ensures.0 c.in-Some.weight (row_at c.fill.new.cells.items c.args.top (length c.args.knapsack.now.zone.now) c.in-Some.weight) =
    subst (λ cs. Reaches c.args.knapsack.now.items.now c.trace.ensures.0 c.in-Some.weight (row_at cs c.args.top (length c.args.knapsack.now.zone.now) c.in-Some.weight)) c.deref-in-Some.ensures.value c.trace.ensures.1 in (
      c.trace.ensures.0,
      subst (λ z. IsLeastLoad c.args.knapsack.now.items.now c.args.row.now c.args.base.now c.args.top c.trace.ensures.0 z)
          (sym (passed c.short_cost_at.result c.short_cost_at.type_inv ∙ c.short_cost_at.ensures
          ∙ ap (λ cs. cell_at cs (length c.args.knapsack.now.zone.now * (c.args.top + 1) + c.in-Some.weight)) c.deref-in-Some-2.ensures.value))
          (some_picked short_no_way c.args.knapsack.now.items.now c.args.row.now c.args.base.now c.args.top c.in-Some.weight c.trace.ensures.0
          (row_at c.fill.new.cells.items c.args.top (length c.args.knapsack.now.zone.now)) table chosen reached),
      c.trace.ensures.2,
    )

pub returns-in-None-clause-picked : goal.returns-in-None-clause-picked
returns-in-None-clause-picked c =
    let many : length c.args.knapsack.now.items.now ≡ length c.args.knapsack.now.zone.now =
    ap length c.requires.items ∙ length-items_of c.args.knapsack.now.coefs.now c.args.knapsack.now.zone.now c.args.knapsack.now.costs.now c.requires.coefs c.requires.costs in
    let table : IsTable short_no_way c.args.knapsack.now.items.now c.args.top (row_at c.fill.new.cells.items c.args.top (length c.args.knapsack.now.zone.now)) =
    subst (λ n. IsTable short_no_way c.args.knapsack.now.items.now c.args.top (row_at c.fill.new.cells.items c.args.top n)) many
    (rows_table short_no_way short_far c.args.knapsack.now.items.now c.args.top (row_at c.fill.new.cells.items c.args.top) c.fill.ensures.rows (short_apart (worth_size c.args.knapsack.now.items.now) c.requires.cost)) in
    none_picked short_no_way c.args.knapsack.now.items.now c.args.row.now c.args.base.now c.args.top (row_at c.fill.new.cells.items c.args.top (length c.args.knapsack.now.zone.now)) table
    (subst (λ cs. IsChosen short_no_way (row_from cs (length c.args.knapsack.now.zone.now * (c.args.top + 1))) c.args.row.now c.args.base.now (c.args.top + 1) None) c.deref.ensures.value c.in-None.ensures)
