use Rattle.std.proofs.Common.{sym, ap, subst, ◌∙◌, ◌≡◌, ◌<◌, ◌^◌, ℕ, List, pos, get_or, length, arith}
use Rattle.std.specs.Prelude.{ℤ, ◌+ℤ◌, zip, sum_by, unsigned_abs, All}
use Rattle.std.specs.Int.{w128, int_wrap}
use Rattle.std.specs.List.{range_with_len}
use Rattle.search_laws.specs.Master.{weighted_activity, class_weight, row_short, class_short}
use Rattle.master_gap.specs.Restricted.{Restricted}
use Rattle.master_gap.proofs.Steps.{passed, any_default}
use Rattle.master_gap.proofs.Ends.{fits, sum_wrap, activity_small, class_weight_small, short_small, rows_short_same, classes_short_same}
use Rattle.master_gap.proofs.measure.short_of.Goals as goal

-- numbers that are known to be small, at any default
all_small : (sums : List ℤ) (f : ℕ → ℤ) → ((i : ℕ) → i < length sums → get_or sums i (pos 0) ≡ f i) → ((i : ℕ) → i < length sums → unsigned_abs (f i) < 2 ^ 120)
    → All (λ z. unsigned_abs z < 2 ^ 120) sums
all_small sums f is small i d l =
    subst (λ z. unsigned_abs z < 2 ^ 120) (sym (any_default sums i d (pos 0) l ∙ is i l)) (small i l)

pub rows_short-of_rows-requires-clause-small : goal.rows_short-of_rows-requires-clause-small
rows_short-of_rows-requires-clause-small c =
    let m : Restricted = record { cols = c.args.cols.now; rows = c.args.rows.now; counts = c.args.counts.now } in
    let zs = zip m.cols c.args.weights.now in
    let sums = c.deref.result.now in
    let many : length sums ≡ length m.rows = omega (arith, c.deref.ensures.len, c.in_ok-sums.ensures.many) in
    let small : (i : ℕ) → i < length m.rows → unsigned_abs (weighted_activity zs i) < 2 ^ 120 =
    λ i l. omega (arith, activity_small m c.args.weights.now i c.requires.modest c.requires.weights l) in
    all_small sums (weighted_activity zs)
    (λ i l. let there : i < length m.rows = omega (arith, l, many) in
    ap (λ xs. get_or xs i (pos 0)) c.deref.ensures.value ∙ c.in_ok-sums.ensures.sums i there ∙ fits (weighted_activity zs i) (omega (arith, small i there)))
    (λ i l. small i (omega (arith, l, many)))

pub classes_short-of_classes-requires-clause-small :
    goal.classes_short-of_classes-requires-clause-small
classes_short-of_classes-requires-clause-small c =
    let m : Restricted = record { cols = c.args.cols.now; rows = c.args.rows.now; counts = c.args.counts.now } in
    let zs = zip m.cols c.args.weights.now in
    let sums = c.deref-2.result.now in
    let many : length sums ≡ length m.counts = omega (arith, c.deref-2.ensures.len, c.in_ok-totals.ensures.many) in
    let small : (k : ℕ) → k < length m.counts → unsigned_abs (class_weight zs k) < 2 ^ 120 =
    λ k l. omega (arith, class_weight_small m c.args.weights.now k c.requires.weights l) in
    all_small sums (class_weight zs)
    (λ k l. let there : k < length m.counts = omega (arith, l, many) in
    ap (λ xs. get_or xs k (pos 0)) c.deref-2.ensures.value ∙ c.in_ok-totals.ensures.sums k there ∙ fits (class_weight zs k) (omega (arith, small k there)))
    (λ k l. small k (omega (arith, l, many)))

pub returns : goal.returns
returns c =
    let m : Restricted = record { cols = c.args.cols.now; rows = c.args.rows.now; counts = c.args.counts.now } in
    let zs = zip m.cols c.args.weights.now in
    let rows = sum_by (row_short m.rows zs) (range_with_len 0 (length m.rows)) in
    let classes = sum_by (class_short m.counts zs) (range_with_len 0 (length m.counts)) in
    let few : length m.counts < 2 ^ 64 = omega (arith, c.deref-2.type_inv.0, c.deref-2.ensures.len, c.in_ok-totals.ensures.many) in
    passed c.plus.result c.plus.type_inv
    ∙ sum_wrap c.plus.result _ _ (pos rows) (pos classes) c.plus.ensures
    (passed c.rows_short-of_rows.result c.rows_short-of_rows.type_inv
    ∙ c.rows_short-of_rows.ensures
    ∙ ap (λ n. int_wrap w128 (pos n)) (rows_short_same m.rows zs c.deref.result.now
    (λ i there.
    ap (λ xs. get_or xs i (pos 0)) c.deref.ensures.value
    ∙ c.in_ok-sums.ensures.sums i there
    ∙ fits (weighted_activity zs i) (omega (arith, activity_small m c.args.weights.now i c.requires.modest c.requires.weights there)))))
    (passed c.classes_short-of_classes.result c.classes_short-of_classes.type_inv
    ∙ c.classes_short-of_classes.ensures
    ∙ ap (λ n. int_wrap w128 (pos n)) (classes_short_same m.counts zs c.deref-2.result.now
    (λ k there.
    ap (λ xs. get_or xs k (pos 0)) c.deref-2.ensures.value
    ∙ c.in_ok-totals.ensures.sums k there
    ∙ fits (class_weight zs k) (omega (arith, class_weight_small m c.args.weights.now k c.requires.weights there)))))
    ∙ fits (pos rows +ℤ pos classes) (short_small m c.args.weights.now c.requires.modest c.requires.weights few)
