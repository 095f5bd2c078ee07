use Rattle.std.proofs.Common.{◌≡◌, ◌∙◌, ◌<◌, ◌≤◌, ◌^◌, ℕ, List, length, map, sym, subst, ap, arith, All, to_z, of_z}
use Rattle.std.specs.Prelude.{ℤ, ◌+ℤ◌, unsigned_abs}
use Rattle.std.specs.Int.{w128}
use Rattle.std.proofs.lemmas.Int.{ints}
use Rattle.bp_theory.specs.Program.{Program}
use Rattle.bp_theory.specs.Decomposition.{HasVariablesBelow}
use Rattle.bp_theory.specs.declared.Span.{Span}
use Rattle.bp_theory.specs.declared.Term.{Term}
use Rattle.bp_model.specs.Tidy.{as_term, pair_limit, sum_limit}
use Rattle.cut_sums.specs.Rows.{program_of, low_activity}
use Rattle.cut_sums.proofs.SizeLemmas.{low_within}
use Rattle.cut_sums.proofs.BoundLemmas.{large_row, small_coefs, terms_below, terms_small, is_row_from}
use Rattle.cut_sums.proofs.bounded.bounded_row.Goals as goal

pub limit_of-requires : goal.limit_of-requires
limit_of-requires c = subst (λ (spans : List Span). All (λ e. e.0 < length spans) c.args.coefs.now) (sym c.spans.ensures) c.requires.below

pub terms_of-requires : goal.terms_of-requires
terms_of-requires c = small_coefs c.spans.result.now c.args.coefs.now c.in-Some.limit c.in-Some.ensures.0 c.in-Some.ensures.1

pub at_lower_ends-requires-clause-below : goal.at_lower_ends-requires-clause-below
at_lower_ends-requires-clause-below c =
    let terms = c.as_slice.ensures.value ∙ c.in-Ok.ensures in
    subst (λ (spans : List Span). HasVariablesBelow (length spans) c.as_slice.result.now) (sym c.spans-2.ensures)
    (terms_below (length (program_of c.args.rows.now).spans) c.args.coefs.now c.as_slice.result.now terms c.requires.below)

pub at_lower_ends-requires-clause-small : goal.at_lower_ends-requires-clause-small
at_lower_ends-requires-clause-small c =
    let terms = c.as_slice.ensures.value ∙ c.in-Ok.ensures in
    subst (λ (spans : List Span). sum_limit spans c.as_slice.result.now < 2 ^ 62) (c.spans.ensures ∙ sym c.spans-2.ensures)
    (terms_small c.spans.result.now c.args.coefs.now c.as_slice.result.now c.in-Some.limit terms c.in-Some.ensures.0 c.in-Some.ensures.1)

pub overflow_add-low : goal.overflow_add-low
overflow_add-low c =
    let terms = c.as_slice.ensures.value ∙ c.in-Ok.ensures in
    let small : sum_limit c.spans-2.result.now c.as_slice.result.now < 2 ^ 62 =
    subst (λ (spans : List Span). sum_limit spans c.as_slice.result.now < 2 ^ 62) (c.spans.ensures ∙ sym c.spans-2.ensures)
    (terms_small c.spans.result.now c.args.coefs.now c.as_slice.result.now c.in-Some.limit terms c.in-Some.ensures.0 c.in-Some.ensures.1) in
    omega (arith, ints, c.requires.above, small, low_within c.spans-2.result.now c.as_slice.result.now, ap unsigned_abs c.at_lower_ends.ensures)

-- the side of the row, where the terms are those of the coefficients
side_is : (p : Program) (above : ℤ) (es : List (ℕ × ℤ)) (spans : List Span) (ts : List Term) (a b lows : ℤ) → spans ≡ p.spans → ts ≡ map as_term es
    → a ≡ above → b ≡ lows → lows ≡ low_activity spans ts → unsigned_abs above ≤ 2 ^ 116 → sum_limit spans ts < 2 ^ 62
    → to_z w128 (of_z w128 (a +ℤ b)) ≡ above +ℤ low_activity p.spans (map as_term es)
side_is p above es spans ts a b lows spans_are terms cast cast' told small limit =
    let first : unsigned_abs a ≤ 2 ^ 116 = subst (λ (z : ℤ). unsigned_abs z ≤ 2 ^ 116) (sym cast) small in
    let second : unsigned_abs b < 2 ^ 62 = subst (λ (z : ℤ). unsigned_abs z < 2 ^ 62) (sym (cast' ∙ told)) (omega (arith, low_within spans ts, limit)) in
    back a b first second
    ∙ ap (λ z. z +ℤ b) cast
    ∙ ap (λ z. above +ℤ z) (cast' ∙ told ∙ ap (λ (s : List Span). low_activity s ts) spans_are ∙ ap (λ (us : List Term). low_activity p.spans us) terms)
  where
    back : (a b : ℤ) → unsigned_abs a ≤ 2 ^ 116 → unsigned_abs b < 2 ^ 62 → to_z w128 (of_z w128 (a +ℤ b)) ≡ a +ℤ b
    back a b ha hb = omega (arith, ints, ha, hb)

pub returns-then-unsigned_abs-limit-ge-LIMIT-clause-fault : goal.returns-then-unsigned_abs-limit-ge-LIMIT-clause-fault
returns-then-unsigned_abs-limit-ge-LIMIT-clause-fault c =
    let p = program_of c.args.rows.now in
    let terms : c.as_slice.result.now ≡ map as_term c.args.coefs.now = c.as_slice.ensures.value ∙ c.in-Ok.ensures in
    let cast : to_z w128 (of_z w128 c.args.above.now) ≡ c.args.above.now = omega (arith, ints) in
    let cast' : to_z w128 (of_z w128 c.at_lower_ends.result) ≡ c.at_lower_ends.result = omega (arith, ints) in
    let small : sum_limit c.spans-2.result.now c.as_slice.result.now < 2 ^ 62 =
    subst (λ (spans : List Span). sum_limit spans c.as_slice.result.now < 2 ^ 62) (c.spans.ensures ∙ sym c.spans-2.ensures)
    (terms_small c.spans.result.now c.args.coefs.now c.as_slice.result.now c.in-Some.limit terms c.in-Some.ensures.0 c.in-Some.ensures.1) in
    let low = side_is p c.args.above.now c.args.coefs.now c.spans-2.result.now c.as_slice.result.now _ _ c.at_lower_ends.result c.spans-2.ensures terms
    cast cast' c.at_lower_ends.ensures c.requires.above small in
    let limit : c.in-Some.limit ≡ pair_limit p.spans c.args.coefs.now = c.in-Some.ensures.0 ∙ ap (λ (s : List Span). pair_limit s c.args.coefs.now) c.spans.ensures in
    large_row p c.args.above.now c.args.coefs.now _ c.in-Some.limit low limit (omega (arith, c.if-unsigned_abs-limit-ge-LIMIT.true, c.unsigned_abs.ensures.value))

pub returns-clause-row : goal.returns-clause-row
returns-clause-row c =
    let p = program_of c.args.rows.now in
    let slice : c.as_slice.result.now ≡ map as_term c.args.coefs.now = c.as_slice.ensures.value ∙ c.in-Ok.ensures in
    let terms : c.from_vec.result ≡ map as_term c.args.coefs.now = c.from_vec.ensures ∙ c.in-Ok.ensures in
    let cast : to_z w128 (of_z w128 c.args.above.now) ≡ c.args.above.now = omega (arith, ints) in
    let cast' : to_z w128 (of_z w128 c.at_lower_ends.result) ≡ c.at_lower_ends.result = omega (arith, ints) in
    let small : sum_limit c.spans-2.result.now c.as_slice.result.now < 2 ^ 62 =
    subst (λ (spans : List Span). sum_limit spans c.as_slice.result.now < 2 ^ 62) (c.spans.ensures ∙ sym c.spans-2.ensures)
    (terms_small c.spans.result.now c.args.coefs.now c.as_slice.result.now c.in-Some.limit slice c.in-Some.ensures.0 c.in-Some.ensures.1) in
    let low = side_is p c.args.above.now c.args.coefs.now c.spans-2.result.now c.as_slice.result.now _ _ c.at_lower_ends.result c.spans-2.ensures slice
    cast cast' c.at_lower_ends.ensures c.requires.above small in
    let limit : c.in-Some.limit ≡ pair_limit p.spans c.args.coefs.now = c.in-Some.ensures.0 ∙ ap (λ (s : List Span). pair_limit s c.args.coefs.now) c.spans.ensures in
    is_row_from p c.args.above.now c.args.coefs.now _ c.in-Some.limit c.from_vec.result c.row_of.result low limit
    (omega (arith, c.if-unsigned_abs-limit-ge-LIMIT.false, c.unsigned_abs.ensures.value)) terms c.row_of.ensures
