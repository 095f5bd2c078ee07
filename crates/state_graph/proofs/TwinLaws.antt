-- Laws of windows that are joined, and of rows that are twins.
use Rattle.std.proofs.Common.{◌≡◌, refl, sym, ap, subst, ◌∙◌, ℕ, ◌+◌, ◌<◌, ◌≤◌, List, [], ◌∷◌, ◌++◌, length, set, arith, inl, inr, Bool, true, false}
use Rattle.std.proofs.Math.IntN.{ℤ, pos, ◌+ℤ◌, ◌*ℤ◌}
use Rattle.std.specs.Prelude.{◌≤ℤ◌, ◌<ℤ◌, ◌⊎◌, All}
use Rattle.std.specs.Int.{int_min, int_max}
use Rattle.std.specs.Bool.{OnTrue, OnFalse}
use Rattle.std.proofs.lemmas.Int.{ints, clamps}
use Rattle.std.proofs.lemmas.Bool.{cases_lt, cases_eq}
use Rattle.std.proofs.lemmas.List.{length-set, get_or-set_same, get_or-set_other, get_or_default}
use Rattle.bp_theory.specs.Program.{span_at, IsWithin}
use Rattle.bp_theory.specs.declared.Span.{Span}
use Rattle.state_graph.specs.Windows.{coef_of, twin_at, AreAlike, Holds, IsJoined, IsVoid, IsEmpty, both}
use Rattle.state_graph.specs.Columns.{IsTwin, AreRefined, AreFirst}
use Rattle.state_graph.specs.Layers.{row_sum, AreTwins}
use Rattle.state_graph.specs.declared.layers.Layer.{Layer}
use Rattle.state_graph.proofs.ColumnLaws.{old_at, new_at}

-- ---- answers

pub true_weaker : {P Q : Type 0} (b : Bool) → (P → Q) → OnTrue b P → OnTrue b Q
true_weaker true f h = f h
true_weaker false f h = tt

pub false_weaker : {P Q : Type 0} (b : Bool) → (P → Q) → OnFalse b P → OnFalse b Q
false_weaker true f h = tt
false_weaker false f h = f h

-- ---- windows

pub joined_same : (twins : List ℕ) (state : List Span) → IsJoined twins state state
joined_same twins state = record { each = refl; onto = λ sums alike h. h; back = λ sums alike h. h }

pub joined_on : (twins : List ℕ) (a b c : List Span) → IsJoined twins a b → IsJoined twins b c → IsJoined twins a c
joined_on twins a b c f g = record {
  each = g.each ∙ f.each;
  onto = λ sums alike h. g.onto sums alike (f.onto sums alike h);
  back = λ sums alike h. f.back sums alike (g.back sums alike h);
}

pub void_on : (twins : List ℕ) (a b : List Span) → IsJoined twins a b → IsVoid twins b → IsVoid twins a
void_on twins a b f none sums alike h = none sums alike (f.onto sums alike h)

into_both : (a b : Span) (v : ℤ) → IsWithin a v → IsWithin b v → IsWithin (both a b) v
into_both a b v p q = record { above = low a.lo b.lo v p.above q.above; below = high a.hi b.hi v p.below q.below }
  where
    low : (a b v : ℤ) → a ≤ℤ v → b ≤ℤ v → int_max a b ≤ℤ v
    low a b v p q = omega (arith, ints, clamps)

    high : (a b v : ℤ) → v ≤ℤ a → v ≤ℤ b → v ≤ℤ int_min a b
    high a b v p q = omega (arith, ints, clamps)

out_of_both : (a b : Span) (v : ℤ) → IsWithin (both a b) v → IsWithin a v
out_of_both a b v h = record { above = low a.lo b.lo v h.above; below = high a.hi b.hi v h.below }
  where
    low : (a b v : ℤ) → int_max a b ≤ℤ v → a ≤ℤ v
    low a b v p = omega (arith, ints, clamps)

    high : (a b v : ℤ) → v ≤ℤ int_min a b → v ≤ℤ a
    high a b v p = omega (arith, ints, clamps)

-- a window that is joined with one of a row whose sums are the same
pub joined_row : (twins : List ℕ) (state now : List Span) (row other : ℕ) → row < length state → other < length state
    → ((sums : ℕ → ℤ) → AreAlike twins sums → sums row ≡ sums other)
    → now ≡ set state row (both (span_at state row) (span_at state other)) → IsJoined twins state now
joined_row twins state now row other there there_too same is = subst (IsJoined twins state) (sym is) (record {
  each = length-set state row (both (span_at state row) (span_at state other));
  onto = λ sums alike h k l. onto sums (same sums alike) h k (omega (arith, l, length-set state row (both (span_at state row) (span_at state other)))) (cases_eq k row);
  back = λ sums alike h k l. back sums h k (cases_eq k row)
      (h k (omega (arith, l, length-set state row (both (span_at state row) (span_at state other)))));
})
  where
    none : Span
    none = record { lo = pos 0; hi = pos 0 }

    here : span_at (set state row (both (span_at state row) (span_at state other))) row ≡ both (span_at state row) (span_at state other)
    here = get_or-set_same state row (both (span_at state row) (span_at state other)) (record { lo = pos 0; hi = pos 0 }) there

    onto : (sums : ℕ → ℤ) → sums row ≡ sums other → Holds state sums → (k : ℕ) → k < length state → (k ≡ row) ⊎ (k ≡ row → ⊥)
        → IsWithin (span_at (set state row (both (span_at state row) (span_at state other))) k) (sums k)
    onto sums e h k l (inl at) =
        subst (λ n. IsWithin (span_at (set state row (both (span_at state row) (span_at state other))) n) (sums n)) (sym at)
        (subst (λ s. IsWithin s (sums row)) (sym here)
        (into_both (span_at state row) (span_at state other) (sums row) (h row there) (subst (IsWithin (span_at state other)) (sym e) (h other there_too))))
    onto sums e h k l (inr off) =
        subst (λ s. IsWithin s (sums k)) (sym (get_or-set_other state row k (both (span_at state row) (span_at state other)) (record { lo = pos 0; hi = pos 0 }) off)) (h k l)

    back : (sums : ℕ → ℤ) → Holds (set state row (both (span_at state row) (span_at state other))) sums → (k : ℕ) → (k ≡ row) ⊎ (k ≡ row → ⊥)
        → IsWithin (span_at (set state row (both (span_at state row) (span_at state other))) k) (sums k) → IsWithin (span_at state k) (sums k)
    back sums h k (inl at) w =
        subst (λ n. IsWithin (span_at state n) (sums n)) (sym at)
        (out_of_both (span_at state row) (span_at state other) (sums row)
        (subst (λ s. IsWithin s (sums row)) here
        (subst (λ n. IsWithin (span_at (set state row (both (span_at state row) (span_at state other))) n) (sums n)) at w)))
    back sums h k (inr off) w =
        subst (λ s. IsWithin s (sums k)) (get_or-set_other state row k (both (span_at state row) (span_at state other)) (record { lo = pos 0; hi = pos 0 }) off) w

-- nothing lies in two windows that have nothing in common
pub void_row : (twins : List ℕ) (state : List Span) (row other : ℕ) → row < length state → other < length state
    → ((sums : ℕ → ℤ) → AreAlike twins sums → sums row ≡ sums other)
    → IsEmpty (both (span_at state row) (span_at state other)) → IsVoid twins state
void_row twins state row other there there_too same empty sums alike h =
    let w : IsWithin (both (span_at state row) (span_at state other)) (sums row) =
    into_both (span_at state row) (span_at state other) (sums row) (h row there) (subst (IsWithin (span_at state other)) (sym (same sums alike)) (h other there_too)) in
    between (both (span_at state row) (span_at state other)).lo (both (span_at state row) (span_at state other)).hi (sums row) empty w.above w.below
  where
    between : (a b s : ℤ) → b <ℤ a → a ≤ℤ s → s ≤ℤ b → ⊥
    between a b s p q r = omega (arith, ints)

-- ---- rows

pub first_are_twins : (count : ℕ) (twins : List ℕ) → AreFirst count twins → AreTwins [] twins
first_are_twins count twins h = record {
  below = λ row l. omega (arith, l, h.firsts row (omega (arith, l, h.each)));
  same = λ row ys l. refl;
}

pub twins_more : (l : Layer) (ls : List Layer) (twins finer : List ℕ) → AreTwins ls twins → AreRefined twins l.column finer → AreTwins (l ∷ ls) finer
twins_more l ls twins finer h r = record {
  below = λ row lt. omega (arith, lt, r.each, (r.twins_are row (omega (arith, lt, r.each))).there);
  same = λ row ys lt. by row ys (omega (arith, lt, r.each));
}
  where
    by : (row : ℕ) (ys : List ℤ) → row < length twins → row_sum (l ∷ ls) (twin_at finer row) ys ≡ row_sum (l ∷ ls) row ys
    by row [] lt = refl
    by row (y ∷ ys) lt =
        let t : IsTwin twins l.column row (twin_at finer row) = r.twins_are row lt in
        let rest : row_sum ls (twin_at finer row) ys ≡ row_sum ls row ys =
        sym (h.same (twin_at finer row) ys t.there) ∙ ap (λ n. row_sum ls n ys) t.same ∙ h.same row ys lt in
        ap (λ z. z *ℤ y +ℤ row_sum ls (twin_at finer row) ys) t.coef ∙ ap (λ z. coef_of l.column row *ℤ y +ℤ z) rest

pub twins_below : (ls : List Layer) (twins : List ℕ) (rows : ℕ) → length twins ≡ rows → AreTwins ls twins → All (λ twin. twin < rows) twins
twins_below ls twins rows each h k d l = subst (λ twin. twin < rows) (get_or_default twins k 0 d l) (omega (arith, h.below k l, each))

-- a loop's step: one row's twin more
pub finer_more : (twins : List ℕ) (column : List ℤ) (finer now : List ℕ) (i twin : ℕ) → length finer ≡ i → now ≡ finer ++ (twin ∷ []) → IsTwin twins column i twin
    → ((k : ℕ) → k < i → IsTwin twins column k (twin_at finer k)) → (k : ℕ) → k < i + 1 → IsTwin twins column k (twin_at now k)
finer_more twins column finer now i twin many more is had k l =
    subst (λ (ts : List ℕ). IsTwin twins column k (twin_at ts k)) (sym more) (by (cases_lt k i))
  where
    by : (k < i) ⊎ (i ≤ k) → IsTwin twins column k (twin_at (finer ++ (twin ∷ [])) k)
    by (inl less) = subst (IsTwin twins column k) (sym (old_at finer twin 0 k (omega (arith, less, many)))) (had k less)
    by (inr above) =
        let at : k ≡ i = omega (arith, l, above) in
        let last : k ≡ length finer = omega (arith, at, many) in
        subst (λ n. IsTwin twins column n (twin_at (finer ++ (twin ∷ [])) n)) (sym at)
        (subst (IsTwin twins column i) (sym (ap (λ n. twin_at (finer ++ (twin ∷ [])) n) (sym at ∙ last) ∙ new_at finer twin 0)) is)
