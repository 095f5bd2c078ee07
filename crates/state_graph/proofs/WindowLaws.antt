-- Laws of states and of what completes them.
use Rattle.std.proofs.Common.{◌≡◌, sym, subst, ◌<◌, List, ◌∷◌, length, arith}
use Rattle.std.proofs.Math.IntN.{ℤ, ◌+ℤ◌, ◌-ℤ◌, ◌*ℤ◌}
use Rattle.std.specs.Prelude.{◌≤ℤ◌, ◌<ℤ◌}
use Rattle.std.specs.Int.{int_min, int_max}
use Rattle.std.proofs.lemmas.Int.{ints, clamps}
use Rattle.bp_theory.specs.Program.{span_at, IsWithin}
use Rattle.bp_theory.specs.declared.Span.{Span}
use Rattle.state_graph.specs.Windows.{clip, coef_of, left_of, IsMoved, IsLost}
use Rattle.state_graph.specs.Layers.{row_sum, IsCompletion, AreHulls}
use Rattle.state_graph.specs.declared.layers.Layer.{Layer}

-- a sum within a hull that, with what was added, lies in a window, lies in what the window leaves
pub into_left : (w : Span) (d s : ℤ) (h : Span) → IsWithin h s → IsWithin w (d +ℤ s) → IsWithin (clip w d h) s
into_left w d s h inside within = record {
  above = low w.lo d s h.lo within.above inside.above;
  below = high w.hi d s h.hi within.below inside.below;
}
  where
    low : (a d s b : ℤ) → a ≤ℤ (d +ℤ s) → b ≤ℤ s → int_max (a -ℤ d) b ≤ℤ s
    low a d s b p q = omega (arith, ints, clamps)

    high : (a d s b : ℤ) → (d +ℤ s) ≤ℤ a → s ≤ℤ b → s ≤ℤ int_min (a -ℤ d) b
    high a d s b p q = omega (arith, ints, clamps)

-- and back
pub out_of_left : (w : Span) (d s : ℤ) (h : Span) → IsWithin (clip w d h) s → IsWithin w (d +ℤ s)
out_of_left w d s h left = record {
  above = low w.lo d s h.lo left.above;
  below = high w.hi d s h.hi left.below;
}
  where
    low : (a d s b : ℤ) → int_max (a -ℤ d) b ≤ℤ s → a ≤ℤ (d +ℤ s)
    low a d s b p = omega (arith, ints, clamps)

    high : (a d s b : ℤ) → s ≤ℤ int_min (a -ℤ d) b → (d +ℤ s) ≤ℤ a
    high a d s b p = omega (arith, ints, clamps)

-- what completes a state by a number completes the state that this number leaves
pub completes_moved : (l : Layer) (ls : List Layer) (state moved : List Span) (y : ℤ) (ys : List ℤ) → length l.hulls ≡ length state → AreHulls ls l.hulls
    → IsMoved l.column l.hulls state y moved → IsCompletion (l ∷ ls) state (y ∷ ys) → IsCompletion ls moved ys
completes_moved l ls state moved y ys each hulls m h = record {
  inside = h.inside.1;
  meets = λ row r. let there : row < length state = omega (arith, r, m.each) in
      let there_too : row < length l.hulls = omega (arith, there, each) in
      subst (λ w. IsWithin w (row_sum ls row ys)) (sym (m.windows row there))
      (into_left (span_at state row) (coef_of l.column row *ℤ y) (row_sum ls row ys) (span_at l.hulls row) (hulls row ys there_too h.inside.1) (h.meets row there));
}

-- and back
pub moved_completes : (l : Layer) (ls : List Layer) (state moved : List Span) (y : ℤ) (ys : List ℤ) → IsWithin l.span y
    → IsMoved l.column l.hulls state y moved → IsCompletion ls moved ys → IsCompletion (l ∷ ls) state (y ∷ ys)
moved_completes l ls state moved y ys within m h = record {
  inside = (within, h.inside);
  meets = λ row r. let there : row < length moved = omega (arith, r, m.each) in
      out_of_left (span_at state row) (coef_of l.column row *ℤ y) (row_sum ls row ys) (span_at l.hulls row)
      (subst (λ w. IsWithin w (row_sum ls row ys)) (m.windows row r) (h.meets row there));
}

-- a lost number completes nothing
pub lost_completes_nothing : (l : Layer) (ls : List Layer) (state : List Span) (y : ℤ) (ys : List ℤ) → length l.hulls ≡ length state → AreHulls ls l.hulls
    → IsLost l.column l.hulls state y → IsCompletion (l ∷ ls) state (y ∷ ys) → ⊥
lost_completes_nothing l ls state y ys each hulls lost h =
    let there_too : lost.row < length l.hulls = omega (arith, lost.there, each) in
    empty (left_of l.column l.hulls state y lost.row) (row_sum ls lost.row ys) lost.empty
    (into_left (span_at state lost.row) (coef_of l.column lost.row *ℤ y) (row_sum ls lost.row ys) (span_at l.hulls lost.row) (hulls lost.row ys there_too h.inside.1) (h.meets lost.row lost.there))
  where
    between : (a b s : ℤ) → b <ℤ a → a ≤ℤ s → s ≤ℤ b → ⊥
    between a b s p q r = omega (arith, ints)

    empty : (w : Span) (s : ℤ) → w.hi <ℤ w.lo → IsWithin w s → ⊥
    empty w s e h = between w.lo w.hi s e h.above h.below
