-- The graph of a block's layers is that of the block.
use Rattle.std.proofs.Common.{◌≡◌, sym, ap, subst, ◌∙◌, ℕ, ◌+◌, ◌<◌, ◌≤◌, List, [], ◌∷◌, ◌++◌, length, get_or, arith, inl, inr}
use Rattle.std.proofs.Math.IntN.{ℤ, pos}
use Rattle.std.specs.Prelude.{◌≤ℤ◌, ◌⊎◌, All}
use Rattle.std.specs.List.{AllByRecursion}
use Rattle.std.proofs.lemmas.Bool.{cases_lt}
use Rattle.std.proofs.lemmas.List.{get_or_default}
use Rattle.std.proofs.lemmas.List.Elements.{recursion_from_All, All-from_recursion}
use Rattle.pricing_problem.specs.Form.{HasShortEnds}
use Rattle.state_graph.proofs.ColumnLaws.{old_at, new_at}
use Rattle.std.proofs.lemmas.Int.{ints, clamps}
use Rattle.bp_theory.specs.Program.{span_at, activity, IsWithin, IsInside, Meets}
use Rattle.bp_theory.specs.Bound.{IsPoint}
use Rattle.bp_theory.specs.declared.Span.{Span}
use Rattle.bp_theory.specs.declared.Sense.{Sense}
use Rattle.bp_theory.specs.declared.Sense.TheVariants.{Le, Ge, Eq, In}
use Rattle.bp_theory.specs.declared.Row.{Row}
use Rattle.state_graph.specs.Layers.{spans_in, IsCompletion, AreLayersOf, lower_side, upper_side, window_in, IsRoot}
use Rattle.layer_graph.specs.Graphs.{IsGraphOf}
use Rattle.state_graph.specs.Expansions.{IsEndState, IsRight}
use Rattle.state_graph.specs.Limits.{HasManyArcs, HasManyNodes, IsBare, IsBeyond}
use Rattle.layer_graph.specs.declared.graph.Arc.{Arc}
use Rattle.state_graph.specs.declared.layers.Layer.{Layer}

-- a sum in a root's window meets the row
meets_by : (sense : Sense) (low rhs least most v : ℤ) → lower_side sense low least ≤ℤ v → v ≤ℤ upper_side sense rhs most → Meets sense low rhs v
meets_by Le low rhs least most v p q = omega (arith, ints, clamps)
meets_by Ge low rhs least most v p q = omega (arith, ints, clamps)
meets_by Eq low rhs least most v p q = (omega (arith, ints, clamps), omega (arith, ints, clamps))
meets_by In low rhs least most v p q = (omega (arith, ints, clamps), omega (arith, ints, clamps))

-- a sum within the hull that meets the row lies in the window
above_by : (sense : Sense) (low rhs least v : ℤ) → least ≤ℤ v → Meets sense low rhs v → lower_side sense low least ≤ℤ v
above_by Le low rhs least v p m = p
above_by Ge low rhs least v p m = omega (arith, ints, clamps)
above_by Eq low rhs least v p m = let a : low ≤ℤ v = m.0 in omega (arith, ints, clamps)
above_by In low rhs least v p m = let a : low ≤ℤ v = m.0 in omega (arith, ints, clamps)

below_by : (sense : Sense) (low rhs most v : ℤ) → v ≤ℤ most → Meets sense low rhs v → v ≤ℤ upper_side sense rhs most
below_by Le low rhs most v p m = omega (arith, ints, clamps)
below_by Ge low rhs most v p m = p
below_by Eq low rhs most v p m = let a : v ≤ℤ rhs = m.1 in omega (arith, ints, clamps)
below_by In low rhs most v p m = let a : v ≤ℤ rhs = m.1 in omega (arith, ints, clamps)

-- what completes the root's state are the points
pub completion_point : (rows : List Row) (spans : List Span) (layers : List Layer) (hulls windows : List Span) (ys : List ℤ)
    → AreLayersOf rows spans layers hulls → IsRoot rows hulls windows → IsCompletion layers windows ys → IsPoint rows spans ys
completion_point rows spans layers hulls windows ys l root h = record {
  inside = inside;
  meets = λ k d lt. let w = h.meets k (omega (arith, lt, root.each)) in
      let v : IsWithin (window_in (get_or rows k d) (span_at hulls k)) (activity (get_or rows k d).terms ys) =
      subst (λ s. IsWithin s (activity (get_or rows k d).terms ys)) (root.windows_are k d lt) (subst (IsWithin (span_at windows k)) (l.sums k d ys lt inside) w) in
      meets_by (get_or rows k d).sense (get_or rows k d).low (get_or rows k d).rhs (span_at hulls k).lo (span_at hulls k).hi (activity (get_or rows k d).terms ys) v.above v.below;
}
  where
    inside : IsInside spans ys
    inside = subst (λ (ss : List Span). IsInside ss ys) l.spans_are h.inside

pub point_completion : (rows : List Row) (spans : List Span) (layers : List Layer) (hulls windows : List Span) (ys : List ℤ) (none : Row)
    → AreLayersOf rows spans layers hulls → IsRoot rows hulls windows → IsPoint rows spans ys → IsCompletion layers windows ys
point_completion rows spans layers hulls windows ys none l root h = record {
  inside = inside;
  meets = λ k lt. let there : k < length rows = omega (arith, lt, root.each) in
      let hull : IsWithin (span_at hulls k) (activity (get_or rows k none).terms ys) =
      subst (IsWithin (span_at hulls k)) (l.sums k none ys there h.inside) (l.are_hulls k ys (omega (arith, there, l.each)) inside) in
      let m = h.meets k none there in
      subst (IsWithin (span_at windows k)) (sym (l.sums k none ys there h.inside))
      (subst (λ s. IsWithin s (activity (get_or rows k none).terms ys)) (sym (root.windows_are k none there)) (record {
        above = above_by (get_or rows k none).sense (get_or rows k none).low (get_or rows k none).rhs (span_at hulls k).lo (activity (get_or rows k none).terms ys) hull.above m;
        below = below_by (get_or rows k none).sense (get_or rows k none).low (get_or rows k none).rhs (span_at hulls k).hi (activity (get_or rows k none).terms ys) hull.below m;
      }));
}
  where
    inside : IsInside (spans_in layers) ys
    inside = subst (λ (ss : List Span). IsInside ss ys) (sym l.spans_are) h.inside

-- a graph that is right for the root's state is that of the block
pub block_graph : (rows : List Row) (spans : List Span) (layers : List Layer) (hulls windows : List Span) (steps : List (List Arc))
    → AreLayersOf rows spans layers hulls → IsRoot rows hulls windows → IsRight layers windows steps 0 → IsGraphOf rows spans steps
block_graph rows spans layers hulls windows steps l root right = record {
  sound = λ ys way. completion_point rows spans layers hulls windows ys l root (right.sound ys way);
  complete = λ ys h. right.complete ys (point_completion rows spans layers hulls windows ys (record { sense = Le; low = pos 0; rhs = pos 0; terms = [] }) l root h);
}

-- a loop's step: one row's window more
pub windows_more : (rows : List Row) (hulls windows now : List Span) (i : ℕ) (row : Row) (w : Span) → i < length rows → row ≡ get_or rows i row → length windows ≡ i
    → now ≡ windows ++ (w ∷ []) → w ≡ window_in row (span_at hulls i)
    → ((k : ℕ) (d : Row) → k < i → span_at windows k ≡ window_in (get_or rows k d) (span_at hulls k))
    → (k : ℕ) (d : Row) → k < i + 1 → span_at now k ≡ window_in (get_or rows k d) (span_at hulls k)
windows_more rows hulls windows now i row w there is many more value had k d l =
    ap (λ (ws : List Span). span_at ws k) more ∙ by (cases_lt k i)
  where
    by : (k < i) ⊎ (i ≤ k) → span_at (windows ++ (w ∷ [])) k ≡ window_in (get_or rows k d) (span_at hulls k)
    by (inl less) = old_at windows w (record { lo = pos 0; hi = pos 0 }) k (omega (arith, less, many)) ∙ had k d less
    by (inr above) =
        let at : k ≡ i = omega (arith, l, above) in
        let last : k ≡ length windows = omega (arith, at, many) in
        ap (λ n. span_at (windows ++ (w ∷ [])) n) last ∙ new_at windows w (record { lo = pos 0; hi = pos 0 }) ∙ value
        ∙ ap (λ (r : Row). window_in r (span_at hulls i)) (is ∙ get_or_default rows i row d there)
        ∙ ap (λ n. window_in (get_or rows n d) (span_at hulls n)) (sym at)

-- the spans of layers are short
pub layers_short : (layers : List Layer) (spans : List Span) → spans_in layers ≡ spans → All HasShortEnds spans → All (λ (l : Layer). HasShortEnds l.span) layers
layers_short layers spans same short =
    All-from_recursion (λ (l : Layer). HasShortEnds l.span) layers
    (by layers (recursion_from_All HasShortEnds (spans_in layers) (subst (λ (ss : List Span). All HasShortEnds ss) (sym same) short)))
  where
    by : (ls : List Layer) → AllByRecursion HasShortEnds (spans_in ls) → AllByRecursion (λ (l : Layer). HasShortEnds l.span) ls
    by [] h = tt
    by (x ∷ xs) h = (h.0, by xs h.1)

-- a block without layers whose state allows no end has no point
pub bare_block : (rows : List Row) (spans : List Span) (layers : List Layer) (hulls windows : List Span)
    → AreLayersOf rows spans layers hulls → IsRoot rows hulls windows → layers ≡ [] → (IsEndState windows → ⊥) → IsBare rows spans
bare_block rows spans layers hulls windows l root none ends = (
  sym l.spans_are ∙ ap (λ (ls : List Layer). spans_in ls) none,
  λ ys h.
      by ys (subst (λ (ls : List Layer). IsCompletion ls windows ys) none (point_completion rows spans layers hulls windows ys (record { sense = Le; low = pos 0; rhs = pos 0; terms = [] }) l root h)),
)
  where
    by : (ys : List ℤ) → IsCompletion [] windows ys → ⊥
    by [] x = ends (λ k d lt. subst (λ (s : Span). IsWithin s (pos 0)) (get_or_default windows k (record { lo = pos 0; hi = pos 0 }) d lt) (x.meets k lt))
    by (y ∷ ys) x = absurd x.inside

-- what stands in the way of a graph of a block's layers stands in that of the block's
pub beyond_by : (rows : List Row) (spans : List Span) (layers : List Layer) (hulls windows : List Span) → AreLayersOf rows spans layers hulls → IsRoot rows hulls windows
    → HasManyArcs (length windows) (spans_in layers) ⊎ HasManyNodes (spans_in layers) ⊎ ((layers ≡ []) × (IsEndState windows → ⊥)) → IsBeyond rows spans
beyond_by rows spans layers hulls windows l root (inl arcs) =
    inr (inr (inl (subst (λ (ss : List Span). HasManyArcs (length rows) ss) l.spans_are (subst (λ n. HasManyArcs n (spans_in layers)) root.each arcs))))
beyond_by rows spans layers hulls windows l root (inr (inl cells)) = inr (inr (inr (inl (subst (λ (ss : List Span). HasManyNodes ss) l.spans_are cells))))
beyond_by rows spans layers hulls windows l root (inr (inr (none, ends))) = inr (inr (inr (inr (bare_block rows spans layers hulls windows l root none ends))))
