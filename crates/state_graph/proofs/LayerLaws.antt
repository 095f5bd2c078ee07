-- Laws of the layers as they are made, from the last one.
use Rattle.std.proofs.Common.{◌≡◌, sym, ap, subst, ◌∙◌, ℕ, suc, ◌+◌, ◌<◌, ◌≤◌, List, [], ◌∷◌, ◌++◌, reverse, length, get_or, drop, arith, drop-cons}
use Rattle.std.proofs.Math.IntN.{ℤ, pos}
use Rattle.std.specs.Prelude.{All, ◌^◌}
use Rattle.std.proofs.lemmas.List.{reverse-append}
use Rattle.std.proofs.Math.ListN.{drop_of_length-le}
use Rattle.bp_theory.specs.Sums.{dot}
use Rattle.bp_theory.specs.Program.{span_at, IsWithin}
use Rattle.bp_theory.specs.Decomposition.{HasVariablesBelow}
use Rattle.bp_theory.specs.declared.Span.{Span}
use Rattle.bp_theory.specs.declared.Row.{Row}
use Rattle.bp_theory.proofs.ZipLaws.{AllZip-length}
use Rattle.pricing_problem.specs.Form.{row_size, cost_size}
use Rattle.state_graph.specs.Windows.{coef_of}
use Rattle.state_graph.specs.Columns.{IsLong, hull_with, AreDense, IsColumn, AreWidened, AreRefined, AreFirst}
use Rattle.state_graph.specs.Layers.{spans_in, row_sum, AreHulls, AreTwins, AreLayers, AreClosed, AreLayersOf}
use Rattle.state_graph.specs.declared.layers.Layer.{Layer}
use Rattle.state_graph.proofs.ColumnLaws.{hulls_none, hulls_more, sums_more, coefs_activity}
use Rattle.state_graph.proofs.SizeLaws.{IsSized, sized_more, sized_short, row_short}
use Rattle.state_graph.proofs.TwinLaws.{first_are_twins, twins_more, twins_below}

-- the layers so far, from the last one to one behind a place
pub record IsSoFar (rows : ℕ) (spans : List Span) (dense : List (List ℤ)) (v : ℕ) (layers : List Layer) (hulls : List Span) (twins : List ℕ) : Type 0 where
  pub spans_are : spans_in (reverse layers) ≡ drop v spans
  pub layered : AreLayers rows (reverse layers)
  pub each : length hulls ≡ rows
  pub are_hulls : AreHulls (reverse layers) hulls
  pub twin_each : length twins ≡ rows
  pub are_twins : AreTwins (reverse layers) twins
  pub closed : AreClosed (reverse layers) hulls
  pub sizes : (row : ℕ) → row < rows → IsSized (span_at hulls row) (cost_size (drop v spans) (drop v (get_or dense row [])))
  pub sums : (row : ℕ) → row < rows → (ys : List ℤ) → row_sum (reverse layers) row ys ≡ dot (drop v (get_or dense row [])) ys

pub so_far_none : (rows : ℕ) (spans : List Span) (dense : List (List ℤ)) (n : ℕ) (hulls : List Span) (twins : List ℕ) → length spans ≤ n
    → ((row : ℕ) → row < rows → length (get_or dense row []) ≤ n) → length hulls ≡ rows
    → ((row : ℕ) → row < length hulls → span_at hulls row ≡ record { lo = pos 0; hi = pos 0 }) → AreFirst rows twins → IsSoFar rows spans dense n [] hulls twins
so_far_none rows spans dense n hulls twins many wide each zeros first = record {
  spans_are = sym (drop_of_length-le spans many);
  layered = tt;
  each = each;
  are_hulls = hulls_none hulls zeros;
  twin_each = first.each;
  are_twins = first_are_twins rows twins first;
  closed = zeros;
  sizes = λ row l. subst (λ (x : Span). IsSized x (cost_size (drop n spans) (drop n (get_or dense row [])))) (sym (zeros row (omega (arith, l, each))))
      (record { lo = omega arith; hi = omega arith });
  sums = λ row l ys. ap (λ (cs : List ℤ). dot cs ys) (sym (drop_of_length-le (get_or dense row []) (wide row l)));
}

pub so_far_more : (rows : ℕ) (spans : List Span) (dense : List (List ℤ)) (v : ℕ) (layers now : List Layer) (hulls wider : List Span) (twins finer : List ℕ) (column : List ℤ) (s : Span)
    → v < length spans → length dense ≡ rows → ((row : ℕ) → row < rows → v < length (get_or dense row []))
    → s ≡ get_or spans v (record { lo = pos 0; hi = pos 0 }) → IsColumn dense v column → AreWidened hulls column s wider → AreRefined twins column finer
    → now ≡ layers ++ (record { span = s; column = column; hulls = hulls; twins = twins } ∷ [])
    → IsSoFar rows spans dense (v + 1) layers hulls twins → IsSoFar rows spans dense v now wider finer
so_far_more rows spans dense v layers now hulls wider twins finer column s there many wide is col w r pushed h =
    subst (λ (ls : List Layer). IsSoFar rows spans dense v ls wider finer) (sym pushed) (record {
      spans_are = ap (λ (ls : List Layer). spans_in ls) front ∙ spans_front;
      layered = subst (AreLayers rows) (sym front) (record { column = col.each ∙ many; hulls = h.each; twins = h.twin_each; below = twins_below (reverse layers) twins rows h.twin_each h.are_twins }, h.are_hulls, h.are_twins, h.layered, h.closed);
      each = w.each ∙ h.each;
      are_hulls = subst (λ (ls : List Layer). AreHulls ls wider) (sym front) (hulls_more (record { span = s; column = column; hulls = hulls; twins = twins }) (reverse layers) hulls wider h.are_hulls w);
      twin_each = r.each ∙ h.twin_each;
      are_twins = subst (λ (ls : List Layer). AreTwins ls finer) (sym front) (twins_more (record { span = s; column = column; hulls = hulls; twins = twins }) (reverse layers) twins finer h.are_twins r);
      closed = subst (λ (ls : List Layer). AreClosed ls wider) (sym front) tt;
      sizes = λ row l. subst (λ (x : Span). IsSized x (cost_size (drop v spans) (drop v (get_or dense row [])))) (sym (w.hulls_are row (omega (arith, l, h.each))))
          (sized_more spans (get_or dense row []) v (span_at hulls row) (coef_of column row) s there (wide row l) is (col.coefs_are row (omega (arith, l, many))) (h.sizes row l));
      sums = λ row l ys. ap (λ (ls : List Layer). row_sum ls row ys) front
          ∙ sums_more (record { span = s; column = column; hulls = hulls; twins = twins }) (reverse layers) row v (get_or dense row []) (wide row l)
          (col.coefs_are row (omega (arith, l, many))) (h.sums row l) ys;
    })
  where
    front : reverse (layers ++ (record { span = s; column = column; hulls = hulls; twins = twins } ∷ [])) ≡ record { span = s; column = column; hulls = hulls; twins = twins } ∷ reverse layers
    front = reverse-append layers (record { span = s; column = column; hulls = hulls; twins = twins } ∷ [])

    one : v + 1 ≡ suc v
    one = omega arith

    spans_front : s ∷ spans_in (reverse layers) ≡ drop v spans
    spans_front =
        ap (λ (ss : List Span). s ∷ ss) (h.spans_are ∙ ap (λ n. drop n spans) one)
        ∙ ap (λ (x : Span). x ∷ drop (suc v) spans) is
        ∙ sym (drop-cons spans v (record { lo = pos 0; hi = pos 0 }) there)

pub so_far_all : (rows : List Row) (spans : List Span) (dense : List (List ℤ)) (v : ℕ) (layers now : List Layer) (hulls : List Span) (twins : List ℕ) → v ≡ 0
    → now ≡ reverse layers → AreDense rows (length spans) dense → All (λ (row : Row). HasVariablesBelow (length spans) row.terms) rows
    → IsSoFar (length rows) spans dense v layers hulls twins → AreLayersOf rows spans now hulls
so_far_all rows spans dense v layers now hulls twins start turned d below h =
    subst (λ (ls : List Layer). AreLayersOf rows spans ls hulls) (sym turned) (record {
      spans_are = h.spans_are ∙ ap (λ n. drop n spans) start;
      layered = h.layered;
      each = h.each;
      are_hulls = h.are_hulls;
      sums = λ row e ys l inside. h.sums row l ys ∙ ap (λ n. dot (drop n (get_or dense row [])) ys) start
          ∙ coefs_activity (get_or rows row e).terms (length spans) (get_or dense row []) ys (d.each row e l) (AllZip-length IsWithin spans ys inside) (below row e l);
    })

-- no hull with one variable more is long
pub so_far_fits : (rows : List Row) (spans : List Span) (dense : List (List ℤ)) (v : ℕ) (layers : List Layer) (hulls : List Span) (twins : List ℕ) (column : List ℤ) (s : Span)
    → v < length spans → AreDense rows (length spans) dense → ((row : ℕ) → row < length rows → v < length (get_or dense row []))
    → All (λ (r : Row). row_size spans r < 2 ^ 62) rows → s ≡ get_or spans v (record { lo = pos 0; hi = pos 0 }) → IsColumn dense v column → IsSoFar (length rows) spans dense (v + 1) layers hulls twins
    → (row : ℕ) × (row < length hulls) × IsLong (hull_with (span_at hulls row) (coef_of column row) s) → ⊥
so_far_fits rows spans dense v layers hulls twins column s there d wide small is col h (row, l, long) =
    let inside : row < length rows = omega (arith, l, h.each) in
    sized_short (hull_with (span_at hulls row) (coef_of column row) s) (cost_size (drop v spans) (drop v (get_or dense row [])))
    (sized_more spans (get_or dense row []) v (span_at hulls row) (coef_of column row) s there (wide row inside) is (col.coefs_are row (omega (arith, inside, d.many))) (h.sizes row inside))
    (row_short rows spans dense row v d inside small)
    long
