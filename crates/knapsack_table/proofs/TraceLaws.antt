-- Laws of the way back through a table.
use Rattle.std.proofs.Common.{◌≡◌, sym, ap, subst, ◌∙◌, ℕ, zero, suc, ◌+◌, ◌-◌, ◌*◌, ◌<◌, ◌≤◌, List, [], ◌∷◌, ◌++◌, length, get_or, take, arith}
use Rattle.std.proofs.Math.IntN.{ℤ, pos, ◌+ℤ◌, ◌*ℤ◌}
use Rattle.std.proofs.Math.Nat.{mul-le-mul_left}
use Rattle.std.specs.Prelude.{◌<ℤ◌, unsigned_abs}
use Rattle.std.proofs.lemmas.Int.{ints}
use Rattle.std.proofs.lemmas.List.{take_more, take_all, length-take-le}
use Rattle.bp_theory.proofs.ZipLaws.{AllZip-length}
use Rattle.knapsack_table.specs.declared.items.Item.{Item}
use Rattle.knapsack_table.specs.Loads.{IsLoad, load, worth}
use Rattle.knapsack_table.specs.Tables.{AreApart, Reaches, Follows, IsFirstRow, AreRows, worth_size}
use Rattle.knapsack_table.proofs.TableLaws.{worth_small, rows_first}

-- units of one item more at the end
pub load_more : (is : List Item) (us : List ℕ) (i : Item) (u : ℕ) → IsLoad is us → load (is ++ i ∷ []) (us ++ u ∷ []) ≡ load is us + i.weight * u
load_more [] [] i u h = omega arith
load_more [] (v ∷ us) i u h = absurd h
load_more (j ∷ is) [] i u h = absurd h
load_more (j ∷ is) (v ∷ us) i u h = omega (arith, load_more is us i u h.1)

pub worth_more : (is : List Item) (us : List ℕ) (i : Item) (u : ℕ) → IsLoad is us → worth (is ++ i ∷ []) (us ++ u ∷ []) ≡ worth is us +ℤ i.cost *ℤ pos u
worth_more [] [] i u h = start (i.cost *ℤ pos u)
  where
    start : (a : ℤ) → a +ℤ pos 0 ≡ pos 0 +ℤ a
    start a = omega (arith, ints)
worth_more [] (v ∷ us) i u h = absurd h
worth_more (j ∷ is) [] i u h = absurd h
worth_more (j ∷ is) (v ∷ us) i u h =
    ap (λ z. j.cost *ℤ pos v +ℤ z) (worth_more is us i u h.1) ∙ grouped (j.cost *ℤ pos v) (worth is us) (i.cost *ℤ pos u)
  where
    grouped : (a b c : ℤ) → a +ℤ (b +ℤ c) ≡ (a +ℤ b) +ℤ c
    grouped a b c = omega (arith, ints)

pub fits_more : (is : List Item) (us : List ℕ) (i : Item) (u : ℕ) → IsLoad is us → u ≤ i.width → IsLoad (is ++ i ∷ []) (us ++ u ∷ [])
fits_more [] [] i u h l = (l, tt)
fits_more [] (v ∷ us) i u h l = absurd h
fits_more (j ∷ is) [] i u h l = absurd h
fits_more (j ∷ is) (v ∷ us) i u h l = (h.0, fits_more is us i u h.1 l)

-- the units of the items before a place: what is left is a weight in the row of the others
pub record IsTraced (items : List Item) (rows : ℕ → ℕ → ℤ) (weight k left : ℕ) (us : List ℕ) : Type 0 where
  pub fits : IsLoad (take k items) us
  pub weighs : load (take k items) us + left ≡ weight
  pub costs : rows (length items) weight ≡ worth (take k items) us +ℤ rows (length items - k) left

pub traced_start : (items : List Item) (rows : ℕ → ℕ → ℤ) (weight : ℕ) → IsTraced items rows weight 0 weight []
traced_start items rows weight = record {
  fits = tt;
  weighs = omega arith;
  costs = ap (λ n. rows n weight) (same (length items)) ∙ start (rows (length items - 0) weight);
}
  where
    same : (n : ℕ) → n ≡ n - 0
    same n = omega arith

    start : (a : ℤ) → a ≡ pos 0 +ℤ a
    start a = omega (arith, ints)

pub traced_count : (items : List Item) (rows : ℕ → ℕ → ℤ) (weight k left : ℕ) (us : List ℕ) → k ≤ length items → IsTraced items rows weight k left us → length us ≡ k
traced_count items rows weight k left us l t =
    sym (AllZip-length (λ (i : Item) (u : ℕ). u ≤ i.width) (take k items) us t.fits) ∙ length-take-le k items l

-- one item more
pub traced_more : (items : List Item) (rows : ℕ → ℕ → ℤ) (weight k left u : ℕ) (us : List ℕ) (d : Item) → k < length items
    → u ≤ (get_or items k d).width
    → Follows (get_or items k d) (rows (length items - (k + 1))) left (rows (length items - k) left) u
    → IsTraced items rows weight k left us
    → IsTraced items rows weight (k + 1) (left - (get_or items k d).weight * u) (us ++ u ∷ [])
traced_more items rows weight k left u us d l few follows t =
    record {
      fits = subst (λ (is : List Item). IsLoad is (us ++ u ∷ [])) (sym (take_more items k d l)) (fits_more (take k items) us item u t.fits few);
      weighs = ap (λ (is : List Item). load is (us ++ u ∷ []) + (left - item.weight * u)) (take_more items k d l)
          ∙ ap (λ n. n + (left - item.weight * u)) (load_more (take k items) us item u t.fits)
          ∙ weighs (load (take k items) us) t.weighs follows.0;
      costs = regroup (rows (length items) weight) (worth (take k items) us) (rows (length items - (k + 1)) (left - item.weight * u)) (rows (length items - k) left)
          (item.cost *ℤ pos u) t.costs follows.1
          ∙ ap (λ z. z +ℤ rows (length items - (k + 1)) (left - item.weight * u))
          (sym (ap (λ (is : List Item). worth is (us ++ u ∷ [])) (take_more items k d l) ∙ worth_more (take k items) us item u t.fits));
    }
  where
    item : Item
    item = get_or items k d

    regroup : (n w a o g : ℤ) → n ≡ w +ℤ o → o ≡ a +ℤ g → n ≡ (w +ℤ g) +ℤ a
    regroup n w a o g p q = omega (arith, ints, p, q)

    weighs : (m : ℕ) → m + left ≡ weight → item.weight * u ≤ left → (m + item.weight * u) + (left - item.weight * u) ≡ weight
    weighs m e h = omega (arith, e, h)

-- at the end nothing is left, since the cell tells a load
pub traced_end : (limit beyond : ℤ) (items : List Item) (top : ℕ) (rows : ℕ → ℕ → ℤ) (weight k left : ℕ) (us : List ℕ) → AreRows beyond items top rows
    → AreApart (worth_size items) limit beyond
    → weight ≤ top → k ≡ length items → rows (length items) weight <ℤ limit → IsTraced items rows weight k left us
    → Reaches items us weight (rows (length items) weight)
traced_end limit beyond items top rows weight k left us h apart t e way traced = by left fits weighs costs
  where
    whole : take k items ≡ items
    whole = take_all k items (omega (arith, e))

    none : (n : ℕ) → n - n ≡ 0
    none n = omega arith

    fits : IsLoad items us
    fits = subst (λ (is : List Item). IsLoad is us) whole traced.fits

    weighs : load items us + left ≡ weight
    weighs = ap (λ (is : List Item). load is us + left) (sym whole) ∙ traced.weighs

    costs : rows (length items) weight ≡ worth items us +ℤ rows 0 left
    costs = traced.costs ∙ ap (λ (is : List Item). worth is us +ℤ rows (length items - k) left) whole
        ∙ ap (λ n. worth items us +ℤ rows n left) (ap (λ n. length items - n) e ∙ none (length items))

    first : IsFirstRow beyond top (rows 0)
    first = rows_first beyond items top rows h

    far_off : (n w f : ℤ) → n ≡ w +ℤ f → f ≡ beyond → unsigned_abs w ≤ worth_size items → n <ℤ limit → ⊥
    far_off n w f p q m l = omega (arith, ints, p, q, m, l, apart.above)

    by : (left : ℕ) → IsLoad items us → load items us + left ≡ weight → rows (length items) weight ≡ worth items us +ℤ rows 0 left
        → Reaches items us weight (rows (length items) weight)
    by zero fits weighs costs = record {
      fits = fits;
      weighs = omega (arith, weighs);
      costs = omega (arith, ints, costs, first.none);
    }
    by (suc n) fits weighs costs =
        absurd (far_off (rows (length items) weight) (worth items us) (rows 0 (suc n)) costs (first.others (suc n) (omega arith) (omega (arith, weighs, t))) (worth_small items us fits) way)

-- the places of rows
pub next_row : (n k top : ℕ) → k < n → (n - k) * (top + 1) - (top + 1) ≡ (n - (k + 1)) * (top + 1)
next_row n k top l = ap (λ m. m * (top + 1) - (top + 1)) (one n k l) ∙ step (n - (k + 1)) top
  where
    one : (n k : ℕ) → k < n → n - k ≡ (n - (k + 1)) + 1
    one n k l = omega (arith, l)

    step : (m t : ℕ) → (m + 1) * (t + 1) - (t + 1) ≡ m * (t + 1)
    step m t = omega arith

pub row_fits : (n k top left cells : ℕ) → left ≤ top → (n + 1) * (top + 1) ≤ cells → (n - k) * (top + 1) + left < cells
row_fits n k top left cells l h = omega (arith, mul-le-mul_left (top + 1) (less n k), h, l)
  where
    less : (n k : ℕ) → n - k ≤ n
    less n k = omega arith
