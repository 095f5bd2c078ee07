-- Laws of tables: a part of an item, an item's row after that of the items behind it, and the least costs in rows.
use Rattle.std.proofs.Common.{◌≡◌, ◌≢◌, refl, sym, ap, subst, ◌∙◌, ℕ, zero, suc, ◌+◌, ◌-◌, ◌*◌, ◌<◌, ◌≤◌, List, [], ◌∷◌, length, get_or, drop, drop-cons, arith, ⊎_elim, inl, inr}
use Rattle.std.proofs.Math.IntN.{ℤ, pos, ◌+ℤ◌, ◌*ℤ◌, *ℤ-zero}
use Rattle.std.proofs.Math.Nat.{mul-le-mul_left}
use Rattle.std.specs.Prelude.{◌≤ℤ◌, ◌<ℤ◌, ◌⊎◌, unsigned_abs}
use Rattle.std.proofs.lemmas.Int.{ints, unsigned_abs-mul}
use Rattle.std.proofs.lemmas.Bool.{cases_lt}
use Rattle.bp_theory.proofs.Whole.{mul-add}
use Rattle.knapsack_table.specs.declared.items.Item.{Item}
use Rattle.knapsack_table.specs.Loads.{IsLoad, load, worth}
use Rattle.knapsack_table.specs.Tables.{AreApart, cell_at, row_from, row_at, IsTable, Follows, IsTried, IsFirstRow, AreRows, IsLesser, HasPart, AreBounded, worth_size, full_load}

-- the lesser of two costs, by equal numbers
pub lesser_along : (a a' o o' g g' v : ℤ) → a ≡ a' → o ≡ o' → g ≡ g' → IsLesser a (o +ℤ g) v → IsLesser a' (o' +ℤ g') v
lesser_along a a' o o' g g' v ea eo eg h =
    subst (λ z. IsLesser z (o' +ℤ g') v) ea (subst (λ z. IsLesser a (z +ℤ g') v) eo (subst (λ z. IsLesser a (o +ℤ z) v) eg h))

-- cells while a part is tried from the greatest weight down
pub record IsRelaxing (shift top weight : ℕ) (gain : ℤ) (before now : ℕ → ℤ) : Type 0 where
  pub below : (c : ℕ) → c < weight → now c ≡ before c
  pub light : (c : ℕ) → c ≤ top → c < shift → now c ≡ before c
  pub heavy : (c : ℕ) → weight ≤ c → c ≤ top → shift ≤ c → IsLesser (before c) (before (c - shift) +ℤ gain) (now c)

-- a loop's step: one weight less
pub relaxing_more : (shift top weight start : ℕ) (gain step_gain : ℤ) (before : ℕ → ℤ) (was now : List ℤ)
    → shift < weight → gain ≡ step_gain
    → IsRelaxing shift top weight gain before (row_from was start)
    → IsLesser (row_from was start (weight - 1)) (row_from was start ((weight - 1) - shift) +ℤ step_gain) (row_from now start (weight - 1))
    → ((k : ℕ) → k ≢ start + (weight - 1) → cell_at now k ≡ cell_at was k)
    → IsRelaxing shift top (weight - 1) gain before (row_from now start)
relaxing_more shift top weight start gain step_gain before was now m same r lesser others = record {
  below = λ c l. untouched c (under c l) ∙ r.below c (omega (arith, l));
  light = λ c t l. untouched c (lighter c l) ∙ r.light c t l;
  heavy = λ c l t h. by c t h (cases_lt (weight - 1) c) l;
}
  where
    untouched : (c : ℕ) → c ≢ weight - 1 → row_from now start c ≡ row_from was start c
    untouched c n = others (start + c) (λ e. n (omega (arith, e)))

    under : (c : ℕ) → c < weight - 1 → c ≢ weight - 1
    under c l e = omega (arith, l, e)

    lighter : (c : ℕ) → c < shift → c ≢ weight - 1
    lighter c l e = omega (arith, l, e, m)

    over : (c : ℕ) → weight - 1 < c → c ≢ weight - 1
    over c l e = omega (arith, l, e)

    here : (c : ℕ) → c ≡ weight - 1 → IsLesser (before c) (before (c - shift) +ℤ gain) (row_from now start c)
    here c e =
        subst (λ k. IsLesser (before k) (before (k - shift) +ℤ gain) (row_from now start k)) (sym e)
        (lesser_along (row_from was start (weight - 1)) (before (weight - 1)) (row_from was start ((weight - 1) - shift)) (before ((weight - 1) - shift))
        step_gain gain (row_from now start (weight - 1))
        (r.below (weight - 1) (omega (arith, m))) (r.below ((weight - 1) - shift) (omega (arith, m))) (sym same) lesser)

    by : (c : ℕ) → c ≤ top → shift ≤ c → (weight - 1 < c) ⊎ (c ≤ weight - 1) → weight - 1 ≤ c
        → IsLesser (before c) (before (c - shift) +ℤ gain) (row_from now start c)
    by c t h (inl more) l =
        subst (λ z. IsLesser (before c) (before (c - shift) +ℤ gain) z) (sym (untouched c (over c more))) (r.heavy c (omega (arith, more)) t h)
    by c t h (inr less) l = here c (omega (arith, less, l))

-- at the loop's end the part has been tried
pub part_of_relaxing : (shift top weight : ℕ) (gain end_gain : ℤ) (before now : ℕ → ℤ) → weight ≤ shift → gain ≡ end_gain
    → IsRelaxing shift top weight gain before now → HasPart shift end_gain top before now
part_of_relaxing shift top weight gain end_gain before now l is r = record {
  light = r.light;
  heavy = λ c t h. subst (λ g. IsLesser (before c) (before (c - shift) +ℤ g) (now c)) is (r.heavy c (omega (arith, l, h)) t h);
}

-- cells of a row after while one unit is tried from the least weight up
pub record IsJoining (shift top weight : ℕ) (gain : ℤ) (before now : ℕ → ℤ) : Type 0 where
  pub light : (c : ℕ) → c ≤ top → c < shift → now c ≡ before c
  pub heavy : (c : ℕ) → c < weight → c ≤ top → shift ≤ c → IsLesser (before c) (before (c - shift) +ℤ gain) (now c)

pub joining_start : (shift top : ℕ) (gain : ℤ) (before now : ℕ → ℤ) → ((c : ℕ) → c ≤ top → c < shift → now c ≡ before c)
    → IsJoining shift top shift gain before now
joining_start shift top gain before now same = record { light = same; heavy = λ c l t h. absurd (omega (arith, l, h)) }

-- a loop's step: one weight more
pub joining_more : (shift top weight start next : ℕ) (gain step_gain : ℤ) (before : ℕ → ℤ) (was now : List ℤ)
    → shift ≤ weight → start + top < next → weight ≤ top → gain ≡ step_gain
    → ((c : ℕ) → c ≤ top → row_from was start c ≡ before c)
    → IsJoining shift top weight gain before (row_from was next)
    → IsLesser (row_from was start weight) (row_from was start (weight - shift) +ℤ step_gain) (row_from now next weight)
    → ((k : ℕ) → k ≢ next + weight → cell_at now k ≡ cell_at was k)
    → IsJoining shift top (weight + 1) gain before (row_from now next)
joining_more shift top weight start next gain step_gain before was now m apart within same old j lesser others = record {
  light = λ c t l. untouched c (lighter c l) ∙ j.light c t l;
  heavy = λ c l t h. by c t h l (cases_lt c weight);
}
  where
    untouched : (c : ℕ) → c ≢ weight → row_from now next c ≡ row_from was next c
    untouched c n = others (next + c) (λ e. n (omega (arith, e)))

    lighter : (c : ℕ) → c < shift → c ≢ weight
    lighter c l e = omega (arith, l, e, m)

    under : (c : ℕ) → c < weight → c ≢ weight
    under c l e = omega (arith, l, e)

    here : (c : ℕ) → c ≡ weight → IsLesser (before c) (before (c - shift) +ℤ gain) (row_from now next c)
    here c e =
        subst (λ k. IsLesser (before k) (before (k - shift) +ℤ gain) (row_from now next k)) (sym e)
        (lesser_along (row_from was start weight) (before weight) (row_from was start (weight - shift)) (before (weight - shift))
        step_gain gain (row_from now next weight)
        (old weight within) (old (weight - shift) (omega (arith, within))) (sym same) lesser)

    by : (c : ℕ) → c ≤ top → shift ≤ c → c < weight + 1 → (c < weight) ⊎ (weight ≤ c)
        → IsLesser (before c) (before (c - shift) +ℤ gain) (row_from now next c)
    by c t h l (inl less) =
        subst (λ z. IsLesser (before c) (before (c - shift) +ℤ gain) z) (sym (untouched c (under c less))) (j.heavy c less t h)
    by c t h l (inr more) = here c (omega (arith, l, more))

-- costs of no units, and of units together
no_units : (item : Item) (z : ℤ) → z +ℤ item.cost *ℤ pos 0 ≡ z
no_units item z = omega (arith, ints, *ℤ-zero item.cost)

-- a copy of a row is that with no units of an item
pub tried_start : (item : Item) (top : ℕ) (above now : ℕ → ℤ) → ((c : ℕ) → c ≤ top → now c ≡ above c) → IsTried item 0 top above now
tried_start item top above now same = record {
  least = λ c u t z h. least c u t (omega (arith, z)) h;
  reached = λ c t. (0, omega arith, (omega arith, same c t ∙ sym (no_units item (above c)) ∙ ap (λ n. above n +ℤ item.cost *ℤ pos 0) (whole c)));
}
  where
    whole : (n : ℕ) → n ≡ n - item.weight * 0
    whole n = omega arith

    least : (c u : ℕ) → c ≤ top → u ≡ 0 → item.weight * u ≤ c → now c ≤ℤ (above (c - item.weight * u) +ℤ item.cost *ℤ pos u)
    least c u t e h =
        subst (λ n. now c ≤ℤ (above (c - item.weight * n) +ℤ item.cost *ℤ pos n)) (sym e)
        (subst (λ n. now c ≤ℤ (above n +ℤ item.cost *ℤ pos 0)) (whole c)
        (omega (arith, ints, same c t, no_units item (above c))))

-- a part more of an item
pub tried_part : (item : Item) (top done units : ℕ) (above before now : ℕ → ℤ) → units ≤ done + 1
    → HasPart (item.weight * units) (item.cost *ℤ pos units) top before now
    → IsTried item done top above before → IsTried item (done + units) top above now
tried_part item top done units above before now few part tried = record { least = least; reached = reached }
  where
    lower : (c : ℕ) → c ≤ top → now c ≤ℤ before c
    lower c t = ⊎_elim
        (λ (light : c < item.weight * units). omega (arith, ints, part.light c t light))
        (λ (heavy : item.weight * units ≤ c). (part.heavy c t heavy).first)
        (cases_lt c (item.weight * units))

    chain : (a b c : ℤ) → a ≤ℤ b → b ≤ℤ c → a ≤ℤ c
    chain a b c p q = omega (arith, ints, p, q)

    -- with more units than before: those of the part, and no more than before of the rest
    more : (c v : ℕ) → c ≤ top → v ≤ done → item.weight * (v + units) ≤ c
        → now c ≤ℤ (above (c - item.weight * (v + units)) +ℤ item.cost *ℤ pos (v + units))
    more c v t few' h =
        joined (now c) (before (c - item.weight * units)) (above ((c - item.weight * units) - item.weight * v)) (above (c - item.weight * (v + units)))
        (item.cost *ℤ pos units) (item.cost *ℤ pos v) (item.cost *ℤ pos (v + units))
        (part.heavy c t (omega (arith, h))).second
        (tried.least (c - item.weight * units) v (omega (arith, t)) few' (omega (arith, h)))
        (ap above (moved v)) (mul-add item.cost (pos v) (pos units))
      where
        moved : (v : ℕ) → (c - item.weight * units) - item.weight * v ≡ c - item.weight * (v + units)
        moved v = omega arith

        joined : (n b a a' g r s : ℤ) → n ≤ℤ (b +ℤ g) → b ≤ℤ (a +ℤ r) → a ≡ a' → s ≡ r +ℤ g → n ≤ℤ (a' +ℤ s)
        joined n b a a' g r s p q e f = omega (arith, ints, p, q, e, f)

    least : (c u : ℕ) → c ≤ top → u ≤ done + units → item.weight * u ≤ c → now c ≤ℤ (above (c - item.weight * u) +ℤ item.cost *ℤ pos u)
    least c u t m h = ⊎_elim
        (λ (over : done < u).
        let is : u ≡ (u - units) + units = omega (arith, over, few) in
        subst (λ n. now c ≤ℤ (above (c - item.weight * n) +ℤ item.cost *ℤ pos n)) (sym is)
        (more c (u - units) t (omega (arith, over, few, m)) (subst (λ n. item.weight * n ≤ c) is h)))
        (λ (under : u ≤ done). chain (now c) (before c) (above (c - item.weight * u) +ℤ item.cost *ℤ pos u) (lower c t) (tried.least c u t under h))
        (cases_lt done u)

    kept : (c : ℕ) → c ≤ top → now c ≡ before c → (u : ℕ) × (u ≤ done + units) × Follows item above c (now c) u
    kept c t e =
        let had = tried.reached c t in
        (had.0, omega (arith, had.1), (had.2.0, e ∙ had.2.1))

    moved : (c : ℕ) → c ≤ top → item.weight * units ≤ c → now c ≡ before (c - item.weight * units) +ℤ item.cost *ℤ pos units
        → (u : ℕ) × (u ≤ done + units) × Follows item above c (now c) u
    moved c t h e =
        let had = tried.reached (c - item.weight * units) (omega (arith, t)) in (
          had.0 + units,
          omega (arith, had.1),
          (
            weighs had.0 had.2.0,
            regroup (now c) (before (c - item.weight * units)) (above ((c - item.weight * units) - item.weight * had.0)) (above (c - item.weight * (had.0 + units)))
                (item.cost *ℤ pos units) (item.cost *ℤ pos had.0) (item.cost *ℤ pos (had.0 + units)) e had.2.1 (ap above (shifted had.0)) (mul-add item.cost (pos had.0) (pos units)),
          ),
        )
      where
        weighs : (p : ℕ) → item.weight * p ≤ c - item.weight * units → item.weight * (p + units) ≤ c
        weighs p l = omega (arith, l, h)

        shifted : (p : ℕ) → (c - item.weight * units) - item.weight * p ≡ c - item.weight * (p + units)
        shifted p = omega arith

        regroup : (n b a a' g r s : ℤ) → n ≡ b +ℤ g → b ≡ a +ℤ r → a ≡ a' → s ≡ r +ℤ g → n ≡ a' +ℤ s
        regroup n b a a' g r s p q e f = omega (arith, ints, p, q, e, f)

    reached : (c : ℕ) → c ≤ top → (u : ℕ) × (u ≤ done + units) × Follows item above c (now c) u
    reached c t = ⊎_elim
        (λ (light : c < item.weight * units). kept c t (part.light c t light))
        (λ (heavy : item.weight * units ≤ c). ⊎_elim (λ same. kept c t same) (λ better. moved c t heavy better) (part.heavy c t heavy).either)
        (cases_lt c (item.weight * units))

-- at the loop's end one unit has been tried
pub tried_joined : (item : Item) (top weight : ℕ) (gain : ℤ) (above now : ℕ → ℤ) → item.width ≡ 1 → top < weight → gain ≡ item.cost *ℤ pos 1
    → IsJoining (item.weight * 1) top weight gain above now → IsTried item item.width top above now
tried_joined item top weight gain above now one over is j =
    subst (λ n. IsTried item n top above now) (sym one)
    (tried_part item top 0 1 above above now (omega arith)
    (record {
      light = j.light;
      heavy = λ c t h. subst (λ g. IsLesser (above c) (above (c - item.weight * 1) +ℤ g) (now c)) is (j.heavy c (omega (arith, over, t)) t h);
    })
    (tried_start item top above above (λ c t. refl)))

-- cells stay small
pub tried_bounded : (item : Item) (done top bound : ℕ) (above now : ℕ → ℤ) → IsTried item done top above now → AreBounded bound top above
    → AreBounded (bound + unsigned_abs item.cost * done) top now
tried_bounded item done top bound above now tried had c t =
    let at = tried.reached c t in
    added (above (c - item.weight * at.0)) (item.cost *ℤ pos at.0) (now c) (unsigned_abs item.cost * done) at.2.1 (had (c - item.weight * at.0) (omega (arith, t)))
    (omega (arith, unsigned_abs-mul item.cost (pos at.0), mul-le-mul_left (unsigned_abs item.cost) at.1))
  where
    added : (o g n : ℤ) (m : ℕ) → n ≡ o +ℤ g → unsigned_abs o ≤ bound → unsigned_abs g ≤ m → unsigned_abs n ≤ bound + m
    added o g n m e p q = omega (arith, ints, e, p, q)

-- rows of equal cells
pub tried_along : (item : Item) (units top : ℕ) (above above' now now' : ℕ → ℤ) → ((c : ℕ) → c ≤ top → above' c ≡ above c) → ((c : ℕ) → c ≤ top → now' c ≡ now c)
    → IsTried item units top above now → IsTried item units top above' now'
tried_along item units top above above' now now' same_above same_now tried = record {
  least = λ c u t m h. carried (now c) (now' c) (above (c - item.weight * u)) (above' (c - item.weight * u)) (item.cost *ℤ pos u)
      (same_now c t) (same_above (c - item.weight * u) (omega (arith, t))) (tried.least c u t m h);
  reached = λ c t.
      let had = tried.reached c t in (
        had.0,
        had.1,
        (had.2.0, same_now c t ∙ had.2.1 ∙ ap (λ z. z +ℤ item.cost *ℤ pos had.0) (sym (same_above (c - item.weight * had.0) (omega (arith, t))))),
      );
}
  where
    carried : (n n' a a' g : ℤ) → n' ≡ n → a' ≡ a → n ≤ℤ (a +ℤ g) → n' ≤ℤ (a' +ℤ g)
    carried n n' a a' g p q h = omega (arith, ints, p, q, h)

-- rows that are written no more
pub rows_kept : (beyond : ℤ) (items : List Item) (top : ℕ) (before now : List ℤ) → ((k : ℕ) → k < (length items + 1) * (top + 1) → cell_at now k ≡ cell_at before k)
    → AreRows beyond items top (row_at before top) → AreRows beyond items top (row_at now top)
rows_kept beyond [] top before now same rows = record {
  none = same (0 * (top + 1) + 0) (omega arith) ∙ rows.none;
  others = λ c l t. same (0 * (top + 1) + c) (omega (arith, t)) ∙ rows.others c l t;
}
rows_kept beyond (i ∷ is) top before now same rows = (
  tried_along i i.width top (row_at before top (length is)) (row_at now top (length is)) (row_at before top (suc (length is))) (row_at now top (suc (length is)))
      (λ c t. same (length is * (top + 1) + c) (omega (arith, t)))
      (λ c t. same (suc (length is) * (top + 1) + c) (omega (arith, t)))
      rows.0,
  rows_kept beyond is top before now (λ k l. same k (omega (arith, l))) rows.1,
)

-- one item more in front
pub rows_more : (beyond : ℤ) (items : List Item) (item : Item) (top start : ℕ) (before now : List ℤ) → start ≡ length items * (top + 1)
    → AreRows beyond items top (row_at before top)
    → IsTried item item.width top (row_from before start) (row_from now (start + (top + 1)))
    → ((k : ℕ) → k < start + (top + 1) → cell_at now k ≡ cell_at before k)
    → AreRows beyond (item ∷ items) top (row_at now top)
rows_more beyond items item top start before now is rows tried same = (
  tried_along item item.width top (row_from before start) (row_at now top (length items)) (row_from now (start + (top + 1))) (row_at now top (suc (length items)))
      (λ c t. same (length items * (top + 1) + c) (omega (arith, t, is)) ∙ ap (λ n. cell_at before (n + c)) (sym is))
      (λ c t. ap (λ n. cell_at now (n + c)) (next is))
      tried,
  rows_kept beyond items top before now (λ k l. same k (omega (arith, l, is))) rows,
)
  where
    next : start ≡ length items * (top + 1) → suc (length items) * (top + 1) ≡ start + (top + 1)
    next e = omega (arith, e)

-- the row of no items
pub rows_first : (beyond : ℤ) (items : List Item) (top : ℕ) (rows : ℕ → ℕ → ℤ) → AreRows beyond items top rows → IsFirstRow beyond top (rows 0)
rows_first beyond [] top rows h = h
rows_first beyond (i ∷ is) top rows h = rows_first beyond is top rows h.1

-- a load's cost stays within the size of the items' costs
pub worth_small : (items : List Item) (us : List ℕ) → IsLoad items us → unsigned_abs (worth items us) ≤ worth_size items
worth_small [] us h = omega arith
worth_small (i ∷ is) [] h = absurd h
worth_small (i ∷ is) (u ∷ us) h =
    added (i.cost *ℤ pos u) (worth is us) (unsigned_abs i.cost * i.width) (worth_size is)
    (omega (arith, unsigned_abs-mul i.cost (pos u), mul-le-mul_left (unsigned_abs i.cost) h.0)) (worth_small is us h.1)
  where
    added : (a b : ℤ) (m n : ℕ) → unsigned_abs a ≤ m → unsigned_abs b ≤ n → unsigned_abs (a +ℤ b) ≤ m + n
    added a b m n h k = omega (arith, ints, h, k)

-- cells of rows are small
first_bounded : (beyond : ℤ) (top : ℕ) (row : ℕ → ℤ) → IsFirstRow beyond top row → AreBounded (unsigned_abs beyond) top row
first_bounded beyond top row first zero t = subst (λ z. unsigned_abs z ≤ unsigned_abs beyond) (sym first.none) (omega arith)
first_bounded beyond top row first (suc c) t = subst (λ z. unsigned_abs z ≤ unsigned_abs beyond) (sym (first.others (suc c) (omega arith) t)) (omega arith)

pub rows_bounded : (beyond : ℤ) (items : List Item) (top : ℕ) (rows : ℕ → ℕ → ℤ) → AreRows beyond items top rows → AreBounded (unsigned_abs beyond + worth_size items) top (rows (length items))
rows_bounded beyond [] top rows h c t = omega (arith, first_bounded beyond top (rows 0) h c t)
rows_bounded beyond (i ∷ is) top rows h c t =
    omega (arith, tried_bounded i i.width top (unsigned_abs beyond + worth_size is) (rows (length is)) (rows (suc (length is))) h.0 (rows_bounded beyond is top rows h.1) c t)

-- the row of the items from a place on, and how it comes from the next
pub rows_at : (beyond : ℤ) (items : List Item) (top : ℕ) (rows : ℕ → ℕ → ℤ) → AreRows beyond items top rows → (k : ℕ) (d : Item) → k < length items
    → IsTried (get_or items k d) (get_or items k d).width top (rows (length items - (k + 1))) (rows (length items - k))
rows_at beyond [] top rows h k d l = absurd (omega arith)
rows_at beyond (i ∷ is) top rows h zero d l =
    subst (λ n. IsTried i i.width top (rows n) (rows (suc (length is) - 0))) (less (length is))
    (subst (λ n. IsTried i i.width top (rows (length is)) (rows n)) (same (length is)) h.0)
  where
    less : (n : ℕ) → n ≡ suc n - (0 + 1)
    less n = omega arith

    same : (n : ℕ) → suc n ≡ suc n - 0
    same n = omega arith
rows_at beyond (i ∷ is) top rows h (suc k) d l =
    subst (λ n. IsTried (get_or is k d) (get_or is k d).width top (rows n) (rows (suc (length is) - suc k))) (one (length is) (k + 1) (suc k + 1) (more k))
    (subst (λ n. IsTried (get_or is k d) (get_or is k d).width top (rows (length is - (k + 1))) (rows n)) (one (length is) k (suc k) refl) (rows_at beyond is top rows h.1 k d (omega (arith, l))))
  where
    one : (n a b : ℕ) → b ≡ suc a → n - a ≡ suc n - b
    one n a b e = omega (arith, e)

    more : (k : ℕ) → suc k + 1 ≡ suc (k + 1)
    more k = omega arith

pub rows_bounded_at : (beyond : ℤ) (items : List Item) (top : ℕ) (rows : ℕ → ℕ → ℤ) → AreRows beyond items top rows → (k : ℕ) → k ≤ length items
    → AreBounded (unsigned_abs beyond + worth_size items) top (rows (length items - k))
rows_bounded_at beyond items top rows h zero l c t =
    subst (λ n. unsigned_abs (rows n c) ≤ unsigned_abs beyond + worth_size items) (same (length items)) (rows_bounded beyond items top rows h c t)
  where
    same : (n : ℕ) → n ≡ n - 0
    same n = omega arith
rows_bounded_at beyond [] top rows h (suc k) l c t = absurd (omega arith)
rows_bounded_at beyond (i ∷ is) top rows h (suc k) l c t =
    subst (λ n. unsigned_abs (rows n c) ≤ unsigned_abs beyond + worth_size (i ∷ is)) (one (length is) k)
    (omega (arith, rows_bounded_at beyond is top rows h.1 k (omega (arith, l)) c t))
  where
    one : (n a : ℕ) → n - a ≡ suc n - suc a
    one n a = omega arith

-- the last row has the least costs of loads
pub rows_least : (beyond : ℤ) (items : List Item) (top : ℕ) (rows : ℕ → ℕ → ℤ) → AreRows beyond items top rows → (c : ℕ) (us : List ℕ) → c ≤ top → IsLoad items us → load items us ≡ c
    → rows (length items) c ≤ℤ worth items us
rows_least beyond [] top rows h c us t fits weighs = omega (arith, ints, ap (rows 0) (sym weighs), h.none)
rows_least beyond (i ∷ is) top rows h c [] t fits weighs = absurd fits
rows_least beyond (i ∷ is) top rows h c (u ∷ us) t fits weighs =
    joined (rows (suc (length is)) c) (rows (length is) (c - i.weight * u)) (i.cost *ℤ pos u) (worth is us)
    (h.0.least c u t fits.0 (omega (arith, weighs)))
    (rows_least beyond is top rows h.1 (c - i.weight * u) us (omega (arith, t)) fits.1 (omega (arith, weighs)))
  where
    joined : (n a g w : ℤ) → n ≤ℤ (a +ℤ g) → a ≤ℤ w → n ≤ℤ (g +ℤ w)
    joined n a g w p q = omega (arith, ints, p, q)

pub rows_table : (limit beyond : ℤ) (items : List Item) (top : ℕ) (rows : ℕ → ℕ → ℤ) → AreRows beyond items top rows → AreApart (worth_size items) limit beyond
    → IsTable limit items top (rows (length items))
rows_table limit beyond items top rows h apart c us t fits weighs =
    (within (rows (length items) c) (worth items us) (rows_least beyond items top rows h c us t fits weighs) (worth_small items us fits), rows_least beyond items top rows h c us t fits weighs)
  where
    within : (a w : ℤ) → a ≤ℤ w → unsigned_abs w ≤ worth_size items → a <ℤ limit
    within a w p q = omega (arith, ints, p, q, apart.below)

-- the items from a place on
pub worth_size-drop : (items : List Item) (k : ℕ) → worth_size (drop k items) ≤ worth_size items
worth_size-drop items zero = omega arith
worth_size-drop [] (suc k) = omega arith
worth_size-drop (i ∷ is) (suc k) = omega (arith, worth_size-drop is k)

pub worth_size-next : (items : List Item) (k : ℕ) (d : Item) → k < length items
    → worth_size (drop k items) ≡ unsigned_abs (get_or items k d).cost * (get_or items k d).width + worth_size (drop (k + 1) items)
worth_size-next items k d l =
    ap worth_size (drop-cons items k d l) ∙ ap (λ n. unsigned_abs (get_or items k d).cost * (get_or items k d).width + worth_size (drop n items)) (one k)
  where
    one : (n : ℕ) → suc n ≡ n + 1
    one n = omega arith

pub worth_size-at : (items : List Item) (k : ℕ) (d : Item) → k < length items → unsigned_abs (get_or items k d).cost * (get_or items k d).width ≤ worth_size items
worth_size-at [] k d l = absurd (omega arith)
worth_size-at (i ∷ is) zero d l = omega arith
worth_size-at (i ∷ is) (suc k) d l = omega (arith, worth_size-at is k d (omega arith))

pub full_load-at : (items : List Item) (k : ℕ) (d : Item) → k < length items → full_load (drop k items) ≡ (get_or items k d).weight * (get_or items k d).width + full_load (drop (k + 1) items)
full_load-at items k d l =
    ap full_load (drop-cons items k d l) ∙ ap (λ n. (get_or items k d).weight * (get_or items k d).width + full_load (drop n items)) (one k)
  where
    one : (n : ℕ) → suc n ≡ n + 1
    one n = omega arith

pub full_load-drop : (items : List Item) (k : ℕ) → full_load (drop k items) ≤ full_load items
full_load-drop items zero = omega arith
full_load-drop [] (suc k) = omega arith
full_load-drop (i ∷ is) (suc k) = omega (arith, full_load-drop is k)

-- a load weighs at most as much as all items whole
pub load-full : (items : List Item) (us : List ℕ) → IsLoad items us → load items us ≤ full_load items
load-full [] us h = omega arith
load-full (i ∷ is) [] h = absurd h
load-full (i ∷ is) (u ∷ us) h = omega (arith, mul-le-mul_left i.weight h.0, load-full is us h.1)
