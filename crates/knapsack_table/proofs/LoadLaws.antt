-- Points of one row are loads.
use Rattle.std.proofs.Common.{◌≡◌, refl, sym, ap, subst, ◌∙◌, ℕ, zero, suc, ◌+◌, ◌-◌, ◌*◌, ◌^◌, ◌<◌, ◌≤◌, Bool, true, false, List, [], ◌∷◌, map, length, get_or, arith, ⊎_elim, inl, inr}
use Rattle.std.proofs.Math.IntN.{ℤ, pos, negsuc, neg_ℤ, ◌+ℤ◌, ◌-ℤ◌, ◌*ℤ◌, zero-*ℤ}
use Rattle.std.specs.Prelude.{int_lt, ◌≤ℤ◌, ◌<ℤ◌, if◌then◌else◌}
use Rattle.std.specs.Int.{int_gap}
use Rattle.std.specs.List.{AllZip, AllByRecursion}
use Rattle.std.proofs.lemmas.Int.{ints}
use Rattle.bp_theory.specs.Sums.{dot}
use Rattle.bp_theory.specs.Program.{IsWithin, IsInside}
use Rattle.bp_theory.specs.declared.Span.{Span}
use Rattle.bp_theory.proofs.Whole.{mul-add, mul-sub, sub-mul, le-mul_pos, le-mul_negsuc}
use Rattle.knapsack_table.specs.declared.items.Item.{Item}
use Rattle.knapsack_table.specs.Loads.{IsLoad, load, worth, item_of, number_of, items_of, point_of, none_of}

-- how far a number is above another
gap_is : (a b : ℤ) → a ≤ℤ b → pos (int_gap a b) ≡ b -ℤ a
gap_is a b h = grind (arith, ints)

-- a number of a variable is that of a load of units, which costs no more
pub record IsUnits (a : ℤ) (s : Span) (r y : ℤ) (u : ℕ) : Type 0 where
  pub fits : u ≤ (item_of a s r).width
  pub weighs : a *ℤ y ≡ a *ℤ number_of a s r 0 +ℤ pos ((item_of a s r).weight * u)
  pub costs : (r *ℤ number_of a s r 0 +ℤ (item_of a s r).cost *ℤ pos u) ≤ℤ (r *ℤ y)

-- a factor with its sign turned
neg-mul : (q v : ℤ) → neg_ℤ q *ℤ v ≡ neg_ℤ (q *ℤ v)
neg-mul q v = ap (λ z. z *ℤ v) (from_zero q) ∙ sub-mul (pos 0) q v ∙ back (pos 0 *ℤ v) (q *ℤ v) (zero-*ℤ v)
  where
    from_zero : (z : ℤ) → neg_ℤ z ≡ pos 0 -ℤ z
    from_zero z = omega (arith, ints)

    back : (z w : ℤ) → z ≡ pos 0 → z -ℤ w ≡ neg_ℤ w
    back z w e = omega (arith, ints, e)

-- products of whole numbers
pos_times : (m n : ℕ) → pos m *ℤ pos n ≡ pos (m * n)
pos_times m n = refl

pub units_of : (a : ℤ) (s : Span) (r y : ℤ) → s.lo ≤ℤ s.hi → IsWithin s y → (u : ℕ) × IsUnits a s r y u
units_of (pos zero) s r y p h = (0, record { fits = omega arith; weighs = zeros; costs = by (int_lt r (pos 0)) refl })
  where
    zero_times : (v : ℤ) → pos 0 *ℤ v ≡ pos 0
    zero_times v = omega (arith, ints)

    zeros : pos 0 *ℤ y ≡ pos 0 *ℤ (if int_lt r (pos 0) then s.hi else s.lo) +ℤ pos 0
    zeros = zero_times y ∙ sym (ap (λ z. z +ℤ pos 0) (zero_times (if int_lt r (pos 0) then s.hi else s.lo)))

    upper : (q : ℤ) → q <ℤ pos 0 → (q *ℤ s.hi) ≤ℤ (q *ℤ y)
    upper (pos n) l = absurd (omega (arith, ints, l))
    upper (negsuc n) l = le-mul_negsuc n y s.hi h.below

    lower : (q : ℤ) → pos 0 ≤ℤ q → (q *ℤ s.lo) ≤ℤ (q *ℤ y)
    lower (pos n) l = le-mul_pos n s.lo y h.above
    lower (negsuc n) l = absurd (omega (arith, ints, l))

    nothing : (z w : ℤ) → z ≤ℤ w → (z +ℤ pos 0) ≤ℤ w
    nothing z w l = omega (arith, ints, l)

    by : (b : Bool) → int_lt r (pos 0) ≡ b → (r *ℤ (if b then s.hi else s.lo) +ℤ pos 0) ≤ℤ (r *ℤ y)
    by true e = nothing (r *ℤ s.hi) (r *ℤ y) (upper r (grind (arith, ints)))
    by false e = nothing (r *ℤ s.lo) (r *ℤ y) (lower r (grind (arith, ints)))
units_of (pos (suc n)) s r y p h = (
  int_gap s.lo y,
  record {
    fits = below (gap_is s.lo y h.above) (gap_is s.lo s.hi p);
    weighs = ap (λ z. pos (suc n) *ℤ z) (there (gap_is s.lo y h.above)) ∙ spread (pos (suc n)) (int_gap s.lo y);
    costs = same (ap (λ z. r *ℤ z) (there (gap_is s.lo y h.above)) ∙ spread r (int_gap s.lo y));
  },
)
  where
    below : pos (int_gap s.lo y) ≡ y -ℤ s.lo → pos (int_gap s.lo s.hi) ≡ s.hi -ℤ s.lo → int_gap s.lo y ≤ int_gap s.lo s.hi
    below e f = omega (arith, ints, e, f, h.below)

    there : pos (int_gap s.lo y) ≡ y -ℤ s.lo → y ≡ s.lo +ℤ pos (int_gap s.lo y)
    there e = omega (arith, ints, e)

    spread : (q : ℤ) (u : ℕ) → q *ℤ (s.lo +ℤ pos u) ≡ q *ℤ (s.lo +ℤ pos 0) +ℤ q *ℤ pos u
    spread q u = mul-add q s.lo (pos u) ∙ ap (λ z. q *ℤ z +ℤ q *ℤ pos u) (plain s.lo)
      where
        plain : (z : ℤ) → z ≡ z +ℤ pos 0
        plain z = omega (arith, ints)

    same : {v w : ℤ} → v ≡ w → w ≤ℤ v
    same e = omega (arith, ints, e)
units_of (negsuc n) s r y p h = (
  int_gap y s.hi,
  record {
    fits = below (gap_is y s.hi h.below) (gap_is s.lo s.hi p);
    weighs = ap (λ z. negsuc n *ℤ z) (there (gap_is y s.hi h.below)) ∙ spread (negsuc n) (int_gap y s.hi)
        ∙ ap (λ z. negsuc n *ℤ (s.hi -ℤ pos 0) +ℤ z) (turned (int_gap y s.hi));
    costs = same (ap (λ z. r *ℤ z) (there (gap_is y s.hi h.below)) ∙ spread r (int_gap y s.hi));
  },
)
  where
    below : pos (int_gap y s.hi) ≡ s.hi -ℤ y → pos (int_gap s.lo s.hi) ≡ s.hi -ℤ s.lo → int_gap y s.hi ≤ int_gap s.lo s.hi
    below e f = omega (arith, ints, e, f, h.above)

    there : pos (int_gap y s.hi) ≡ s.hi -ℤ y → y ≡ s.hi -ℤ pos (int_gap y s.hi)
    there e = omega (arith, ints, e)

    turned : (u : ℕ) → neg_ℤ (negsuc n) *ℤ pos u ≡ pos (suc n * u)
    turned u = refl

    spread : (q : ℤ) (u : ℕ) → q *ℤ (s.hi -ℤ pos u) ≡ q *ℤ (s.hi -ℤ pos 0) +ℤ neg_ℤ q *ℤ pos u
    spread q u =
        mul-sub q s.hi (pos u)
        ∙ ap (λ z. q *ℤ z -ℤ q *ℤ pos u) (plain s.hi)
        ∙ flipped (q *ℤ (s.hi -ℤ pos 0)) (q *ℤ pos u) (neg_ℤ q *ℤ pos u) (neg-mul q (pos u))
      where
        plain : (z : ℤ) → z ≡ z -ℤ pos 0
        plain z = omega (arith, ints)

        flipped : (a b c : ℤ) → c ≡ neg_ℤ b → a -ℤ b ≡ a +ℤ c
        flipped a b c e = omega (arith, ints, e)

    same : {v w : ℤ} → v ≡ w → w ≤ℤ v
    same e = omega (arith, ints, e)

-- units within the width make a number of the span
pub number_fits : (a : ℤ) (s : Span) (r : ℤ) (u : ℕ) → s.lo ≤ℤ s.hi → u ≤ (item_of a s r).width → IsWithin s (number_of a s r u)
number_fits (pos zero) s r u p h = by (int_lt r (pos 0))
  where
    by : (b : Bool) → IsWithin s (if b then s.hi else s.lo)
    by true = record { above = p; below = omega (arith, ints) }
    by false = record { above = omega (arith, ints); below = p }
number_fits (pos (suc n)) s r u p h = within (gap_is s.lo s.hi p)
  where
    within : pos (int_gap s.lo s.hi) ≡ s.hi -ℤ s.lo → IsWithin s (s.lo +ℤ pos u)
    within e = record { above = omega (arith, ints); below = omega (arith, ints, e, h) }
number_fits (negsuc n) s r u p h = within (gap_is s.lo s.hi p)
  where
    within : pos (int_gap s.lo s.hi) ≡ s.hi -ℤ s.lo → IsWithin s (s.hi -ℤ pos u)
    within e = record { above = omega (arith, ints, e, h); below = omega (arith, ints) }

-- its weight and its cost
pub number_weighs : (a : ℤ) (s : Span) (r : ℤ) (u : ℕ) → u ≤ (item_of a s r).width
    → a *ℤ number_of a s r u ≡ a *ℤ number_of a s r 0 +ℤ pos ((item_of a s r).weight * u)
number_weighs (pos zero) s r u h = plain (pos 0 *ℤ (if int_lt r (pos 0) then s.hi else s.lo))
  where
    plain : (z : ℤ) → z ≡ z +ℤ pos (0 * u)
    plain z = omega (arith, ints)
number_weighs (pos (suc n)) s r u h = mul-add (pos (suc n)) s.lo (pos u) ∙ ap (λ z. pos (suc n) *ℤ z +ℤ pos (suc n * u)) (plain s.lo)
  where
    plain : (z : ℤ) → z ≡ z +ℤ pos 0
    plain z = omega (arith, ints)
number_weighs (negsuc n) s r u h =
    mul-sub (negsuc n) s.hi (pos u)
    ∙ ap (λ z. negsuc n *ℤ z -ℤ negsuc n *ℤ pos u) (plain s.hi)
    ∙ flipped (negsuc n *ℤ (s.hi -ℤ pos 0)) (negsuc n *ℤ pos u) (pos (suc n * u)) (neg-mul (negsuc n) (pos u))
  where
    plain : (z : ℤ) → z ≡ z -ℤ pos 0
    plain z = omega (arith, ints)

    flipped : (x y c : ℤ) → c ≡ neg_ℤ y → x -ℤ y ≡ x +ℤ c
    flipped x y c e = omega (arith, ints, e)

pub number_costs : (a : ℤ) (s : Span) (r : ℤ) (u : ℕ) → u ≤ (item_of a s r).width
    → r *ℤ number_of a s r u ≡ r *ℤ number_of a s r 0 +ℤ (item_of a s r).cost *ℤ pos u
number_costs (pos zero) s r u h = nothing (r *ℤ (if int_lt r (pos 0) then s.hi else s.lo)) (pos 0 *ℤ pos u) (zero-*ℤ (pos u))
  where
    nothing : (z w : ℤ) → w ≡ pos 0 → z ≡ z +ℤ w
    nothing z w e = omega (arith, ints, e)
number_costs (pos (suc n)) s r u h = mul-add r s.lo (pos u) ∙ ap (λ z. r *ℤ z +ℤ r *ℤ pos u) (plain s.lo)
  where
    plain : (z : ℤ) → z ≡ z +ℤ pos 0
    plain z = omega (arith, ints)
number_costs (negsuc n) s r u h =
    mul-sub r s.hi (pos u)
    ∙ ap (λ z. r *ℤ z -ℤ r *ℤ pos u) (plain s.hi)
    ∙ flipped (r *ℤ (s.hi -ℤ pos 0)) (r *ℤ pos u) (neg_ℤ r *ℤ pos u) (neg-mul r (pos u))
  where
    plain : (z : ℤ) → z ≡ z -ℤ pos 0
    plain z = omega (arith, ints)

    flipped : (x y c : ℤ) → c ≡ neg_ℤ y → x -ℤ y ≡ x +ℤ c
    flipped x y c e = omega (arith, ints, e)

-- a point is a load, which costs no more
pub record IsLoadOf (as' : List ℤ) (ss : List Span) (rs y : List ℤ) (us : List ℕ) : Type 0 where
  pub fits : IsLoad (items_of as' ss rs) us
  pub weighs : dot as' y ≡ dot as' (point_of as' ss rs (none_of as')) +ℤ pos (load (items_of as' ss rs) us)
  pub costs : (dot rs (point_of as' ss rs (none_of as')) +ℤ worth (items_of as' ss rs) us) ≤ℤ dot rs y

pub load_of_point : (as' : List ℤ) (ss : List Span) (rs y : List ℤ) → length as' ≡ length ss → length rs ≡ length ss
    → AllByRecursion (λ (s : Span). s.lo ≤ℤ s.hi) ss → IsInside ss y → (us : List ℕ) × IsLoadOf as' ss rs y us
load_of_point [] [] [] [] e f p h = ([], record { fits = tt; weighs = refl; costs = omega (arith, ints) })
load_of_point [] [] (r ∷ rs) y e f p h = absurd (omega arith)
load_of_point [] [] [] (v ∷ y) e f p h = absurd h
load_of_point [] (s ∷ ss) rs y e f p h = absurd (omega arith)
load_of_point (a ∷ as') [] rs y e f p h = absurd (omega arith)
load_of_point (a ∷ as') (s ∷ ss) [] y e f p h = absurd (omega arith)
load_of_point (a ∷ as') (s ∷ ss) (r ∷ rs) [] e f p h = absurd h
load_of_point (a ∷ as') (s ∷ ss) (r ∷ rs) (v ∷ y) e f p h =
    joined (units_of a s r v p.0 h.0) (load_of_point as' ss rs y (omega arith) (omega arith) p.1 h.1)
  where
    joined : (u : ℕ) × IsUnits a s r v u → (us : List ℕ) × IsLoadOf as' ss rs y us → (us : List ℕ) × IsLoadOf (a ∷ as') (s ∷ ss) (r ∷ rs) (v ∷ y) us
    joined first rest = (
      first.0 ∷ rest.0,
      record {
        fits = (first.1.fits, rest.1.fits);
        weighs = added (a *ℤ v) (dot as' y) (a *ℤ number_of a s r 0) (dot as' (point_of as' ss rs (none_of as')))
            ((item_of a s r).weight * first.0) (load (items_of as' ss rs) rest.0) first.1.weighs rest.1.weighs;
        costs = summed (r *ℤ number_of a s r 0) (dot rs (point_of as' ss rs (none_of as'))) ((item_of a s r).cost *ℤ pos first.0) (worth (items_of as' ss rs) rest.0)
            (r *ℤ v) (dot rs y) first.1.costs rest.1.costs;
      },
    )
      where
        added : (x y x' y' : ℤ) (m n : ℕ) → x ≡ x' +ℤ pos m → y ≡ y' +ℤ pos n → x +ℤ y ≡ (x' +ℤ y') +ℤ pos (m + n)
        added x y x' y' m n e f = omega (arith, ints, e, f)

        summed : (x y m n x' y' : ℤ) → (x +ℤ m) ≤ℤ x' → (y +ℤ n) ≤ℤ y' → ((x +ℤ y) +ℤ (m +ℤ n)) ≤ℤ (x' +ℤ y')
        summed x y m n x' y' e f = omega (arith, ints, e, f)

-- a load is a point of its weight and cost
pub record IsPointOf (as' : List ℤ) (ss : List Span) (rs : List ℤ) (us : List ℕ) : Type 0 where
  pub inside : IsInside ss (point_of as' ss rs us)
  pub weighs : dot as' (point_of as' ss rs us) ≡ dot as' (point_of as' ss rs (none_of as')) +ℤ pos (load (items_of as' ss rs) us)
  pub costs : dot rs (point_of as' ss rs us) ≡ dot rs (point_of as' ss rs (none_of as')) +ℤ worth (items_of as' ss rs) us

pub point_of_load : (as' : List ℤ) (ss : List Span) (rs : List ℤ) (us : List ℕ) → length as' ≡ length ss → length rs ≡ length ss
    → AllByRecursion (λ (s : Span). s.lo ≤ℤ s.hi) ss → IsLoad (items_of as' ss rs) us → IsPointOf as' ss rs us
point_of_load [] [] [] us e f p h = record { inside = tt; weighs = refl; costs = refl }
point_of_load [] [] (r ∷ rs) us e f p h = absurd (omega arith)
point_of_load [] (s ∷ ss) rs us e f p h = absurd (omega arith)
point_of_load (a ∷ as') [] rs us e f p h = absurd (omega arith)
point_of_load (a ∷ as') (s ∷ ss) [] us e f p h = absurd (omega arith)
point_of_load (a ∷ as') (s ∷ ss) (r ∷ rs) [] e f p h = absurd h
point_of_load (a ∷ as') (s ∷ ss) (r ∷ rs) (u ∷ us) e f p h = joined (point_of_load as' ss rs us (omega arith) (omega arith) p.1 h.1)
  where
    joined : IsPointOf as' ss rs us → IsPointOf (a ∷ as') (s ∷ ss) (r ∷ rs) (u ∷ us)
    joined rest = record {
      inside = (number_fits a s r u p.0 h.0, rest.inside);
      weighs = added (a *ℤ number_of a s r u) (dot as' (point_of as' ss rs us)) (a *ℤ number_of a s r 0) (dot as' (point_of as' ss rs (none_of as')))
          ((item_of a s r).weight * u) (load (items_of as' ss rs) us) (number_weighs a s r u h.0) rest.weighs;
      costs = summed (r *ℤ number_of a s r u) (dot rs (point_of as' ss rs us)) (r *ℤ number_of a s r 0) (dot rs (point_of as' ss rs (none_of as')))
          ((item_of a s r).cost *ℤ pos u) (worth (items_of as' ss rs) us) (number_costs a s r u h.0) rest.costs;
    }
      where
        added : (x y x' y' : ℤ) (m n : ℕ) → x ≡ x' +ℤ pos m → y ≡ y' +ℤ pos n → x +ℤ y ≡ (x' +ℤ y') +ℤ pos (m + n)
        added x y x' y' m n e f = omega (arith, ints, e, f)

        summed : (x y x' y' m n : ℤ) → x ≡ x' +ℤ m → y ≡ y' +ℤ n → x +ℤ y ≡ (x' +ℤ y') +ℤ (m +ℤ n)
        summed x y x' y' m n e f = omega (arith, ints, e, f)
