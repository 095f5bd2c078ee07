-- Laws of the steps of pricing by a table.
use Rattle.std.proofs.Common.{◌≡◌, refl, sym, ap, subst, ◌∙◌, ℕ, zero, suc, ◌+◌, ◌*◌, ◌^◌, ◌<◌, ◌≤◌, List, [], ◌∷◌, length, get_or, take, arith, ⊎_elim}
use Rattle.std.proofs.Math.IntN.{ℤ, pos, negsuc, ◌+ℤ◌, ◌*ℤ◌}
use Rattle.std.proofs.Math.Nat.{mul-le-mul_left}
use Rattle.std.specs.Prelude.{Option, Some, None, ◌≤ℤ◌, ◌<ℤ◌, unsigned_abs, FitsSigned}
use Rattle.std.specs.Int.{w128, int_gap}
use Rattle.std.proofs.lemmas.Bool.{cases_lt}
use Rattle.bp_theory.specs.Bound.{end_cost, box_least}
use Rattle.bp_theory.specs.Trees.{IsSubzone}
use Rattle.bp_theory.specs.declared.Sense.{Sense}
use Rattle.bp_theory.specs.declared.Sense.TheVariants.{Le, Ge, Eq, In}
use Rattle.knapsack_table.specs.Rooms.{room_for}
use Rattle.bp_theory.specs.declared.Row.{Row}
use Rattle.knapsack_table.specs.Choices.{IsBetter, MeetsAt, IsChosen}
use Rattle.std.proofs.lemmas.Int.{by_lt_z, ints, clamps, fits_signed_from_abs, unsigned_abs-mul}
use Rattle.std.proofs.lemmas.List.{same_lists, ext_get_or}
use Rattle.bp_theory.specs.Sums.{dot}
use Rattle.bp_theory.specs.Program.{span_at, reach, IsWithin, IsInside, Meets}
use Rattle.bp_theory.specs.declared.Span.{Span}
use Rattle.pricing_problem.specs.Form.{cost_size}
use Rattle.bp_theory.proofs.Whole.{le-mul_pos, le-mul_negsuc}
use Rattle.pricing_problem.proofs.EndLaws.{number-le_reach, product-within, end_cost-within}
use Rattle.knapsack_table.specs.declared.items.Item.{Item}
use Rattle.knapsack_table.specs.Loads.{item_of, number_of, items_of, point_of, none_of}

-- a scalar product, one number more
pub dot_more : (fs ns : List ℤ) (k : ℕ) → k < length fs → k < length ns
    → dot (take (k + 1) fs) ns ≡ dot (take k fs) ns +ℤ get_or fs k (pos 0) *ℤ get_or ns k (pos 0)
dot_more fs ns k l m = ap (λ n. dot (take n fs) ns) (one k) ∙ by fs ns k l m
  where
    one : (n : ℕ) → n + 1 ≡ suc n
    one n = omega arith

    start : (a : ℤ) → a +ℤ pos 0 ≡ pos 0 +ℤ a
    start a = omega (arith, ints)

    grouped : (a b c : ℤ) → a +ℤ (b +ℤ c) ≡ (a +ℤ b) +ℤ c
    grouped a b c = omega (arith, ints)

    by : (fs ns : List ℤ) (k : ℕ) → k < length fs → k < length ns
        → dot (take (suc k) fs) ns ≡ dot (take k fs) ns +ℤ get_or fs k (pos 0) *ℤ get_or ns k (pos 0)
    by [] ns k l m = absurd (omega arith)
    by (f ∷ fs) [] k l m = absurd (omega arith)
    by (f ∷ fs) (n ∷ ns) zero l m = start (f *ℤ n)
    by (f ∷ fs) (n ∷ ns) (suc k) l m =
        ap (λ z. f *ℤ n +ℤ z) (by fs ns k (omega arith) (omega arith))
        ∙ grouped (f *ℤ n) (dot (take k fs) ns) (get_or fs k (pos 0) *ℤ get_or ns k (pos 0))

-- its size is at most that of the factors
pub dot_small : (zone : List Span) (fs ns : List ℤ) (k : ℕ) → IsInside zone ns → unsigned_abs (dot (take k fs) ns) ≤ cost_size zone fs
dot_small zone fs ns zero h = omega arith
dot_small zone [] ns (suc k) h = omega arith
dot_small [] (f ∷ fs) [] (suc k) h = omega arith
dot_small [] (f ∷ fs) (n ∷ ns) (suc k) h = absurd h
dot_small (s ∷ ss) (f ∷ fs) [] (suc k) h = absurd h
dot_small (s ∷ ss) (f ∷ fs) (n ∷ ns) (suc k) h =
    added (f *ℤ n) (dot (take k fs) ns) (unsigned_abs f * reach s) (cost_size ss fs)
    (product-within f n s (number-le_reach s n h.0)) (dot_small ss fs ns k h.1)
  where
    added : (a b : ℤ) (m n : ℕ) → unsigned_abs a ≤ m → unsigned_abs b ≤ n → unsigned_abs (a +ℤ b) ≤ m + n
    added a b m n h k = omega (arith, ints)

-- so is that of one product
pub product_small : (zone : List Span) (fs ns : List ℤ) (k : ℕ) → IsInside zone ns → k < length zone
    → unsigned_abs (get_or fs k (pos 0) *ℤ get_or ns k (pos 0)) ≤ cost_size zone fs
product_small [] fs ns k h l = absurd (omega arith)
product_small (s ∷ ss) fs [] k h l = absurd h
product_small (s ∷ ss) [] (n ∷ ns) k h l = nothing (get_or (n ∷ ns) k (pos 0))
  where
    nothing : (v : ℤ) → unsigned_abs (pos 0 *ℤ v) ≤ 0
    nothing v = omega (arith, unsigned_abs-mul (pos 0) v)
product_small (s ∷ ss) (f ∷ fs) (n ∷ ns) zero h l = omega (arith, product-within f n s (number-le_reach s n h.0))
product_small (s ∷ ss) (f ∷ fs) (n ∷ ns) (suc k) h l = omega (arith, product_small ss fs ns k h.1 (omega arith))

pub small_product_fits : (a : ℤ) (m : ℕ) → unsigned_abs a ≤ m → m ≤ 2 ^ 123 → FitsSigned w128 a
small_product_fits a m h k = fits_signed_from_abs w128 a (omega (arith, h, k))

pub small_sum_fits : (a b : ℤ) → unsigned_abs a ≤ 2 ^ 123 → unsigned_abs b ≤ 2 ^ 123 → FitsSigned w128 (a +ℤ b)
small_sum_fits a b h k = fits_signed_from_abs w128 (a +ℤ b) (omega (arith, ints, h, k))

-- a cost is within the size of the costs
pub cost-le : (zone : List Span) (rs : List ℤ) (k : ℕ) → k < length zone → unsigned_abs (get_or rs k (pos 0)) ≤ cost_size zone rs
cost-le [] rs k l = absurd (omega arith)
cost-le (s ∷ ss) [] k l = omega arith
cost-le (s ∷ ss) (r ∷ rs) zero l = omega (arith, at_least (unsigned_abs r) (reach s) (omega arith))
  where
    at_least : (a m : ℕ) → 1 ≤ m → a ≤ a * m
    at_least a m l = omega (arith, mul-le-mul_left a l)
cost-le (s ∷ ss) (r ∷ rs) (suc k) l = omega (arith, cost-le ss rs k (omega arith))

-- the least over the first spans and one more
pub box_least_more : (zone : List Span) (costs : List ℤ) (k : ℕ) → k < length zone → k < length costs
    → box_least (take (k + 1) zone) costs ≡ box_least (take k zone) costs +ℤ end_cost (span_at zone k) (get_or costs k (pos 0))
box_least_more zone costs k l m = ap (λ n. box_least (take n zone) costs) (one k) ∙ by zone costs k l m
  where
    one : (n : ℕ) → n + 1 ≡ suc n
    one n = omega arith

    start : (a : ℤ) → a +ℤ pos 0 ≡ pos 0 +ℤ a
    start a = omega (arith, ints)

    grouped : (a b c : ℤ) → a +ℤ (b +ℤ c) ≡ (a +ℤ b) +ℤ c
    grouped a b c = omega (arith, ints)

    by : (ss : List Span) (rs : List ℤ) (n : ℕ) → n < length ss → n < length rs
        → box_least (take (suc n) ss) rs ≡ box_least (take n ss) rs +ℤ end_cost (span_at ss n) (get_or rs n (pos 0))
    by [] rs n m o = absurd (omega arith)
    by (s ∷ ss) [] n m o = absurd (omega arith)
    by (s ∷ ss) (r ∷ rs) zero m o = start (end_cost s r)
    by (s ∷ ss) (r ∷ rs) (suc n) m o =
        ap (λ z. end_cost s r +ℤ z) (by ss rs n (omega arith) (omega arith))
        ∙ grouped (end_cost s r) (box_least (take n ss) rs) (end_cost (span_at ss n) (get_or rs n (pos 0)))

-- it stays within the size of the costs, and so does each end
pub box_least_so_far : (zone : List Span) (costs : List ℤ) (k : ℕ) → unsigned_abs (box_least (take k zone) costs) ≤ cost_size zone costs
box_least_so_far [] costs k = none k
  where
    none : (n : ℕ) → unsigned_abs (box_least (take n []) costs) ≤ 0
    none zero = omega arith
    none (suc n) = omega arith
box_least_so_far (s ∷ ss) costs zero = omega arith
box_least_so_far (s ∷ ss) [] (suc k) = omega arith
box_least_so_far (s ∷ ss) (r ∷ rs) (suc k) =
    added (end_cost s r) (box_least (take k ss) rs) (unsigned_abs r * reach s) (cost_size ss rs) (end_cost-within s r) (box_least_so_far ss rs k)
  where
    added : (a b : ℤ) (m n : ℕ) → unsigned_abs a ≤ m → unsigned_abs b ≤ n → unsigned_abs (a +ℤ b) ≤ m + n
    added a b m n h k = omega (arith, ints)

pub end_fits : (zone : List Span) (costs : List ℤ) (k : ℕ) → k < length zone → unsigned_abs (get_or costs k (pos 0)) * reach (span_at zone k) ≤ cost_size zone costs
end_fits [] costs k l = absurd (omega arith)
end_fits (s ∷ ss) [] k l = omega arith
end_fits (s ∷ ss) (r ∷ rs) zero l = omega arith
end_fits (s ∷ ss) (r ∷ rs) (suc k) l = omega (arith, end_fits ss rs k (omega arith))

-- it is at most what numbers of the spans add up to
end_cost-below : (s : Span) (r x : ℤ) → IsWithin s x → end_cost s r ≤ℤ (r *ℤ x)
end_cost-below s (pos n) x h = omega (arith, ints, clamps, le-mul_pos n s.lo x h.above)
end_cost-below s (negsuc n) x h = omega (arith, ints, clamps, le-mul_negsuc n x s.hi h.below)

pub box_least-below : (spans : List Span) (costs y : List ℤ) → length costs ≡ length spans → IsInside spans y → box_least spans costs ≤ℤ dot costs y
box_least-below [] [] y e inside = omega (arith, ints)
box_least-below [] (r ∷ rs) y e inside = absurd (omega arith)
box_least-below (s ∷ ss) [] y e inside = absurd (omega arith)
box_least-below (s ∷ ss) (r ∷ rs) [] e inside = absurd inside
box_least-below (s ∷ ss) (r ∷ rs) (x ∷ xs) e inside =
    omega (arith, ints, end_cost-below s r x inside.0, box_least-below ss rs xs (omega arith) inside.1)

-- numbers inside a zone are inside the root
pub inside_root : (zone spans : List Span) (y : List ℤ) → IsSubzone zone spans → IsInside zone y → IsInside spans y
inside_root [] [] [] sub h = tt
inside_root [] [] (v ∷ y) sub h = absurd h
inside_root [] (t ∷ ts) y sub h = absurd sub
inside_root (s ∷ ss) [] y sub h = absurd sub
inside_root (s ∷ ss) (t ∷ ts) [] sub h = absurd h
inside_root (s ∷ ss) (t ∷ ts) (v ∷ y) sub h = (
  record { above = omega (arith, ints, sub.0.above, h.0.above); below = omega (arith, ints, sub.0.below, h.0.below) },
  inside_root ss ts y sub.1 h.1,
)

-- a greater base and a smaller reach leave no more room
pub room_shrinks : (row : Row) (base less : ℤ) (reach more : ℕ) → less ≤ℤ base → reach ≤ more
    → room_for row.sense row.rhs base reach ≤ room_for row.sense row.rhs less more
room_shrinks row base less reach more l m = by row.sense
  where
    gap_shrinks : (a b c : ℤ) → b ≤ℤ a → int_gap a c ≤ int_gap b c
    gap_shrinks a b c p = grind (arith, ints)

    by : (sense : Sense) → room_for sense row.rhs base reach ≤ room_for sense row.rhs less more
    by Le = omega (arith, gap_shrinks base less row.rhs l, m)
    by Ge = m
    by Eq = omega (arith, gap_shrinks base less row.rhs l, m)
    by In = omega (arith, gap_shrinks base less row.rhs l, m)

-- no greater weight meets the row
pub room_above : (row : Row) (base : ℤ) (reach c : ℕ) → room_for row.sense row.rhs base reach < c → Meets row.sense row.low row.rhs (base +ℤ pos c) → reach < c
room_above row base reach c = by row.sense
  where
    gap_above : (a b : ℤ) (n : ℕ) → (a +ℤ pos n) ≤ℤ b → n ≤ int_gap a b
    gap_above a b n p = grind (arith, ints)

    by : (sense : Sense) → room_for sense row.rhs base reach < c → Meets sense row.low row.rhs (base +ℤ pos c) → reach < c
    by Le more meets = omega (arith, more, gap_above base row.rhs c meets)
    by Ge more meets = more
    by Eq more meets = omega (arith, more, gap_above base row.rhs c meets.1)
    by In more meets = omega (arith, more, gap_above base row.rhs c meets.1)

pub room_within : (row : Row) (base : ℤ) (reach : ℕ) → room_for row.sense row.rhs base reach ≤ reach
room_within row base reach = by row.sense
  where
    by : (sense : Sense) → room_for sense row.rhs base reach ≤ reach
    by Le = omega arith
    by Ge = omega arith
    by Eq = omega arith
    by In = omega arith

-- items and points by places
pub length-items_of : (as' : List ℤ) (ss : List Span) (rs : List ℤ) → length as' ≡ length ss → length rs ≡ length ss → length (items_of as' ss rs) ≡ length ss
length-items_of [] [] rs e f = refl
length-items_of [] (s ∷ ss) rs e f = absurd (omega arith)
length-items_of (a ∷ as') [] rs e f = refl
length-items_of (a ∷ as') (s ∷ ss) [] e f = absurd (omega arith)
length-items_of (a ∷ as') (s ∷ ss) (r ∷ rs) e f = ap suc (length-items_of as' ss rs (omega arith) (omega arith))

pub get_or-items_of : (as' : List ℤ) (ss : List Span) (rs : List ℤ) (k : ℕ) (d : Item) → length as' ≡ length ss → length rs ≡ length ss → k < length ss
    → get_or (items_of as' ss rs) k d ≡ item_of (get_or as' k (pos 0)) (span_at ss k) (get_or rs k (pos 0))
get_or-items_of as' [] rs k d e f l = absurd (omega arith)
get_or-items_of [] (s ∷ ss) rs k d e f l = absurd (omega arith)
get_or-items_of (a ∷ as') (s ∷ ss) [] k d e f l = absurd (omega arith)
get_or-items_of (a ∷ as') (s ∷ ss) (r ∷ rs) zero d e f l = refl
get_or-items_of (a ∷ as') (s ∷ ss) (r ∷ rs) (suc k) d e f l = get_or-items_of as' ss rs k d (omega arith) (omega arith) (omega arith)

pub items_from_places : (items : List Item) (as' : List ℤ) (ss : List Span) (rs : List ℤ) → length as' ≡ length ss → length rs ≡ length ss → length items ≡ length ss
    → ((k : ℕ) (d : Item) → k < length ss → get_or items k d ≡ item_of (get_or as' k (pos 0)) (span_at ss k) (get_or rs k (pos 0))) → items ≡ items_of as' ss rs
items_from_places items as' ss rs e f g each =
    same_lists items (items_of as' ss rs) (g ∙ sym (length-items_of as' ss rs e f))
    (λ k d l. each k d (omega (arith, l, g)) ∙ sym (get_or-items_of as' ss rs k d e f (omega (arith, l, g))))

pub length-point_of : (as' : List ℤ) (ss : List Span) (rs : List ℤ) (us : List ℕ) → length as' ≡ length ss → length rs ≡ length ss → length us ≡ length ss
    → length (point_of as' ss rs us) ≡ length ss
length-point_of [] [] rs us e f g = refl
length-point_of [] (s ∷ ss) rs us e f g = absurd (omega arith)
length-point_of (a ∷ as') [] rs us e f g = refl
length-point_of (a ∷ as') (s ∷ ss) [] us e f g = absurd (omega arith)
length-point_of (a ∷ as') (s ∷ ss) (r ∷ rs) [] e f g = absurd (omega arith)
length-point_of (a ∷ as') (s ∷ ss) (r ∷ rs) (u ∷ us) e f g = ap suc (length-point_of as' ss rs us (omega arith) (omega arith) (omega arith))

pub get_or-point_of : (as' : List ℤ) (ss : List Span) (rs : List ℤ) (us : List ℕ) (k : ℕ) (d : ℤ) → length as' ≡ length ss → length rs ≡ length ss → length us ≡ length ss
    → k < length ss → get_or (point_of as' ss rs us) k d ≡ number_of (get_or as' k (pos 0)) (span_at ss k) (get_or rs k (pos 0)) (get_or us k 0)
get_or-point_of as' [] rs us k d e f g l = absurd (omega arith)
get_or-point_of [] (s ∷ ss) rs us k d e f g l = absurd (omega arith)
get_or-point_of (a ∷ as') (s ∷ ss) [] us k d e f g l = absurd (omega arith)
get_or-point_of (a ∷ as') (s ∷ ss) (r ∷ rs) [] k d e f g l = absurd (omega arith)
get_or-point_of (a ∷ as') (s ∷ ss) (r ∷ rs) (u ∷ us) zero d e f g l = refl
get_or-point_of (a ∷ as') (s ∷ ss) (r ∷ rs) (u ∷ us) (suc k) d e f g l = get_or-point_of as' ss rs us k d (omega arith) (omega arith) (omega arith) (omega arith)

pub point_from_places : (point as' : List ℤ) (ss : List Span) (rs : List ℤ) (us : List ℕ) → length as' ≡ length ss → length rs ≡ length ss → length us ≡ length ss
    → length point ≡ length ss
    → ((k : ℕ) → k < length ss → get_or point k (pos 0) ≡ number_of (get_or as' k (pos 0)) (span_at ss k) (get_or rs k (pos 0)) (get_or us k 0)) → point ≡ point_of as' ss rs us
point_from_places point as' ss rs us e f g h each =
    ext_get_or (pos 0) point (point_of as' ss rs us) (h ∙ sym (length-point_of as' ss rs us e f g))
    (λ k l. each k (omega (arith, l, h)) ∙ sym (get_or-point_of as' ss rs us k (pos 0) e f g (omega (arith, l, h))))

pub length-none_of : (as' : List ℤ) → length (none_of as') ≡ length as'
length-none_of [] = refl
length-none_of (a ∷ as') = ap suc (length-none_of as')

pub get_or-none_of : (as' : List ℤ) (k : ℕ) → get_or (none_of as') k 0 ≡ 0
get_or-none_of [] k = refl
get_or-none_of (a ∷ as') zero = refl
get_or-none_of (a ∷ as') (suc k) = get_or-none_of as' k

-- the choice with one weight more
pub chosen_new : (limit : ℤ) (cells : ℕ → ℤ) (row : Row) (base : ℤ) (w : ℕ) (best : Option ℕ) → IsChosen limit cells row base w best → MeetsAt row base w → IsBetter limit cells w best
    → IsChosen limit cells row base (w + 1) (Some w)
chosen_new limit cells row base w None had meets better = (
  omega arith,
  meets,
  better,
  λ c l m. ⊎_elim
      (λ less. by c (had c less m))
      (λ more. same c (omega (arith, l, more)))
      (cases_lt c w),
)
  where
    same : (c : ℕ) → c ≡ w → cells w ≤ℤ cells c
    same c e = subst (λ k. cells w ≤ℤ cells k) (sym e) (omega (arith, ints))

    by : (c : ℕ) → (cells c <ℤ limit → ⊥) → cells w ≤ℤ cells c
    by c n = by_lt_z (cells c) limit (λ less. absurd (n less)) (λ more. omega (arith, ints, more, better))
chosen_new limit cells row base w (Some b) had meets better = (
  omega arith,
  meets,
  omega (arith, ints, better, had.2),
  λ c l m. ⊎_elim
      (λ less. lower c (had.3 c less m))
      (λ more. same c (omega (arith, l, more)))
      (cases_lt c w),
)
  where
    same : (c : ℕ) → c ≡ w → cells w ≤ℤ cells c
    same c e = subst (λ k. cells w ≤ℤ cells k) (sym e) (omega (arith, ints))

    lower : (c : ℕ) → cells b ≤ℤ cells c → cells w ≤ℤ cells c
    lower c p = omega (arith, ints, p, better)

pub chosen_unmet : (limit : ℤ) (cells : ℕ → ℤ) (row : Row) (base : ℤ) (w : ℕ) (best : Option ℕ) → IsChosen limit cells row base w best → (MeetsAt row base w → ⊥)
    → IsChosen limit cells row base (w + 1) best
chosen_unmet limit cells row base w None had fails = λ c l m less. ⊎_elim
    (λ below. had c below m less)
    (λ above. fails (subst (MeetsAt row base) (here c above l) m))
    (cases_lt c w)
  where
    here : (c : ℕ) → w ≤ c → c < w + 1 → c ≡ w
    here c a l = omega (arith, a, l)
chosen_unmet limit cells row base w (Some b) had fails = (
  omega (arith, had.0),
  had.1,
  had.2,
  λ c l m. ⊎_elim
      (λ below. had.3 c below m)
      (λ above. absurd (fails (subst (MeetsAt row base) (here c above l) m)))
      (cases_lt c w),
)
  where
    here : (c : ℕ) → w ≤ c → c < w + 1 → c ≡ w
    here c a l = omega (arith, a, l)

pub chosen_no_better : (limit : ℤ) (cells : ℕ → ℤ) (row : Row) (base : ℤ) (w : ℕ) (best : Option ℕ) → IsChosen limit cells row base w best → (IsBetter limit cells w best → ⊥)
    → IsChosen limit cells row base (w + 1) best
chosen_no_better limit cells row base w None had fails = λ c l m less. ⊎_elim
    (λ below. had c below m less)
    (λ above. fails (subst (λ k. cells k <ℤ limit) (here c above l) less))
    (cases_lt c w)
  where
    here : (c : ℕ) → w ≤ c → c < w + 1 → c ≡ w
    here c a l = omega (arith, a, l)
chosen_no_better limit cells row base w (Some b) had fails = (
  omega (arith, had.0),
  had.1,
  had.2,
  λ c l m. ⊎_elim
      (λ below. had.3 c below m)
      (λ above. subst (λ k. cells b ≤ℤ cells k) (sym (here c above l))
      (by_lt_z (cells w) (cells b) (λ less. absurd (fails less)) (λ more. more)))
      (cases_lt c w),
)
  where
    here : (c : ℕ) → w ≤ c → c < w + 1 → c ≡ w
    here c a l = omega (arith, a, l)
