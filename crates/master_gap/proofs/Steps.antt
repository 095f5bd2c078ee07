-- The steps of loops: sums that wrap on the way, over zipped lists and over ranges, and sums by key.
use Rattle.std.proofs.Common.{◌≡◌, ◌≢◌, refl, sym, ap, subst, ◌∙◌, ℕ, zero, suc, ◌+◌, ◌-◌, ◌<◌, ◌≤◌, ◌^◌, Bool, true, false, List, [], ◌∷◌, ◌++◌, length, take, get_or, set, arith, add-one, ⊎_elim, get_or-set_same, get_or-set_other}
use Rattle.std.proofs.Math.IntN.{ℤ, pos, ◌+ℤ◌, ◌*ℤ◌, zero-*ℤ}
use Rattle.std.specs.Prelude.{◌==◌, if◌then◌else◌, zip, sum_by}
use Rattle.std.specs.Int.{w64, w128, int_wrap}
use Rattle.std.specs.List.{range_with_len}
use Rattle.std.proofs.lemmas.Int.{ints, to_z-of_z, int_wrap-add_left, int_wrap-add_right}
use Rattle.std.proofs.lemmas.List.Sums.{sum_by-cons}
use Rattle.std.proofs.lemmas.Slice.Zip.{length-zip, get_or-zip}
use Rattle.std.proofs.lemmas.List.{take_all, take-append-le}
use Rattle.std.proofs.lemmas.Bool.Decides.{eqb_tells}
use lib.Signed.{mag}
use mir.Val.{SFits, of_z, to_z}
use Rattle.bp_theory.specs.Sums.{sum_of, sum_at}
use Rattle.bp_theory.proofs.Whole.{add-mul}
use Rattle.bp_theory.proofs.SumLaws.{sum_of_more, sum_of-append}
use Rattle.bp_theory.proofs.KeyLaws.{if_same, if_other}
use Rattle.search_laws.specs.declared.Column.{Column}
use Rattle.search_laws.specs.Master.{class_weight}

-- ---- numbers by their bits

-- a number of 128 bits by its bits
pub passed : (z : ℤ) → mag z < 2 ^ 127 → to_z w128 (of_z w128 z) ≡ z
passed z h = let fits : SFits w128 z = record { sfits = h } in to_z-of_z w128 z fits

-- a number of 64 bits by its bits
pub passed_short : (z : ℤ) → mag z < 2 ^ 63 → to_z w64 (of_z w64 z) ≡ z
passed_short z h = let fits : SFits w64 z = record { sfits = h } in to_z-of_z w64 z fits

-- ---- sums that wrap on the way

-- one term more
pub wrap_more : (s t x r : ℤ) → s ≡ int_wrap w128 t → r ≡ int_wrap w128 (s +ℤ x) → r ≡ int_wrap w128 (t +ℤ x)
wrap_more s t x r e f = f ∙ ap (λ z. int_wrap w128 (z +ℤ x)) e ∙ int_wrap-add_left w128 t x

-- one term more, as a loop has it
pub wrap_step : (r s p t x : ℤ) → mag r < 2 ^ 127 → mag p < 2 ^ 127 → r ≡ int_wrap w128 (s +ℤ to_z w128 (of_z w128 p))
    → s ≡ int_wrap w128 t → p ≡ x → to_z w128 (of_z w128 r) ≡ int_wrap w128 (t +ℤ x)
wrap_step r s p t x small small' e f g =
    passed r small
    ∙ wrap_more s t x r f (e ∙ ap (λ z. int_wrap w128 (s +ℤ z)) (passed p small' ∙ g))

-- one term more, which wraps itself
pub wrap_step_wrapped : (r s p t x : ℤ) → mag r < 2 ^ 127 → mag p < 2 ^ 127 → r ≡ int_wrap w128 (s +ℤ to_z w128 (of_z w128 p))
    → s ≡ int_wrap w128 t → p ≡ int_wrap w128 x → to_z w128 (of_z w128 r) ≡ int_wrap w128 (t +ℤ x)
wrap_step_wrapped r s p t x small small' e f g =
    wrap_step r s p t (int_wrap w128 x) small small' e f g ∙ int_wrap-add_right w128 t x

-- ---- sums over ranges

sum_of_range-suc : (f : ℕ → ℤ) (a n : ℕ) → sum_of f (range_with_len a (suc n)) ≡ sum_of f (range_with_len a n) +ℤ f (a + n)
sum_of_range-suc f a zero = let e : a + 0 ≡ a = omega arith in omega (arith, ints, ap f e)
sum_of_range-suc f a (suc n) =
    let e : (a + 1) + n ≡ a + suc n = omega arith in
    omega (arith, ints, ap f e, sum_of_range-suc f (a + 1) n)

-- one number more
pub sum_of_range_more : (f : ℕ → ℤ) (n : ℕ) → sum_of f (range_with_len 0 (n + 1)) ≡ sum_of f (range_with_len 0 n) +ℤ f n
sum_of_range_more f n =
    let e : 0 + n ≡ n = omega arith in
    rw add-one (sum_of_range-suc f 0 n ∙ ap (λ k. sum_of f (range_with_len 0 n) +ℤ f k) e)

sum_by_range-suc : (f : ℕ → ℕ) (a n : ℕ) → sum_by f (range_with_len a (suc n)) ≡ sum_by f (range_with_len a n) + f (a + n)
sum_by_range-suc f a zero = let e : a + 0 ≡ a = omega arith in omega (arith, ap f e, sum_by-cons f a [])
sum_by_range-suc f a (suc n) =
    let e : (a + 1) + n ≡ a + suc n = omega arith in
    omega (
      arith,
      ap f e,
      sum_by_range-suc f (a + 1) n,
      sum_by-cons f a (range_with_len (a + 1) (suc n)),
      sum_by-cons f a (range_with_len (a + 1) n),
    )

-- one natural number more
pub sum_by_range_more : (f : ℕ → ℕ) (n : ℕ) → pos (sum_by f (range_with_len 0 (n + 1))) ≡ pos (sum_by f (range_with_len 0 n)) +ℤ pos (f n)
sum_by_range_more f n =
    let e : 0 + n ≡ n = omega arith in
    ap pos (rw add-one (sum_by_range-suc f 0 n ∙ ap (λ k. sum_by f (range_with_len 0 n) + f k) e))

-- ---- sums over zipped lists

-- one pair more
pub zip_more : (f : Column × ℤ → ℤ) (cols : List Column) (ws : List ℤ) (j : ℕ) (c : Column) (w : ℤ) → length ws ≡ length cols → j < length cols
    → sum_of f (take (j + 1) (zip cols ws)) ≡ sum_of f (take j (zip cols ws)) +ℤ f (get_or cols j c, get_or ws j w)
zip_more f cols ws j c w e l =
    sum_of_more f (zip cols ws) j (c, w) (omega (arith, length-zip cols ws))
    ∙ ap (λ z. sum_of f (take j (zip cols ws)) +ℤ f z) (get_or-zip cols ws j (c, w) l (omega arith))

-- a pair at the end
pub zip_push : (cols : List Column) (ws : List ℤ) (d : Column) (w : ℤ) → length ws < length cols
    → zip cols (ws ++ w ∷ []) ≡ zip cols ws ++ (get_or cols (length ws) d, w) ∷ []
zip_push [] ws d w l = absurd (omega arith)
zip_push (c ∷ cols) [] d w l = by cols
  where
    by : (cs : List Column) → zip (c ∷ cs) (w ∷ []) ≡ (c, w) ∷ []
    by [] = refl
    by (x ∷ xs) = refl
zip_push (c ∷ cols) (v ∷ ws) d w l = ap (λ zs. (c, v) ∷ zs) (zip_push cols ws d w (omega arith))

-- ---- sums by key

-- what is added at a key, in a list of wrapped sums
pub scatter : (now : List ℤ) (key : ℕ) (x r : ℤ) (i : ℕ) (t : ℤ) → key < length now → r ≡ int_wrap w128 (get_or now key (pos 0) +ℤ x)
    → get_or now i (pos 0) ≡ int_wrap w128 t
    → get_or (set now key r) i (pos 0) ≡ int_wrap w128 (t +ℤ (if key == i then x else pos 0))
scatter now key x r i t l e f = ⊎_elim
    (λ same.
    subst (λ k. get_or (set now key r) k (pos 0) ≡ int_wrap w128 (t +ℤ (if key == k then x else pos 0))) same.1
    (get_or-set_same now key r (pos 0) l
    ∙ wrap_more (get_or now key (pos 0)) t x r (subst (λ k. get_or now k (pos 0) ≡ int_wrap w128 t) (sym same.1) f) e
    ∙ ap (λ z. int_wrap w128 (t +ℤ z)) (sym (if_same key key x (pos 0) refl))))
    (λ other.
    let apart : i ≢ key = λ q. other.1 (sym q) in
    let none : t ≡ t +ℤ pos 0 = omega (arith, ints) in
    get_or-set_other now key i r (pos 0) apart
    ∙ f
    ∙ ap (λ z. int_wrap w128 z) (none ∙ ap (λ z. t +ℤ z) (sym (if_other key i x (pos 0) other.1))))
    (eqb_tells key i)

-- one activity more, times a weight
pub act_more : (acts : List (ℕ × ℤ)) (j : ℕ) (d : ℕ × ℤ) (i : ℕ) (t w : ℤ) → j < length acts
    → (t +ℤ sum_at (λ (e : ℕ × ℤ). e.0) (λ (e : ℕ × ℤ). e.1) (take j acts) i *ℤ w) +ℤ (if (get_or acts j d).0 == i then (get_or acts j d).1 *ℤ w else pos 0)
    ≡ t +ℤ sum_at (λ (e : ℕ × ℤ). e.0) (λ (e : ℕ × ℤ). e.1) (take (j + 1) acts) i *ℤ w
act_more acts j d i t w l =
    let e : ℕ × ℤ = get_or acts j d in
    let s : ℤ = sum_at (λ (e : ℕ × ℤ). e.0) (λ (e : ℕ × ℤ). e.1) (take j acts) i in
    by t s (if e.0 == i then e.1 else pos 0) (if e.0 == i then e.1 *ℤ w else pos 0) (pull (e.0 == i))
    ∙ ap (λ z. t +ℤ z *ℤ w) (sym (sum_of_more (λ (e : ℕ × ℤ). if e.0 == i then e.1 else pos 0) acts j d l))
  where
    pull : (b : Bool) → (if b then (get_or acts j d).1 *ℤ w else pos 0) ≡ (if b then (get_or acts j d).1 else pos 0) *ℤ w
    pull true = refl
    pull false = sym (zero-*ℤ w)

    by : (t s x y : ℤ) → y ≡ x *ℤ w → (t +ℤ s *ℤ w) +ℤ y ≡ t +ℤ (s +ℤ x) *ℤ w
    by t s x y e = omega (arith, ints, e, add-mul s x w)

-- ---- reads of lists

-- a place that is there needs no default
pub any_default : {A : Type 0} (xs : List A) (i : ℕ) (d e : A) → i < length xs → get_or xs i d ≡ get_or xs i e
any_default [] i d e l = absurd (omega arith)
any_default (x ∷ xs) zero d e l = refl
any_default (x ∷ xs) (suc i) d e l = any_default xs i d e (omega arith)

-- a list that was lent whole and came back
pub spliced : {A : Type 0} (n : ℕ) (xs ys : List A) → length xs ≡ n → take n (xs ++ ys) ≡ xs
spliced n xs ys e = take-append-le n xs ys (omega (arith, e)) ∙ take_all n xs (omega (arith, e))

-- ---- weights within the room of their classes

-- one weight more
pub room_step : (cols : List Column) (ws : List ℤ) (room : List ℕ) (j : ℕ) (d : Column) (left weight k : ℕ) → length ws ≡ j → j < length cols
    → (get_or cols j d).class < length room → left ≡ get_or room (get_or cols j d).class 0 → weight ≤ left
    → class_weight (zip cols ws) k +ℤ pos (get_or room k 0) ≡ pos (2 ^ 33)
    → class_weight (zip cols (ws ++ pos weight ∷ [])) k +ℤ pos (get_or (set room (get_or cols j d).class (left - weight)) k 0) ≡ pos (2 ^ 33)
room_step cols ws room j d left weight k many l there is fits h =
    let class : ℕ = (get_or cols j d).class in
    let pushed : class_weight (zip cols (ws ++ pos weight ∷ [])) k ≡ class_weight (zip cols ws) k +ℤ ((if class == k then pos weight else pos 0) +ℤ pos 0) =
    ap (λ zs. class_weight zs k) (zip_push cols ws d (pos weight) (omega (arith, many, l)) ∙ ap (λ i. zip cols ws ++ (get_or cols i d, pos weight) ∷ []) many)
    ∙ sum_of-append (λ (e : Column × ℤ). if e.0.class == k then e.1 else pos 0) (zip cols ws) ((get_or cols j d, pos weight) ∷ []) in
    ⊎_elim
    (λ same.
    let value : get_or (set room class (left - weight)) k 0 ≡ left - weight =
    subst (λ i. get_or (set room class (left - weight)) i 0 ≡ left - weight) same.1 (get_or-set_same room class (left - weight) 0 there) in
    let had : left ≡ get_or room k 0 = subst (λ i. left ≡ get_or room i 0) same.1 is in
    omega (arith, ints, pushed, if_same class k (pos weight) (pos 0) same.1, value, had, h, fits))
    (λ other.
    let apart : k ≢ class = λ q. other.1 (sym q) in
    omega (arith, ints, pushed, if_other class k (pos weight) (pos 0) other.1, get_or-set_other room class k (left - weight) 0 apart, h))
    (eqb_tells class k)

-- no room grows
pub room_low : (room : List ℕ) (class left weight k : ℕ) → class < length room → left ≡ get_or room class 0
    → get_or room class 0 ≤ 2 ^ 33 → get_or room k 0 ≤ 2 ^ 33 → get_or (set room class (left - weight)) k 0 ≤ 2 ^ 33
room_low room class left weight k there is low h = ⊎_elim
    (λ same.
    let value : get_or (set room class (left - weight)) k 0 ≡ left - weight =
    subst (λ i. get_or (set room class (left - weight)) i 0 ≡ left - weight) same.1 (get_or-set_same room class (left - weight) 0 there) in
    omega (arith, value, is, low))
    (λ other.
    let apart : k ≢ class = λ q. other.1 (sym q) in
    omega (arith, get_or-set_other room class k (left - weight) 0 apart, h))
    (eqb_tells class k)

-- no weights yet
pub no_weights : (cols : List Column) (k : ℕ) → class_weight (zip cols []) k ≡ pos 0
no_weights [] k = refl
no_weights (c ∷ cols) k = refl
