-- The first line that is too deep, over lines that follow one another.
use Rattle.std.proofs.Common.{◌≡◌, ℕ, zero, suc, ◌+◌, ◌-◌, ◌<◌, ◌≤◌, List, [], ◌∷◌, ◌++◌, length, get_or, Option, Some, None, ⊎_elim, sym, subst, refl, arith, add-zero}
use Rattle.std.proofs.lemmas.Bool.{cases_lt}
use Rattle.std.proofs.lemmas.List.{get_or_append_left, get_or-append-add, get_or-append_right, length-append}
use Rattle.bp_theory.specs.Limits.{greatest_depth}
use Rattle.bp_theory.specs.declared.Limits.{Limits}
use Rattle.tree_load.specs.Rooms.{IsFirstDeep, FindsDeep, FindsBehind}

-- no number stands behind a list's end
pub past : (xs : List ℕ) (k : ℕ) → length xs ≤ k → get_or xs k 0 ≡ 0
past [] k l = refl
past (x ∷ xs) zero l = absurd (omega (arith, l))
past (x ∷ xs) (suc k) l = past xs k (omega (arith, l))

-- the numbers of two lists
pub both_low : (limits : Limits) (xs ys : List ℕ) → ((k : ℕ) → get_or xs k 0 ≤ greatest_depth limits) → ((k : ℕ) → get_or ys k 0 ≤ greatest_depth limits) → (k : ℕ) → get_or (xs ++ ys) k 0 ≤ greatest_depth limits
both_low limits xs ys one two k = ⊎_elim
    (λ l. let same : get_or (xs ++ ys) k 0 ≡ get_or xs k 0 = get_or_append_left xs ys 0 k l in let low : get_or xs k 0 ≤ greatest_depth limits = one k in omega (arith, same, low))
    (λ m. let same : get_or (xs ++ ys) k 0 ≡ get_or ys (k - length xs) 0 = get_or-append_right xs ys (length xs) k 0 refl m in
    let low : get_or ys (k - length xs) 0 ≤ greatest_depth limits = two (k - length xs) in omega (arith, same, low))
    (cases_lt k (length xs))

-- the first of a list stays first where a list follows
first_stays : (limits : Limits) (xs ys : List ℕ) (first line : ℕ) → IsFirstDeep limits xs first line → IsFirstDeep limits (xs ++ ys) first line
first_stays limits xs ys first line h =
    let same : get_or (xs ++ ys) h.place 0 ≡ get_or xs h.place 0 = get_or_append_left xs ys 0 h.place h.there in
    let deep : greatest_depth limits < get_or xs h.place 0 = h.deep in
    record {
      place = h.place;
      there = omega (arith, length-append xs ys, h.there);
      deep = omega (arith, same, deep);
      earlier = λ k l.
          let same : get_or (xs ++ ys) k 0 ≡ get_or xs k 0 = get_or_append_left xs ys 0 k (omega (arith, l, h.there)) in
          let low : get_or xs k 0 ≤ greatest_depth limits = h.earlier k l in omega (arith, same, low);
      numbered = h.numbered;
    }

-- the first of a list behind one that has none
first_behind : (limits : Limits) (xs ys : List ℕ) (first next line : ℕ) → ((k : ℕ) → get_or xs k 0 ≤ greatest_depth limits) → next ≡ first + length xs → IsFirstDeep limits ys next line → IsFirstDeep limits (xs ++ ys) first line
first_behind limits xs ys first next line none is h =
    let same : get_or (xs ++ ys) (length xs + h.place) 0 ≡ get_or ys h.place 0 = get_or-append-add xs ys h.place 0 in
    let deep : greatest_depth limits < get_or ys h.place 0 = h.deep in
    record {
      place = length xs + h.place;
      there = omega (arith, length-append xs ys, h.there);
      deep = omega (arith, same, deep);
      earlier = λ k l. earlier_by k l;
      numbered = omega (arith, h.numbered, is);
    }
  where
    earlier_by : (k : ℕ) → k < length xs + h.place → get_or (xs ++ ys) k 0 ≤ greatest_depth limits
    earlier_by k l = ⊎_elim
        (λ m. let same : get_or (xs ++ ys) k 0 ≡ get_or xs k 0 = get_or_append_left xs ys 0 k m in let low : get_or xs k 0 ≤ greatest_depth limits = none k in omega (arith, same, low))
        (λ m. let same : get_or (xs ++ ys) k 0 ≡ get_or ys (k - length xs) 0 = get_or-append_right xs ys (length xs) k 0 refl m in
        let low : get_or ys (k - length xs) 0 ≤ greatest_depth limits = h.earlier (k - length xs) (omega (arith, l, m)) in omega (arith, same, low))
        (cases_lt k (length xs))

-- what is found of two lists is what is found of the second behind what was found of the first
finds_new : (limits : Limits) (xs ys : List ℕ) (first next : ℕ) (middle now : Option ℕ) → FindsDeep limits xs first middle → next ≡ first + length xs → FindsBehind limits middle ys next now
    → FindsDeep limits (xs ++ ys) first now
finds_new limits xs ys first next None None one is two = both_low limits xs ys one two
finds_new limits xs ys first next None (Some line) one is two = first_behind limits xs ys first next line one is two
finds_new limits xs ys first next (Some line) now one is two = subst (FindsDeep limits (xs ++ ys) first) (sym two) (first_stays limits xs ys first line one)

pub finds_both : (limits : Limits) (xs ys : List ℕ) (first next : ℕ) (old middle now : Option ℕ) → FindsBehind limits old xs first middle → next ≡ first + length xs → FindsBehind limits middle ys next now
    → FindsBehind limits old (xs ++ ys) first now
finds_both limits xs ys first next None middle now one is two = finds_new limits xs ys first next middle now one is two
finds_both limits xs ys first next (Some line) middle now one is two = subst (λ (o : Option ℕ). FindsBehind limits o ys next now) one two

-- a node that needs no room
pub finds_none : (limits : Limits) (first : ℕ) (old : Option ℕ) → FindsBehind limits old (0 ∷ []) first old
finds_none limits first None = λ k. none k
  where
    none : (k : ℕ) → get_or (0 ∷ []) k 0 ≤ greatest_depth limits
    none zero = omega arith
    none (suc k) = omega arith
finds_none limits first (Some line) = refl

-- one room that is low enough, or not
pub finds_low : (limits : Limits) (room first : ℕ) → room ≤ greatest_depth limits → FindsDeep limits (room ∷ []) first None
finds_low limits room first low = λ k. by k
  where
    by : (k : ℕ) → get_or (room ∷ []) k 0 ≤ greatest_depth limits
    by zero = low
    by (suc k) = omega arith

pub finds_deep : (limits : Limits) (room first : ℕ) → greatest_depth limits < room → FindsDeep limits (room ∷ []) first (Some first)
finds_deep limits room first deep = record {
  place = 0;
  there = omega arith;
  deep = deep;
  earlier = λ k l. absurd (omega (arith, l));
  numbered = sym (add-zero first);
}

-- all is low where nothing is found
pub all_low : (limits : Limits) (xs : List ℕ) (first : ℕ) → FindsDeep limits xs first None → (k : ℕ) → get_or xs k 0 ≤ greatest_depth limits
all_low limits xs first h = h
