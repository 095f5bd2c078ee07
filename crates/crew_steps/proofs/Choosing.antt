-- What all that workers may do is made of.
use Rattle.std.proofs.Common.{◌≡◌, refl, sym, ap, ◌∙◌, ℕ, suc, ◌+◌, ◌-◌, ◌<◌, ◌≤◌, nat_lt, Bool, true, false, List, [], ◌∷◌, length, map, Option, Some, None, arith}
use Rattle.std.specs.Prelude.{is_some, count_by, option_map}
use Rattle.std.proofs.lemmas.List.{length-map}
use Rattle.search_laws.specs.Grove.{live_count}
use Rattle.search_laws.specs.Crew.{free_count}
use Rattle.crew_steps.specs.declared.hand.Hand.{Hand}
use Rattle.crew_steps.specs.Hands.{holding_of}
use Rattle.crew_steps.specs.States.{CrewState, crew_of, IsSomeCrew}
use Rattle.crew_steps.specs.Draws.{choices_in, holder_count, choices_from}
use Rattle.crew_steps.proofs.Events.{held_and_free}
use Rattle.crew_steps.proofs.HandLemmas.{count-first}

-- ---- who holds a leaf

pub count_holders : {X : Type 0} (xs : List (Option X)) → holder_count (map is_some xs) ≡ count_by is_some xs
count_holders [] = refl
count_holders (None ∷ xs) = omega (arith, count_holders xs, count-first None xs)
count_holders (Some x ∷ xs) = omega (arith, count_holders xs, count-first (Some x) xs)

-- the same under the laws' view
pub holds_same : (hands : List (Option Hand)) → map is_some (map (option_map holding_of) hands) ≡ map is_some hands
holds_same [] = refl
holds_same (None ∷ hands) = ap (λ (hs : List Bool). false ∷ hs) (holds_same hands)
holds_same (Some hand ∷ hands) = ap (λ (hs : List Bool). true ∷ hs) (holds_same hands)

pub less_by_test : (a b : ℕ) → nat_lt a b ≡ true → a < b
less_by_test a b e = grind arith

pub test_by_less : (a b : ℕ) → a < b → nat_lt a b ≡ true
test_by_less a b h = grind arith

pub all_there : (s : CrewState) → length (map is_some (crew_of s).held) ≡ length s.hands
all_there s = length-map (crew_of s).held is_some ∙ length-map s.hands (option_map holding_of)

-- ---- what workers may do

-- something is possible where there is a worker and a leaf is live
some_choice : (first : ℕ) (holds : List Bool) (t d : Bool) → 0 < length holds → (holder_count holds ≡ 0 → t ≡ true) → 0 < length (choices_from first holds t d)
some_choice first [] t d some free = absurd (omega (arith, some))
some_choice first (true ∷ holds) t false some free = omega arith
some_choice first (true ∷ holds) t true some free = omega arith
some_choice first (false ∷ holds) true d some free = omega arith
some_choice first (false ∷ []) false d some free = absurd (let wrong : false ≡ true = free refl in cc)
some_choice first (false ∷ h ∷ holds) false d some free = some_choice (suc first) (h ∷ holds) false d (omega arith) free

pub drawn_some : (s : CrewState) (drops : ℕ) → 1 ≤ length s.hands → 0 < live_count s.grove.tree → 0 < length (choices_in drops s)
drawn_some s drops workers some =
    some_choice 0 (map is_some (crew_of s).held) _ _ (omega (arith, workers, all_there s))
    (λ none. test_by_less (holder_count (map is_some (crew_of s).held)) (live_count s.grove.tree) (omega (arith, none, some)))

not_less_by_test : (a b : ℕ) → nat_lt a b ≡ false → b ≤ a
not_less_by_test a b e = grind arith

same_test : (a l f : ℕ) → f + a ≡ l → nat_lt 0 f ≡ nat_lt a l
same_test a l f is = by (nat_lt 0 f) refl
  where
    by : (t : Bool) → nat_lt 0 f ≡ t → t ≡ nat_lt a l
    by true e = sym (test_by_less a l (omega (arith, is, less_by_test 0 f e)))
    by false e = other (nat_lt a l) refl
      where
        other : (t : Bool) → nat_lt a l ≡ t → false ≡ t
        other false k = refl
        other true k = absurd (omega (arith, is, not_less_by_test 0 f e, less_by_test a l k))

pub choices_are : (s : CrewState) (holds : List Bool) (drops free len : ℕ) → IsSomeCrew s → holds ≡ map is_some s.hands → free ≡ free_count (crew_of s)
    → len ≡ length s.hands → choices_from 0 holds (nat_lt 0 free) (nat_lt drops len) ≡ choices_in drops s
choices_are s holds drops free len some is free_is len_is =
    ap (λ (hs : List Bool). choices_from 0 hs (nat_lt 0 free) (nat_lt drops len)) (is ∙ sym (holds_same s.hands))
    ∙ ap (λ t. choices_from 0 (map is_some (crew_of s).held) t (nat_lt drops len))
    (same_test (holder_count (map is_some (crew_of s).held)) (live_count s.grove.tree) free
    (omega (arith, free_is, held_and_free s some, ap holder_count (holds_same s.hands), count_holders s.hands)))
    ∙ ap (λ n. choices_from 0 (map is_some (crew_of s).held) (nat_lt (holder_count (map is_some (crew_of s).held)) (live_count s.grove.tree)) (nat_lt drops n))
    (len_is ∙ sym (all_there s))
