-- What the draws of one more job are, from the state behind those before it.
use Rattle.std.proofs.Common.{take, drop, ◌<◌, ◌≤◌, get_or, ◌≡◌, ℕ, suc, ◌+◌, ◌*◌, ◌/◌, ◌%◌, ◌^◌, List, [], ◌∷◌, ◌++◌, map, refl, sym, ◌∙◌, ap, arith, add-one}
use Rattle.std.specs.List.{range_with_len}
use Rattle.std.proofs.lemmas.List.FromFn.{map-range_with_len_more, length-map-range_with_len, get_or-map-range_with_len}
use Rattle.std.proofs.lemmas.List.{length-take}
use Rattle.std.proofs.lemmas.List.Elements.{All-take, All-drop}
use Rattle.std.proofs.lemmas.List.Sums.{sum_by-le}
use Rattle.std.specs.Prelude.{All, sum, length}
use Rattle.bp_gen.specs.Generator.{next_state, state_after, draw, weight_at, cost_at}

-- the state behind one more draw
pub one_more : (seed n m : ℕ) → m ≡ n + 1 → state_after seed m ≡ next_state (state_after seed n)
one_more seed n m e = rw (e, add-one) refl

-- what has been drawn for the first jobs
pub record HasDrawn (seed n : ℕ) (weights costs : List ℕ) (state : ℕ) : Type 0 where
  pub weights_are : weights ≡ map (weight_at seed) (range_with_len 0 n)
  pub costs_are : costs ≡ map (cost_at seed) (range_with_len 0 n)
  pub state_is : state ≡ state_after seed (2 * n)

pub draws_more : (seed n : ℕ) (weights costs : List ℕ) (state : ℕ) → HasDrawn seed n weights costs state
    → HasDrawn seed (n + 1) (weights ++ (5 + next_state state / 2 ^ 33 % 21) ∷ []) (costs ++ (10 + next_state (next_state state) / 2 ^ 33 % 41) ∷ []) (next_state (next_state state))
draws_more seed n weights costs state h =
    let first : state_after seed (suc (2 * n)) ≡ next_state state = ap next_state (sym h.state_is) in
    let second : state_after seed (suc (2 * n + 1)) ≡ next_state (next_state state)
    = ap next_state (one_more seed (2 * n) (2 * n + 1) refl ∙ ap next_state (sym h.state_is)) in
    record {
      weights_are = ap (λ (xs : List ℕ). xs ++ (5 + next_state state / 2 ^ 33 % 21) ∷ []) h.weights_are
          ∙ ap (λ z. map (weight_at seed) (range_with_len 0 n) ++ (5 + z / 2 ^ 33 % 21) ∷ []) (sym first)
          ∙ sym (map-range_with_len_more (weight_at seed) 0 n n (omega arith));
      costs_are = ap (λ (xs : List ℕ). xs ++ (10 + next_state (next_state state) / 2 ^ 33 % 41) ∷ []) h.costs_are
          ∙ ap (λ z. map (cost_at seed) (range_with_len 0 n) ++ (10 + z / 2 ^ 33 % 41) ∷ []) (sym second)
          ∙ sym (map-range_with_len_more (cost_at seed) 0 n n (omega arith));
      state_is = sym second ∙ sym (one_more seed (2 * n + 1) (2 * (n + 1)) (omega arith));
    }

-- the same of what a step of the loop has
pub drawn_by : (seed n : ℕ) (weights costs more_weights more_costs : List ℕ) (state first second : ℕ) → HasDrawn seed n weights costs state
    → first ≡ next_state state → second ≡ next_state first
    → more_weights ≡ weights ++ (5 + first / 8589934592 % 21) ∷ [] → more_costs ≡ costs ++ (10 + second / 8589934592 % 41) ∷ []
    → HasDrawn seed (n + 1) more_weights more_costs second
drawn_by seed n weights costs more_weights more_costs state first second h f s w c =
    rw (w, c, s, f) (draws_more seed n weights costs state h)

-- what is drawn has its length, and no weight is above 25
pub drawn_length : (f : ℕ → ℕ) (n : ℕ) (xs : List ℕ) → xs ≡ map f (range_with_len 0 n) → length xs ≡ n
drawn_length f n xs e = ap length e ∙ length-map-range_with_len f 0 n

pub drawn_small : (seed n : ℕ) (xs : List ℕ) → xs ≡ map (weight_at seed) (range_with_len 0 n) → All (λ w. w ≤ 25) xs
drawn_small seed n xs e k d l =
    let within : k < n = omega (arith, l, drawn_length (weight_at seed) n xs e) in
    let here : get_or xs k d ≡ weight_at seed k = ap (λ (ys : List ℕ). get_or ys k d) e ∙ get_or-map-range_with_len (weight_at seed) 0 n k k d within (omega arith) in
    rw here (least (draw seed (2 * k)))
  where
    least : (n : ℕ) → 5 + n % 21 ≤ 25
    least n = omega arith

-- a part of the weights sums to little
pub part_is_small : (ws : List ℕ) (from count : ℕ) → All (λ w. w ≤ 25) ws → count ≤ 1024 → sum (take count (drop from ws)) < 2 ^ 32
part_is_small ws from count small few =
    omega (
      arith,
      few,
      length-take count (drop from ws),
      sum_by-le (λ w. w) 25 (take count (drop from ws)) (All-take (λ w. w ≤ 25) count (drop from ws) (All-drop (λ w. w ≤ 25) from ws small)),
    )
