-- Laws of the pass in 64 bits.
use Rattle.std.proofs.Common.{◌≡◌, refl, sym, ap, subst, ◌∙◌, ℕ, ◌+◌, ◌*◌, ◌^◌, ◌<◌, ◌≤◌, Bool, true, false, List, length, set, arith, inl, inr, ⊎_elim}
use Rattle.std.proofs.Math.IntN.{ℤ, pos, ◌+ℤ◌, ◌*ℤ◌}
use Rattle.std.proofs.Math.Nat.{mul-le-mul_left}
use Rattle.std.specs.Prelude.{◌≤ℤ◌, ◌<ℤ◌, ◌⊎◌, unsigned_abs, FitsSigned, if◌then◌else◌, int_lt}
use Rattle.std.specs.Int.{w64, int_min}
use Rattle.std.proofs.lemmas.Int.{ints, clamps, by_lt_z, fits_signed_from_abs}
use Rattle.std.proofs.lemmas.Bool.{cases_eq, cases_lt}
use Rattle.std.proofs.lemmas.List.{get_or-map, length-map, map-set, set-get_or, length-set, get_or-set_same, get_or-set_other}
use Rattle.bp_theory.specs.Program.{reach}
use Rattle.bp_theory.specs.declared.Span.{Span}
use Rattle.pricing_problem.proofs.EndLaws.{number-le_reach, product-within}
use Rattle.layer_graph.specs.Graphs.{arc_at}
use Rattle.shortest_path.specs.Best.{no_way, cell_at, pick_at, IsOpen, chosen_number, IsBest}
use Rattle.shortest_path.specs.Short.{far, closed, widened_cell, widened, AreCells, IsReady, IsOwn, IsTotal}
use Rattle.layer_graph.specs.declared.graph.Arc.{Arc}
use Rattle.shortest_path.proofs.BestLaws.{chosen_within, best_unusable, best_tried}

is_less : (a b : ℤ) → int_lt a b ≡ true → a <ℤ b
is_less a b e = grind (arith, ints)

is_more : (a b : ℤ) → int_lt a b ≡ false → b ≤ℤ a
is_more a b e = grind (arith, ints)

both_ways : (a b : ℤ) → a <ℤ b → b ≤ℤ a → ⊥
both_ways a b h k = omega (arith, ints)

less_through : (a b c : ℤ) → a <ℤ b → b ≤ℤ c → a <ℤ c
less_through a b c p q = omega (arith, ints)

le_less : (a b c : ℤ) → a ≤ℤ b → b <ℤ c → a <ℤ c
le_less a b c p q = omega (arith, ints)

-- a cell of a way says its cost
pub near_kept : (c : ℤ) → c <ℤ far → widened_cell c ≡ c
near_kept c h = by (int_lt c far) refl
  where
    by : (t : Bool) → int_lt c far ≡ t → (if t then c else no_way) ≡ c
    by true e = refl
    by false e = absurd (both_ways c far h (is_more c far e))

-- a cell that is no less than that of no way says that there is none
pub far_none : (c : ℤ) → far ≤ℤ c → widened_cell c ≡ no_way
far_none c h = by (int_lt c far) refl
  where
    by : (t : Bool) → int_lt c far ≡ t → (if t then c else no_way) ≡ no_way
    by true e = absurd (both_ways c far (is_less c far e) h)
    by false e = refl

pub widened_at : (cells : List ℤ) (node : ℕ) → node < length cells → cell_at (widened cells) node ≡ widened_cell (cell_at cells node)
widened_at cells node l = get_or-map widened_cell cells node (pos 0) (pos 0) l

pub length-widened : (cells : List ℤ) → length (widened cells) ≡ length cells
length-widened cells = length-map cells widened_cell

-- a cell less than that of no way is that of a way
pub has_way_at : (cells : List ℤ) (node : ℕ) → node < length cells → cell_at cells node <ℤ far → cell_at (widened cells) node <ℤ no_way
has_way_at cells node l h = subst (λ z. z <ℤ no_way) (sym (widened_at cells node l ∙ near_kept (cell_at cells node) h)) (small (cell_at cells node) h)
  where
    small : (a : ℤ) → a <ℤ far → a <ℤ no_way
    small a h = omega (arith, ints)

pub no_way_at : (cells : List ℤ) (node : ℕ) → node < length cells → far ≤ℤ cell_at cells node → cell_at (widened cells) node <ℤ no_way → ⊥
no_way_at cells node l h way = not_below (cell_at (widened cells) node) (widened_at cells node l ∙ far_none (cell_at cells node) h) way
  where
    not_below : (a : ℤ) → a ≡ no_way → a <ℤ no_way → ⊥
    not_below a e l = omega (arith, ints)

-- a cost is short where its product with a reach is
pub cost_short : (cost : ℤ) (span : Span) → unsigned_abs cost * reach span ≤ 2 ^ 60 → unsigned_abs cost ≤ 2 ^ 60
cost_short cost span h = omega (arith, h, mul-le-mul_left (unsigned_abs cost) (one span))
  where
    one : (s : Span) → 1 ≤ reach s
    one s = omega arith

-- what is not less is no less
pub not_less : (a b : ℤ) → (a <ℤ b → ⊥) → b ≤ℤ a
not_less a b h = by_lt_z a b (λ low. absurd (h low)) (λ high. high)

-- a short product
pub short_product : (label span : Span) (cost : ℤ) → IsOpen label span → unsigned_abs cost * reach span ≤ 2 ^ 60 → unsigned_abs (cost *ℤ chosen_number label span cost) ≤ 2 ^ 60
short_product label span cost h small =
    omega (arith, small, product-within cost (chosen_number label span cost) span (number-le_reach span (chosen_number label span cost) (chosen_within label span cost h).1))

pub short_fits : (a : ℤ) → unsigned_abs a ≤ 2 ^ 60 → FitsSigned w64 a
short_fits a h = fits_signed_from_abs w64 a (omega (arith, h))

-- the cost by a label is short or closed
abbrev IsOwnSmall : ℤ → Type 0
IsOwnSmall v = (unsigned_abs v ≤ 2 ^ 60) ⊎ (v ≡ closed)

own_small : (label span : Span) (cost v : ℤ) → unsigned_abs cost * reach span ≤ 2 ^ 60 → IsOwn label span cost v → IsOwnSmall v
own_small label span cost v small (inl (meets, value)) = inl (subst (λ z. unsigned_abs z ≤ 2 ^ 60) (sym value) (short_product label span cost meets small))
own_small label span cost v small (inr (none, value)) = inr value

-- the sum of a cell of a way and the cost by a label fits
pub sum_fits : (label span : Span) (cost rest own : ℤ) → unsigned_abs cost * reach span ≤ 2 ^ 60 → unsigned_abs rest ≤ 2 ^ 60 → IsOwn label span cost own → FitsSigned w64 (rest +ℤ own)
sum_fits label span cost rest own small short is = by (own_small label span cost own small is)
  where
    by : IsOwnSmall own → FitsSigned w64 (rest +ℤ own)
    by (inl h) = fits_signed_from_abs w64 (rest +ℤ own) (omega (arith, ints, h, short))
    by (inr h) = fits_signed_from_abs w64 (rest +ℤ own) (omega (arith, ints, h, short))

-- a cell of a way is short
pub rest_short : (cell : ℤ) → IsReady cell → cell <ℤ far → unsigned_abs cell ≤ 2 ^ 60
rest_short cell (inl e) h = absurd (both_ways cell far h (same cell e))
  where
    same : (v : ℤ) → v ≡ far → far ≤ℤ v
    same v e = omega (arith, ints)
rest_short cell (inr short) h = short

-- the cost by an arc that leads to a node with a way
pub total_way : (next : List ℤ) (span : Span) (cost : ℤ) (arc : Arc) (own v : ℤ) → arc.to < length next → IsReady (cell_at next arc.to)
    → unsigned_abs cost * reach span ≤ 2 ^ 60 → cell_at next arc.to <ℤ far → IsOwn arc.label span cost own → v ≡ cell_at next arc.to +ℤ own → IsTotal (widened next) span cost arc v
total_way next span cost arc own v there ready small way (inl (meets, value)) is = inl (
  record {
    usable = record { meets = meets; goes_on = has_way_at next arc.to there way };
    value = is ∙ ap (λ z. cell_at next arc.to +ℤ z) value ∙ ap (λ z. z +ℤ cost *ℤ chosen_number arc.label span cost) (sym (widened_at next arc.to there ∙ near_kept (cell_at next arc.to) way));
    small = low (cell_at next arc.to) own v (rest_short (cell_at next arc.to) ready way) own_is is;
  },
  less (cell_at next arc.to) own v (rest_short (cell_at next arc.to) ready way) own_is is,
)
  where
    own_is : unsigned_abs own ≤ 2 ^ 60
    own_is = subst (λ z. unsigned_abs z ≤ 2 ^ 60) (sym value) (short_product arc.label span cost meets small)

    low : (a b v : ℤ) → unsigned_abs a ≤ 2 ^ 60 → unsigned_abs b ≤ 2 ^ 60 → v ≡ a +ℤ b → unsigned_abs v ≤ 2 ^ 124
    low a b v h k e = omega (arith, ints, h, k, e)

    less : (a b v : ℤ) → unsigned_abs a ≤ 2 ^ 60 → unsigned_abs b ≤ 2 ^ 60 → v ≡ a +ℤ b → v <ℤ far
    less a b v h k e = omega (arith, ints, h, k, e)
total_way next span cost arc own v there ready small way (inr (none, value)) is = inr (
  (λ usable. none usable.meets),
  high (cell_at next arc.to) own v (rest_short (cell_at next arc.to) ready way) value is,
)
  where
    high : (a b v : ℤ) → unsigned_abs a ≤ 2 ^ 60 → b ≡ closed → v ≡ a +ℤ b → far ≤ℤ v
    high a b v h k e = omega (arith, ints, h, k, e)

-- and by one that leads to a node without
pub total_none : (next : List ℤ) (span : Span) (cost : ℤ) (arc : Arc) (v : ℤ) → arc.to < length next → far ≤ℤ cell_at next arc.to → v ≡ far → IsTotal (widened next) span cost arc v
total_none next span cost arc v there none is = inr ((λ usable. no_way_at next arc.to there none usable.goes_on), same v is)
  where
    same : (v : ℤ) → v ≡ far → far ≤ℤ v
    same v e = omega (arith, ints)

-- the lesser one of two numbers
min_less : (a b : ℤ) → a <ℤ b → int_min a b ≡ a
min_less a b h = omega (arith, ints, clamps)

min_more : (a b : ℤ) → b ≤ℤ a → int_min a b ≡ b
min_more a b h = omega (arith, ints, clamps)

-- an arc that was tried
pub short_tried : (arcs : List Arc) (next : List ℤ) (span : Span) (cost : ℤ) (place at : ℕ) (total : ℤ) (cells : List ℤ) (picks : List ℕ)
    → at < length cells → at < length picks → (arc_at arcs place).from ≡ at → cell_at cells at ≤ℤ far → IsTotal next span cost (arc_at arcs place) total
    → (node : ℕ) → IsBest arcs next span cost place node (cell_at (widened cells) node) (pick_at picks node)
    → IsBest arcs next span cost (place + 1) node (cell_at (widened (set cells at (int_min total (cell_at cells at)))) node)
    (pick_at (set picks at (if int_lt total (cell_at cells at) then place else pick_at picks at)) node)
short_tried arcs next span cost place at total cells picks there there_too from near is node b = by (int_lt total (cell_at cells at)) refl
  where
    there_wide : at < length (widened cells)
    there_wide = subst (λ n. at < n) (sym (length-widened cells)) there

    taken : total <ℤ cell_at cells at → IsTotal next span cost (arc_at arcs place) total → IsBest arcs next span cost (place + 1) node (cell_at (widened (set cells at total)) node) (pick_at (set picks at place) node)
    taken less (inr (none, high)) = absurd (both_ways total far (less_through total (cell_at cells at) far less near) high)
    taken less (inl (cost_is, low)) =
        best_tried arcs next span cost place at total (widened cells) (widened (set cells at total)) picks (set picks at place) there_wide there_too from cost_is
        (inr (
          map-set widened_cell cells at total ∙ ap (λ z. set (widened cells) at z) (near_kept total low),
          refl,
          wide_above (cell_at cells at) (cell_at (widened cells) at) (widened_at cells at there) less,
        )) node b
      where
        above : (c w : ℤ) → total <ℤ c → (w ≡ c) ⊎ (w ≡ no_way) → total <ℤ far → total ≤ℤ w
        above c w h (inl e) l = omega (arith, ints, h, e)
        above c w h (inr e) l = omega (arith, ints, e, l)

        says : (c : ℤ) → (widened_cell c ≡ c) ⊎ (widened_cell c ≡ no_way)
        says c = said (int_lt c far)
          where
            said : (t : Bool) → ((if t then c else no_way) ≡ c) ⊎ ((if t then c else no_way) ≡ no_way)
            said true = inl refl
            said false = inr refl

        wide_above : (c w : ℤ) → w ≡ widened_cell c → total <ℤ c → total ≤ℤ w
        wide_above c w e h = above c w h (⊎_elim (λ x. inl (e ∙ x)) (λ x. inr (e ∙ x)) (says c)) low

    stays : cell_at cells at ≤ℤ total → IsTotal next span cost (arc_at arcs place) total → IsBest arcs next span cost (place + 1) node (cell_at (widened cells) node) (pick_at picks node)
    stays more (inr (none, high)) = best_unusable arcs next span cost place node (cell_at (widened cells) node) (pick_at picks node) none b
    stays more (inl (cost_is, low)) =
        best_tried arcs next span cost place at total (widened cells) (widened cells) picks picks there_wide there_too from cost_is
        (inl (refl, refl, subst (λ z. z ≤ℤ total) (sym (widened_at cells at there ∙ near_kept (cell_at cells at) (le_less (cell_at cells at) total far more low))) more)) node b

    by : (t : Bool) → int_lt total (cell_at cells at) ≡ t
        → IsBest arcs next span cost (place + 1) node (cell_at (widened (set cells at (int_min total (cell_at cells at)))) node) (pick_at (set picks at (if int_lt total (cell_at cells at) then place else pick_at picks at)) node)
    by true e =
        subst (λ (cs : List ℤ). IsBest arcs next span cost (place + 1) node (cell_at (widened cs) node) (pick_at (set picks at (if int_lt total (cell_at cells at) then place else pick_at picks at)) node))
        (sym (ap (λ z. set cells at z) (min_less total (cell_at cells at) (is_less total (cell_at cells at) e))))
        (subst (λ (ps : List ℕ). IsBest arcs next span cost (place + 1) node (cell_at (widened (set cells at total)) node) (pick_at ps node)) (sym (ap (λ (u : Bool). set picks at (if u then place else pick_at picks at)) e))
        (taken (is_less total (cell_at cells at) e) is))
    by false e =
        subst (λ (cs : List ℤ). IsBest arcs next span cost (place + 1) node (cell_at (widened cs) node) (pick_at (set picks at (if int_lt total (cell_at cells at) then place else pick_at picks at)) node))
        (sym (ap (λ z. set cells at z) (min_more total (cell_at cells at) (is_more total (cell_at cells at) e)) ∙ set-get_or cells at (pos 0)))
        (subst (λ (ps : List ℕ). IsBest arcs next span cost (place + 1) node (cell_at (widened cells) node) (pick_at ps node)) (sym (ap (λ (u : Bool). set picks at (if u then place else pick_at picks at)) e ∙ set-get_or picks at 0))
        (stays (is_more total (cell_at cells at) e) is))

-- cells that were written
pub none_at : (cells : List ℤ) (k : ℕ) → k < length cells → cell_at cells k ≡ far → cell_at (widened cells) k ≡ no_way
none_at cells k l e = widened_at cells k l ∙ ap (λ z. widened_cell z) e ∙ far_none far (omega (arith, ints))

pub zero_at : (cells : List ℤ) (k : ℕ) → k < length cells → cell_at cells k ≡ pos 0 → cell_at (widened cells) k ≡ pos 0
zero_at cells k l e = widened_at cells k l ∙ ap (λ z. widened_cell z) e ∙ near_kept (pos 0) (omega (arith, ints))

-- a cell that was written
pub cells_set : (wide node : ℕ) (cells : List ℤ) (v : ℤ) → AreCells wide cells → node < wide → v ≤ℤ far → AreCells wide (set cells node v)
cells_set wide node cells v h there low = record {
  each = length-set cells node v ∙ h.each;
  near = λ k l. ⊎_elim
      (λ e. subst (λ z. z ≤ℤ far) (sym (ap (λ n. cell_at (set cells node v) n) e ∙ get_or-set_same cells node v (pos 0) (omega (arith, there, h.each)))) low)
      (λ n. subst (λ z. z ≤ℤ far) (sym (get_or-set_other cells node k v (pos 0) n)) (h.near k (omega (arith, l, length-set cells node v))))
      (cases_eq k node);
  dead = get_or-set_other cells node wide v (pos 0) (λ e. omega (arith, e, there)) ∙ h.dead;
}

-- with one more of no way
pub far_more : (wide node : ℕ) (cells : List ℤ) → AreCells wide cells → node < wide → ((k : ℕ) → k < node → cell_at cells k ≡ far)
    → (k : ℕ) → k < node + 1 → cell_at (set cells node far) k ≡ far
far_more wide node cells h there had k l = ⊎_elim
    (λ e. ap (λ n. cell_at (set cells node far) n) e ∙ get_or-set_same cells node far (pos 0) (omega (arith, there, h.each)))
    (λ n. get_or-set_other cells node k far (pos 0) n ∙ had k (less k node l n))
    (cases_eq k node)
  where
    less : (i k : ℕ) → i < k + 1 → (i ≡ k → ⊥) → i < k
    less i k l n = ⊎_elim (λ a. a) (λ b. absurd (n (omega (arith, l, b)))) (cases_lt i k)

-- with one more of no cost
pub zero_more : (wide node : ℕ) (cells : List ℤ) → AreCells wide cells → node < wide → ((k : ℕ) → k < node → cell_at (widened cells) k ≡ pos 0)
    → (k : ℕ) → k < node + 1 → cell_at (widened (set cells node (pos 0))) k ≡ pos 0
zero_more wide node cells h there had k l = zero_at (set cells node (pos 0)) k (omega (arith, l, there, h.each, length-set cells node (pos 0)))
    (⊎_elim
    (λ e. ap (λ n. cell_at (set cells node (pos 0)) n) e ∙ get_or-set_same cells node (pos 0) (pos 0) (omega (arith, there, h.each)))
    (λ n. get_or-set_other cells node k (pos 0) (pos 0) n ∙ raw (cell_at cells k) (sym (widened_at cells k (omega (arith, l, there, h.each))) ∙ had k (less k node l n)))
    (cases_eq k node))
  where
    less : (i k : ℕ) → i < k + 1 → (i ≡ k → ⊥) → i < k
    less i k l n = ⊎_elim (λ a. a) (λ b. absurd (n (omega (arith, l, b)))) (cases_lt i k)

    raw : (c : ℤ) → widened_cell c ≡ pos 0 → c ≡ pos 0
    raw c e = by (int_lt c far) refl
      where
        not_none : no_way ≡ pos 0 → ⊥
        not_none e = omega (arith, ints, e)

        by : (t : Bool) → int_lt c far ≡ t → c ≡ pos 0
        by true q = sym (near_kept c (is_less c far q)) ∙ e
        by false q = absurd (not_none (sym (far_none c (is_more c far q)) ∙ e))

-- the lesser one of a number and a cell is no greater than that of no way
pub lesser_low : (v cell : ℤ) → cell ≤ℤ far → int_min v cell ≤ℤ far
lesser_low v cell h = omega (arith, ints, clamps, h)
