-- Laws of the pass in 64 bits over layers by pairs.
use Rattle.std.proofs.Common.{◌≡◌, refl, sym, ap, subst, ◌∙◌, ℕ, ◌+◌, ◌-◌, ◌*◌, ◌^◌, ◌<◌, ◌≤◌, Bool, true, false, List, [], ◌∷◌, length, get_or, set, drop, arith, inl, inr, ⊎_elim}
use Rattle.std.proofs.Math.IntN.{ℤ, pos, ◌+ℤ◌, ◌*ℤ◌}
use Rattle.std.specs.Prelude.{◌≤ℤ◌, ◌<ℤ◌, ◌⊎◌, unsigned_abs, FitsSigned, if◌then◌else◌, int_lt, All}
use Rattle.std.specs.Int.{w64, int_min, int_max}
use Rattle.std.proofs.lemmas.Int.{ints, clamps, by_lt_z, fits_signed_from_abs}
use Rattle.std.proofs.lemmas.Bool.{cases_eq, cases_lt}
use Rattle.std.proofs.lemmas.List.{map-set, get_or-set_same, get_or-set_other, get_or_past, drop_all}
use Rattle.bp_theory.specs.Program.{IsWithin, reach}
use Rattle.bp_theory.specs.declared.Span.{Span}
use Rattle.pricing_problem.specs.Form.{cost_size}
use Rattle.layer_graph.specs.Graphs.{arc_at}
use Rattle.shortest_path.specs.Best.{no_way, cell_at, pick_at, IsOpen, chosen_number, IsUsable, cost_by, IsBest, way_of, AreLeast}
use Rattle.shortest_path.specs.Short.{far, closed, shut, most_cost, widened_cell, widened, AreCells, IsReady, AreReady, IsOwn, IsCostOf, IsSum, lesser_cell, lesser_pick}
use Rattle.shortest_path.specs.Pairs.{pair_at, label_of, label_to, arc_to, arcs_from, arcs_with, steps_with, cells_of, IsTarget, IsPairSafe, IsLinked, pairs_at, AreLinked}
use Rattle.layer_graph.specs.declared.graph.Arc.{Arc}
use Rattle.shortest_path.specs.declared.pairs.Pair.{Pair}
use Rattle.shortest_path.proofs.PassLaws.{LeadBelow, leads_way, dot_small, pass_more, end_least}
use Rattle.shortest_path.proofs.ShortLaws.{near_kept, far_none, widened_at, length-widened, has_way_at, no_way_at, short_product}
use Rattle.shortest_path.proofs.PairLaws.{label_dead, label_live, alive_within, IsArcOf, arc_of_pairs, zero_first, one_first, length-arcs_from, cells_within, cells_none, get-steps_with, length-steps_with}

is_less : (a b : ℤ) → int_lt a b ≡ true → a <ℤ b
is_less a b e = grind (arith, ints)

is_more : (a b : ℤ) → int_lt a b ≡ false → b ≤ℤ a
is_more a b e = grind (arith, ints)

both_ways : (a b : ℤ) → a <ℤ b → b ≤ℤ a → ⊥
both_ways a b h k = omega (arith, ints)

-- the cells that a pass has found are ready
pub ready_cell : (steps : List (List Arc)) (picks : List (List ℕ)) (zone : List Span) (costs : List ℤ) (cells_many wide : ℕ) (cells : List ℤ)
    → length zone ≡ length steps → length costs ≡ length steps → cost_size zone costs ≤ 2 ^ 60 → AreCells wide cells → cells_many ≤ wide
    → AreLeast steps picks zone costs cells_many (widened cells) → (node : ℕ) → node < cells_many → IsReady (cell_at cells node)
ready_cell steps picks zone costs cells_many wide cells e f small h within least node l = by_lt_z (cell_at cells node) far low high
  where
    there : node < length cells
    there = omega (arith, l, within, h.each)

    low : cell_at cells node <ℤ far → IsReady (cell_at cells node)
    low way =
        let r = (least node l).reached (has_way_at cells node there way) in
        let w = leads_way steps picks zone costs node e f r.leads in
        inr (omega (
          arith,
          small,
          subst (λ v. unsigned_abs v ≤ cost_size zone costs) (r.value ∙ widened_at cells node there ∙ near_kept (cell_at cells node) way)
              (dot_small zone costs (way_of steps picks zone costs node) w.1),
        ))

    same : (a : ℤ) → a ≤ℤ far → far ≤ℤ a → a ≡ far
    same a p q = omega (arith, ints)

    high : far ≤ℤ cell_at cells node → IsReady (cell_at cells node)
    high none = inl (same (cell_at cells node) (h.near node there) none)

-- what the arcs of a layer lead to
pub linked_targets : (wide cells : ℕ) (arcs : List Arc) (pairs : List Pair) → IsLinked wide cells arcs pairs
    → (j : ℕ) → j < length (arcs_with wide arcs pairs) → IsTarget wide cells (arc_at (arcs_with wide arcs pairs) j).to
linked_targets wide cells arcs [] h j l = λ _. h.arcs j l
linked_targets wide cells arcs (p ∷ ps) h j l = by (arc_of_pairs wide (p ∷ ps) j l)
  where
    by : IsArcOf wide (p ∷ ps) j → IsTarget wide cells (arc_at (arcs_from wide 0 (p ∷ ps)) j).to
    by o = ⊎_elim
        (λ z. subst (λ (a : Arc). IsTarget wide cells a.to) (sym z.1) (h.pairs o.node (record { zero = 0; one = 0 }) o.there).zero)
        (λ z. subst (λ (a : Arc). IsTarget wide cells a.to) (sym z.1) (h.pairs o.node (record { zero = 0; one = 0 }) o.there).one)
        o.is

pub linked_below : (wide cells : ℕ) (arcs : List Arc) (pairs : List Pair) → IsLinked wide cells arcs pairs → LeadBelow cells (arcs_with wide arcs pairs)
linked_below wide cells arcs [] h j y l within = h.arcs j l
linked_below wide cells arcs (p ∷ ps) h j y l within = linked_targets wide cells arcs (p ∷ ps) h j l (by (arc_of_pairs wide (p ∷ ps) j l))
  where
    dead : (arc : Arc) (node target : ℕ) (v : ℤ) → arc ≡ arc_to wide node target v → arc ≡ arc_at (arcs_from wide 0 (p ∷ ps)) j → (arc_at (arcs_from wide 0 (p ∷ ps)) j).to ≡ wide → ⊥
    dead arc node target v is same e =
        alive_within wide target v y (subst (λ (a : Arc). IsWithin a.label y) (sym same ∙ is) within) (sym (ap (λ (a : Arc). a.to) (sym same ∙ is)) ∙ e)

    by : IsArcOf wide (p ∷ ps) j → (arc_at (arcs_from wide 0 (p ∷ ps)) j).to ≡ wide → ⊥
    by o = ⊎_elim
        (λ z. dead (arc_at (arcs_from wide 0 (p ∷ ps)) j) o.node (pair_at (p ∷ ps) o.node).zero (pos 0) z.1 refl)
        (λ z. dead (arc_at (arcs_from wide 0 (p ∷ ps)) j) o.node (pair_at (p ∷ ps) o.node).one (pos 1) z.1 refl)
        o.is

pub ready_arcs : (wide cells : ℕ) (arcs : List Arc) (pairs : List Pair) (next : List ℤ) → IsLinked wide cells arcs pairs → AreCells wide next
    → ((node : ℕ) → node < cells → IsReady (cell_at next node)) → AreReady next (arcs_with wide arcs pairs)
ready_arcs wide cells arcs pairs next h c ready j l = ⊎_elim
    (λ e. inl (ap (λ n. cell_at next n) e ∙ c.dead))
    (λ n. ready (arc_at (arcs_with wide arcs pairs) j).to (linked_targets wide cells arcs pairs h j l n))
    (cases_eq (arc_at (arcs_with wide arcs pairs) j).to wide)

-- the cost of a number of a pair
pub cost_cut : (label span : Span) (cost own v : ℤ) → unsigned_abs cost * reach span ≤ 2 ^ 60 → IsOwn label span cost own → v ≡ int_min own shut → IsCostOf label span cost v
cost_cut label span cost own v small (inl (meets, value)) e = inl (meets, kept own v (subst (λ z. unsigned_abs z ≤ 2 ^ 60) (sym value) (short_product label span cost meets small)) e ∙ value)
  where
    kept : (a v : ℤ) → unsigned_abs a ≤ 2 ^ 60 → v ≡ int_min a shut → v ≡ a
    kept a v h e = omega (arith, ints, clamps, h, e)
cost_cut label span cost own v small (inr (none, value)) e = inr (none, cut own v value e)
  where
    cut : (a v : ℤ) → a ≡ closed → v ≡ int_min a shut → v ≡ shut
    cut a v h e = omega (arith, ints, clamps, h, e)

abbrev IsSmallCost : ℤ → Type 0
IsSmallCost v = (unsigned_abs v ≤ 2 ^ 60) ⊎ (v ≡ shut)

small_cost : (label span : Span) (cost v : ℤ) → unsigned_abs cost * reach span ≤ 2 ^ 60 → IsCostOf label span cost v → IsSmallCost v
small_cost label span cost v small (inl (meets, value)) = inl (subst (λ z. unsigned_abs z ≤ 2 ^ 60) (sym value) (short_product label span cost meets small))
small_cost label span cost v small (inr (none, value)) = inr value

-- the sum of a cell and the cost of a number fits
pub pair_fits : (label span : Span) (cost cell own : ℤ) → unsigned_abs cost * reach span ≤ 2 ^ 60 → IsReady cell → IsCostOf label span cost own → FitsSigned w64 (cell +ℤ own)
pair_fits label span cost cell own small ready is = by ready (small_cost label span cost own small is)
  where
    by : IsReady cell → IsSmallCost own → FitsSigned w64 (cell +ℤ own)
    by (inl e) (inl h) = fits_signed_from_abs w64 (cell +ℤ own) (omega (arith, ints, e, h))
    by (inl e) (inr h) = fits_signed_from_abs w64 (cell +ℤ own) (omega (arith, ints, e, h))
    by (inr e) (inl h) = fits_signed_from_abs w64 (cell +ℤ own) (omega (arith, ints, e, h))
    by (inr e) (inr h) = fits_signed_from_abs w64 (cell +ℤ own) (omega (arith, ints, e, h))

-- no number is in the label of the dead node
dead_closed : (dead target : ℕ) (y : ℤ) (span : Span) → target ≡ dead → IsOpen (label_to dead target y) span → ⊥
dead_closed dead target y span e h = by span.lo span.hi (subst (λ (l : Span). IsOpen l span) (label_dead dead target y e) h)
  where
    by : (c d : ℤ) → int_max (pos 1) c ≤ℤ int_min (pos 0) d → ⊥
    by c d h = omega (arith, ints, clamps, h)

-- the least cost by a number of a pair
pub pair_sum : (next : List ℤ) (span : Span) (cost : ℤ) (dead node target : ℕ) (y own : ℤ) → target < length next → (target ≡ dead → cell_at next target ≡ far)
    → IsReady (cell_at next target) → unsigned_abs cost * reach span ≤ 2 ^ 60 → IsCostOf (label_of y) span cost own
    → IsSum (widened next) span cost (arc_to dead node target y) (cell_at next target +ℤ own)
pair_sum next span cost dead node target y own there at_dead ready small is = ⊎_elim
    (λ e. inr (
      (λ usable. dead_closed dead target y span e usable.meets),
      high (cell_at next target) own (at_dead e) (small_cost (label_of y) span cost own small is),
    ))
    (λ n. live n ready is)
    (cases_eq target dead)
  where
    high : (a b : ℤ) → a ≡ far → IsSmallCost b → most_cost <ℤ (a +ℤ b)
    high a b e (inl h) = omega (arith, ints, e, h)
    high a b e (inr h) = omega (arith, ints, e, h)

    shut_high : (a b : ℤ) → IsReady a → b ≡ shut → most_cost <ℤ (a +ℤ b)
    shut_high a b (inl e) h = omega (arith, ints, e, h)
    shut_high a b (inr e) h = omega (arith, ints, e, h)

    short_far : (a : ℤ) → unsigned_abs a ≤ 2 ^ 60 → a <ℤ far
    short_far a h = omega (arith, ints, h)

    same_far : (a : ℤ) → a ≡ far → far ≤ℤ a
    same_far a e = omega (arith, ints)

    low : (a b : ℤ) → unsigned_abs a ≤ 2 ^ 60 → unsigned_abs b ≤ 2 ^ 60 → (a +ℤ b) ≤ℤ most_cost
    low a b h k = omega (arith, ints, h, k)

    short : (a b : ℤ) → unsigned_abs a ≤ 2 ^ 60 → unsigned_abs b ≤ 2 ^ 60 → unsigned_abs (a +ℤ b) ≤ 2 ^ 124
    short a b h k = omega (arith, ints, h, k)

    live : (target ≡ dead → ⊥) → IsReady (cell_at next target) → IsCostOf (label_of y) span cost own
        → IsSum (widened next) span cost (arc_to dead node target y) (cell_at next target +ℤ own)
    live n (inl e) (inl (meets, value)) = inr (
      (λ usable. no_way_at next target there (same_far (cell_at next target) e) usable.goes_on),
      high (cell_at next target) own e (small_cost (label_of y) span cost own small is),
    )
    live n (inr s) (inl (meets, value)) =
        let own_is : unsigned_abs own ≤ 2 ^ 60 = subst (λ z. unsigned_abs z ≤ 2 ^ 60) (sym value) (short_product (label_of y) span cost meets small) in
        inl (
          record {
            usable = record {
              meets = subst (λ (l : Span). IsOpen l span) (sym (label_live dead target y n)) meets;
              goes_on = has_way_at next target there (short_far (cell_at next target) s);
            };
            value = ap (λ z. cell_at next target +ℤ z) value
                ∙ ap (λ z. z +ℤ cost *ℤ chosen_number (label_of y) span cost) (sym (widened_at next target there ∙ near_kept (cell_at next target) (short_far (cell_at next target) s)))
                ∙ ap (λ (l : Span). cell_at (widened next) target +ℤ cost *ℤ chosen_number l span cost) (sym (label_live dead target y n));
            small = short (cell_at next target) own s own_is;
          },
          low (cell_at next target) own s own_is,
        )
    live n r (inr (none, value)) = inr (
      (λ usable. none (subst (λ (l : Span). IsOpen l span) (label_live dead target y n) usable.meets)),
      shut_high (cell_at next target) own r value,
    )

-- of two arcs of a node the one that costs less
best_of_two : (arcs : List Arc) (next : List ℤ) (span : Span) (cost : ℤ) (node p q : ℕ) (m o : ℤ) → p < length arcs → (arc_at arcs p).from ≡ node
    → ((j : ℕ) → j < length arcs → (arc_at arcs j).from ≡ node → (j ≡ p) ⊎ (j ≡ q))
    → IsSum next span cost (arc_at arcs p) m → IsSum next span cost (arc_at arcs q) o → m ≤ℤ o
    → IsBest arcs next span cost (length arcs) node (widened_cell (if int_lt most_cost m then far else m)) p
best_of_two arcs next span cost node p q m o there from two of_p of_q less = by (int_lt most_cost m) refl
  where
    through : (a b c : ℤ) → a ≤ℤ b → b ≤ℤ c → c <ℤ a → ⊥
    through a b c h k l = omega (arith, ints)

    sum_high : (j : ℕ) (v : ℤ) → most_cost <ℤ v → IsSum next span cost (arc_at arcs j) v → IsUsable next span (arc_at arcs j) → ⊥
    sum_high j v h (inl (kept, low)) usable = both_ways most_cost v h low
    sum_high j v h (inr (none, high)) usable = none usable

    value_of : (j : ℕ) (v : ℤ) → IsSum next span cost (arc_at arcs j) v → IsUsable next span (arc_at arcs j) → v ≡ cost_by next span cost (arc_at arcs j)
    value_of j v (inl (kept, low)) usable = kept.value
    value_of j v (inr (none, high)) usable = absurd (none usable)

    more : (a b c : ℤ) → a <ℤ b → b ≤ℤ c → a <ℤ c
    more a b c h k = omega (arith, ints)

    not_below : (a : ℤ) → a ≡ no_way → a <ℤ no_way → ⊥
    not_below a e l = omega (arith, ints)

    near : (a : ℤ) → a ≤ℤ most_cost → a <ℤ far
    near a h = omega (arith, ints)

    below : (a : ℤ) → a ≤ℤ most_cost → a <ℤ no_way
    below a h = omega (arith, ints)

    equal : (a b : ℤ) → a ≡ b → a ≤ℤ b
    equal a b e = omega (arith, ints)

    none : most_cost <ℤ m → IsBest arcs next span cost (length arcs) node (widened_cell far) p
    none high = record {
      least = λ j l starts usable. absurd (⊎_elim
          (λ e. sum_high p m high of_p (subst (λ n. IsUsable next span (arc_at arcs n)) e usable))
          (λ e. sum_high q o (more most_cost m o high less) of_q (subst (λ n. IsUsable next span (arc_at arcs n)) e usable))
          (two j l starts));
      reached = λ way. absurd (not_below (widened_cell far) (far_none far (equal far far refl)) way);
    }

    some : m ≤ℤ most_cost → IsSum next span cost (arc_at arcs p) m → IsBest arcs next span cost (length arcs) node m p
    some low (inr (unusable, high)) = absurd (both_ways most_cost m high low)
    some low (inl (kept, _)) = record {
      least = λ j l starts usable. (
        below m low,
        ⊎_elim
            (λ e. equal m (cost_by next span cost (arc_at arcs j)) (kept.value ∙ ap (λ n. cost_by next span cost (arc_at arcs n)) (sym e)))
            (λ e. subst (λ z. m ≤ℤ z) (value_of q o of_q (subst (λ n. IsUsable next span (arc_at arcs n)) e usable) ∙ ap (λ n. cost_by next span cost (arc_at arcs n)) (sym e)) less)
            (two j l starts),
      );
      reached = λ way. record { there = there; from = from; usable = kept.usable; costs = kept.value };
    }

    by : (t : Bool) → int_lt most_cost m ≡ t → IsBest arcs next span cost (length arcs) node (widened_cell (if int_lt most_cost m then far else m)) p
    by true e =
        subst (λ (u : Bool). IsBest arcs next span cost (length arcs) node (widened_cell (if u then far else m)) p) (sym e)
        (none (is_less most_cost m e))
    by false e =
        subst (λ (u : Bool). IsBest arcs next span cost (length arcs) node (widened_cell (if u then far else m)) p) (sym e)
        (subst (λ v. IsBest arcs next span cost (length arcs) node v p) (sym (near_kept m (near m (is_more most_cost m e)))) (some (is_more most_cost m e) of_p))

-- the cell and the pick of a pair
pub pair_best : (arcs : List Arc) (next : List ℤ) (span : Span) (cost : ℤ) (node : ℕ) (zero one : ℤ) → 2 * node + 1 < length arcs
    → (arc_at arcs (2 * node)).from ≡ node → (arc_at arcs (2 * node + 1)).from ≡ node
    → ((j : ℕ) → j < length arcs → (arc_at arcs j).from ≡ node → (j ≡ 2 * node) ⊎ (j ≡ 2 * node + 1))
    → IsSum next span cost (arc_at arcs (2 * node)) zero → IsSum next span cost (arc_at arcs (2 * node + 1)) one
    → IsBest arcs next span cost (length arcs) node (widened_cell (lesser_cell zero one)) (lesser_pick node zero one)
pair_best arcs next span cost node zero one there from_zero from_one two of_zero of_one = by (int_lt one zero) refl
  where
    min_less : (a b : ℤ) → a <ℤ b → int_min a b ≡ a
    min_less a b h = omega (arith, ints, clamps)

    min_more : (a b : ℤ) → b ≤ℤ a → int_min a b ≡ b
    min_more a b h = omega (arith, ints, clamps)

    at_most : (a b : ℤ) → a <ℤ b → a ≤ℤ b
    at_most a b h = omega (arith, ints)

    by : (t : Bool) → int_lt one zero ≡ t → IsBest arcs next span cost (length arcs) node (widened_cell (lesser_cell zero one)) (lesser_pick node zero one)
    by true e =
        subst (λ (u : Bool). IsBest arcs next span cost (length arcs) node (widened_cell (lesser_cell zero one)) (if u then 2 * node + 1 else 2 * node)) (sym e)
        (subst (λ v. IsBest arcs next span cost (length arcs) node (widened_cell (if int_lt most_cost v then far else v)) (2 * node + 1)) (sym (min_less one zero (is_less one zero e)))
        (best_of_two arcs next span cost node (2 * node + 1) (2 * node) one zero there from_one
        (λ j l starts. ⊎_elim (λ a. inr a) (λ b. inl b) (two j l starts)) of_one of_zero (at_most one zero (is_less one zero e))))
    by false e =
        subst (λ (u : Bool). IsBest arcs next span cost (length arcs) node (widened_cell (lesser_cell zero one)) (if u then 2 * node + 1 else 2 * node)) (sym e)
        (subst (λ v. IsBest arcs next span cost (length arcs) node (widened_cell (if int_lt most_cost v then far else v)) (2 * node)) (sym (min_more one zero (is_more one zero e)))
        (best_of_two arcs next span cost node (2 * node) (2 * node + 1) zero one (omega (arith, there)) from_zero two of_zero of_one (is_more one zero e)))

-- a node's cell and pick are written
pub best_written : (arcs : List Arc) (next : List ℤ) (span : Span) (cost : ℤ) (node : ℕ) (cells : List ℤ) (picks : List ℕ) (v : ℤ) (p : ℕ) → node < length cells → node < length picks
    → IsBest arcs next span cost (length arcs) node (widened_cell v) p
    → ((n : ℕ) → n < node → IsBest arcs next span cost (length arcs) n (cell_at (widened cells) n) (pick_at picks n))
    → (n : ℕ) → n < node + 1 → IsBest arcs next span cost (length arcs) n (cell_at (widened (set cells node v)) n) (pick_at (set picks node p) n)
best_written arcs next span cost node cells picks v p there there_too best had n l =
    subst (λ (cs : List ℤ). IsBest arcs next span cost (length arcs) n (cell_at cs n) (pick_at (set picks node p) n)) (sym (map-set widened_cell cells node v))
    (⊎_elim
    (λ e. subst (λ z. IsBest arcs next span cost (length arcs) n z (pick_at (set picks node p) n))
    (sym (ap (λ m. cell_at (set (widened cells) node (widened_cell v)) m) e ∙ get_or-set_same (widened cells) node (widened_cell v) (pos 0) (subst (λ m. node < m) (sym (length-widened cells)) there)))
    (subst (λ z. IsBest arcs next span cost (length arcs) n (widened_cell v) z)
    (sym (ap (λ m. pick_at (set picks node p) m) e ∙ get_or-set_same picks node p 0 there_too))
    (subst (λ m. IsBest arcs next span cost (length arcs) m (widened_cell v) p) (sym e) best)))
    (λ other. subst (λ z. IsBest arcs next span cost (length arcs) n z (pick_at (set picks node p) n))
    (sym (get_or-set_other (widened cells) node n (widened_cell v) (pos 0) other))
    (subst (λ z. IsBest arcs next span cost (length arcs) n (cell_at (widened cells) n) z)
    (sym (get_or-set_other picks node n p 0 other))
    (had n (less n node l other))))
    (cases_eq n node))
  where
    less : (i k : ℕ) → i < k + 1 → (i ≡ k → ⊥) → i < k
    less i k l n = ⊎_elim (λ a. a) (λ b. absurd (n (omega (arith, l, b)))) (cases_lt i k)

-- which arcs of pairs start at a node
pub two_of : (dead : ℕ) (pairs : List Pair) (node j : ℕ) → j < length (arcs_from dead 0 pairs) → (arc_at (arcs_from dead 0 pairs) j).from ≡ node → (j ≡ 2 * node) ⊎ (j ≡ 2 * node + 1)
two_of dead pairs node j l starts = by (arc_of_pairs dead pairs j l)
  where
    by : IsArcOf dead pairs j → (j ≡ 2 * node) ⊎ (j ≡ 2 * node + 1)
    by o = ⊎_elim
        (λ z. inl (z.0 ∙ ap (λ n. 2 * n) (sym (ap (λ (a : Arc). a.from) z.1) ∙ starts)))
        (λ z. inr (z.0 ∙ ap (λ n. 2 * n + 1) (sym (ap (λ (a : Arc). a.from) z.1) ∙ starts)))
        o.is

-- the cell of a pair is no greater than that of no way
pub lesser_near : (zero one : ℤ) → lesser_cell zero one ≤ℤ far
lesser_near zero one = by (int_lt most_cost (int_min one zero)) refl
  where
    low : (m : ℤ) → m ≤ℤ most_cost → m ≤ℤ far
    low m h = omega (arith, ints)

    by : (t : Bool) → int_lt most_cost (int_min one zero) ≡ t → (if t then far else int_min one zero) ≤ℤ far
    by true e = omega (arith, ints)
    by false e = low (int_min one zero) (is_more most_cost (int_min one zero) e)

-- the targets of a pair
pub pair_below : (wide : ℕ) (pairs : List Pair) (k : ℕ) → All (IsPairSafe wide wide) pairs → k < length pairs → ((pair_at pairs k).zero ≤ wide) × ((pair_at pairs k).one ≤ wide)
pair_below wide pairs k h l = (target (pair_at pairs k).zero (h k (record { zero = 0; one = 0 }) l).zero, target (pair_at pairs k).one (h k (record { zero = 0; one = 0 }) l).one)
  where
    target : (t : ℕ) → IsTarget wide wide t → t ≤ wide
    target t h = ⊎_elim (λ e. omega (arith, e)) (λ n. omega (arith, h n)) (cases_eq t wide)

pub pair_ready : (wide : ℕ) (pairs : List Pair) (next : List ℤ) (k : ℕ) → AreReady next (arcs_from wide 0 pairs) → k < length pairs
    → IsReady (cell_at next (pair_at pairs k).zero) × IsReady (cell_at next (pair_at pairs k).one)
pair_ready wide pairs next k h l = (
  subst (λ (a : Arc). IsReady (cell_at next a.to)) (zero_first wide pairs k l) (h (2 * k) (omega (arith, l, length-arcs_from wide 0 pairs))),
  subst (λ (a : Arc). IsReady (cell_at next a.to)) (one_first wide pairs k l) (h (2 * k + 1) (omega (arith, l, length-arcs_from wide 0 pairs))),
)

-- a loop's step over the nodes of a layer
pub pairs_step : (wide : ℕ) (pairs : List Pair) (next : List ℤ) (span : Span) (cost : ℤ) (node : ℕ) (cells : List ℤ) (picks : List ℕ) (zero one : ℤ) → node < length pairs → node < length picks → node < length cells
    → AreCells wide next → All (IsPairSafe wide wide) pairs → AreReady next (arcs_from wide 0 pairs) → unsigned_abs cost * reach span ≤ 2 ^ 60
    → IsCostOf (label_of (pos 0)) span cost zero → IsCostOf (label_of (pos 1)) span cost one
    → ((n : ℕ) → n < node → IsBest (arcs_from wide 0 pairs) (widened next) span cost (length (arcs_from wide 0 pairs)) n (cell_at (widened cells) n) (pick_at picks n))
    → (n : ℕ) → n < node + 1 → IsBest (arcs_from wide 0 pairs) (widened next) span cost (length (arcs_from wide 0 pairs)) n
    (cell_at (widened (set cells node (lesser_cell (cell_at next (pair_at pairs node).zero +ℤ zero) (cell_at next (pair_at pairs node).one +ℤ one)))) n)
    (pick_at (set picks node (lesser_pick node (cell_at next (pair_at pairs node).zero +ℤ zero) (cell_at next (pair_at pairs node).one +ℤ one))) n)
pairs_step wide pairs next span cost node cells picks zero one l there_picks there_cells c safe ready small of_zero of_one had =
    best_written (arcs_from wide 0 pairs) (widened next) span cost node cells picks (lesser_cell a b) (lesser_pick node a b) there_cells there_picks
    (pair_best (arcs_from wide 0 pairs) (widened next) span cost node a b (omega (arith, l, length-arcs_from wide 0 pairs))
    (ap (λ (x : Arc). x.from) (zero_first wide pairs node l)) (ap (λ (x : Arc). x.from) (one_first wide pairs node l)) (two_of wide pairs node)
    (subst (λ (x : Arc). IsSum (widened next) span cost x a) (sym (zero_first wide pairs node l))
    (pair_sum next span cost wide node (pair_at pairs node).zero (pos 0) zero (omega (arith, below.0, c.each)) (at_dead (pair_at pairs node).zero) (pair_ready wide pairs next node ready l).0 small of_zero))
    (subst (λ (x : Arc). IsSum (widened next) span cost x b) (sym (one_first wide pairs node l))
    (pair_sum next span cost wide node (pair_at pairs node).one (pos 1) one (omega (arith, below.1, c.each)) (at_dead (pair_at pairs node).one) (pair_ready wide pairs next node ready l).1 small of_one)))
    had
  where
    a : ℤ
    a = cell_at next (pair_at pairs node).zero +ℤ zero

    b : ℤ
    b = cell_at next (pair_at pairs node).one +ℤ one

    below : ((pair_at pairs node).zero ≤ wide) × ((pair_at pairs node).one ≤ wide)
    below = pair_below wide pairs node safe l

    at_dead : (t : ℕ) → t ≡ wide → cell_at next t ≡ far
    at_dead t e = ap (λ n. cell_at next n) e ∙ c.dead

-- no layer has more cells than nodes
pub cells_fit : (wide : ℕ) (steps : List (List Arc)) (lists : List (List Pair)) → AreLinked wide steps lists → (k : ℕ) → cells_of wide (pairs_at lists k) ≤ wide
cells_fit wide steps lists h k = ⊎_elim
    (λ l. cells_within wide (pairs_at lists k) (h.each k l).nodes)
    (λ m. omega (arith, cells_none wide (pairs_at lists k) (get_or_past lists k [] (omega (arith, m, h.many)))))
    (cases_lt k (length steps))

-- a layer of a graph, where its rows of picks have a place for each node
pub step_linked : (wide row : ℕ) (steps : List (List Arc)) (lists : List (List Pair)) (k : ℕ) (arcs : List Arc) (ps : List Pair) → 0 < k → k ≤ length steps
    → arcs ≡ get_or steps (k - 1) [] → ps ≡ get_or lists (k - 1) [] → row ≡ wide → AreLinked wide steps lists → IsLinked row (cells_of row (pairs_at lists k)) arcs ps
step_linked wide row steps lists k arcs ps some there is_arcs is_ps same h =
    subst (λ w. IsLinked w (cells_of w (pairs_at lists k)) arcs ps) (sym same)
    (subst (λ (xs : List Arc). IsLinked wide (cells_of wide (pairs_at lists k)) xs ps) (sym is_arcs)
    (subst (λ (xs : List Pair). IsLinked wide (cells_of wide (pairs_at lists k)) (get_or steps (k - 1) []) xs) (sym is_ps)
    (subst (λ n. IsLinked wide (cells_of wide (pairs_at lists n)) (get_or steps (k - 1) []) (get_or lists (k - 1) [])) back (h.each (k - 1) (omega (arith, some, there))))))
  where
    back : k - 1 + 1 ≡ k
    back = omega (arith, some)

pub pairs_wider : (wide cells : ℕ) (arcs : List Arc) (ps : List Pair) → IsLinked wide cells arcs ps → cells ≤ wide → All (IsPairSafe wide wide) ps
pairs_wider wide cells arcs ps h fit k d l = record {
  zero = λ n. omega (arith, fit, (h.pairs k d l).zero n);
  one = λ n. omega (arith, fit, (h.pairs k d l).one n);
}

-- the arcs of a layer with its pairs
pub layer_with : (wide : ℕ) (steps : List (List Arc)) (lists : List (List Pair)) (k : ℕ) (arcs : List Arc) (ps : List Pair) → k < length steps
    → arcs ≡ get_or steps k [] → ps ≡ pairs_at lists k → arcs_with wide arcs ps ≡ get_or (steps_with wide steps lists) k []
layer_with wide steps lists k arcs ps there is_arcs is_ps =
    ap (λ (xs : List Arc). arcs_with wide xs ps) is_arcs ∙ ap (λ (xs : List Pair). arcs_with wide (get_or steps k []) xs) is_ps
    ∙ sym (get-steps_with wide steps lists k there)

-- behind the last layer
pub start_least : (wide : ℕ) (steps : List (List Arc)) (lists : List (List Pair)) (picks : List (List ℕ)) (zone : List Span) (costs : List ℤ) (cells : List ℤ) (n : ℕ)
    → length steps ≤ n → length zone ≡ length steps → length costs ≡ length steps → AreLinked wide steps lists → ((k : ℕ) → k < wide → cell_at cells k ≡ pos 0)
    → AreLeast (drop n (steps_with wide steps lists)) (drop n picks) (drop n zone) (drop n costs) (cells_of wide (pairs_at lists n)) cells
start_least wide steps lists picks zone costs cells n all e f h zeros =
    subst (λ (xs : List (List Arc)). AreLeast xs (drop n picks) (drop n zone) (drop n costs) (cells_of wide (pairs_at lists n)) cells)
    (sym (drop_all n (steps_with wide steps lists) (omega (arith, all, length-steps_with wide steps lists))))
    (subst (λ (xs : List Span). AreLeast [] (drop n picks) xs (drop n costs) (cells_of wide (pairs_at lists n)) cells) (sym (drop_all n zone (omega (arith, all, e))))
    (subst (λ (xs : List ℤ). AreLeast [] (drop n picks) [] xs (cells_of wide (pairs_at lists n)) cells) (sym (drop_all n costs (omega (arith, all, f))))
    (end_least (drop n picks) (cells_of wide (pairs_at lists n)) cells (λ k l. zeros k (omega (arith, l, cells_fit wide steps lists h n))))))

-- a loop's step of the pass
pub short_more : (wide : ℕ) (steps : List (List Arc)) (lists : List (List Pair)) (picks : List (List ℕ)) (zone : List Span) (costs : List ℤ) (k : ℕ) (p : List ℕ) (next next_now now : List ℤ)
    (arcs : List Arc) (ps : List Pair)
    → 0 < k → k ≤ length steps → length picks ≡ length steps → length zone ≡ length steps → length costs ≡ length steps
    → arcs ≡ get_or steps (k - 1) [] → ps ≡ get_or lists (k - 1) [] → next_now ≡ now → AreLinked wide steps lists
    → AreLeast (drop k (steps_with wide steps lists)) (drop k picks) (drop k zone) (drop k costs) (cells_of wide (pairs_at lists k)) next
    → ((node : ℕ) → node < cells_of wide ps → IsBest (arcs_with wide arcs ps) next (get_or zone (k - 1) (record { lo = pos 0; hi = pos 0 })) (get_or costs (k - 1) (pos 0))
    (length (arcs_with wide arcs ps)) node (cell_at now node) (pick_at p node))
    → AreLeast (drop (k - 1) (steps_with wide steps lists)) (drop (k - 1) (set picks (k - 1) p)) (drop (k - 1) zone) (drop (k - 1) costs) (cells_of wide (pairs_at lists (k - 1))) next_now
short_more wide steps lists picks zone costs k p next next_now now arcs ps some there many e f is_arcs is_ps same h below best =
    subst (λ (xs : List Pair). AreLeast (drop (k - 1) (steps_with wide steps lists)) (drop (k - 1) (set picks (k - 1) p)) (drop (k - 1) zone) (drop (k - 1) costs) (cells_of wide xs) next_now) is_ps
    (pass_more (steps_with wide steps lists) picks zone costs k p (cells_of wide (pairs_at lists k)) (cells_of wide ps) next next_now now (arcs_with wide arcs ps)
    some (omega (arith, there, len)) (omega (arith, many, len)) (omega (arith, e, len)) (omega (arith, f, len)) is
    (linked_below wide (cells_of wide (pairs_at lists k)) arcs ps (step_linked wide wide steps lists k arcs ps some there is_arcs is_ps refl h))
    same below best)
  where
    len : length (steps_with wide steps lists) ≡ length steps
    len = length-steps_with wide steps lists

    is : arcs_with wide arcs ps ≡ get_or (steps_with wide steps lists) (k - 1) []
    is = layer_with wide steps lists (k - 1) arcs ps (omega (arith, some, there)) is_arcs is_ps
