-- Laws of the pass: the least costs of ways within a zone.
use Rattle.std.proofs.Common.{◌≡◌, refl, sym, ap, subst, ◌∙◌, ℕ, ◌+◌, ◌*◌, ◌^◌, ◌<◌, ◌≤◌, Bool, true, false, List, length, set, arith, inl, inr, ⊎_elim}
use Rattle.std.proofs.Math.IntN.{ℤ, pos, negsuc, ◌+ℤ◌, ◌*ℤ◌}
use Rattle.std.specs.Prelude.{◌≤ℤ◌, ◌<ℤ◌, ◌⊎◌, unsigned_abs, FitsSigned, if◌then◌else◌, int_lt}
use Rattle.std.specs.Int.{w128, int_min, int_max}
use Rattle.std.proofs.lemmas.Int.{ints, clamps, fits_signed_from_abs}
use Rattle.std.proofs.lemmas.Bool.{cases_lt, cases_eq}
use Rattle.std.proofs.lemmas.List.{get_or-set_same, get_or-set_other}
use mir.Val.{of_z, to_z}
use Rattle.pricing_problem.proofs.Passed.{passed}
use Rattle.bp_theory.specs.Program.{IsWithin, reach}
use Rattle.bp_theory.specs.declared.Span.{Span}
use Rattle.bp_theory.proofs.Whole.{le-mul_pos, le-mul_negsuc}
use Rattle.pricing_problem.proofs.EndLaws.{number-le_reach, product-within}
use Rattle.layer_graph.specs.Graphs.{arc_at}
use Rattle.shortest_path.specs.Best.{no_way, cell_at, pick_at, IsOpen, chosen_number, IsUsable, cost_by, IsCostBy, IsTried, IsBest}
use Rattle.layer_graph.specs.declared.graph.Arc.{Arc}

-- the chosen number of an open label is a number of both
pub chosen_within : (label span : Span) (cost : ℤ) → IsOpen label span → IsWithin label (chosen_number label span cost) × IsWithin span (chosen_number label span cost)
chosen_within label span cost h = by (int_lt cost (pos 0))
  where
    parts : (a b c d : ℤ) → int_max a c ≤ℤ int_min b d → (a ≤ℤ int_min b d) × ((int_max a c ≤ℤ b) × ((c ≤ℤ int_min b d) × (int_max a c ≤ℤ d)))
    parts a b c d h = (omega (arith, ints, clamps), (omega (arith, ints, clamps), (omega (arith, ints, clamps), omega (arith, ints, clamps))))

    least : (b d : ℤ) → (int_min b d ≤ℤ b) × (int_min b d ≤ℤ d)
    least b d = (omega (arith, ints, clamps), omega (arith, ints, clamps))

    most : (a c : ℤ) → (a ≤ℤ int_max a c) × (c ≤ℤ int_max a c)
    most a c = (omega (arith, ints, clamps), omega (arith, ints, clamps))

    by : (t : Bool) → IsWithin label (if t then int_min label.hi span.hi else int_max label.lo span.lo) × IsWithin span (if t then int_min label.hi span.hi else int_max label.lo span.lo)
    by true = let p = parts label.lo label.hi span.lo span.hi h in let m = least label.hi span.hi in
        (record { above = p.0; below = m.0 }, record { above = p.1.1.0; below = m.1 })
    by false = let p = parts label.lo label.hi span.lo span.hi h in let m = most label.lo span.lo in
        (record { above = m.0; below = p.1.0 }, record { above = m.1; below = p.1.1.1 })

-- a number of both shows that a label is open
pub open_by : (label span : Span) (y : ℤ) → IsWithin label y → IsWithin span y → IsOpen label span
open_by label span y h k = by label.lo label.hi span.lo span.hi y h.above h.below k.above k.below
  where
    by : (a b c d y : ℤ) → a ≤ℤ y → y ≤ℤ b → c ≤ℤ y → y ≤ℤ d → int_max a c ≤ℤ int_min b d
    by a b c d y p q r s = omega (arith, ints, clamps)

-- none is cheaper than the chosen one
pub chosen_cheapest : (label span : Span) (cost y : ℤ) → IsWithin label y → IsWithin span y → (cost *ℤ chosen_number label span cost) ≤ℤ (cost *ℤ y)
chosen_cheapest label span cost y h k = by (int_lt cost (pos 0)) refl
  where
    low : (a c y : ℤ) → a ≤ℤ y → c ≤ℤ y → int_max a c ≤ℤ y
    low a c y p q = omega (arith, ints, clamps)

    high : (b d y : ℤ) → y ≤ℤ b → y ≤ℤ d → y ≤ℤ int_min b d
    high b d y p q = omega (arith, ints, clamps)

    is_less : (a : ℤ) → int_lt a (pos 0) ≡ true → a <ℤ pos 0
    is_less a e = grind (arith, ints)

    is_more : (a : ℤ) → int_lt a (pos 0) ≡ false → pos 0 ≤ℤ a
    is_more a e = grind (arith, ints)

    falls : (a x y : ℤ) → a <ℤ pos 0 → y ≤ℤ x → (a *ℤ x) ≤ℤ (a *ℤ y)
    falls (pos n) x y l h = absurd (omega (arith, ints))
    falls (negsuc n) x y l h = le-mul_negsuc n y x h

    rises : (a x y : ℤ) → pos 0 ≤ℤ a → x ≤ℤ y → (a *ℤ x) ≤ℤ (a *ℤ y)
    rises (pos n) x y l h = le-mul_pos n x y h
    rises (negsuc n) x y l h = absurd (omega (arith, ints))

    by : (t : Bool) → int_lt cost (pos 0) ≡ t → (cost *ℤ (if t then int_min label.hi span.hi else int_max label.lo span.lo)) ≤ℤ (cost *ℤ y)
    by true e = falls cost (int_min label.hi span.hi) y (is_less cost e) (high label.hi span.hi y h.below k.below)
    by false e = rises cost (int_max label.lo span.lo) y (is_more cost e) (low label.lo span.lo y h.above k.above)

-- its product is short
pub own_small : (label span : Span) (cost : ℤ) → IsOpen label span → unsigned_abs cost * reach span ≤ 2 ^ 123 → unsigned_abs (cost *ℤ chosen_number label span cost) ≤ 2 ^ 123
own_small label span cost h small =
    omega (arith, small, product-within cost (chosen_number label span cost) span (number-le_reach span (chosen_number label span cost) (chosen_within label span cost h).1))

pub own_fits : (a : ℤ) → unsigned_abs a ≤ 2 ^ 123 → FitsSigned w128 a
own_fits a h = fits_signed_from_abs w128 a (omega (arith, h))

pub total_fits : (a b : ℤ) → unsigned_abs a ≤ 2 ^ 123 → unsigned_abs b ≤ 2 ^ 123 → FitsSigned w128 (a +ℤ b)
total_fits a b h k = fits_signed_from_abs w128 (a +ℤ b) (omega (arith, ints, h, k))

pub total_small : (a b v : ℤ) → v ≡ a +ℤ b → unsigned_abs a ≤ 2 ^ 123 → unsigned_abs b ≤ 2 ^ 123 → unsigned_abs v ≤ 2 ^ 124
total_small a b v e h k = omega (arith, ints, e, h, k)

-- a short number is below that of no way
pub small_below : (v : ℤ) → unsigned_abs v ≤ 2 ^ 124 → v <ℤ no_way
small_below v h = omega (arith, ints, h)

-- and comes back as it was where it was passed by reference
pub small_passed : (v : ℤ) → unsigned_abs v ≤ 2 ^ 124 → to_z w128 (of_z w128 v) ≡ v
small_passed (pos n) h = passed (pos n) (omega (arith, h))
small_passed (negsuc n) h = passed (negsuc n) (omega (arith, h))

-- an arc that may not be taken changes nothing
pub best_unusable : (arcs : List Arc) (next : List ℤ) (span : Span) (cost : ℤ) (place node : ℕ) (cell : ℤ) (pick : ℕ)
    → (IsUsable next span (arc_at arcs place) → ⊥) → IsBest arcs next span cost place node cell pick → IsBest arcs next span cost (place + 1) node cell pick
best_unusable arcs next span cost place node cell pick none b = record {
  least = λ j l from usable. ⊎_elim
      (λ less. b.least j less from usable)
      (λ above. let same : j ≡ place = omega (arith, l, above) in absurd (none (subst (λ n. IsUsable next span (arc_at arcs n)) same usable)))
      (cases_lt j place);
  reached = λ way. let p = b.reached way in record { there = omega (arith, p.there); from = p.from; usable = p.usable; costs = p.costs };
}

-- a node whose cell stays
best_kept : (arcs : List Arc) (next : List ℤ) (span : Span) (cost : ℤ) (place node : ℕ) (cell total : ℤ) (pick : ℕ)
    → ((arc_at arcs place).from ≡ node → (cell <ℤ no_way) × (cell ≤ℤ total)) → total ≡ cost_by next span cost (arc_at arcs place)
    → IsBest arcs next span cost place node cell pick → IsBest arcs next span cost (place + 1) node cell pick
best_kept arcs next span cost place node cell total pick here value b = record {
  least = λ j l from usable. ⊎_elim
      (λ less. b.least j less from usable)
      (λ above. let same : j ≡ place = omega (arith, l, above) in
      let at = here (ap (λ n. (arc_at arcs n).from) (sym same) ∙ from) in
      (at.0, subst (λ n. cell ≤ℤ cost_by next span cost (arc_at arcs n)) (sym same) (subst (λ v. cell ≤ℤ v) value at.1)))
      (cases_lt j place);
  reached = λ way. let p = b.reached way in record { there = omega (arith, p.there); from = p.from; usable = p.usable; costs = p.costs };
}

-- a node whose cell is replaced
best_new : (arcs : List Arc) (next : List ℤ) (span : Span) (cost : ℤ) (place node : ℕ) (cell total : ℤ) (pick : ℕ)
    → (arc_at arcs place).from ≡ node → IsCostBy next span cost (arc_at arcs place) total → total ≤ℤ cell
    → IsBest arcs next span cost place node cell pick → IsBest arcs next span cost (place + 1) node total place
best_new arcs next span cost place node cell total pick from by less b = record {
  least = λ j l starts usable. (
    (small_below total by.small),
    ⊎_elim
        (λ before. through total cell (cost_by next span cost (arc_at arcs j)) less (b.least j before starts usable).1)
        (λ above. let same : j ≡ place = omega (arith, l, above) in
        subst (λ n. total ≤ℤ cost_by next span cost (arc_at arcs n)) (sym same) (equal total (cost_by next span cost (arc_at arcs place)) by.value))
        (cases_lt j place),
  );
  reached = λ way. record { there = omega arith; from = from; usable = by.usable; costs = by.value };
}
  where
    through : (a b c : ℤ) → a ≤ℤ b → b ≤ℤ c → a ≤ℤ c
    through a b c p q = omega (arith, ints)

    equal : (a b : ℤ) → a ≡ b → a ≤ℤ b
    equal a b e = omega (arith, ints)

-- an arc that was tried
pub best_tried : (arcs : List Arc) (next : List ℤ) (span : Span) (cost : ℤ) (place at : ℕ) (total : ℤ) (cells now : List ℤ) (picks picked : List ℕ)
    → at < length cells → at < length picks → (arc_at arcs place).from ≡ at → IsCostBy next span cost (arc_at arcs place) total
    → IsTried cells picks at total place now picked
    → (node : ℕ) → IsBest arcs next span cost place node (cell_at cells node) (pick_at picks node)
    → IsBest arcs next span cost (place + 1) node (cell_at now node) (pick_at picked node)
best_tried arcs next span cost place at total cells now picks picked there there_too from by (inl (same, same_too, less)) node b =
    subst (λ (cs : List ℤ). IsBest arcs next span cost (place + 1) node (cell_at cs node) (pick_at picked node)) (sym same)
    (subst (λ (ps : List ℕ). IsBest arcs next span cost (place + 1) node (cell_at cells node) (pick_at ps node)) (sym same_too)
    (best_kept arcs next span cost place node (cell_at cells node) total (pick_at picks node)
    (λ starts. let is : at ≡ node = sym from ∙ starts in
    let low : cell_at cells node ≤ℤ total = subst (λ n. cell_at cells n ≤ℤ total) is less in
    (below (cell_at cells node) total low (small_below total by.small), low)) by.value b))
  where
    below : (a b : ℤ) → a ≤ℤ b → b <ℤ no_way → a <ℤ no_way
    below a b p q = omega (arith, ints)
best_tried arcs next span cost place at total cells now picks picked there there_too from by (inr (set_to, set_too, less)) node b =
    subst (λ (cs : List ℤ). IsBest arcs next span cost (place + 1) node (cell_at cs node) (pick_at picked node)) (sym set_to)
    (subst (λ (ps : List ℕ). IsBest arcs next span cost (place + 1) node (cell_at (set cells at total) node) (pick_at ps node)) (sym set_too)
    (here (cases_eq node at)))
  where
    here : (node ≡ at) ⊎ (node ≡ at → ⊥) → IsBest arcs next span cost (place + 1) node (cell_at (set cells at total) node) (pick_at (set picks at place) node)
    here (inl is) =
        subst (λ v. IsBest arcs next span cost (place + 1) node v (pick_at (set picks at place) node))
        (sym (ap (λ n. cell_at (set cells at total) n) is ∙ get_or-set_same cells at total (pos 0) there))
        (subst (λ p. IsBest arcs next span cost (place + 1) node total p)
        (sym (ap (λ n. pick_at (set picks at place) n) is ∙ get_or-set_same picks at place 0 there_too))
        (best_new arcs next span cost place node (cell_at cells node) total (pick_at picks node) (from ∙ sym is) by (subst (λ n. total ≤ℤ cell_at cells n) (sym is) less) b))
    here (inr other) =
        subst (λ v. IsBest arcs next span cost (place + 1) node v (pick_at (set picks at place) node))
        (sym (get_or-set_other cells at node total (pos 0) other))
        (subst (λ p. IsBest arcs next span cost (place + 1) node (cell_at cells node) p)
        (sym (get_or-set_other picks at node place 0 other))
        (best_kept arcs next span cost place node (cell_at cells node) total (pick_at picks node) (λ starts. absurd (other (sym starts ∙ from))) by.value b))

-- before any arc was tried
pub best_start : (arcs : List Arc) (next : List ℤ) (span : Span) (cost : ℤ) (node : ℕ) (cell : ℤ) (pick : ℕ) → cell ≡ no_way → IsBest arcs next span cost 0 node cell pick
best_start arcs next span cost node cell pick none = record {
  least = λ j l from usable. absurd (omega arith);
  reached = λ way. absurd (not_below cell none way);
}
  where
    not_below : (a : ℤ) → a ≡ no_way → a <ℤ no_way → ⊥
    not_below a e l = omega (arith, ints)
