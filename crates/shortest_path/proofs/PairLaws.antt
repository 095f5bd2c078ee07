-- Laws of layers by pairs: their arcs, and that their ways are those of a graph.
use Rattle.std.proofs.Common.{◌≡◌, refl, sym, ap, subst, ◌∙◌, Bool, true, false, ℕ, zero, suc, ◌+◌, ◌*◌, ◌/◌, ◌%◌, ◌^◌, ◌<◌, ◌≤◌, List, [], ◌∷◌, ◌++◌, length, get_or, set, arith, inl, inr, ⊎_elim}
use Rattle.std.proofs.Math.IntN.{ℤ, pos}
use Rattle.std.specs.Prelude.{◌≤ℤ◌, ◌⊎◌, ◌==◌, if◌then◌else◌}
use Rattle.std.proofs.lemmas.Int.{ints}
use Rattle.std.proofs.lemmas.List.{get_or-replicate, length-replicate, get_or-set_same, get_or-set_other, length-set, get_or_default, get_or_past, get_or_append_left, length-append}
use Rattle.std.proofs.Math.Seq.{get_or-append_seam}
use Rattle.std.proofs.Math.Nat.{div-add-mod}
use Rattle.std.proofs.Math.ListN.{replicate}
use Rattle.std.proofs.lemmas.Bool.{cases_eq, cases_lt, eqb-true}
use Rattle.std.proofs.lemmas.Bool.Decides.{eqb_tells}
use Rattle.bp_theory.specs.Program.{IsWithin}
use Rattle.bp_theory.specs.declared.Span.{Span}
use Rattle.layer_graph.specs.Graphs.{arc_at, Leads, IsWay, IsSafe, HasSameWays}
use Rattle.shortest_path.specs.Pairs.{pair_at, label_of, no_label, label_to, arc_by, arc_to, arcs_from, arcs_with, steps_with, cells_of, IsLinked, pairs_at, AreLinked, LeadsThere, LeadAlike, IsInPair, IsOfArc, ArePairs, IsPut}
use Rattle.layer_graph.specs.declared.graph.Arc.{Arc}
use Rattle.shortest_path.specs.declared.pairs.Pair.{Pair}

-- labels
pub label_dead : (dead target : ℕ) (y : ℤ) → target ≡ dead → label_to dead target y ≡ no_label
label_dead dead target y e = ⊎_elim
    (λ same. ap (λ (t : Bool). if t then no_label else label_of y) same.0)
    (λ other. absurd (other.1 e)) (eqb_tells target dead)

pub label_live : (dead target : ℕ) (y : ℤ) → (target ≡ dead → ⊥) → label_to dead target y ≡ label_of y
label_live dead target y n = ⊎_elim
    (λ same. absurd (n same.1))
    (λ other. ap (λ (t : Bool). if t then no_label else label_of y) other.0) (eqb_tells target dead)

none_within : (y : ℤ) → IsWithin no_label y → ⊥
none_within y h = by y h.above h.below
  where
    by : (y : ℤ) → pos 1 ≤ℤ y → y ≤ℤ pos 0 → ⊥
    by y p q = omega (arith, ints)

-- a number that leads to a target does not lead to the dead node
pub alive_within : (dead target : ℕ) (v y : ℤ) → IsWithin (label_to dead target v) y → target ≡ dead → ⊥
alive_within dead target v y h e = none_within y (subst (λ (l : Span). IsWithin l y) (label_dead dead target v e) h)

-- the arcs of pairs
pub length-arcs_from : (dead node : ℕ) (pairs : List Pair) → length (arcs_from dead node pairs) ≡ 2 * length pairs
length-arcs_from dead node [] = refl
length-arcs_from dead node (p ∷ ps) = omega (arith, length-arcs_from dead (suc node) ps)

pub arcs_zero : (dead node : ℕ) (pairs : List Pair) (k : ℕ) → k < length pairs → arc_at (arcs_from dead node pairs) (2 * k) ≡ arc_to dead (node + k) (pair_at pairs k).zero (pos 0)
arcs_zero dead node [] k l = absurd (omega arith)
arcs_zero dead node (p ∷ ps) zero l = ap (λ n. arc_to dead n p.zero (pos 0)) (at node)
  where
    at : (n : ℕ) → n ≡ n + 0
    at n = omega arith
arcs_zero dead node (p ∷ ps) (suc k) l =
    ap (λ n. arc_at (arcs_from dead node (p ∷ ps)) n) (twice k)
    ∙ arcs_zero dead (suc node) ps k (omega (arith, l))
    ∙ ap (λ n. arc_to dead n (pair_at ps k).zero (pos 0)) (next node k)
  where
    twice : (k : ℕ) → 2 * suc k ≡ suc (suc (2 * k))
    twice k = omega arith

    next : (n k : ℕ) → suc n + k ≡ n + suc k
    next n k = omega arith

pub arcs_one : (dead node : ℕ) (pairs : List Pair) (k : ℕ) → k < length pairs → arc_at (arcs_from dead node pairs) (2 * k + 1) ≡ arc_to dead (node + k) (pair_at pairs k).one (pos 1)
arcs_one dead node [] k l = absurd (omega arith)
arcs_one dead node (p ∷ ps) zero l = ap (λ n. arc_to dead n p.one (pos 1)) (at node)
  where
    at : (n : ℕ) → n ≡ n + 0
    at n = omega arith
arcs_one dead node (p ∷ ps) (suc k) l =
    ap (λ n. arc_at (arcs_from dead node (p ∷ ps)) n) (twice k)
    ∙ arcs_one dead (suc node) ps k (omega (arith, l))
    ∙ ap (λ n. arc_to dead n (pair_at ps k).one (pos 1)) (next node k)
  where
    twice : (k : ℕ) → 2 * suc k + 1 ≡ suc (suc (2 * k + 1))
    twice k = omega arith

    next : (n k : ℕ) → suc n + k ≡ n + suc k
    next n k = omega arith

-- those of all nodes
bare : (k : ℕ) → 0 + k ≡ k
bare k = omega arith

pub zero_first : (dead : ℕ) (pairs : List Pair) (k : ℕ) → k < length pairs → arc_at (arcs_from dead 0 pairs) (2 * k) ≡ arc_to dead k (pair_at pairs k).zero (pos 0)
zero_first dead pairs k l = arcs_zero dead 0 pairs k l ∙ ap (λ n. arc_to dead n (pair_at pairs k).zero (pos 0)) (bare k)

pub one_first : (dead : ℕ) (pairs : List Pair) (k : ℕ) → k < length pairs → arc_at (arcs_from dead 0 pairs) (2 * k + 1) ≡ arc_to dead k (pair_at pairs k).one (pos 1)
one_first dead pairs k l = arcs_one dead 0 pairs k l ∙ ap (λ n. arc_to dead n (pair_at pairs k).one (pos 1)) (bare k)

-- a place is that of 0 or of 1 of a node
pub record IsHalf (j : ℕ) (nodes : ℕ) : Type 0 where
  pub node : ℕ
  pub there : node < nodes
  pub is : (j ≡ 2 * node) ⊎ (j ≡ 2 * node + 1)

pub half : (j nodes : ℕ) → j < 2 * nodes → IsHalf j nodes
half zero nodes l = record { node = 0; there = omega (arith, l); is = inl refl }
half (suc zero) nodes l = record { node = 0; there = omega (arith, l); is = inr refl }
half (suc (suc j)) zero l = absurd (omega (arith, l))
half (suc (suc j)) (suc nodes) l =
    let h : IsHalf j nodes = half j nodes (omega (arith, l)) in
    record {
      node = suc h.node;
      there = omega (arith, h.there);
      is = ⊎_elim (λ e. inl (omega (arith, e))) (λ e. inr (omega (arith, e))) h.is;
    }

-- what an arc of pairs is
pub record IsArcOf (dead : ℕ) (pairs : List Pair) (j : ℕ) : Type 0 where
  pub node : ℕ
  pub there : node < length pairs
  pub is : ((j ≡ 2 * node) × (arc_at (arcs_from dead 0 pairs) j ≡ arc_to dead node (pair_at pairs node).zero (pos 0)))
      ⊎ ((j ≡ 2 * node + 1) × (arc_at (arcs_from dead 0 pairs) j ≡ arc_to dead node (pair_at pairs node).one (pos 1)))

pub arc_of_pairs : (dead : ℕ) (pairs : List Pair) (j : ℕ) → j < length (arcs_from dead 0 pairs) → IsArcOf dead pairs j
arc_of_pairs dead pairs j l =
    let h : IsHalf j (length pairs) = half j (length pairs) (omega (arith, l, length-arcs_from dead 0 pairs)) in
    record {
      node = h.node;
      there = h.there;
      is = ⊎_elim
          (λ e. inl (e, ap (λ n. arc_at (arcs_from dead 0 pairs) n) e ∙ zero_first dead pairs h.node h.there))
          (λ e. inr (e, ap (λ n. arc_at (arcs_from dead 0 pairs) n) e ∙ one_first dead pairs h.node h.there))
          h.is;
    }

-- the arc at a place, by half the place
pub half_zero : (dead : ℕ) (pairs : List Pair) (place : ℕ) → place < length (arcs_from dead 0 pairs) → place % 2 ≡ 0 → arc_at (arcs_from dead 0 pairs) place ≡ arc_to dead (place / 2) (pair_at pairs (place / 2)).zero (pos 0)
half_zero dead pairs place l e =
    ap (λ n. arc_at (arcs_from dead 0 pairs) n) (even place e)
    ∙ zero_first dead pairs (place / 2) (omega (arith, l, length-arcs_from dead 0 pairs, even place e))
  where
    even : (n : ℕ) → n % 2 ≡ 0 → n ≡ 2 * (n / 2)
    even n e = omega (arith, e, div-add-mod n 2)

pub half_one : (dead : ℕ) (pairs : List Pair) (place : ℕ) → place < length (arcs_from dead 0 pairs) → (place % 2 ≡ 0 → ⊥) → arc_at (arcs_from dead 0 pairs) place ≡ arc_to dead (place / 2) (pair_at pairs (place / 2)).one (pos 1)
half_one dead pairs place l n =
    ap (λ m. arc_at (arcs_from dead 0 pairs) m) (odd place n)
    ∙ one_first dead pairs (place / 2) (omega (arith, l, length-arcs_from dead 0 pairs, odd place n))
  where
    odd : (m : ℕ) → (m % 2 ≡ 0 → ⊥) → m ≡ 2 * (m / 2) + 1
    odd m n = ⊎_elim (λ e. absurd (n e)) (λ o. omega (arith, div-add-mod m 2, rest m o)) (cases_eq (m % 2) 0)
      where
        rest : (m : ℕ) → (m % 2 ≡ 0 → ⊥) → m % 2 ≡ 1
        rest m o = ⊎_elim (λ l. absurd (o (omega (arith, l)))) (λ h. omega (arith, h)) (cases_lt (m % 2) 1)

pub half_there : (dead : ℕ) (pairs : List Pair) (place : ℕ) → place < length (arcs_from dead 0 pairs) → place / 2 < length pairs
half_there dead pairs place l = omega (arith, l, length-arcs_from dead 0 pairs, div-add-mod place 2)

-- whether a list has a pair
pub empty_none : (pairs : List Pair) → (length pairs == 0) ≡ true → pairs ≡ []
empty_none [] e = refl
empty_none (p ∷ ps) e = absurd (omega (arith, eqb-true (length (p ∷ ps)) 0 e))

pub empty_some : (pairs : List Pair) → (length pairs == 0) ≡ false → pairs ≡ [] → ⊥
empty_some [] e n = absurd (cc)
empty_some (p ∷ ps) e n = absurd (cc)

-- a list that has a pair stands for its arcs
pub with_some : (dead : ℕ) (arcs : List Arc) (pairs : List Pair) → (pairs ≡ [] → ⊥) → arcs_with dead arcs pairs ≡ arcs_from dead 0 pairs
with_some dead arcs [] n = absurd (n refl)
with_some dead arcs (p ∷ ps) n = refl

pub with_none : (dead : ℕ) (arcs : List Arc) (pairs : List Pair) → pairs ≡ [] → arcs_with dead arcs pairs ≡ arcs
with_none dead arcs [] e = refl
with_none dead arcs (p ∷ ps) e = absurd (cc)

pub cells_some : (wide : ℕ) (pairs : List Pair) → (pairs ≡ [] → ⊥) → cells_of wide pairs ≡ length pairs
cells_some wide [] n = absurd (n refl)
cells_some wide (p ∷ ps) n = refl

pub cells_none : (wide : ℕ) (pairs : List Pair) → pairs ≡ [] → cells_of wide pairs ≡ wide
cells_none wide [] e = refl
cells_none wide (p ∷ ps) e = absurd (cc)

pub cells_within : (wide : ℕ) (pairs : List Pair) → length pairs ≤ wide → cells_of wide pairs ≤ wide
cells_within wide [] l = omega arith
cells_within wide (p ∷ ps) l = l

pub cells_positive : (wide : ℕ) (pairs : List Pair) → 0 < wide → 0 < cells_of wide pairs
cells_positive wide [] l = l
cells_positive wide (p ∷ ps) l = omega arith

-- the layers with pairs
pub get-steps_with : (dead : ℕ) (steps : List (List Arc)) (pairs : List (List Pair)) (k : ℕ) → k < length steps
    → get_or (steps_with dead steps pairs) k [] ≡ arcs_with dead (get_or steps k []) (pairs_at pairs k)
get-steps_with dead [] pairs k l = absurd (omega arith)
get-steps_with dead (arcs ∷ steps) [] zero l = refl
get-steps_with dead (arcs ∷ steps) [] (suc k) l = refl
get-steps_with dead (arcs ∷ steps) (ps ∷ pairs) zero l = refl
get-steps_with dead (arcs ∷ steps) (ps ∷ pairs) (suc k) l = get-steps_with dead steps pairs k (omega (arith, l))

pub length-steps_with : (dead : ℕ) (steps : List (List Arc)) (pairs : List (List Pair)) → length (steps_with dead steps pairs) ≡ length steps
length-steps_with dead [] pairs = refl
length-steps_with dead (arcs ∷ steps) [] = refl
length-steps_with dead (arcs ∷ steps) (ps ∷ pairs) = omega (arith, length-steps_with dead steps pairs)

pub steps_bare : (dead : ℕ) (steps : List (List Arc)) → steps_with dead steps [] ≡ steps
steps_bare dead [] = refl
steps_bare dead (arcs ∷ steps) = refl

-- layers that lead alike have the same ways
ways_onto : (steps others : List (List Arc)) → length others ≡ length steps → ((k : ℕ) → k < length steps → LeadAlike (get_or steps k []) (get_or others k []))
    → (node : ℕ) (ys : List ℤ) → IsWay steps node ys → IsWay others node ys
ways_onto [] [] e h node ys way = way
ways_onto [] (o ∷ os) e h node ys way = absurd (omega arith)
ways_onto (arcs ∷ steps) [] e h node ys way = absurd (omega arith)
ways_onto (arcs ∷ steps) (o ∷ os) e h node [] way = absurd way
ways_onto (arcs ∷ steps) (o ∷ os) e h node (y ∷ ys) (j, leads, way) =
    let t : LeadsThere o node y (arc_at arcs j).to = (h 0 (omega arith)).onto node y j leads in
    (t.place, t.leads, subst (λ n. IsWay os n ys) (sym t.there) (ways_onto steps os (omega (arith, e)) (λ k l. h (suc k) (omega (arith, l))) (arc_at arcs j).to ys way))

swapped : (arcs others : List Arc) → LeadAlike arcs others → LeadAlike others arcs
swapped arcs others h = record { onto = h.back; back = h.onto }

pub same_ways : (steps others : List (List Arc)) → length others ≡ length steps → ((k : ℕ) → k < length steps → LeadAlike (get_or steps k []) (get_or others k [])) → HasSameWays steps others
same_ways steps others e h = record {
  onto = λ ys way. ways_onto steps others e h 0 ys way;
  back = λ ys way. ways_onto others steps (sym e) (λ k l. swapped (get_or steps k []) (get_or others k []) (h k (omega (arith, l, e)))) 0 ys way;
}

pub alike_itself : (arcs : List Arc) → LeadAlike arcs arcs
alike_itself arcs = record {
  onto = λ node y j leads. record { place = j; leads = leads; there = refl };
  back = λ node y j leads. record { place = j; leads = leads; there = refl };
}

-- pairs that have all arcs of a layer lead alike
pub alike_pairs : (dead : ℕ) (arcs : List Arc) (pairs : List Pair) → ArePairs dead arcs (length arcs) pairs
    → ((j : ℕ) → j < length arcs → (arc_at arcs j).from < length pairs) → ((j : ℕ) → j < length arcs → (arc_at arcs j).to < dead)
    → LeadAlike arcs (arcs_from dead 0 pairs)
alike_pairs dead arcs pairs h starts ends = record { onto = onto; back = back }
  where
    not_dead : (j t : ℕ) → j < length arcs → t ≡ (arc_at arcs j).to → t ≡ dead → ⊥
    not_dead j t l e d = omega (arith, ends j l, e, d)

    onto : (node : ℕ) (y : ℤ) (j : ℕ) → Leads arcs node y j → LeadsThere (arcs_from dead 0 pairs) node y (arc_at arcs j).to
    onto node y j leads = by (h.onto j leads.there)
      where
        from : ℕ
        from = (arc_at arcs j).from

        there : from < length pairs
        there = starts j leads.there

        by : IsInPair pairs (arc_at arcs j) → LeadsThere (arcs_from dead 0 pairs) node y (arc_at arcs j).to
        by (inl (label, target)) =
            let is = zero_first dead pairs from there in
            record {
              place = 2 * from;
              leads = record {
                there = omega (arith, there, length-arcs_from dead 0 pairs);
                from = ap (λ (a : Arc). a.from) is ∙ leads.from;
                within = subst (λ (l : Span). IsWithin l y) (label ∙ sym (ap (λ (a : Arc). a.label) is ∙ label_live dead (pair_at pairs from).zero (pos 0) (not_dead j (pair_at pairs from).zero leads.there target))) leads.within;
              };
              there = ap (λ (a : Arc). a.to) is ∙ target;
            }
        by (inr (label, target)) =
            let is = one_first dead pairs from there in
            record {
              place = 2 * from + 1;
              leads = record {
                there = omega (arith, there, length-arcs_from dead 0 pairs);
                from = ap (λ (a : Arc). a.from) is ∙ leads.from;
                within = subst (λ (l : Span). IsWithin l y) (label ∙ sym (ap (λ (a : Arc). a.label) is ∙ label_live dead (pair_at pairs from).one (pos 1) (not_dead j (pair_at pairs from).one leads.there target))) leads.within;
              };
              there = ap (λ (a : Arc). a.to) is ∙ target;
            }

    -- an arc of a pair's target comes of an arc of the layer
    of_arc : (node n target : ℕ) (v y : ℤ) (arc : Arc) → arc ≡ arc_to dead n target v → arc.from ≡ node → IsWithin arc.label y
        → IsOfArc dead arcs (length arcs) n target v → LeadsThere arcs node y arc.to
    of_arc node n target v y arc is from within (inl e) = absurd (alive_within dead target v y (subst (λ (a : Arc). IsWithin a.label y) is within) e)
    of_arc node n target v y arc is from within (inr (j, l, e)) = record {
      place = j;
      leads = record {
        there = l;
        from = ap (λ (a : Arc). a.from) e ∙ sym (ap (λ (a : Arc). a.from) is) ∙ from;
        within = subst (λ (s : Span). IsWithin s y) (ap (λ (a : Arc). a.label) is ∙ label_live dead target v (alive_within dead target v y (subst (λ (a : Arc). IsWithin a.label y) is within)) ∙ sym (ap (λ (a : Arc). a.label) e)) within;
      };
      there = ap (λ (a : Arc). a.to) e ∙ sym (ap (λ (a : Arc). a.to) is);
    }

    back : (node : ℕ) (y : ℤ) (j : ℕ) → Leads (arcs_from dead 0 pairs) node y j → LeadsThere arcs node y (arc_at (arcs_from dead 0 pairs) j).to
    back node y j leads = by (arc_of_pairs dead pairs j leads.there)
      where
        by : IsArcOf dead pairs j → LeadsThere arcs node y (arc_at (arcs_from dead 0 pairs) j).to
        by o = ⊎_elim
            (λ z. of_arc node o.node (pair_at pairs o.node).zero (pos 0) y (arc_at (arcs_from dead 0 pairs) j) z.1 leads.from leads.within (h.zero o.node o.there))
            (λ z. of_arc node o.node (pair_at pairs o.node).one (pos 1) y (arc_at (arcs_from dead 0 pairs) j) z.1 leads.from leads.within (h.one o.node o.there))
            o.is

-- pairs of nodes of which no arc is written yet
abbrev pub blank : ℕ → Pair
blank dead = record { zero = dead; one = dead }

pub pairs_start : (dead n : ℕ) (arcs : List Arc) → ArePairs dead arcs 0 (replicate n (blank dead))
pairs_start dead n arcs = record {
  onto = λ j l. absurd (omega (arith, l));
  zero = λ node l. inl (ap (λ (p : Pair). p.zero) (same node l));
  one = λ node l. inl (ap (λ (p : Pair). p.one) (same node l));
}
  where
    same : (node : ℕ) → node < length (replicate n (blank dead)) → pair_at (replicate n (blank dead)) node ≡ blank dead
    same node l = get_or-replicate n node (blank dead) (blank 0) (subst (λ m. node < m) (length-replicate n (blank dead)) l)

-- a pair that was written
at_set : (dead : ℕ) (pairs : List Pair) (f node : ℕ) (p : Pair) → f < length pairs → node ≡ f → pair_at (set pairs f p) node ≡ p
at_set dead pairs f node p l e = ap (λ n. pair_at (set pairs f p) n) e ∙ get_or-set_same pairs f p (record { zero = 0; one = 0 }) l

at_other : (dead : ℕ) (pairs : List Pair) (f node : ℕ) (p : Pair) → (node ≡ f → ⊥) → pair_at (set pairs f p) node ≡ pair_at pairs node
at_other dead pairs f node p n = get_or-set_other pairs f node p (record { zero = 0; one = 0 }) n

of_more : (dead : ℕ) (arcs : List Arc) (k node t u : ℕ) (y : ℤ) → t ≡ u → IsOfArc dead arcs k node u y → IsOfArc dead arcs (k + 1) node t y
of_more dead arcs k node t u y e (inl is) = inl (e ∙ is)
of_more dead arcs k node t u y e (inr (j, l, is)) = inr (j, omega (arith, l), is ∙ ap (λ n. arc_by node n y) (sym e))

of_last : (dead : ℕ) (arcs : List Arc) (k node t : ℕ) (y : ℤ) → node ≡ (arc_at arcs k).from → t ≡ (arc_at arcs k).to → (arc_at arcs k).label ≡ label_of y → IsOfArc dead arcs (k + 1) node t y
of_last dead arcs k node t y f e label = inr (k, omega arith, by (arc_at arcs k) f e label)
  where
    made : ℕ → ℕ → Span → Arc
    made from to label = record { from = from; to = to; label = label }

    by : (a : Arc) → node ≡ a.from → t ≡ a.to → a.label ≡ label_of y → a ≡ arc_by node t y
    by a f e label =
        ap (λ (l : Span). made a.from a.to l) label
        ∙ ap (λ n. made n a.to (label_of y)) (sym f)
        ∙ ap (λ n. made node n (label_of y)) (sym e)

-- the label of a number
number_label : (l : Span) (y : ℤ) → l.lo ≡ y → l.hi ≡ y → l ≡ label_of y
number_label l y e f = ap (λ z. made z l.hi) e ∙ ap (λ z. made y z) f
  where
    made : ℤ → ℤ → Span
    made lo hi = record { lo = lo; hi = hi }

-- with one arc more
pub pairs_more : (dead : ℕ) (arcs : List Arc) (k : ℕ) (pairs now : List Pair) → k < length arcs → (arc_at arcs k).from < length pairs
    → ((j : ℕ) → j < length arcs → (arc_at arcs j).to < dead) → IsPut dead pairs (arc_at arcs k) now → ArePairs dead arcs k pairs → ArePairs dead arcs (k + 1) now
pairs_more dead arcs k pairs now there start ends (inl (number, was, is)) h =
    subst (λ (ps : List Pair). ArePairs dead arcs (k + 1) ps) (sym is) (record { onto = onto; zero = zero_of; one = one_of })
  where
    label : (arc_at arcs k).label ≡ label_of (pos 0)
    label = number_label (arc_at arcs k).label (pos 0) number.0 number.1

    f : ℕ
    f = (arc_at arcs k).from

    p : Pair
    p = record { zero = (arc_at arcs k).to; one = (pair_at pairs f).one }

    had : (j : ℕ) → j < k → IsInPair pairs (arc_at arcs j) → IsInPair (set pairs f p) (arc_at arcs j)
    had j l (inl (own, target)) = ⊎_elim
        (λ e. absurd (none (arc_at arcs j).to (ends j (omega (arith, l, there))) (sym target ∙ ap (λ n. (pair_at pairs n).zero) e ∙ was)))
        (λ n. inl (own, ap (λ (q : Pair). q.zero) (at_other dead pairs f (arc_at arcs j).from p n) ∙ target))
        (cases_eq (arc_at arcs j).from f)
      where
        none : (t : ℕ) → t < dead → t ≡ dead → ⊥
        none t l e = omega (arith, l, e)
    had j l (inr (own, target)) = ⊎_elim
        (λ e. inr (own, ap (λ (q : Pair). q.one) (at_set dead pairs f (arc_at arcs j).from p start e) ∙ ap (λ n. (pair_at pairs n).one) (sym e) ∙ target))
        (λ n. inr (own, ap (λ (q : Pair). q.one) (at_other dead pairs f (arc_at arcs j).from p n) ∙ target))
        (cases_eq (arc_at arcs j).from f)

    onto : (j : ℕ) → j < k + 1 → IsInPair (set pairs f p) (arc_at arcs j)
    onto j l = ⊎_elim
        (λ less. had j less (h.onto j less))
        (λ above. subst (λ n. IsInPair (set pairs f p) (arc_at arcs n)) (is_k j l above) (inl (label, ap (λ (q : Pair). q.zero) (at_set dead pairs f f p start refl))))
        (cases_lt j k)
      where
        is_k : (j : ℕ) → j < k + 1 → k ≤ j → k ≡ j
        is_k j l m = omega (arith, l, m)

    zero_of : (node : ℕ) → node < length (set pairs f p) → IsOfArc dead arcs (k + 1) node (pair_at (set pairs f p) node).zero (pos 0)
    zero_of node l = ⊎_elim
        (λ e. of_last dead arcs k node (pair_at (set pairs f p) node).zero (pos 0) e (ap (λ (q : Pair). q.zero) (at_set dead pairs f node p start e)) label)
        (λ n. of_more dead arcs k node (pair_at (set pairs f p) node).zero (pair_at pairs node).zero (pos 0) (ap (λ (q : Pair). q.zero) (at_other dead pairs f node p n))
        (h.zero node (subst (λ m. node < m) (length-set pairs f p) l)))
        (cases_eq node f)

    one_of : (node : ℕ) → node < length (set pairs f p) → IsOfArc dead arcs (k + 1) node (pair_at (set pairs f p) node).one (pos 1)
    one_of node l =
        of_more dead arcs k node (pair_at (set pairs f p) node).one (pair_at pairs node).one (pos 1)
        (⊎_elim
        (λ e. ap (λ (q : Pair). q.one) (at_set dead pairs f node p start e) ∙ ap (λ n. (pair_at pairs n).one) (sym e))
        (λ n. ap (λ (q : Pair). q.one) (at_other dead pairs f node p n))
        (cases_eq node f))
        (h.one node (subst (λ m. node < m) (length-set pairs f p) l))
pairs_more dead arcs k pairs now there start ends (inr (number, was, is)) h =
    subst (λ (ps : List Pair). ArePairs dead arcs (k + 1) ps) (sym is) (record { onto = onto; zero = zero_of; one = one_of })
  where
    label : (arc_at arcs k).label ≡ label_of (pos 1)
    label = number_label (arc_at arcs k).label (pos 1) number.0 number.1

    f : ℕ
    f = (arc_at arcs k).from

    p : Pair
    p = record { zero = (pair_at pairs f).zero; one = (arc_at arcs k).to }

    had : (j : ℕ) → j < k → IsInPair pairs (arc_at arcs j) → IsInPair (set pairs f p) (arc_at arcs j)
    had j l (inr (own, target)) = ⊎_elim
        (λ e. absurd (none (arc_at arcs j).to (ends j (omega (arith, l, there))) (sym target ∙ ap (λ n. (pair_at pairs n).one) e ∙ was)))
        (λ n. inr (own, ap (λ (q : Pair). q.one) (at_other dead pairs f (arc_at arcs j).from p n) ∙ target))
        (cases_eq (arc_at arcs j).from f)
      where
        none : (t : ℕ) → t < dead → t ≡ dead → ⊥
        none t l e = omega (arith, l, e)
    had j l (inl (own, target)) = ⊎_elim
        (λ e. inl (own, ap (λ (q : Pair). q.zero) (at_set dead pairs f (arc_at arcs j).from p start e) ∙ ap (λ n. (pair_at pairs n).zero) (sym e) ∙ target))
        (λ n. inl (own, ap (λ (q : Pair). q.zero) (at_other dead pairs f (arc_at arcs j).from p n) ∙ target))
        (cases_eq (arc_at arcs j).from f)

    onto : (j : ℕ) → j < k + 1 → IsInPair (set pairs f p) (arc_at arcs j)
    onto j l = ⊎_elim
        (λ less. had j less (h.onto j less))
        (λ above. subst (λ n. IsInPair (set pairs f p) (arc_at arcs n)) (is_k j l above) (inr (label, ap (λ (q : Pair). q.one) (at_set dead pairs f f p start refl))))
        (cases_lt j k)
      where
        is_k : (j : ℕ) → j < k + 1 → k ≤ j → k ≡ j
        is_k j l m = omega (arith, l, m)

    one_of : (node : ℕ) → node < length (set pairs f p) → IsOfArc dead arcs (k + 1) node (pair_at (set pairs f p) node).one (pos 1)
    one_of node l = ⊎_elim
        (λ e. of_last dead arcs k node (pair_at (set pairs f p) node).one (pos 1) e (ap (λ (q : Pair). q.one) (at_set dead pairs f node p start e)) label)
        (λ n. of_more dead arcs k node (pair_at (set pairs f p) node).one (pair_at pairs node).one (pos 1) (ap (λ (q : Pair). q.one) (at_other dead pairs f node p n))
        (h.one node (subst (λ m. node < m) (length-set pairs f p) l)))
        (cases_eq node f)

    zero_of : (node : ℕ) → node < length (set pairs f p) → IsOfArc dead arcs (k + 1) node (pair_at (set pairs f p) node).zero (pos 0)
    zero_of node l =
        of_more dead arcs k node (pair_at (set pairs f p) node).zero (pair_at pairs node).zero (pos 0)
        (⊎_elim
        (λ e. ap (λ (q : Pair). q.zero) (at_set dead pairs f node p start e) ∙ ap (λ n. (pair_at pairs n).zero) (sym e))
        (λ n. ap (λ (q : Pair). q.zero) (at_other dead pairs f node p n))
        (cases_eq node f))
        (h.zero node (subst (λ m. node < m) (length-set pairs f p) l))

-- what arcs and pairs lead to has a cell
pub linked_mono : (wide cells more : ℕ) (arcs : List Arc) (ps : List Pair) → IsLinked wide cells arcs ps → cells ≤ more → IsLinked wide more arcs ps
linked_mono wide cells more arcs ps h fit = record {
  nodes = h.nodes;
  few = h.few;
  arcs = λ j l. omega (arith, fit, h.arcs j l);
  pairs = λ k d l. record {
    zero = λ n. omega (arith, fit, (h.pairs k d l).zero n);
    one = λ n. omega (arith, fit, (h.pairs k d l).one n);
  };
}

pub bare_linked : (wide cells : ℕ) (arcs : List Arc) → ((j : ℕ) → j < length arcs → (arc_at arcs j).to < cells) → IsLinked wide cells arcs []
bare_linked wide cells arcs ends = record {
  nodes = omega arith;
  few = omega arith;
  arcs = ends;
  pairs = λ k d l. absurd (omega (arith, l));
}

pub pairs_linked : (wide cells : ℕ) (arcs : List Arc) (ps : List Pair) → ArePairs wide arcs (length arcs) ps → length ps ≤ wide → length ps < 2 ^ 31
    → ((j : ℕ) → j < length arcs → (arc_at arcs j).to < cells) → IsLinked wide cells arcs ps
pairs_linked wide cells arcs ps h few short ends = record {
  nodes = few;
  few = short;
  arcs = ends;
  pairs = λ k d l. record {
    zero = λ n. target k (get_or ps k d).zero (pos 0) n (subst (λ (p : Pair). IsOfArc wide arcs (length arcs) k p.zero (pos 0)) (get_or_default ps k (record { zero = 0; one = 0 }) d l) (h.zero k l));
    one = λ n. target k (get_or ps k d).one (pos 1) n (subst (λ (p : Pair). IsOfArc wide arcs (length arcs) k p.one (pos 1)) (get_or_default ps k (record { zero = 0; one = 0 }) d l) (h.one k l));
  };
}
  where
    target : (node t : ℕ) (y : ℤ) → (t ≡ wide → ⊥) → IsOfArc wide arcs (length arcs) node t y → t < cells
    target node t y n (inl e) = absurd (n e)
    target node t y n (inr (j, l, e)) = subst (λ (a : Arc). a.to < cells) e (ends j l)

-- the lists of the first layers; what the last of them leads to is below a number
pub record IsLaid (wide : ℕ) (steps : List (List Arc)) (lists : List (List Pair)) (k nodes : ℕ) : Type 0 where
  pub many : length lists ≡ k
  pub some : 0 < nodes
  pub few : nodes ≤ wide
  pub inner : (i : ℕ) → i + 1 < k → IsLinked wide (cells_of wide (pairs_at lists (i + 1))) (get_or steps i []) (pairs_at lists i)
  pub last : (i : ℕ) → i + 1 ≡ k → IsLinked wide nodes (get_or steps i []) (pairs_at lists i)
  pub alike : (i : ℕ) → i < k → LeadAlike (get_or steps i []) (arcs_with wide (get_or steps i []) (pairs_at lists i))

pub laid_start : (wide : ℕ) (steps : List (List Arc)) → 0 < wide → IsLaid wide steps [] 0 1
laid_start wide steps some = record {
  many = refl;
  some = omega arith;
  few = omega (arith, some);
  inner = λ i l. absurd (omega (arith, l));
  last = λ i e. absurd (omega (arith, e));
  alike = λ i l. absurd (omega (arith, l));
}

pub laid_more : (wide : ℕ) (steps : List (List Arc)) (lists : List (List Pair)) (k nodes ends : ℕ) (list : List Pair) → IsLaid wide steps lists k nodes
    → nodes ≤ cells_of wide list → IsLinked wide ends (get_or steps k []) list → LeadAlike (get_or steps k []) (arcs_with wide (get_or steps k []) list) → 0 < ends → ends ≤ wide
    → IsLaid wide steps (lists ++ (list ∷ [])) (k + 1) ends
laid_more wide steps lists k nodes ends list h cells linked alike some few = record {
  many = omega (arith, length-append lists (list ∷ []), h.many);
  some = some;
  few = few;
  inner = λ i l. ⊎_elim
      (λ less. subst (λ (xs : List Pair). IsLinked wide (cells_of wide xs) (get_or steps i []) (pairs_at (lists ++ (list ∷ [])) i)) (sym (before (i + 1) less))
      (subst (λ (xs : List Pair). IsLinked wide (cells_of wide (pairs_at lists (i + 1))) (get_or steps i []) xs) (sym (before i (omega (arith, less)))) (h.inner i less)))
      (λ above. subst (λ (xs : List Pair). IsLinked wide (cells_of wide xs) (get_or steps i []) (pairs_at (lists ++ (list ∷ [])) i)) (sym (here (i + 1) (omega (arith, l, above))))
      (subst (λ (xs : List Pair). IsLinked wide (cells_of wide list) (get_or steps i []) xs) (sym (before i (omega (arith, l, above))))
      (linked_mono wide nodes (cells_of wide list) (get_or steps i []) (pairs_at lists i) (h.last i (omega (arith, l, above))) cells)))
      (cases_lt (i + 1) k);
  last = λ i e. subst (λ (xs : List Pair). IsLinked wide ends (get_or steps i []) xs) (sym (here i (omega (arith, e))))
      (subst (λ n. IsLinked wide ends (get_or steps n []) list) (omega (arith, e)) linked);
  alike = λ i l. ⊎_elim
      (λ less. subst (λ (xs : List Pair). LeadAlike (get_or steps i []) (arcs_with wide (get_or steps i []) xs)) (sym (before i less)) (h.alike i less))
      (λ above. subst (λ (xs : List Pair). LeadAlike (get_or steps i []) (arcs_with wide (get_or steps i []) xs)) (sym (here i (omega (arith, l, above))))
      (subst (λ n. LeadAlike (get_or steps n []) (arcs_with wide (get_or steps n []) list)) (same i l above) alike))
      (cases_lt i k);
}
  where
    before : (i : ℕ) → i < k → pairs_at (lists ++ (list ∷ [])) i ≡ pairs_at lists i
    before i l = get_or_append_left lists (list ∷ []) [] i (omega (arith, l, h.many))

    here : (i : ℕ) → i ≡ k → pairs_at (lists ++ (list ∷ [])) i ≡ list
    here i e = ap (λ n. pairs_at (lists ++ (list ∷ [])) n) (e ∙ sym h.many) ∙ get_or-append_seam lists list [] []

    same : (i : ℕ) → i < k + 1 → k ≤ i → k ≡ i
    same i l m = omega (arith, l, m)

pub laid_linked : (wide : ℕ) (steps : List (List Arc)) (lists : List (List Pair)) (k nodes : ℕ) → IsLaid wide steps lists k nodes → k ≡ length steps → AreLinked wide steps lists
laid_linked wide steps lists k nodes h e = record { many = omega (arith, h.many, e); each = each }
  where
    each : (i : ℕ) → i < length steps → IsLinked wide (cells_of wide (pairs_at lists (i + 1))) (get_or steps i []) (pairs_at lists i)
    each i l = ⊎_elim
        (λ less. h.inner i less)
        (λ above. linked_mono wide nodes (cells_of wide (pairs_at lists (i + 1))) (get_or steps i []) (pairs_at lists i) (h.last i (omega (arith, l, above, e)))
        (omega (arith, h.few, cells_none wide (pairs_at lists (i + 1)) (get_or_past lists (i + 1) [] (omega (arith, above, h.many))))))
        (cases_lt (i + 1) k)

pub laid_ways : (wide : ℕ) (steps : List (List Arc)) (lists : List (List Pair)) (k nodes : ℕ) → IsLaid wide steps lists k nodes → k ≡ length steps → HasSameWays steps (steps_with wide steps lists)
laid_ways wide steps lists k nodes h e = same_ways steps (steps_with wide steps lists) (length-steps_with wide steps lists)
    (λ i l. subst (λ (xs : List Arc). LeadAlike (get_or steps i []) xs) (sym (get-steps_with wide steps lists i l)) (h.alike i (omega (arith, l, e))))

-- where no layer has pairs
pub bare_ways : (wide : ℕ) (steps : List (List Arc)) → HasSameWays steps (steps_with wide steps [])
bare_ways wide steps = subst (λ (xs : List (List Arc)). HasSameWays steps xs) (sym (steps_bare wide steps)) (record { onto = λ ys way. way; back = λ ys way. way })

pub bare_all : (wide : ℕ) (steps : List (List Arc)) → IsSafe wide steps → AreLinked wide steps []
bare_all wide steps safe = record {
  many = omega arith;
  each = λ k l. bare_linked wide wide (get_or steps k []) (λ j m. ((safe k [] l).each j (record { from = 0; to = 0; label = record { lo = pos 0; hi = pos 0 } }) m).to);
}

-- a layer as its pairs are found, or none
pub layer_linked : (wide ends starts : ℕ) (arcs : List Arc) (list : List Pair) → (list ≡ []) ⊎ ((length list ≡ starts) × ArePairs wide arcs (length arcs) list) → starts ≤ wide → wide < 2 ^ 31
    → ((j : ℕ) → j < length arcs → (arc_at arcs j).to < ends) → IsLinked wide ends arcs list
layer_linked wide ends starts arcs list (inl none) few short h = subst (λ (xs : List Pair). IsLinked wide ends arcs xs) (sym none) (bare_linked wide ends arcs h)
layer_linked wide ends starts arcs list (inr (len, pairs)) few short h = pairs_linked wide ends arcs list pairs (omega (arith, len, few)) (omega (arith, len, few, short)) h

pub layer_cells : (wide nodes starts : ℕ) (arcs : List Arc) (list : List Pair) → (list ≡ []) ⊎ ((length list ≡ starts) × ArePairs wide arcs (length arcs) list) → nodes ≤ starts → starts ≤ wide
    → nodes ≤ cells_of wide list
layer_cells wide nodes starts arcs list (inl none) few within = omega (arith, few, within, cells_none wide list none)
layer_cells wide nodes starts arcs [] (inr (len, pairs)) few within = omega (arith, few, within)
layer_cells wide nodes starts arcs (p ∷ ps) (inr (len, pairs)) few within = omega (arith, few, len)

pub layer_alike : (wide starts : ℕ) (arcs : List Arc) (list : List Pair) → (list ≡ []) ⊎ ((length list ≡ starts) × ArePairs wide arcs (length arcs) list)
    → ((j : ℕ) → j < length arcs → (arc_at arcs j).from < starts) → ((j : ℕ) → j < length arcs → (arc_at arcs j).to < wide) → LeadAlike arcs (arcs_with wide arcs list)
layer_alike wide starts arcs list (inl none) from to = subst (λ (xs : List Arc). LeadAlike arcs xs) (sym (with_none wide arcs list none)) (alike_itself arcs)
layer_alike wide starts arcs [] (inr (len, pairs)) from to = alike_itself arcs
layer_alike wide starts arcs (p ∷ ps) (inr (len, pairs)) from to = alike_pairs wide arcs (p ∷ ps) pairs (λ j l. omega (arith, from j l, len)) to
