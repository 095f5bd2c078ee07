-- Laws of the way that picks lead.
use Rattle.std.proofs.Common.{◌≡◌, refl, sym, ap, subst, ◌∙◌, ℕ, zero, suc, ◌+◌, ◌<◌, List, [], ◌∷◌, length, get_or, set, drop, arith, ⊎_elim, drop-cons}
use Rattle.std.proofs.Math.IntN.{ℤ, pos}
use Rattle.std.proofs.lemmas.Bool.{cases_lt, cases_eq}
use Rattle.std.proofs.lemmas.List.{get_or-set_same, get_or-set_other}
use Rattle.bp_theory.specs.declared.Span.{Span}
use Rattle.layer_graph.specs.Graphs.{arc_at}
use Rattle.shortest_path.specs.Best.{pick_at, IsOpen, chosen_number, LeadsOn, way_of}
use Rattle.layer_graph.specs.declared.graph.Arc.{Arc}

-- one step of a way
pub record IsStep (steps : List (List Arc)) (picks : List (List ℕ)) (zone : List Span) (costs way : List ℤ) (k node : ℕ) (arcs : List Arc) (row : List ℕ) : Type 0 where
  pub there : pick_at row node < length arcs
  pub meets : IsOpen (arc_at arcs (pick_at row node)).label (get_or zone k (record { lo = pos 0; hi = pos 0 }))
  pub number : get_or way k (pos 0) ≡ chosen_number (arc_at arcs (pick_at row node)).label (get_or zone k (record { lo = pos 0; hi = pos 0 })) (get_or costs k (pos 0))
  pub leads : LeadsOn (drop (k + 1) steps) (drop (k + 1) picks) (drop (k + 1) zone) (arc_at arcs (pick_at row node)).to
  pub rest : drop (k + 1) way ≡ way_of (drop (k + 1) steps) (drop (k + 1) picks) (drop (k + 1) zone) (drop (k + 1) costs) (arc_at arcs (pick_at row node)).to

head_is : (xs ys : List ℤ) (y d : ℤ) (k : ℕ) → drop k xs ≡ y ∷ ys → get_or xs k d ≡ y
head_is [] ys y d zero e = absurd (cc)
head_is [] ys y d (suc k) e = absurd (cc)
head_is (x ∷ xs) ys y d zero e = cc
head_is (x ∷ xs) ys y d (suc k) e = head_is xs ys y d k e

tail_is : (xs ys : List ℤ) (y : ℤ) (k : ℕ) → drop k xs ≡ y ∷ ys → drop (suc k) xs ≡ ys
tail_is [] ys y zero e = absurd (cc)
tail_is [] ys y (suc k) e = absurd (cc)
tail_is (x ∷ xs) ys y zero e = cc
tail_is (x ∷ xs) ys y (suc k) e = tail_is xs ys y k e

pub step_of_way : (steps : List (List Arc)) (picks : List (List ℕ)) (zone : List Span) (costs way : List ℤ) (k node : ℕ) (arcs : List Arc) (row : List ℕ)
    → k < length steps → k < length picks → k < length zone → k < length costs → arcs ≡ get_or steps k [] → row ≡ get_or picks k []
    → LeadsOn (drop k steps) (drop k picks) (drop k zone) node
    → drop k way ≡ way_of (drop k steps) (drop k picks) (drop k zone) (drop k costs) node
    → IsStep steps picks zone costs way k node arcs row
step_of_way steps picks zone costs way k node arcs row a b c d is_arcs is_row leads rest =
    let l : LeadsOn (arcs ∷ drop (suc k) steps) (row ∷ drop (suc k) picks) (get_or zone k (record { lo = pos 0; hi = pos 0 }) ∷ drop (suc k) zone) node =
    subst (λ (xs : List (List Arc)). LeadsOn xs (row ∷ drop (suc k) picks) (get_or zone k (record { lo = pos 0; hi = pos 0 }) ∷ drop (suc k) zone) node) front_steps
    (subst (λ (xs : List (List ℕ)). LeadsOn (drop k steps) xs (get_or zone k (record { lo = pos 0; hi = pos 0 }) ∷ drop (suc k) zone) node) front_picks
    (subst (λ (xs : List Span). LeadsOn (drop k steps) (drop k picks) xs node) front_zone leads)) in
    let w : drop k way ≡ way_of (arcs ∷ drop (suc k) steps) (row ∷ drop (suc k) picks) (get_or zone k (record { lo = pos 0; hi = pos 0 }) ∷ drop (suc k) zone) (get_or costs k (pos 0) ∷ drop (suc k) costs) node =
    rest
    ∙ ap (λ (xs : List (List Arc)). way_of xs (drop k picks) (drop k zone) (drop k costs) node) front_steps
    ∙ ap (λ (xs : List (List ℕ)). way_of (arcs ∷ drop (suc k) steps) xs (drop k zone) (drop k costs) node) front_picks
    ∙ ap (λ (xs : List Span). way_of (arcs ∷ drop (suc k) steps) (row ∷ drop (suc k) picks) xs (drop k costs) node) front_zone
    ∙ ap (λ (xs : List ℤ). way_of (arcs ∷ drop (suc k) steps) (row ∷ drop (suc k) picks) (get_or zone k (record { lo = pos 0; hi = pos 0 }) ∷ drop (suc k) zone) xs node) front_costs in
    record {
      there = l.0;
      meets = l.2;
      number = head_is way (way_of (drop (suc k) steps) (drop (suc k) picks) (drop (suc k) zone) (drop (suc k) costs) (arc_at arcs (pick_at row node)).to) _ (pos 0) k w;
      leads = subst (λ n. LeadsOn (drop n steps) (drop n picks) (drop n zone) (arc_at arcs (pick_at row node)).to) one l.3;
      rest = subst (λ n. drop n way ≡ way_of (drop n steps) (drop n picks) (drop n zone) (drop n costs) (arc_at arcs (pick_at row node)).to) one
          (tail_is way (way_of (drop (suc k) steps) (drop (suc k) picks) (drop (suc k) zone) (drop (suc k) costs) (arc_at arcs (pick_at row node)).to)
          (chosen_number (arc_at arcs (pick_at row node)).label (get_or zone k (record { lo = pos 0; hi = pos 0 })) (get_or costs k (pos 0))) k w);
    }
  where
    one : suc k ≡ k + 1
    one = omega arith

    front_steps : drop k steps ≡ arcs ∷ drop (suc k) steps
    front_steps = drop-cons steps k [] a ∙ ap (λ (x : List Arc). x ∷ drop (suc k) steps) (sym is_arcs)

    front_picks : drop k picks ≡ row ∷ drop (suc k) picks
    front_picks = drop-cons picks k [] b ∙ ap (λ (x : List ℕ). x ∷ drop (suc k) picks) (sym is_row)

    front_zone : drop k zone ≡ get_or zone k (record { lo = pos 0; hi = pos 0 }) ∷ drop (suc k) zone
    front_zone = drop-cons zone k (record { lo = pos 0; hi = pos 0 }) c

    front_costs : drop k costs ≡ get_or costs k (pos 0) ∷ drop (suc k) costs
    front_costs = drop-cons costs k (pos 0) d

-- as many numbers as layers
pub length-way_of : (steps : List (List Arc)) (picks : List (List ℕ)) (zone : List Span) (costs : List ℤ) (node : ℕ)
    → length picks ≡ length steps → length zone ≡ length steps → length costs ≡ length steps → length (way_of steps picks zone costs node) ≡ length steps
length-way_of [] picks zone costs node e f g = refl
length-way_of (arcs ∷ steps) [] zone costs node e f g = absurd (omega arith)
length-way_of (arcs ∷ steps) (p ∷ ps) [] costs node e f g = absurd (omega arith)
length-way_of (arcs ∷ steps) (p ∷ ps) (s ∷ ss) [] node e f g = absurd (omega arith)
length-way_of (arcs ∷ steps) (p ∷ ps) (s ∷ ss) (r ∷ rs) node e f g =
    omega (arith, length-way_of steps ps ss rs (arc_at arcs (pick_at p node)).to (omega arith) (omega arith) (omega arith))

-- a point with one number more
pub point_more : (point way : List ℤ) (k : ℕ) (y : ℤ) → k < length point → y ≡ get_or way k (pos 0)
    → ((i : ℕ) → i < k → get_or point i (pos 0) ≡ get_or way i (pos 0)) → (i : ℕ) → i < k + 1 → get_or (set point k y) i (pos 0) ≡ get_or way i (pos 0)
point_more point way k y there is had i l = ⊎_elim
    (λ same. ap (λ j. get_or (set point k y) j (pos 0)) same ∙ get_or-set_same point k y (pos 0) there ∙ is ∙ ap (λ j. get_or way j (pos 0)) (sym same))
    (λ other. get_or-set_other point k i y (pos 0) other ∙ had i (less i k l other))
    (cases_eq i k)
  where
    less : (i k : ℕ) → i < k + 1 → (i ≡ k → ⊥) → i < k
    less i k l n = ⊎_elim (λ a. a) (λ b. absurd (n (omega (arith, l, b)))) (cases_lt i k)
