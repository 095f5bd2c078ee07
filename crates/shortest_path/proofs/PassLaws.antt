-- Laws of the pass: layers of least costs, and the ways that picks lead.
use Rattle.std.proofs.Common.{◌≡◌, refl, sym, ap, subst, ◌∙◌, ℕ, zero, suc, ◌+◌, ◌-◌, ◌*◌, ◌<◌, ◌≤◌, List, [], ◌∷◌, length, get_or, set, drop, arith, drop-cons}
use Rattle.std.proofs.Math.IntN.{ℤ, pos, ◌+ℤ◌, ◌*ℤ◌}
use Rattle.std.specs.Prelude.{◌≤ℤ◌, ◌<ℤ◌, unsigned_abs, All}
use Rattle.std.proofs.lemmas.Int.{ints}
use Rattle.std.proofs.lemmas.List.{drop-set-lt, get_or-set_same, length-set}
use Rattle.std.specs.List.{AllByRecursion}
use Rattle.std.proofs.lemmas.List.Elements.{recursion_from_All, All-from_recursion}
use Rattle.bp_theory.specs.Sums.{dot}
use Rattle.bp_theory.specs.Program.{IsInside, IsWithin, reach}
use Rattle.bp_theory.specs.declared.Span.{Span}
use Rattle.pricing_problem.specs.Form.{cost_size}
use Rattle.pricing_problem.proofs.EndLaws.{number-le_reach, product-within}
use Rattle.layer_graph.specs.Graphs.{arc_at, IsWay, IsStepSafe}
use Rattle.shortest_path.specs.Best.{no_way, cell_at, pick_at, chosen_number, AreBounded, IsBest, LeadsOn, way_of, IsReached, AreLeast}
use Rattle.layer_graph.specs.declared.graph.Arc.{Arc}
use Rattle.shortest_path.proofs.BestLaws.{chosen_within, open_by, chosen_cheapest}

-- arcs that have a number lead to nodes below a number
abbrev pub LeadBelow : (wide : ℕ) → List Arc → Type 0
LeadBelow wide arcs = (j : ℕ) (y : ℤ) → j < length arcs → IsWithin (arc_at arcs j).label y → (arc_at arcs j).to < wide

pub safe_below : (wide : ℕ) (arcs : List Arc) → IsStepSafe wide arcs → LeadBelow wide arcs
safe_below wide arcs safe j y l within = (safe.each j (record { from = 0; to = 0; label = record { lo = pos 0; hi = pos 0 } }) l).to

-- the cells of a layer from those of the next
pub layer_least : (arcs : List Arc) (steps : List (List Arc)) (p : List ℕ) (ps : List (List ℕ)) (s : Span) (ss : List Span) (r : ℤ) (rs : List ℤ) (behind wide : ℕ) (next now : List ℤ)
    → LeadBelow behind arcs → AreLeast steps ps ss rs behind next
    → ((node : ℕ) → node < wide → IsBest arcs next s r (length arcs) node (cell_at now node) (pick_at p node))
    → AreLeast (arcs ∷ steps) (p ∷ ps) (s ∷ ss) (r ∷ rs) wide now
layer_least arcs steps p ps s ss r rs behind wide next now safe below best node l = record { least = least; reached = reached }
  where
    through : (a b c d e f : ℤ) → a ≤ℤ (b +ℤ c) → b ≤ℤ d → c ≤ℤ e → f ≡ e +ℤ d → a ≤ℤ f
    through a b c d e f p q w x = omega (arith, ints)

    least : (ys : List ℤ) → IsWay (arcs ∷ steps) node ys → IsInside (s ∷ ss) ys → (cell_at now node <ℤ no_way) × (cell_at now node ≤ℤ dot (r ∷ rs) ys)
    least [] way inside = absurd way
    least (y ∷ ys) (j, leads, way) inside =
        let rest = (below (arc_at arcs j).to (safe j y leads.there leads.within)).least ys way inside.1 in
        let b = (best node l).least j leads.there leads.from (record { meets = open_by (arc_at arcs j).label s y leads.within inside.0; goes_on = rest.0 }) in (
          b.0,
          through (cell_at now node) (cell_at next (arc_at arcs j).to) (r *ℤ chosen_number (arc_at arcs j).label s r) (dot rs ys) (r *ℤ y) (r *ℤ y +ℤ dot rs ys)
              b.1 rest.1 (chosen_cheapest (arc_at arcs j).label s r y leads.within inside.0) refl,
        )

    swapped : (a b c d : ℤ) → a ≡ b +ℤ c → d ≡ b → c +ℤ d ≡ a
    swapped a b c d e f = omega (arith, ints)

    reached : cell_at now node <ℤ no_way → IsReached (arcs ∷ steps) (p ∷ ps) (s ∷ ss) (r ∷ rs) node (cell_at now node)
    reached has =
        let at = (best node l).reached has in
        let rest = (below (arc_at arcs (pick_at p node)).to
        (safe (pick_at p node) (chosen_number (arc_at arcs (pick_at p node)).label s r) at.there (chosen_within (arc_at arcs (pick_at p node)).label s r at.usable.meets).0)).reached at.usable.goes_on in
        record {
          leads = (at.there, at.from, at.usable.meets, rest.leads);
          value = swapped (cell_at now node) (cell_at next (arc_at arcs (pick_at p node)).to) (r *ℤ chosen_number (arc_at arcs (pick_at p node)).label s r)
              (dot rs (way_of steps ps ss rs (arc_at arcs (pick_at p node)).to)) at.costs rest.value;
        }

-- behind the last layer nothing is left to pay
pub end_least : (picks : List (List ℕ)) (wide : ℕ) (cells : List ℤ) → ((k : ℕ) → k < wide → cell_at cells k ≡ pos 0) → AreLeast [] picks [] [] wide cells
end_least picks wide cells zeros node l = record {
  least = least;
  reached = λ has. record { leads = tt; value = sym (zeros node l) };
}
  where
    small : (a : ℤ) → a ≡ pos 0 → (a <ℤ no_way) × (a ≤ℤ pos 0)
    small a e = (omega (arith, ints), omega (arith, ints))

    least : (ys : List ℤ) → IsWay [] node ys → IsInside [] ys → (cell_at cells node <ℤ no_way) × (cell_at cells node ≤ℤ dot [] ys)
    least [] way inside = small (cell_at cells node) (zeros node l)
    least (y ∷ ys) way inside = absurd way

-- the way that picks lead is a way, and lies within the zone
pub leads_way : (steps : List (List Arc)) (picks : List (List ℕ)) (zone : List Span) (costs : List ℤ) (node : ℕ) → length zone ≡ length steps → length costs ≡ length steps
    → LeadsOn steps picks zone node → IsWay steps node (way_of steps picks zone costs node) × IsInside zone (way_of steps picks zone costs node)
leads_way [] picks [] costs node e f h = (tt, tt)
leads_way [] picks (s ∷ ss) costs node e f h = absurd (omega arith)
leads_way (arcs ∷ steps) [] zone costs node e f h = absurd h
leads_way (arcs ∷ steps) (p ∷ ps) [] costs node e f h = absurd h
leads_way (arcs ∷ steps) (p ∷ ps) (s ∷ ss) [] node e f h = absurd (omega arith)
leads_way (arcs ∷ steps) (p ∷ ps) (s ∷ ss) (r ∷ rs) node e f (there, from, meets, leads) =
    let within = chosen_within (arc_at arcs (pick_at p node)).label s r meets in
    let rest = leads_way steps ps ss rs (arc_at arcs (pick_at p node)).to (omega arith) (omega arith) leads in
    ((pick_at p node, record { there = there; from = from; within = within.0 }, rest.0), (within.1, rest.1))

-- the size of a scalar product within a zone
pub dot_small : (zone : List Span) (costs ys : List ℤ) → IsInside zone ys → unsigned_abs (dot costs ys) ≤ cost_size zone costs
dot_small zone [] ys h = omega arith
dot_small [] (r ∷ rs) [] h = omega arith
dot_small [] (r ∷ rs) (y ∷ ys) h = absurd h
dot_small (s ∷ ss) (r ∷ rs) [] h = absurd h
dot_small (s ∷ ss) (r ∷ rs) (y ∷ ys) h =
    added (r *ℤ y) (dot rs ys) (unsigned_abs r * reach s) (cost_size ss rs) (product-within r y s (number-le_reach s y h.0)) (dot_small ss rs ys h.1)
  where
    added : (a b : ℤ) (m n : ℕ) → unsigned_abs a ≤ m → unsigned_abs b ≤ n → unsigned_abs (a +ℤ b) ≤ m + n
    added a b m n h k = omega (arith, ints)

pub cost_size-drop : (zone : List Span) (costs : List ℤ) (k : ℕ) → cost_size (drop k zone) (drop k costs) ≤ cost_size zone costs
cost_size-drop zone costs zero = omega arith
cost_size-drop [] costs (suc k) = omega arith
cost_size-drop (s ∷ ss) [] (suc k) = nothing (drop k ss)
  where
    nothing : (zs : List Span) → cost_size zs [] ≤ 0
    nothing [] = omega arith
    nothing (z ∷ zs) = omega arith
cost_size-drop (s ∷ ss) (r ∷ rs) (suc k) = omega (arith, cost_size-drop ss rs k)

pub cost_size-at : (zone : List Span) (costs : List ℤ) (k : ℕ) (d : Span) (e : ℤ) → k < length zone → k < length costs
    → unsigned_abs (get_or costs k e) * reach (get_or zone k d) ≤ cost_size zone costs
cost_size-at [] costs k d e l m = absurd (omega arith)
cost_size-at (s ∷ ss) [] k d e l m = absurd (omega arith)
cost_size-at (s ∷ ss) (r ∷ rs) zero d e l m = omega arith
cost_size-at (s ∷ ss) (r ∷ rs) (suc k) d e l m = omega (arith, cost_size-at ss rs k d e (omega arith) (omega arith))

-- least cells are short
pub least_bounded : (steps : List (List Arc)) (picks : List (List ℕ)) (zone : List Span) (costs : List ℤ) (wide : ℕ) (cells : List ℤ) (bound : ℕ)
    → length zone ≡ length steps → length costs ≡ length steps → length cells ≡ wide → cost_size zone costs ≤ bound
    → AreLeast steps picks zone costs wide cells → AreBounded bound cells
least_bounded steps picks zone costs wide cells bound e f many small least node l way =
    let r = (least node (omega (arith, l, many))).reached way in
    let w = leads_way steps picks zone costs node e f r.leads in
    omega (arith, small, subst (λ v. unsigned_abs v ≤ cost_size zone costs) r.value (dot_small zone costs (way_of steps picks zone costs node) w.1))

-- a loop's step: one layer more in front
pub least_more : (steps : List (List Arc)) (picks now_picks : List (List ℕ)) (zone : List Span) (costs : List ℤ) (k : ℕ) (p : List ℕ) (behind wide : ℕ) (next now : List ℤ)
    → (arcs : List Arc) (s : Span) (r : ℤ)
    → k < length steps → length picks ≡ length steps → length zone ≡ length steps → length costs ≡ length steps
    → arcs ≡ get_or steps k [] → s ≡ get_or zone k (record { lo = pos 0; hi = pos 0 }) → r ≡ get_or costs k (pos 0) → now_picks ≡ set picks k p
    → LeadBelow behind arcs
    → AreLeast (drop (k + 1) steps) (drop (k + 1) picks) (drop (k + 1) zone) (drop (k + 1) costs) behind next
    → ((node : ℕ) → node < wide → IsBest arcs next s r (length arcs) node (cell_at now node) (pick_at p node))
    → AreLeast (drop k steps) (drop k now_picks) (drop k zone) (drop k costs) wide now
least_more steps picks now_picks zone costs k p behind wide next now arcs s r there many e f is_arcs is_s is_r is_picks safe below best =
    subst (λ (xs : List (List Arc)). AreLeast xs (drop k now_picks) (drop k zone) (drop k costs) wide now) (sym front_steps)
    (subst (λ (xs : List (List ℕ)). AreLeast (arcs ∷ drop (suc k) steps) xs (drop k zone) (drop k costs) wide now) (sym front_picks)
    (subst (λ (xs : List Span). AreLeast (arcs ∷ drop (suc k) steps) (p ∷ drop (suc k) picks) xs (drop k costs) wide now) (sym front_zone)
    (subst (λ (xs : List ℤ). AreLeast (arcs ∷ drop (suc k) steps) (p ∷ drop (suc k) picks) (s ∷ drop (suc k) zone) xs wide now) (sym front_costs)
    (layer_least arcs (drop (suc k) steps) p (drop (suc k) picks) s (drop (suc k) zone) r (drop (suc k) costs) behind wide next now safe
    (subst (λ n. AreLeast (drop n steps) (drop n picks) (drop n zone) (drop n costs) behind next) one below) best))))
  where
    one : k + 1 ≡ suc k
    one = omega arith

    front_steps : drop k steps ≡ arcs ∷ drop (suc k) steps
    front_steps = drop-cons steps k [] there ∙ ap (λ (x : List Arc). x ∷ drop (suc k) steps) (sym is_arcs)

    front_zone : drop k zone ≡ s ∷ drop (suc k) zone
    front_zone = drop-cons zone k (record { lo = pos 0; hi = pos 0 }) (omega (arith, there, e)) ∙ ap (λ (x : Span). x ∷ drop (suc k) zone) (sym is_s)

    front_costs : drop k costs ≡ r ∷ drop (suc k) costs
    front_costs = drop-cons costs k (pos 0) (omega (arith, there, f)) ∙ ap (λ (x : ℤ). x ∷ drop (suc k) costs) (sym is_r)

    front_picks : drop k now_picks ≡ p ∷ drop (suc k) picks
    front_picks =
        ap (λ (x : List (List ℕ)). drop k x) is_picks
        ∙ drop-cons (set picks k p) k [] (omega (arith, there, many, length-set picks k p))
        ∙ ap (λ (x : List ℕ). x ∷ drop (suc k) (set picks k p)) (get_or-set_same picks k p [] (omega (arith, there, many)))
        ∙ ap (λ (x : List (List ℕ)). p ∷ x) (drop-set-lt (suc k) picks k p (omega arith))

-- rows of picks stay as wide
pub wide_rows : (picks : List (List ℕ)) (k wide : ℕ) (p : List ℕ) → All (λ (row : List ℕ). length row ≡ wide) picks → length p ≡ wide → All (λ (row : List ℕ). length row ≡ wide) (set picks k p)
wide_rows picks k wide p h e = All-from_recursion (λ (row : List ℕ). length row ≡ wide) (set picks k p) (by picks k (recursion_from_All (λ (row : List ℕ). length row ≡ wide) picks h))
  where
    by : (rows : List (List ℕ)) (k : ℕ) → AllByRecursion (λ (row : List ℕ). length row ≡ wide) rows → AllByRecursion (λ (row : List ℕ). length row ≡ wide) (set rows k p)
    by [] k a = tt
    by (x ∷ xs) zero a = (e, a.1)
    by (x ∷ xs) (suc k) a = (a.0, by xs k a.1)

-- a loop's step over what a pass keeps
pub pass_more : (steps : List (List Arc)) (picks : List (List ℕ)) (zone : List Span) (costs : List ℤ) (k : ℕ) (p : List ℕ) (behind wide : ℕ) (next next_now now : List ℤ) (arcs : List Arc)
    → 0 < k → k ≤ length steps → length picks ≡ length steps → length zone ≡ length steps → length costs ≡ length steps
    → arcs ≡ get_or steps (k - 1) [] → LeadBelow behind arcs → next_now ≡ now
    → AreLeast (drop k steps) (drop k picks) (drop k zone) (drop k costs) behind next
    → ((node : ℕ) → node < wide → IsBest arcs next (get_or zone (k - 1) (record { lo = pos 0; hi = pos 0 })) (get_or costs (k - 1) (pos 0)) (length arcs) node (cell_at now node) (pick_at p node))
    → AreLeast (drop (k - 1) steps) (drop (k - 1) (set picks (k - 1) p)) (drop (k - 1) zone) (drop (k - 1) costs) wide next_now
pass_more steps picks zone costs k p behind wide next next_now now arcs some there many e f is safe same below best =
    subst (λ (cells : List ℤ). AreLeast (drop (k - 1) steps) (drop (k - 1) (set picks (k - 1) p)) (drop (k - 1) zone) (drop (k - 1) costs) wide cells) (sym same)
    (least_more steps picks (set picks (k - 1) p) zone costs (k - 1) p behind wide next now arcs _ _ (omega (arith, some, there)) many e f is refl refl refl safe
    (subst (λ n. AreLeast (drop n steps) (drop n picks) (drop n zone) (drop n costs) behind next) back below) best)
  where
    back : k ≡ k - 1 + 1
    back = omega (arith, some)
