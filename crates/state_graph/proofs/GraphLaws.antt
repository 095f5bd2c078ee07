-- Laws of graphs: their ways are what completes their states.
use Rattle.std.proofs.Common.{◌≡◌, sym, ap, subst, ◌∙◌, ℕ, zero, suc, ◌+◌, ◌<◌, ◌≤◌, List, [], ◌∷◌, ◌++◌, length, get_or, arith, inl, inr, drop, append_assoc, drop-cons}
use Rattle.std.proofs.Math.IntN.{ℤ, pos}
use Rattle.std.specs.Prelude.{◌^◌, All}
use Rattle.std.specs.List.{AllByRecursion}
use Rattle.std.proofs.lemmas.List.{get_or_default}
use Rattle.std.proofs.Math.ListN.{drop_of_length-le}
use Rattle.std.proofs.lemmas.List.Elements.{recursion_from_All, All-from_recursion}
use Rattle.bp_theory.specs.declared.Span.{Span}
use Rattle.state_graph.specs.Windows.{AreAlike}
use Rattle.state_graph.specs.Layers.{row_sum, IsCompletion, AreHulls, AreTwins, AreBare, AreClosed, IsShaped, AreLayers}
use Rattle.layer_graph.specs.Graphs.{arc_at, AreOrdered, IsWay, IsArcSafe, IsStepSafe, IsSafe}
use Rattle.state_graph.specs.Expansions.{state_at, HaveRows, IsLeft, IsServed, IsExpanded, IsRight, AreRight, IsEndState}
use Rattle.layer_graph.specs.declared.graph.Arc.{Arc}
use Rattle.state_graph.specs.declared.layers.Layer.{Layer}
use Rattle.state_graph.proofs.WindowLaws.{completes_moved, moved_completes, lost_completes_nothing}

-- a layer in front of a graph that is right for the states behind it
pub expanded_right : (l : Layer) (ls : List Layer) (states next : List (List Span)) (arcs : List Arc) (steps : List (List Arc))
    → ((i : ℕ) → i < length states → length l.hulls ≡ length (state_at states i)) → AreHulls ls l.hulls → AreTwins ls l.twins
    → IsExpanded l states next arcs → AreRight ls next steps → AreRight (l ∷ ls) states (arcs ∷ steps)
expanded_right l ls states next arcs steps each hulls twins x right i there = record { sound = sound; complete = complete }
  where
    alike : (ys : List ℤ) → AreAlike l.twins (λ row. row_sum ls row ys)
    alike ys row lt = twins.same row ys lt

    sound : (ys : List ℤ) → IsWay (arcs ∷ steps) i ys → IsCompletion (l ∷ ls) (state_at states i) ys
    sound [] way = absurd way
    sound (y ∷ ys) (j, leads, way) =
        let left : IsLeft l (state_at states (arc_at arcs j).from) y (state_at next (arc_at arcs j).to) = (x.sound j leads.there).moves y leads.within in
        let rest : IsCompletion ls (state_at next (arc_at arcs j).to) ys = (right (arc_at arcs j).to (x.sound j leads.there).to).sound ys way in
        subst (λ k. IsCompletion (l ∷ ls) (state_at states k) (y ∷ ys)) leads.from
        (moved_completes l ls (state_at states (arc_at arcs j).from) left.moved y ys
        ((x.sound j leads.there).within y leads.within) left.moves
        (record { inside = rest.inside; meets = left.joins.back (λ row. row_sum ls row ys) (alike ys) rest.meets }))

    by : (y : ℤ) (ys : List ℤ) → IsCompletion (l ∷ ls) (state_at states i) (y ∷ ys) → IsServed l states arcs i y → IsWay (arcs ∷ steps) i (y ∷ ys)
    by y ys h (inl (inl lost)) = absurd (lost_completes_nothing l ls (state_at states i) y ys (each i there) hulls lost h)
    by y ys h (inl (inr (moved, moves, void))) =
        absurd (void (λ row. row_sum ls row ys) (alike ys) (completes_moved l ls (state_at states i) moved y ys (each i there) hulls moves h).meets)
    by y ys h (inr (j, leads)) =
        let left : IsLeft l (state_at states i) y (state_at next (arc_at arcs j).to) =
        subst (λ k. IsLeft l (state_at states k) y (state_at next (arc_at arcs j).to)) leads.from ((x.sound j leads.there).moves y leads.within) in
        let moved : IsCompletion ls left.moved ys = completes_moved l ls (state_at states i) left.moved y ys (each i there) hulls left.moves h in (
          j,
          leads,
          (right (arc_at arcs j).to (x.sound j leads.there).to).complete ys
              (record { inside = moved.inside; meets = left.joins.onto (λ row. row_sum ls row ys) (alike ys) moved.meets }),
        )

    complete : (ys : List ℤ) → IsCompletion (l ∷ ls) (state_at states i) ys → IsWay (arcs ∷ steps) i ys
    complete [] h = absurd h.inside
    complete (y ∷ ys) h = by y ys h (x.served i y there h.inside.0)

-- behind the last layer nothing completes but nothing
pub end_right : (states : List (List Span)) → ((i : ℕ) → i < length states → IsEndState (state_at states i)) → AreRight [] states []
end_right states ends i there = record {
  sound = sound;
  complete = complete;
}
  where
    sound : (ys : List ℤ) → IsWay [] i ys → IsCompletion [] (state_at states i) ys
    sound [] way = record { inside = tt; meets = λ row r. ends i there row (record { lo = pos 0; hi = pos 0 }) r }
    sound (y ∷ ys) way = absurd way

    complete : (ys : List ℤ) → IsCompletion [] (state_at states i) ys → IsWay [] i ys
    complete [] h = tt
    complete (y ∷ ys) h = absurd h.inside

-- a layer is shaped and has the hulls and twins of those behind it
pub layer_at : (rows : ℕ) (layers : List Layer) (k : ℕ) (d : Layer) → AreLayers rows layers → k < length layers
    → IsShaped rows (get_or layers k d) × AreHulls (drop (suc k) layers) (get_or layers k d).hulls × AreTwins (drop (suc k) layers) (get_or layers k d).twins
layer_at rows [] k d h l = absurd (omega arith)
layer_at rows (x ∷ xs) zero d h l = (h.0, h.1, h.2)
layer_at rows (x ∷ xs) (suc k) d h l = layer_at rows xs k d h.3 (omega arith)

-- behind the last layer nothing can be added
closed_at : (rows : ℕ) (layers : List Layer) (k : ℕ) (d : Layer) → AreLayers rows layers → k < length layers → AreClosed (drop (suc k) layers) (get_or layers k d).hulls
closed_at rows [] k d h l = absurd (omega arith)
closed_at rows (x ∷ xs) zero d h l = h.4
closed_at rows (x ∷ xs) (suc k) d h l = closed_at rows xs k d h.3 (omega arith)

pub last_bare : (rows : ℕ) (layers : List Layer) (k : ℕ) (l : Layer) → AreLayers rows layers → k < length layers → length layers ≤ k + 1 → l ≡ get_or layers k l → AreBare l.hulls
last_bare rows layers k l h there last is =
    subst (λ (x : Layer). AreBare x.hulls) (sym is)
    (subst (λ (ls : List Layer). AreClosed ls (get_or layers k l).hulls) none (closed_at rows layers k l h there))
  where
    none : drop (suc k) layers ≡ []
    none = drop_of_length-le layers all
      where
        all : length layers ≤ suc k
        all = omega (arith, last)

-- a loop's step: one layer more
pub graph_more : (rows : ℕ) (layers : List Layer) (k : ℕ) (d : Layer) (l : Layer) (root : List Span) (states next : List (List Span)) (arcs : List Arc) (steps : List (List Arc))
    → k < length layers → l ≡ get_or layers k d → AreLayers rows layers → HaveRows rows states → IsExpanded l states next arcs
    → ((rest : List (List Arc)) → AreRight (drop k layers) states rest → IsRight layers root (steps ++ rest) 0)
    → (rest : List (List Arc)) → AreRight (drop (k + 1) layers) next rest → IsRight layers root ((steps ++ (arcs ∷ [])) ++ rest) 0
graph_more rows layers k d l root states next arcs steps there is shaped have x so_far rest right =
    subst (λ (ss : List (List Arc)). IsRight layers root ss 0) (sym (append_assoc steps (arcs ∷ []) rest))
    (so_far (arcs ∷ rest) (subst (λ (ls : List Layer). AreRight ls states (arcs ∷ rest)) (sym front) now))
  where
    at : IsShaped rows (get_or layers k d) × AreHulls (drop (suc k) layers) (get_or layers k d).hulls × AreTwins (drop (suc k) layers) (get_or layers k d).twins
    at = layer_at rows layers k d shaped there

    front : drop k layers ≡ l ∷ drop (suc k) layers
    front = drop-cons layers k d there ∙ ap (λ (x : Layer). x ∷ drop (suc k) layers) (sym is)

    one : k + 1 ≡ suc k
    one = omega arith

    shape : IsShaped rows l
    shape = subst (IsShaped rows) (sym is) at.0

    hulls : AreHulls (drop (suc k) layers) l.hulls
    hulls = subst (λ (x : Layer). AreHulls (drop (suc k) layers) x.hulls) (sym is) at.1

    twins : AreTwins (drop (suc k) layers) l.twins
    twins = subst (λ (x : Layer). AreTwins (drop (suc k) layers) x.twins) (sym is) at.2

    each : (i : ℕ) → i < length states → length l.hulls ≡ length (state_at states i)
    each i lt = shape.hulls ∙ sym (have i [] lt)

    now : AreRight (l ∷ drop (suc k) layers) states (arcs ∷ rest)
    now = expanded_right l (drop (suc k) layers) states next arcs rest each hulls twins x (subst (λ n. AreRight (drop n layers) next rest) one right)

-- arcs stay in order
pub ordered_more : (steps : List (List Arc)) (arcs : List Arc) → All AreOrdered steps → AreOrdered arcs → All AreOrdered (steps ++ (arcs ∷ []))
ordered_more steps arcs have more = All-from_recursion AreOrdered (steps ++ (arcs ∷ [])) (joined steps (recursion_from_All AreOrdered steps have))
  where
    joined : (ss : List (List Arc)) → AllByRecursion AreOrdered ss → AllByRecursion AreOrdered (ss ++ (arcs ∷ []))
    joined [] h = (more, tt)
    joined (s ∷ ss) h = (h.0, joined ss h.1)

-- arcs stay safe
pub graph_safe : (l : Layer) (states next : List (List Span)) (arcs : List Arc) (steps : List (List Arc)) (wide wider : ℕ)
    → IsExpanded l states next arcs → length states ≤ wide → length arcs < 2 ^ 32 → IsSafe wide steps
    → wide ≤ wider → length next ≤ wider → IsSafe wider (steps ++ (arcs ∷ []))
graph_safe l states next arcs steps wide wider x few short safe more many =
    All-from_recursion (IsStepSafe wider) (steps ++ (arcs ∷ [])) (joined steps (recursion_from_All (IsStepSafe wide) steps safe))
  where
    last : IsStepSafe wider arcs
    last = record {
      few = short;
      each = λ j e lt. let is = x.sound j lt in
          let same : get_or arcs j e ≡ arc_at arcs j = get_or_default arcs j e (record { from = 0; to = 0; label = record { lo = pos 0; hi = pos 0 } }) lt in
          subst (IsArcSafe wider) (sym same) (record { from = omega (arith, is.from, few, more); to = omega (arith, is.to, many) });
    }

    grown : (s : List Arc) → IsStepSafe wide s → IsStepSafe wider s
    grown s h = record { few = h.few; each = λ j e lt. record { from = omega (arith, (h.each j e lt).from, more); to = omega (arith, (h.each j e lt).to, more) } }

    joined : (ss : List (List Arc)) → AllByRecursion (IsStepSafe wide) ss → AllByRecursion (IsStepSafe wider) (ss ++ (arcs ∷ []))
    joined [] h = (last, tt)
    joined (s ∷ ss) h = (grown s h.0, joined ss h.1)
