-- Laws of a way that is written from behind.
use Rattle.std.proofs.Common.{◌≡◌, sym, ap, subst, ◌∙◌, ℕ, suc, ◌+◌, ◌<◌, ◌≤◌, List, [], ◌∷◌, length, get_or, set, drop, arith, drop-cons}
use Rattle.std.proofs.Math.IntN.{ℤ, pos}
use Rattle.std.proofs.lemmas.List.{drop-set, length-drop}
use Rattle.bp_theory.specs.Program.{IsInside, IsWithin}
use Rattle.bp_theory.specs.declared.Span.{Span}
use Rattle.layer_graph.specs.Graphs.{arc_at, Leads, IsWay}
use Rattle.layer_graph.specs.declared.graph.Arc.{Arc}

-- behind the last layer nothing is left
pub way_ended : (steps : List (List Arc)) (ys : List ℤ) (k node : ℕ) → length steps ≤ k → length ys ≡ length steps → IsWay (drop k steps) node (drop k ys)
way_ended steps ys k node l e = by (drop k steps) (drop k ys) (omega (arith, l, length-drop k steps)) (omega (arith, l, e, length-drop k ys))
  where
    by : (ss : List (List Arc)) (zs : List ℤ) → length ss ≡ 0 → length zs ≡ 0 → IsWay ss node zs
    by [] [] a b = tt
    by [] (z ∷ zs) a b = absurd (omega (arith, b))
    by (s ∷ ss) zs a b = absurd (omega (arith, a))

pub inside_ended : (zone : List Span) (ys : List ℤ) (k : ℕ) → length zone ≤ k → length ys ≡ length zone → IsInside (drop k zone) (drop k ys)
inside_ended zone ys k l e = by (drop k zone) (drop k ys) (omega (arith, l, length-drop k zone)) (omega (arith, l, e, length-drop k ys))
  where
    by : (ss : List Span) (zs : List ℤ) → length ss ≡ 0 → length zs ≡ 0 → IsInside ss zs
    by [] [] a b = tt
    by [] (z ∷ zs) a b = absurd (omega (arith, b))
    by (s ∷ ss) zs a b = absurd (omega (arith, a))

-- an arc of a layer before a way
pub way_more : (steps : List (List Arc)) (ys : List ℤ) (k from j : ℕ) (arcs : List Arc) (y : ℤ) → k < length steps → k < length ys → arcs ≡ get_or steps k []
    → Leads arcs from y j → IsWay (drop (k + 1) steps) (arc_at arcs j).to (drop (k + 1) ys) → IsWay (drop k steps) from (drop k (set ys k y))
way_more steps ys k from j arcs y there own is leads rest =
    subst (λ (ss : List (List Arc)). IsWay ss from (drop k (set ys k y))) (sym front)
    (subst (λ (zs : List ℤ). IsWay (arcs ∷ drop (k + 1) steps) from zs) (sym (drop-set ys k y own)) (j, leads, rest))
  where
    one : suc k ≡ k + 1
    one = omega arith

    front : drop k steps ≡ arcs ∷ drop (k + 1) steps
    front = drop-cons steps k [] there ∙ ap (λ (x : List Arc). x ∷ drop (suc k) steps) (sym is) ∙ ap (λ n. arcs ∷ drop n steps) one

pub inside_more : (zone : List Span) (ys : List ℤ) (k : ℕ) (y : ℤ) → k < length zone → k < length ys → IsWithin (get_or zone k (record { lo = pos 0; hi = pos 0 })) y
    → IsInside (drop (k + 1) zone) (drop (k + 1) ys) → IsInside (drop k zone) (drop k (set ys k y))
inside_more zone ys k y there own within rest =
    subst (λ (ss : List Span). IsInside ss (drop k (set ys k y))) (sym front)
    (subst (λ (zs : List ℤ). IsInside (get_or zone k (record { lo = pos 0; hi = pos 0 }) ∷ drop (k + 1) zone) zs) (sym (drop-set ys k y own)) (within, rest))
  where
    one : suc k ≡ k + 1
    one = omega arith

    front : drop k zone ≡ get_or zone k (record { lo = pos 0; hi = pos 0 }) ∷ drop (k + 1) zone
    front = drop-cons zone k (record { lo = pos 0; hi = pos 0 }) there
        ∙ ap (λ n. get_or zone k (record { lo = pos 0; hi = pos 0 }) ∷ drop n zone) one
