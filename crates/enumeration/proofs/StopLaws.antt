-- Laws of a loop that stops early: later numbers of a span are no cheaper.
use Rattle.std.proofs.Common.{◌≡◌, sym, ap, subst, ◌∙◌, ℕ, zero, suc, ◌<◌, ◌≤◌, Bool, true, false, List, length, get_or, set, arith, ⊎_elim}
use Rattle.std.proofs.Math.IntN.{ℤ, pos, negsuc, ◌+ℤ◌, ◌-ℤ◌, ◌*ℤ◌}
use Rattle.std.specs.Prelude.{Option, None, Some, ◌≤ℤ◌}
use Rattle.std.specs.Int.{int_min}
use Rattle.std.proofs.lemmas.Int.{ints, clamps}
use Rattle.std.proofs.lemmas.Bool.{cases_lt}
use Rattle.std.proofs.lemmas.List.{length-set}
use Rattle.bp_theory.specs.Sums.{dot}
use Rattle.bp_theory.specs.Program.{span_at, value_at, IsWithin, IsInside}
use Rattle.bp_theory.specs.Bound.{IsPoint, end_cost, box_least}
use Rattle.bp_theory.specs.declared.Span.{Span}
use Rattle.bp_theory.specs.declared.Row.{Row}
use Rattle.bp_theory.proofs.Whole.{le-mul_pos, le-mul_negsuc}
use Rattle.enumeration.specs.Best.{IsCovered, AllCovered}
use Rattle.enumeration.specs.Search.{single, step_value, step_of, Follows}
use Rattle.enumeration.proofs.ReachLaws.{inside_at, box_least-set, box_least-le, inside_set}
use Rattle.enumeration.proofs.SearchLaws.{IsWholeAt, value_of_step}

-- a later number of a span costs no less
pub later_dearer : (up : Bool) (s : Span) (r v w : ℤ) (step : ℕ) → Follows up r → IsWithin s w → v ≡ step_value up s step → step ≤ step_of up s w
    → (r *ℤ v) ≤ℤ (r *ℤ w)
later_dearer true s (pos n) v w step f h e l =
    le-mul_pos n v w (above s.lo v w step (step_of true s w) e (value_of_step true s w h) l)
  where
    above : (a v w : ℤ) (m k : ℕ) → v ≡ a +ℤ pos m → w ≡ a +ℤ pos k → m ≤ k → v ≤ℤ w
    above a v w m k e f l = omega (arith, ints)
later_dearer true s (negsuc n) v w step f h e l = absurd (omega (arith, ints, f))
later_dearer false s (pos zero) v w step f h e l = omega (arith, ints)
later_dearer false s (pos (suc n)) v w step f h e l = absurd (omega (arith, ints, f))
later_dearer false s (negsuc n) v w step f h e l =
    le-mul_negsuc n w v (below s.hi v w step (step_of false s w) e (value_of_step false s w h) l)
  where
    below : (a v w : ℤ) (m k : ℕ) → v ≡ a -ℤ pos m → w ≡ a -ℤ pos k → m ≤ k → w ≤ℤ v
    below a v w m k e f l = omega (arith, ints)

-- where one number of a place costs no more than a point's own, the least over the box with it undercuts the point
pub box_undercuts : (narrow : List Span) (costs y : List ℤ) (level : ℕ) (v : ℤ) → level < length narrow → length costs ≡ length narrow → IsInside narrow y
    → (get_or costs level (pos 0) *ℤ v) ≤ℤ (get_or costs level (pos 0) *ℤ value_at y level)
    → box_least (set narrow level (single v)) costs ≤ℤ dot costs y
box_undercuts narrow costs y level v l e inside h =
    joined (box_least narrow costs) (end_cost (span_at narrow level) (get_or costs level (pos 0)))
    (get_or costs level (pos 0) *ℤ v) (get_or costs level (pos 0) *ℤ value_at y level)
    (box_least (set narrow level (single v)) costs) (box_least (set narrow level (single (value_at y level))) costs) (dot costs y)
    (box_least-set narrow costs level (single v) l ∙ ap (λ z. box_least narrow costs +ℤ (z -ℤ end_cost (span_at narrow level) (get_or costs level (pos 0)))) (end_one v (get_or costs level (pos 0))))
    (box_least-set narrow costs level (single (value_at y level)) l
    ∙ ap (λ z. box_least narrow costs +ℤ (z -ℤ end_cost (span_at narrow level) (get_or costs level (pos 0)))) (end_one (value_at y level) (get_or costs level (pos 0))))
    h
    (box_least-le (set narrow level (single (value_at y level))) costs y
    (e ∙ sym (length-set narrow level (single (value_at y level)))) (inside_set narrow y level inside))
  where
    end_one : (v r : ℤ) → end_cost (single v) r ≡ r *ℤ v
    end_one v r = same (r *ℤ v)
      where
        same : (z : ℤ) → int_min z z ≡ z
        same z = omega (arith, ints, clamps)

    joined : (b end x w m n d : ℤ) → m ≡ b +ℤ (x -ℤ end) → n ≡ b +ℤ (w -ℤ end) → x ≤ℤ w → n ≤ℤ d → m ≤ℤ d
    joined b end x w m n d p q h k = omega (arith, ints)

-- the least with a span's number at a step undercuts each point with a later one
pub later_undercut : (zone narrow : List Span) (costs y : List ℤ) (level step : ℕ) (up : Bool) (v : ℤ)
    → level < length narrow → length costs ≡ length narrow → IsWholeAt zone level narrow
    → v ≡ step_value up (span_at zone level) step → Follows up (get_or costs level (pos 0))
    → IsInside narrow y → step ≤ step_of up (span_at zone level) (value_at y level)
    → box_least (set narrow level (single v)) costs ≤ℤ dot costs y
later_undercut zone narrow costs y level step up v l e n is f inside later =
    box_undercuts narrow costs y level v l e inside
    (later_dearer up (span_at zone level) (get_or costs level (pos 0)) v (value_at y level) step f
    (subst (λ (s : Span). IsWithin s (value_at y level)) n.whole (inside_at narrow y inside level l))
    is later)

-- where the least with a number is covered, the loop over the span's numbers is done
pub covered_rest : (rows : List Row) (zone narrow : List Span) (costs : List ℤ) (level step : ℕ) (up : Bool) (v : ℤ) (best : Option ℤ)
    → level < length narrow → length costs ≡ length narrow → IsWholeAt zone level narrow
    → v ≡ step_value up (span_at zone level) step → Follows up (get_or costs level (pos 0))
    → ((y : List ℤ) → IsPoint rows narrow y → step_of up (span_at zone level) (value_at y level) < step → IsCovered best (dot costs y))
    → IsCovered best (box_least (set narrow level (single v)) costs)
    → AllCovered rows narrow costs best
covered_rest rows zone narrow costs level step up v best l e n is f had now y point = ⊎_elim
    (λ less. had y point less)
    (λ more. risen best (later_undercut zone narrow costs y level step up v l e n is f point.inside more) now)
    (cases_lt (step_of up (span_at zone level) (value_at y level)) step)
  where
    risen : (best : Option ℤ) {a b : ℤ} → a ≤ℤ b → IsCovered best a → IsCovered best b
    risen None l h = h
    risen (Some c) l h = omega (arith, ints, l, h)
