-- Laws of adjusted costs.
use Rattle.std.proofs.Common.{◌≡◌, sym, ap, subst, ◌∙◌, ℕ, zero, suc, ◌+◌, ◌*◌, ◌^◌, ◌<◌, ◌≤◌, List, [], ◌∷◌, Bool, map, take, length, get_or, set, arith, ⊎_elim, inl, inr}
use Rattle.std.proofs.Math.IntN.{ℤ, pos, negsuc, ◌+ℤ◌, ◌-ℤ◌, ◌*ℤ◌, *ℤ_comm}
use Rattle.std.specs.Prelude.{Option, None, Some, ◌≤ℤ◌, ◌<ℤ◌, unsigned_abs}
use Rattle.std.proofs.lemmas.Int.{ints, by_lt_z}
use Rattle.std.proofs.lemmas.Bool.{cases_lt}
use Rattle.std.proofs.lemmas.List.{get_or_read}
use Rattle.bp_theory.specs.Sums.{dot}
use Rattle.bp_theory.specs.Program.{activity, value_at, span_at, reach, Meets, MeetsRow, IsWithin}
use Rattle.bp_theory.specs.Bound.{IsPoint, end_cost, box_least}
use Rattle.bp_theory.specs.Trees.{IsSubzone}
use Rattle.bp_theory.specs.declared.Sense.{Sense}
use Rattle.bp_theory.specs.declared.Sense.TheVariants.{Le, Ge, Eq, In}
use Rattle.bp_theory.specs.declared.Span.{Span}
use Rattle.bp_theory.specs.declared.Term.{Term}
use Rattle.bp_theory.specs.declared.Row.{Row}
use Rattle.bp_theory.proofs.Whole.{mul-add, add-mul, sub-mul, mul_assoc, le-mul_pos, le-mul_negsuc}
use Rattle.bp_theory.proofs.SumLaws.{sum_of_more}
use Rattle.bp_theory.proofs.ZipLaws.{AllZip-length}
use Rattle.enumeration.specs.Best.{IsCovered, AllCovered}
use Rattle.enumeration.specs.Search.{IsTracked, IsPaid, IsOver, single, step_value, step_of, Follows}
use Rattle.enumeration.specs.declared.dive.Dive.{Dive}
use Rattle.enumeration.proofs.StopLaws.{later_undercut, covered_rest}
use Rattle.enumeration.specs.Relax.{HasFittingSign, IsUndercut, IsSurpassed, paid_side}
use Rattle.enumeration.specs.declared.relax.Relaxed.{Relaxed}
use Rattle.pricing_problem.specs.Form.{IsPriceable}
use Rattle.enumeration.specs.declared.form.Form.{Form}
use Rattle.enumeration.proofs.SearchLaws.{IsWholeAt}
use Rattle.enumeration.proofs.ReachLaws.{box_least-le, inside_larger}
use Rattle.enumeration.proofs.PlaceLaws.{CanMove, cost_short, cost_short_from, moved_least, least_short}

-- a scalar product with one factor changed
pub dot-set : (xs ys : List ℤ) (k : ℕ) (v : ℤ) → k < length xs → k < length ys
    → dot (set xs k v) ys ≡ dot xs ys +ℤ (v -ℤ get_or xs k (pos 0)) *ℤ value_at ys k
dot-set [] ys k v l m = absurd (omega arith)
dot-set (x ∷ xs) [] k v l m = absurd (omega arith)
dot-set (x ∷ xs) (y ∷ ys) zero v l m = changed (v *ℤ y) (x *ℤ y) (dot xs ys) ((v -ℤ x) *ℤ y) (sub-mul v x y)
  where
    changed : (a b d e : ℤ) → e ≡ a -ℤ b → a +ℤ d ≡ (b +ℤ d) +ℤ e
    changed a b d e h = omega (arith, ints)
dot-set (x ∷ xs) (y ∷ ys) (suc k) v l m =
    ap (λ z. x *ℤ y +ℤ z) (dot-set xs ys k v (omega arith) (omega arith))
    ∙ grouped (x *ℤ y) (dot xs ys) ((v -ℤ get_or xs k (pos 0)) *ℤ value_at ys k)
  where
    grouped : (a b c : ℤ) → a +ℤ (b +ℤ c) ≡ (a +ℤ b) +ℤ c
    grouped a b c = omega (arith, ints)

-- a multiple of one more term
pub added_term : (before now y : List ℤ) (terms : List Term) (i : ℕ) (d : Term) (factor sum : ℤ)
    → i < length terms → (get_or terms i d).var < length now → length y ≡ length now
    → sum ≡ get_or now (get_or terms i d).var (pos 0) +ℤ factor *ℤ (get_or terms i d).coef
    → dot now y ≡ dot before y +ℤ factor *ℤ activity (take i terms) y
    → dot (set now (get_or terms i d).var sum) y ≡ dot before y +ℤ factor *ℤ activity (take (i + 1) terms) y
added_term before now y terms i d factor sum l there many is had =
    let t : Term = get_or terms i d in
    joined (dot (set now (get_or terms i d).var sum) y) (dot now y) (dot before y)
    ((sum -ℤ get_or now (get_or terms i d).var (pos 0)) *ℤ value_at y (get_or terms i d).var)
    (factor *ℤ activity (take i terms) y) (factor *ℤ activity (take (i + 1) terms) y)
    (factor *ℤ ((get_or terms i d).coef *ℤ value_at y (get_or terms i d).var))
    (dot-set now y (get_or terms i d).var sum there (omega (arith, there, many)))
    (ap (λ z. z *ℤ value_at y (get_or terms i d).var) (lifted sum (get_or now (get_or terms i d).var (pos 0)) (factor *ℤ (get_or terms i d).coef) is)
    ∙ sym (mul_assoc factor (get_or terms i d).coef (value_at y (get_or terms i d).var)))
    had
    (ap (λ z. factor *ℤ z) (sum_of_more (λ t. t.coef *ℤ value_at y t.var) terms i d l)
    ∙ mul-add factor (activity (take i terms) y) ((get_or terms i d).coef *ℤ value_at y (get_or terms i d).var))
  where
    lifted : (s a m : ℤ) → s ≡ a +ℤ m → s -ℤ a ≡ m
    lifted s a m h = omega (arith, ints)

    joined : (new now before d a b e : ℤ) → new ≡ now +ℤ d → d ≡ e → now ≡ before +ℤ a → b ≡ a +ℤ e → new ≡ before +ℤ b
    joined new now before d a b e p q r s = omega (arith, ints)

-- no multiple of terms
pub added_none : (z factor : ℤ) → z ≡ z +ℤ factor *ℤ pos 0
added_none z (pos n) = omega (arith, ints)
added_none z (negsuc n) = omega (arith, ints)

-- a multiple of a row that is met stays below that of its side
pub row_paid : (row : Row) (factor : ℤ) (y : List ℤ) → HasFittingSign row.sense factor → MeetsRow y row
    → (factor *ℤ activity row.terms y) ≤ℤ (factor *ℤ paid_side row factor)
row_paid row factor y fits met = by row.sense factor fits met
  where
    by : (s : Sense) (factor : ℤ) → HasFittingSign s factor → Meets s row.low row.rhs (activity row.terms y)
        → (factor *ℤ activity row.terms y) ≤ℤ (factor *ℤ paid_side row factor)
    by Le (pos n) f m = le-mul_pos n (activity row.terms y) row.rhs m
    by Le (negsuc n) f m = absurd (omega (arith, ints, f))
    by Ge (pos zero) f m = omega (arith, ints)
    by Ge (pos (suc n)) f m = absurd (omega (arith, ints, f))
    by Ge (negsuc n) f m = le-mul_negsuc n row.low (activity row.terms y) m
    by Eq (pos n) f m = le-mul_pos n (activity row.terms y) row.rhs m.1
    by Eq (negsuc n) f m = le-mul_negsuc n row.low (activity row.terms y) m.0
    by In (pos n) f m = le-mul_pos n (activity row.terms y) row.rhs m.1
    by In (negsuc n) f m = le-mul_negsuc n row.low (activity row.terms y) m.0

-- costs and an offset with a multiple of a row added
pub row_added : (row : Row) (factor offset now_offset : ℤ) (before now y : List ℤ) → HasFittingSign row.sense factor → MeetsRow y row
    → now_offset ≡ offset +ℤ factor *ℤ paid_side row factor
    → dot now y ≡ dot before y +ℤ factor *ℤ activity row.terms y
    → (dot now y -ℤ now_offset) ≤ℤ (dot before y -ℤ offset)
row_added row factor offset now_offset before now y fits met e f =
    joined (dot now y) (dot before y) now_offset offset (factor *ℤ paid_side row factor) (factor *ℤ activity row.terms y)
    e f (row_paid row factor y fits met)
  where
    joined : (n b p o s a : ℤ) → p ≡ o +ℤ s → n ≡ b +ℤ a → a ≤ℤ s → (n -ℤ p) ≤ℤ (b -ℤ o)
    joined n b p o s a e f h = omega (arith, ints)

-- scaled costs have the scaled sum
pub dot-scaled : (costs y : List ℤ) (q : ℤ) → dot (map (λ c. c *ℤ q) costs) y ≡ dot costs y *ℤ q
dot-scaled [] y q = sym (none q)
  where
    none : (q : ℤ) → pos 0 *ℤ q ≡ pos 0
    none q = omega (arith, ints)
dot-scaled (c ∷ cs) [] q = sym (none q)
  where
    none : (q : ℤ) → pos 0 *ℤ q ≡ pos 0
    none q = omega (arith, ints)
dot-scaled (c ∷ cs) (y ∷ ys) q =
    joined (dot (map (λ c. c *ℤ q) cs) ys) (dot cs ys *ℤ q) ((c *ℤ q) *ℤ y) ((c *ℤ y) *ℤ q) ((c *ℤ y +ℤ dot cs ys) *ℤ q)
    (dot-scaled cs ys q) (swapped c q y) (add-mul (c *ℤ y) (dot cs ys) q)
  where
    swapped : (c q y : ℤ) → (c *ℤ q) *ℤ y ≡ (c *ℤ y) *ℤ q
    swapped c q y = sym (mul_assoc c q y) ∙ ap (λ z. c *ℤ z) (*ℤ_comm q y) ∙ mul_assoc c y q

    joined : (a b d e g : ℤ) → a ≡ b → d ≡ e → g ≡ e +ℤ b → d +ℤ a ≡ g
    joined a b d e g p q r = omega (arith, ints)

-- where a sum that undercuts a point surpasses what the best so far allows, the best covers the point
pub surpassed_covered : (r : Relaxed) (best : Option ℤ) (paid cost sum : ℤ) → IsSurpassed r best paid → paid ≤ℤ sum
    → sum ≤ℤ (r.offset +ℤ cost *ℤ pos r.scale) → IsCovered best cost
surpassed_covered r None paid cost sum h l m = h
surpassed_covered r (Some best) paid cost sum h l m = by_lt_z cost best
    (λ less. absurd (apart r.offset (pos r.scale *ℤ cost) (pos r.scale *ℤ (best -ℤ pos 1)) (cost *ℤ pos r.scale) ((best -ℤ pos 1) *ℤ pos r.scale) paid sum
    (le-mul_pos r.scale cost (best -ℤ pos 1) (before less)) (*ℤ_comm (pos r.scale) cost) (*ℤ_comm (pos r.scale) (best -ℤ pos 1)) h l m))
    (λ more. more)
  where
    before : cost <ℤ best → cost ≤ℤ (best -ℤ pos 1)
    before less = omega (arith, ints, less)

    apart : (o a b c d p s : ℤ) → a ≤ℤ b → a ≡ c → b ≡ d → (o +ℤ d) <ℤ p → p ≤ℤ s → s ≤ℤ (o +ℤ c) → ⊥
    apart o a b c d p s q e f h l m = omega (arith, ints)

-- a zone whose least of adjusted costs surpasses what the best so far allows is covered
pub covered_surpassed : (rows : List Row) (narrow zone : List Span) (costs : List ℤ) (r : Relaxed) (best : Option ℤ)
    → length r.costs.items ≡ length narrow → IsSubzone narrow zone → IsUndercut rows zone costs r
    → IsSurpassed r best (box_least narrow r.costs.items) → AllCovered rows narrow costs best
covered_surpassed rows narrow zone costs r best e inside below h y point =
    surpassed_covered r best (box_least narrow r.costs.items) (dot costs y) (dot r.costs.items y) h
    (box_least-le narrow r.costs.items y e point.inside)
    (below y (record { inside = inside_larger narrow zone y inside point.inside; meets = point.meets }))

-- where the adjusted least with a number surpasses what the best so far allows, the loop over the span's numbers is done
pub rest_surpassed : (rows : List Row) (zone narrow : List Span) (costs : List ℤ) (r : Relaxed) (level step : ℕ) (up : Bool) (v : ℤ) (best : Option ℤ)
    → level < length narrow → length r.costs.items ≡ length narrow → IsWholeAt zone level narrow
    → v ≡ step_value up (span_at zone level) step → Follows up (get_or r.costs.items level (pos 0)) → IsUndercut rows zone costs r
    → ((y : List ℤ) → IsPoint rows narrow y → step_of up (span_at zone level) (value_at y level) < step → IsCovered best (dot costs y))
    → IsSurpassed r best (box_least (set narrow level (single v)) r.costs.items)
    → AllCovered rows narrow costs best
rest_surpassed rows zone narrow costs r level step up v best l e n is f below had now y point = ⊎_elim
    (λ less. had y point less)
    (λ more. surpassed_covered r best (box_least (set narrow level (single v)) r.costs.items) (dot costs y) (dot r.costs.items y) now
    (later_undercut zone narrow r.costs.items y level step up v l e n is f point.inside more)
    (below y (record { inside = inside_larger narrow zone y n.inside point.inside; meets = point.meets })))
    (cases_lt (step_of up (span_at zone level) (value_at y level)) step)

-- a loop that is over has covered all
pub covered_over : (rows : List Row) (zone narrow : List Span) (costs : List ℤ) (r : Relaxed) (d : Dive) (level step : ℕ) (up : Bool) (v cost : ℤ)
    → level < length narrow → length costs ≡ length narrow → length r.costs.items ≡ length narrow → IsWholeAt zone level narrow
    → v ≡ step_value up (span_at zone level) step → Follows up (get_or r.costs.items level (pos 0)) → IsUndercut rows zone costs r
    → ((y : List ℤ) → IsPoint rows narrow y → step_of up (span_at zone level) (value_at y level) < step → IsCovered d.best (dot costs y))
    → d.zone.items ≡ set narrow level (single v) → IsTracked rows zone costs d → IsPaid r d → cost ≡ get_or costs level (pos 0)
    → IsOver r d up cost
    → AllCovered rows narrow costs d.best
covered_over rows zone narrow costs r d level step up v cost l e f n is follows below had placed tracked paid read (inl surpassed) =
    rest_surpassed rows zone narrow costs r level step up v d.best l f n is follows below had
    (subst (IsSurpassed r d.best) (paid ∙ ap (λ (zs : List Span). box_least zs r.costs.items) placed) surpassed)
covered_over rows zone narrow costs r d level step up v cost l e f n is follows below had placed tracked paid read (inr covered) =
    covered_rest rows zone narrow costs level step up v d.best l e n is (subst (Follows up) read covered.0) had
    (subst (IsCovered d.best) (tracked.least ∙ ap (λ (zs : List Span). box_least zs costs) placed) covered.1)

-- where a search stands with the adjusted costs for the costs
abbrev pub paid_dive : Dive → Dive
paid_dive d = record d { least = d.paid }

pub paid_tracked : (rows : List Row) (zone : List Span) (costs : List ℤ) (r : Relaxed) (d : Dive) → IsTracked rows zone costs d → IsPaid r d
    → IsTracked rows zone r.costs.items (paid_dive d)
paid_tracked rows zone costs r d t p = record { inside = t.inside; proper = t.proper; lows = t.lows; highs = t.highs; least = p; wide = t.wide }

pub paid_move : (f : Form) (zone : List Span) (costs : List ℤ) (r : Relaxed) (d : Dive) (var : ℕ) (to : Span)
    → IsPriceable f.spans.items zone r.costs.items → IsPaid r d → CanMove f zone costs d var to → CanMove f zone r.costs.items (paid_dive d) var to
paid_move f zone costs r d var to a p m = record {
  priceable = a;
  tracked = paid_tracked f.rows.items zone costs r d m.tracked p;
  there = m.there;
  part = m.part;
  fits = m.fits;
}

-- the adjusted cost that was read
pub paid_cost : (f : Form) (zone : List Span) (r : Relaxed) → IsPriceable f.spans.items zone r.costs.items → (var : ℕ) → var < length zone
    → (read : ℤ) → read ≡ get_or r.costs.items var read → read ≡ get_or r.costs.items var (pos 0)
paid_cost f zone r a var l read e = get_or_read r.costs.items var read (omega (arith, l, a.each)) e (pos 0)

pub paid_short : (f : Form) (zone : List Span) (costs : List ℤ) (r : Relaxed) (d : Dive) (var : ℕ) (to : Span)
    → IsPriceable f.spans.items zone r.costs.items → IsPaid r d → CanMove f zone costs d var to
    → (read : ℤ) → read ≡ get_or r.costs.items var read → unsigned_abs read * reach to ≤ 2 ^ 123
paid_short f zone costs r d var to a p m read e =
    subst (λ z. unsigned_abs z * reach to ≤ 2 ^ 123) (sym (paid_cost f zone r a var m.there read e))
    (cost_short f zone r.costs.items (paid_dive d) var to (paid_move f zone costs r d var to a p m))

pub paid_short_from : (f : Form) (zone : List Span) (costs : List ℤ) (r : Relaxed) (d : Dive) (var : ℕ) (to : Span)
    → IsPriceable f.spans.items zone r.costs.items → IsPaid r d → CanMove f zone costs d var to
    → (from : Span) → from ≡ get_or d.zone.items var from
    → (read : ℤ) → read ≡ get_or r.costs.items var read → unsigned_abs read * reach from ≤ 2 ^ 123
paid_short_from f zone costs r d var to a p m from s read e =
    subst (λ z. unsigned_abs z * reach from ≤ 2 ^ 123) (sym (paid_cost f zone r a var m.there read e))
    (cost_short_from f zone r.costs.items (paid_dive d) var to (paid_move f zone costs r d var to a p m) from s)

pub paid_least_short : (f : Form) (zone : List Span) (costs : List ℤ) (r : Relaxed) (d : Dive)
    → IsPriceable f.spans.items zone r.costs.items → IsPaid r d → IsTracked f.rows.items zone costs d → unsigned_abs d.paid ≤ 2 ^ 123
paid_least_short f zone costs r d a p t =
    least_short f zone r.costs.items (paid_dive d) a (paid_tracked f.rows.items zone costs r d t p)

-- after the move the adjusted least is that of the changed zone
pub moved_paid : (f : Form) (zone : List Span) (costs : List ℤ) (r : Relaxed) (d : Dive) (var : ℕ) (to : Span)
    → IsPriceable f.spans.items zone r.costs.items → IsPaid r d → CanMove f zone costs d var to
    → (from : Span) → from ≡ get_or d.zone.items var from
    → (read : ℤ) → read ≡ get_or r.costs.items var read
    → (now change : ℤ) → now ≡ d.paid +ℤ change → change ≡ end_cost to read -ℤ end_cost from read
    → now ≡ box_least (set d.zone.items var to) r.costs.items
moved_paid f zone costs r d var to a p m from s read e now change is by =
    moved_least f zone r.costs.items (paid_dive d) var to (paid_move f zone costs r d var to a p m) from s now change is
    (by ∙ ap (λ z. end_cost to z -ℤ end_cost from z) (paid_cost f zone r a var m.there read e))

-- one row more
pub undercut_more : (rows : List Row) (zone : List Span) (costs : List ℤ) (before now : Relaxed) (q : ℕ) (d : Row) → q < length rows
    → length before.costs.items ≡ length zone → now.scale ≡ before.scale
    → ((y : List ℤ) → length y ≡ length before.costs.items → MeetsRow y (get_or rows q d)
    → (dot now.costs.items y -ℤ now.offset) ≤ℤ (dot before.costs.items y -ℤ before.offset))
    → IsUndercut rows zone costs before → IsUndercut rows zone costs now
undercut_more rows zone costs before now q d l e same paid had y point =
    joined (dot now.costs.items y) (dot before.costs.items y) now.offset before.offset (dot costs y *ℤ pos now.scale) (dot costs y *ℤ pos before.scale)
    (paid y (sym (AllZip-length IsWithin zone y point.inside) ∙ sym e) (point.meets q d l))
    (had y point)
    (ap (λ n. dot costs y *ℤ pos n) same)
  where
    joined : (n b p o s t : ℤ) → (n -ℤ p) ≤ℤ (b -ℤ o) → b ≤ℤ (o +ℤ t) → s ≡ t → n ≤ℤ (p +ℤ s)
    joined n b p o s t h k e = omega (arith, ints)

-- scaled costs alone
pub undercut_scaled : (rows : List Row) (zone : List Span) (costs : List ℤ) (r : Relaxed) → r.offset ≡ pos 0
    → r.costs.items ≡ map (λ c. c *ℤ pos r.scale) costs → IsUndercut rows zone costs r
undercut_scaled rows zone costs r none is y point =
    joined (ap (λ cs. dot cs y) is ∙ dot-scaled costs y (pos r.scale)) none
  where
    joined : {a b o : ℤ} → a ≡ b → o ≡ pos 0 → a ≤ℤ (o +ℤ b)
    joined e f = omega (arith, ints, e, f)

-- plain costs
pub undercut_plain : (rows : List Row) (zone : List Span) (costs : List ℤ) (r : Relaxed) → r.offset ≡ pos 0 → r.scale ≡ 1
    → r.costs.items ≡ costs → IsUndercut rows zone costs r
undercut_plain rows zone costs r none one is y point =
    joined (ap (λ cs. dot cs y) is) none (ap (λ n. dot costs y *ℤ pos n) one) (once (dot costs y))
  where
    once : (z : ℤ) → z *ℤ pos 1 ≡ z
    once z = omega (arith, ints)

    joined : {a b c d o : ℤ} → a ≡ b → o ≡ pos 0 → c ≡ d → d ≡ b → a ≤ℤ (o +ℤ c)
    joined e f g h = omega (arith, ints, e, f, g, h)
