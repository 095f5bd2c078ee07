-- The bound of the plain proof: the costs at the better ends of the spans, and the constant.
use Rattle.std.proofs.Common.{◌≡◌, refl, sym, ap, subst, ◌∙◌, ℕ, suc, ◌+◌, ◌*◌, ◌<◌, ◌≤◌, ◌^◌, Bool, true, false, List, [], ◌∷◌, map, length, get_or, take, sum_by, arith, ⊎_elim}
use Rattle.std.specs.Prelude.{ℤ, pos, unsigned_abs, ◌+ℤ◌, ◌*ℤ◌, ◌≤ℤ◌, if◌then◌else◌, int_lt}
use Rattle.std.specs.List.{AllByRecursion, range_with_len}
use Rattle.std.specs.Int.{int_min}
use Rattle.std.proofs.lemmas.Bool.{cases_lt}
use Rattle.std.proofs.lemmas.Bool.Decides.{eqb_tells}
use Rattle.std.proofs.lemmas.Int.{ints, unsigned_abs-mul}
use Rattle.std.proofs.lemmas.List.{get_or-map, length-map}
use Rattle.std.proofs.lemmas.List.Sums.{sum_by-cons}
use Rattle.std.proofs.lemmas.List.Elements.{recursion_from_All, All-from_recursion}
use Rattle.std.proofs.Math.Nat.{mul-le-mul_left}
use Rattle.bp_theory.specs.Sums.{sum_of, sum_at}
use Rattle.bp_theory.specs.Program.{Program, coefficient, span_at, reach}
use Rattle.bp_theory.specs.Blocking.{Copy, Block, Blocking, all_copies}
use Rattle.bp_theory.specs.Bound.{IsBound, IsPart, spans_of, reduced_cost, end_cost, box_least, base, plain_proof}
use Rattle.bp_theory.specs.Decomposition.{Decomposition, IsClosed, IsTidyFrom, HasVariablesBelow, blocking_of, proof_rows, at_first, copy_of, is_in, is_first}
use Rattle.bp_theory.specs.Cuts.{cut_rows}
use Rattle.bp_theory.specs.Trees.{IsProper}
use Rattle.bp_theory.specs.declared.Row.{Row}
use Rattle.bp_theory.specs.declared.Span.{Span}
use Rattle.bp_theory.specs.declared.Term.{Term}
use Rattle.bp_theory.proofs.ClassProof.{least_over_box_lem}
use Rattle.bp_theory.proofs.DecompositionProof.{copies_at, copies_past, first_takes, kept_at}
use Rattle.bp_theory.proofs.KeyLaws.{if_other, sum_of-same_keys}
use Rattle.bp_theory.proofs.RoundProof.{parts_add_up_lem}
use Rattle.bp_theory.proofs.SumLaws.{sum_of-flat_map, sum_of-map, sum_of-same, sum_of_more, sum_of_so_far_within}
use Rattle.bp_model.specs.Named.{NamedProgram, IsKept}
use Rattle.block_program.specs.Blocked.{BlockedProgram, IsFormed}
use Rattle.open_nodes.specs.Bounds.{better_cost, better_total, total_limit}

-- ---- the sums are small

less_small : (a b : ℤ) (most : ℕ) → unsigned_abs a ≤ most → unsigned_abs b ≤ most → unsigned_abs (int_min a b) ≤ most
less_small a b most h k = by (int_lt b a)
  where
    by : (t : Bool) → unsigned_abs (if t then b else a) ≤ most
    by true = k
    by false = h

end_small : (s : Span) (c : ℤ) → unsigned_abs (end_cost s c) ≤ unsigned_abs c * reach s
end_small s c = less_small (c *ℤ s.lo) (c *ℤ s.hi) (unsigned_abs c * reach s)
    (omega (arith, unsigned_abs-mul c s.lo, mul-le-mul_left (unsigned_abs c) (low s)))
    (omega (arith, unsigned_abs-mul c s.hi, mul-le-mul_left (unsigned_abs c) (high s)))
  where
    low : (s : Span) → unsigned_abs s.lo ≤ reach s
    low s = omega (arith, ints)

    high : (s : Span) → unsigned_abs s.hi ≤ reach s
    high s = omega (arith, ints)

sums_small : (spans : List Span) (terms : List Term)
    → sum_by (λ t. unsigned_abs (better_cost spans t)) terms ≤ sum_by (λ t. unsigned_abs t.coef * reach (span_at spans t.var)) terms
sums_small spans [] = omega arith
sums_small spans (t ∷ ts) =
    omega (
      arith,
      end_small (span_at spans t.var) t.coef,
      sums_small spans ts,
      sum_by-cons (λ (t : Term). unsigned_abs (better_cost spans t)) t ts,
      sum_by-cons (λ (t : Term). unsigned_abs t.coef * reach (span_at spans t.var)) t ts,
    )

-- a sum of a constant and a smaller part stays small
together : (c s : ℤ) (most part whole : ℕ) → unsigned_abs s ≤ part → part ≤ whole → unsigned_abs c + whole < most → unsigned_abs (c +ℤ s) < most
together c s most part whole h k l = omega (arith, ints, h, k, l)

-- what has been added up so far is small
pub so_far_small : (constant : ℤ) (terms : List Term) (spans : List Span) (i : ℕ) (sum : ℤ) → total_limit constant terms spans < 2 ^ 62
    → sum ≡ better_total constant (take i terms) spans → unsigned_abs sum < 2 ^ 62
so_far_small constant terms spans i sum limit is =
    subst (λ s. unsigned_abs s < 2 ^ 62) (sym is)
    (together constant (sum_of (better_cost spans) (take i terms)) (2 ^ 62)
    (sum_by (λ t. unsigned_abs (better_cost spans t)) terms) (sum_by (λ t. unsigned_abs t.coef * reach (span_at spans t.var)) terms)
    (sum_of_so_far_within (better_cost spans) terms i) (sums_small spans terms) limit)

pub one_more : (constant : ℤ) (terms : List Term) (spans : List Span) (i : ℕ) (d : Term) (sum more : ℤ) → total_limit constant terms spans < 2 ^ 62
    → i < length terms → sum ≡ better_total constant (take i terms) spans → more ≡ better_cost spans (get_or terms i d)
    → (sum +ℤ more ≡ better_total constant (take (i + 1) terms) spans) × (unsigned_abs (sum +ℤ more) < 2 ^ 62)
one_more constant terms spans i d sum more limit l so_far next =
    let step : sum +ℤ more ≡ better_total constant (take (i + 1) terms) spans =
    omega (arith, ints, sum_of_more (better_cost spans) terms i d l, so_far, next) in
    (step, so_far_small constant terms spans (i + 1) (sum +ℤ more) limit step)

-- a model's costs can be added up
pub can_total : (m : NamedProgram) (constant : ℤ) (terms : List Term) (spans : List Span) → IsKept m → constant ≡ m.program.constant → terms ≡ m.program.costs
    → spans ≡ m.program.spans → HasVariablesBelow (length spans) terms × (total_limit constant terms spans < 2 ^ 62)
can_total m constant terms spans kept c t s =
    subst (λ (c : ℤ). HasVariablesBelow (length spans) terms × (total_limit c terms spans < 2 ^ 62)) (sym c)
    (subst (λ (t : List Term). HasVariablesBelow (length spans) t × (total_limit m.program.constant t spans < 2 ^ 62)) (sym t)
    (subst (λ (s : List Span). HasVariablesBelow (length s) m.program.costs × (total_limit m.program.constant m.program.costs s < 2 ^ 62)) (sym s)
    (kept.closed.costs, kept.cost_activity)))

-- ---- the bound

reduced_is_cost : (c : Copy) → reduced_cost plain_proof c ≡ c.cost
reduced_is_cost c = omega (arith, ints)

-- a copy's cost at the better end
abbrev copy_better : List Span → Copy → ℤ
copy_better zone c = end_cost (span_at zone c.var) c.cost

box_sum : (zone : List Span) (cs : List Copy)
    → box_least (map (λ (c : Copy). span_at zone c.var) cs) (map (reduced_cost plain_proof) cs) ≡ sum_of (copy_better zone) cs
box_sum zone [] = refl
box_sum zone (c ∷ cs) =
    ap (λ r. end_cost (span_at zone c.var) r +ℤ box_least (map (λ (c : Copy). span_at zone c.var) cs) (map (reduced_cost plain_proof) cs)) (reduced_is_cost c)
    ∙ ap (λ z. end_cost (span_at zone c.var) c.cost +ℤ z) (box_sum zone cs)

proper_at : (zone : List Span) → IsProper zone → (v : ℕ) → (span_at zone v).lo ≤ℤ (span_at zone v).hi
proper_at zone proper v =
    kept_at (λ (s : Span). s.lo ≤ℤ s.hi) zone (record { lo = pos 0; hi = pos 0 }) (recursion_from_All (λ (s : Span). s.lo ≤ℤ s.hi) zone proper) (omega (arith, ints)) v

proper_spans : (zone : List Span) (block : Block) → IsProper zone → IsProper (spans_of zone block)
proper_spans zone block proper = All-from_recursion (λ (s : Span). s.lo ≤ℤ s.hi) (spans_of zone block) (go block.copies)
  where
    go : (cs : List Copy) → AllByRecursion (λ (s : Span). s.lo ≤ℤ s.hi) (map (λ (c : Copy). span_at zone c.var) cs)
    go [] = tt
    go (c ∷ cs) = (proper_at zone proper c.var, go cs)

-- the least cost of a block over its box
abbrev part_of : List Span → Block → ℤ
part_of zone block = box_least (spans_of zone block) (map (reduced_cost plain_proof) block.copies)

is_part : (zone : List Span) (k : ℕ) (block : Block) → IsProper zone → IsPart zone plain_proof k block (part_of zone block)
is_part zone k block proper =
    least_over_box_lem (spans_of zone block) (map (reduced_cost plain_proof) block.copies) (proper_spans zone block proper)
    (simp length-map)

sum_is_bound : (b : Blocking) (zone : List Span) → IsProper zone
    → IsBound b zone plain_proof (base b plain_proof +ℤ sum_of (λ z. z) (map (part_of zone) b.blocks))
sum_is_bound b zone proper = parts_add_up_lem b zone plain_proof (map (part_of zone) b.blocks) (simp length-map)
    (λ k d l. subst (IsPart zone plain_proof k (get_or b.blocks k d)) (sym (get_or-map (part_of zone) b.blocks k d (pos 0) l)) (is_part zone k (get_or b.blocks k d) proper))

sum_by_copies : (b : Blocking) (zone : List Span)
    → base b plain_proof +ℤ sum_of (λ z. z) (map (part_of zone) b.blocks) ≡ b.constant +ℤ sum_of (copy_better zone) (all_copies b)
sum_by_copies b zone =
    omega (
      arith,
      ints,
      sum_of-map (λ z. z) (part_of zone) b.blocks,
      sum_of-same (part_of zone) (λ (k : Block). sum_of (copy_better zone) k.copies) (λ k. box_sum zone k.copies) b.blocks,
      sum_of-flat_map (copy_better zone) (λ (k : Block). k.copies) b.blocks,
    )

-- terms past the variables, and terms of one variable
end_of_none : (s : Span) → end_cost s (pos 0) ≡ pos 0
end_of_none s = by (int_lt (pos 0 *ℤ s.hi) (pos 0 *ℤ s.lo))
  where
    by : (t : Bool) → (if t then pos 0 *ℤ s.hi else pos 0 *ℤ s.lo) ≡ pos 0
    by true = omega (arith, ints)
    by false = omega (arith, ints)

at_first_end : (s : Span) (c : ℤ) (t : Bool) → end_cost s (at_first t c) ≡ at_first t (end_cost s c)
at_first_end s c true = refl
at_first_end s c false = end_of_none s

terms_before : (spans : List Span) (terms : List Term) (n v : ℕ) → IsTidyFrom n terms → v < n
    → (sum_at (λ (t : Term). t.var) (better_cost spans) terms v ≡ pos 0) × (coefficient terms v ≡ pos 0)
terms_before spans [] n v tidy l = (refl, refl)
terms_before spans (t ∷ ts) n v tidy l =
    let rest = terms_before spans ts (suc t.var) v tidy.2 (omega (arith, tidy.0)) in
    let other : t.var ≡ v → ⊥ = λ e. omega (arith, e, tidy.0) in (
      omega (arith, ints, if_other t.var v (better_cost spans t) (pos 0) other, rest.0),
      omega (arith, ints, if_other t.var v t.coef (pos 0) other, rest.1),
    )

terms_at : (spans : List Span) (terms : List Term) (n v : ℕ) → IsTidyFrom n terms
    → sum_at (λ (t : Term). t.var) (better_cost spans) terms v ≡ end_cost (span_at spans v) (coefficient terms v)
terms_at spans [] n v tidy = sym (end_of_none (span_at spans v))
terms_at spans (t ∷ ts) n v tidy = ⊎_elim
    (λ same. subst Claim (sym same.0) (here same.1))
    (λ other. subst Claim (sym other.0) (past (terms_at spans ts (suc t.var) v tidy.2)))
    (eqb_tells t.var v)
  where
    Claim : Bool → Type 0
    Claim b = (if b then better_cost spans t else pos 0) +ℤ sum_at (λ (t : Term). t.var) (better_cost spans) ts v
        ≡ end_cost (span_at spans v) ((if b then t.coef else pos 0) +ℤ coefficient ts v)

    zero_more : (z : ℤ) → z +ℤ pos 0 ≡ z
    zero_more z = omega (arith, ints)

    none_more : (z : ℤ) → pos 0 +ℤ z ≡ z
    none_more z = omega (arith, ints)

    here : t.var ≡ v → better_cost spans t +ℤ sum_at (λ (t : Term). t.var) (better_cost spans) ts v ≡ end_cost (span_at spans v) (t.coef +ℤ coefficient ts v)
    here e =
        let rest = terms_before spans ts (suc t.var) v tidy.2 (omega (arith, e)) in
        ap (λ z. better_cost spans t +ℤ z) rest.0 ∙ zero_more (better_cost spans t)
        ∙ ap (λ u. end_cost (span_at spans u) t.coef) e
        ∙ ap (end_cost (span_at spans v)) (sym (ap (λ z. t.coef +ℤ z) rest.1 ∙ zero_more t.coef))

    past : sum_at (λ (t : Term). t.var) (better_cost spans) ts v ≡ end_cost (span_at spans v) (coefficient ts v)
        → pos 0 +ℤ sum_at (λ (t : Term). t.var) (better_cost spans) ts v ≡ end_cost (span_at spans v) (pos 0 +ℤ coefficient ts v)
    past rest = none_more (sum_at (λ (t : Term). t.var) (better_cost spans) ts v) ∙ rest ∙ ap (end_cost (span_at spans v)) (sym (none_more (coefficient ts v)))

terms_past : (spans : List Span) (terms : List Term) (n v : ℕ) → AllByRecursion (λ (t : Term). t.var < n) terms → n ≤ v
    → sum_at (λ (t : Term). t.var) (better_cost spans) terms v ≡ pos 0
terms_past spans [] n v all l = refl
terms_past spans (t ∷ ts) n v all l =
    omega (arith, ints, if_other t.var v (better_cost spans t) (pos 0) (λ e. omega (arith, all.0, e)), terms_past spans ts n v all.1 l)

-- what the copies of a variable cost at the better end is what its term costs there
copies_cost : (p : Program) (d : Decomposition) (cuts : List Row) → IsClosed p → IsTidyFrom 0 p.costs → (v : ℕ)
    → sum_at (λ (c : Copy). c.var) (copy_better p.spans) (all_copies (blocking_of p d cuts)) v ≡ sum_at (λ (t : Term). t.var) (better_cost p.spans) p.costs v
copies_cost p d cuts closed tidy v = ⊎_elim
    (λ l. copies_at p d (proof_rows p d cuts) (copy_better p.spans) v l
    ∙ ap (λ z. z +ℤ (if is_first p d v d.blocks then least else pos 0))
    (sum_of-same (λ k. if is_in p d v k then copy_better p.spans (copy_of p (proof_rows p d cuts) (is_first p d v k) v k) else pos 0)
    (λ k. if is_in p d v k then at_first (is_first p d v k) least else pos 0)
    (λ k. ap (λ z. if is_in p d v k then z else pos 0) (at_first_end (span_at p.spans v) (coefficient p.costs v) (is_first p d v k)))
    (range_with_len 0 d.blocks))
    ∙ first_takes (is_in p d v) least d.blocks
    ∙ sym (terms_at p.spans p.costs 0 v tidy))
    (λ l. copies_past p d (proof_rows p d cuts) (copy_better p.spans) v l
    ∙ sym (terms_past p.spans p.costs (length p.spans) v (recursion_from_All (λ (t : Term). t.var < length p.spans) p.costs closed.costs) l))
    (cases_lt v (length p.spans))
  where
    least : ℤ
    least = end_cost (span_at p.spans v) (coefficient p.costs v)

same_sums : (p : Program) (d : Decomposition) (cuts : List Row) → IsClosed p → IsTidyFrom 0 p.costs
    → sum_of (copy_better p.spans) (all_copies (blocking_of p d cuts)) ≡ sum_of (better_cost p.spans) p.costs
same_sums p d cuts closed tidy =
    sum_of-same (copy_better p.spans) (λ c. copy_better p.spans c *ℤ pos 1) (λ c. times_one (copy_better p.spans c)) (all_copies (blocking_of p d cuts))
    ∙ sum_of-same_keys (λ (c : Copy). c.var) (copy_better p.spans) (λ (t : Term). t.var) (better_cost p.spans) (λ v. pos 1)
    (all_copies (blocking_of p d cuts)) p.costs (copies_cost p d cuts closed tidy)
    ∙ sum_of-same (λ t. better_cost p.spans t *ℤ pos 1) (better_cost p.spans) (λ t. sym (times_one (better_cost p.spans t))) p.costs
  where
    times_one : (z : ℤ) → z ≡ z *ℤ pos 1
    times_one z = omega (arith, ints)

pub plain_is_bound : (b : BlockedProgram) (total constant : ℤ) (terms : List Term) (spans : List Span) → IsFormed b → total ≡ better_total constant terms spans
    → constant ≡ b.named.program.constant → terms ≡ b.named.program.costs → spans ≡ b.named.program.spans
    → IsBound b.blocking b.named.program.spans plain_proof total
plain_is_bound b total constant terms spans formed is c t s =
    let p : Program = b.named.program in
    let cuts : List Row = cut_rows p b.dec [] b.cuts in
    let same : better_total p.constant p.costs p.spans ≡ total =
    ap (λ (z : ℤ). better_total z p.costs p.spans) (sym c) ∙ ap (λ (ts : List Term). better_total constant ts p.spans) (sym t)
    ∙ ap (λ (ss : List Span). better_total constant terms ss) (sym s) ∙ sym is in
    subst (IsBound b.blocking p.spans plain_proof) same
    (subst (λ k. IsBound k p.spans plain_proof (better_total p.constant p.costs p.spans)) (sym formed.blocking)
    (subst (IsBound (blocking_of p b.dec cuts) p.spans plain_proof)
    (sum_by_copies (blocking_of p b.dec cuts) p.spans ∙ ap (λ z. p.constant +ℤ z) (same_sums p b.dec cuts formed.kept.closed formed.kept.tidy_costs))
    (sum_is_bound (blocking_of p b.dec cuts) p.spans formed.kept.proper)))
