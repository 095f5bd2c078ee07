-- Same blocks price alike; the least over a box; the parts of a split.
use Rattle.std.proofs.Common.{◌≡◌, refl, ap, subst, ◌∙◌, ℕ, List, [], ◌∷◌, map, length, arith}
use Rattle.std.proofs.Math.IntN.{ℤ, pos, negsuc, ◌+ℤ◌, ◌-ℤ◌, ◌*ℤ◌}
use Rattle.std.specs.Prelude.{◌≤ℤ◌, All, if◌then◌else◌}
use Rattle.std.specs.List.{AllByRecursion}
use Rattle.std.proofs.lemmas.Int.{ints, clamps, by_lt_z}
use Rattle.std.proofs.lemmas.List.Elements.{All-set, All-append, All-weaker, All-nil, recursion_from_All, All-from_recursion}
use Rattle.bp_theory.specs.Sums.{sum_of, dot}
use Rattle.bp_theory.specs.Program.{span_at, IsWithin, IsInside, MeetsRow}
use Rattle.bp_theory.specs.Blocking.{Copy, coef_in}
use Rattle.bp_theory.specs.Bound.{spans_of, IsLeast, is_picked, priced_rows, reduced_cost, end_cost, box_least}
use Rattle.bp_theory.specs.Trees.{Tree, shut_leaf, open_leaf, split, Leaf, leaves, low_part, high_part, IsSoundSplit, HasSoundSplits, IsSubspan, IsSubzone, IsProper}
use Rattle.bp_theory.specs.Laws.{SamePriceAlike, LeastOverBox, SplitShrinks}
use Rattle.bp_theory.specs.declared.Span.{Span}
use Rattle.bp_theory.specs.declared.Row.{Row}
use Rattle.bp_theory.specs.declared.Proof.{Proof}
use Rattle.bp_theory.proofs.Whole.{le-mul_pos, le-mul_negsuc}
use Rattle.bp_theory.proofs.SumLaws.{sum_of-same}
use Rattle.bp_theory.proofs.ZipLaws.{AllZip-set}

-- ---- same blocks

same_reduced_cost : (proof : Proof) (c d : Copy) → c.cost ≡ d.cost → ((row : ℕ) → coef_in c row ≡ coef_in d row)
    → reduced_cost proof c ≡ reduced_cost proof d
same_reduced_cost proof c d cost coef =
    ap (λ z. pos proof.scale *ℤ z -ℤ sum_of (λ m. m.1 *ℤ coef_in c m.0) proof.mults) cost
    ∙ ap (λ z. pos proof.scale *ℤ d.cost -ℤ z)
    (sum_of-same (λ m. m.1 *ℤ coef_in c m.0) (λ m. m.1 *ℤ coef_in d m.0) (λ m. ap (λ z. m.1 *ℤ z) (coef m.0)) proof.mults)

both_same : (z w : ℤ) (zs ws : List ℤ) → z ≡ w → zs ≡ ws → z ∷ zs ≡ w ∷ ws
both_same z w zs ws e f = cc

same_reduced_costs : (proof : Proof) (cs ds : List Copy)
    → map (λ (c : Copy). c.cost) cs ≡ map (λ (c : Copy). c.cost) ds
    → ((row : ℕ) → map (λ (c : Copy). coef_in c row) cs ≡ map (λ (c : Copy). coef_in c row) ds)
    → map (reduced_cost proof) cs ≡ map (reduced_cost proof) ds
same_reduced_costs proof [] [] e f = refl
same_reduced_costs proof [] (d ∷ ds) e f = absurd (cc)
same_reduced_costs proof (c ∷ cs) [] e f = absurd (cc)
same_reduced_costs proof (c ∷ cs) (d ∷ ds) e f =
    let cost : c.cost ≡ d.cost = cc in
    let costs : map (λ (c : Copy). c.cost) cs ≡ map (λ (c : Copy). c.cost) ds = cc in
    let coef : (row : ℕ) → coef_in c row ≡ coef_in d row = λ row. let here = f row in cc in
    let coefs : (row : ℕ) → map (λ (c : Copy). coef_in c row) cs ≡ map (λ (c : Copy). coef_in c row) ds = λ row. let here = f row in cc in
    both_same (reduced_cost proof c) (reduced_cost proof d) (map (reduced_cost proof) cs) (map (reduced_cost proof) ds)
    (same_reduced_cost proof c d cost coef) (same_reduced_costs proof cs ds costs coefs)

pub same_price_lem : SamePriceAlike
same_price_lem zone proof j k b c v same picked part =
    subst (λ rows. IsLeast rows (spans_of zone c) (map (reduced_cost proof) c.copies) v)
    (ap (λ t. if t then b.rows else []) picked ∙ ap (λ (rows : List Row). if is_picked proof.picked k then rows else []) same.rows)
    (subst (λ spans. IsLeast (priced_rows proof.picked j b) spans (map (reduced_cost proof) c.copies) v) same.spans
    (subst (λ costs. IsLeast (priced_rows proof.picked j b) (spans_of zone b) costs v)
    (same_reduced_costs proof b.copies c.copies same.costs same.coefs) part))

-- ---- boxes

-- no number of a span costs less than the better end
end_cost-le : (s : Span) (r x : ℤ) → IsWithin s x → end_cost s r ≤ℤ (r *ℤ x)
end_cost-le s (pos n) x h = omega (arith, ints, clamps, le-mul_pos n s.lo x h.above)
end_cost-le s (negsuc n) x h = omega (arith, ints, clamps, le-mul_negsuc n x s.hi h.below)

-- the end that costs no more
better_end : (s : Span) (r : ℤ) → s.lo ≤ℤ s.hi → (x : ℤ) × IsWithin s x × (r *ℤ x ≡ end_cost s r)
better_end s r proper = by_lt_z (r *ℤ s.hi) (r *ℤ s.lo)
    (λ less. (s.hi, record { above = proper; below = omega (arith, ints) }, omega (arith, ints, clamps, less)))
    (λ more. (s.lo, record { above = omega (arith, ints); below = proper }, omega (arith, ints, clamps, more)))

box_least-le : (spans : List Span) (costs y : List ℤ) → length costs ≡ length spans → IsInside spans y → box_least spans costs ≤ℤ dot costs y
box_least-le [] [] y e inside = omega (arith, ints)
box_least-le [] (r ∷ rs) y e inside = absurd (omega arith)
box_least-le (s ∷ ss) [] y e inside = absurd (omega arith)
box_least-le (s ∷ ss) (r ∷ rs) [] e inside = absurd inside
box_least-le (s ∷ ss) (r ∷ rs) (x ∷ xs) e inside =
    omega (arith, ints, end_cost-le s r x inside.0, box_least-le ss rs xs (omega arith) inside.1)

box_reached : (spans : List Span) (costs : List ℤ) → length costs ≡ length spans → AllByRecursion (λ s. s.lo ≤ℤ s.hi) spans
    → (y : List ℤ) × IsInside spans y × (dot costs y ≡ box_least spans costs)
box_reached [] [] e proper = ([], tt, refl)
box_reached [] (r ∷ rs) e proper = absurd (omega arith)
box_reached (s ∷ ss) [] e proper = absurd (omega arith)
box_reached (s ∷ ss) (r ∷ rs) e proper =
    let here = better_end s r proper.0 in
    let rest = box_reached ss rs (omega arith) proper.1 in
    (here.0 ∷ rest.0, (here.1, rest.1), omega (arith, ints, here.2, rest.2))

pub least_over_box_lem : LeastOverBox
least_over_box_lem spans costs proper e =
    let found = box_reached spans costs e (recursion_from_All (λ s. s.lo ≤ℤ s.hi) spans proper) in
    record {
      point = found.0;
      is_point = record { inside = found.1; meets = All-nil (MeetsRow found.0) };
      reached = found.2;
      least = λ y h. box_least-le spans costs y e h.inside;
    }

-- ---- parts of a split

within_itself : (zone : List Span) → IsSubzone zone zone
within_itself [] = tt
within_itself (s ∷ ss) = (record { above = omega (arith, ints); below = omega (arith, ints) }, within_itself ss)

within_within : (a b c : List Span) → IsSubzone a b → IsSubzone b c → IsSubzone a c
within_within [] [] c h g = g
within_within [] (s ∷ ss) c h g = absurd h
within_within (s ∷ ss) [] c h g = absurd h
within_within (s ∷ ss) (t ∷ ts) [] h g = absurd g
within_within (s ∷ ss) (t ∷ ts) (u ∷ us) h g =
    (record { above = omega (arith, ints, h.0.above, g.0.above); below = omega (arith, ints, h.0.below, g.0.below) }, within_within ss ts us h.1 g.1)

low_shrinks : (zone : List Span) (v : ℕ) (at : ℤ) → IsSoundSplit zone v at → IsProper zone
    → IsProper (low_part zone v at) × IsSubzone (low_part zone v at) zone
low_shrinks zone v at sound proper =
    let part : Span = record { lo = (span_at zone v).lo; hi = at } in (
      All-set (λ (s : Span). s.lo ≤ℤ s.hi) zone v part sound.above proper,
      AllZip-set IsSubspan zone zone (within_itself zone) v part (record { lo = pos 0; hi = pos 0 })
          (record { above = omega (arith, ints); below = omega (arith, ints, sound.below) }),
    )

high_shrinks : (zone : List Span) (v : ℕ) (at : ℤ) → IsSoundSplit zone v at → IsProper zone
    → IsProper (high_part zone v at) × IsSubzone (high_part zone v at) zone
high_shrinks zone v at sound proper =
    let part : Span = record { lo = at +ℤ pos 1; hi = (span_at zone v).hi } in (
      All-set (λ (s : Span). s.lo ≤ℤ s.hi) zone v part (omega (arith, ints, sound.below)) proper,
      AllZip-set IsSubspan zone zone (within_itself zone) v part (record { lo = pos 0; hi = pos 0 })
          (record { above = omega (arith, ints, sound.above); below = omega (arith, ints) }),
    )

leaves_shrink : (t : Tree) (zone : List Span) → HasSoundSplits t zone → IsProper zone
    → All (λ leaf. IsProper leaf.zone × IsSubzone leaf.zone zone) (leaves t zone)
leaves_shrink (shut_leaf proof) zone sound proper =
    All-from_recursion (λ (leaf : Leaf). IsProper leaf.zone × IsSubzone leaf.zone zone) (leaves (shut_leaf proof) zone) ((proper, within_itself zone), tt)
leaves_shrink (open_leaf proof) zone sound proper =
    All-from_recursion (λ (leaf : Leaf). IsProper leaf.zone × IsSubzone leaf.zone zone) (leaves (open_leaf proof) zone) ((proper, within_itself zone), tt)
leaves_shrink (split v at low high) zone sound proper =
    let l = low_shrinks zone v at sound.0 proper in
    let h = high_shrinks zone v at sound.0 proper in
    All-append (λ (leaf : Leaf). IsProper leaf.zone × IsSubzone leaf.zone zone) (leaves low (low_part zone v at)) (leaves high (high_part zone v at))
    (All-weaker (λ (leaf : Leaf). IsProper leaf.zone × IsSubzone leaf.zone (low_part zone v at)) (λ (leaf : Leaf). IsProper leaf.zone × IsSubzone leaf.zone zone)
    (λ leaf g. (g.0, within_within leaf.zone (low_part zone v at) zone g.1 l.1))
    (leaves low (low_part zone v at)) (leaves_shrink low (low_part zone v at) sound.1 l.0))
    (All-weaker (λ (leaf : Leaf). IsProper leaf.zone × IsSubzone leaf.zone (high_part zone v at)) (λ (leaf : Leaf). IsProper leaf.zone × IsSubzone leaf.zone zone)
    (λ leaf g. (g.0, within_within leaf.zone (high_part zone v at) zone g.1 h.1))
    (leaves high (high_part zone v at)) (leaves_shrink high (high_part zone v at) sound.2 h.0))

pub split_shrinks_lem : SplitShrinks
split_shrinks_lem = record { low = low_shrinks; high = high_shrinks; leaves = leaves_shrink }
