-- How large the sums of a bound can be: below the limit of prices together.
use Rattle.std.proofs.Common.{◌≡◌, ℕ, zero, suc, ◌+◌, ◌*◌, ◌^◌, ◌<◌, ◌≤◌, Bool, true, false, not, if◌then◌else◌, List, [], ◌∷◌, ◌++◌, map, filter, drop, length, get_or, sum_by, Option, Some, None, All, refl, sym, ap, subst, ◌∙◌, ⊎_elim, arith, inl, inr, length-append}
use Rattle.std.proofs.Math.IntN.{ℤ, pos, negsuc, ◌+ℤ◌, ◌-ℤ◌, ◌*ℤ◌}
use Rattle.std.specs.Prelude.{◌==◌, unsigned_abs, max, ◌≤ℤ◌, IsSome, option_map}
use Rattle.std.specs.List.{range_with_len, zip, flat_map, enumerate_from, AllByRecursion}
use Rattle.std.specs.List.Sorted.{IsStrictlyIncreasing}
use Rattle.std.specs.Ordering.{int_eq}
use Rattle.std.proofs.Math.Nat.{mul-le-mul_left}
use Rattle.std.proofs.lemmas.Bool.{cases_lt}
use Rattle.std.proofs.lemmas.Bool.Decides.{eqb_tells}
use Rattle.std.proofs.lemmas.Int.{ints, unsigned_abs-mul}
use Rattle.std.proofs.lemmas.List.{length-map, get_or_past}
use Rattle.std.proofs.lemmas.List.Elements.{recursion_from_All, All-from_recursion, All-filter, All-map}
use Rattle.std.proofs.lemmas.List.FromFn.{length-enumerate_from}
use Rattle.std.proofs.lemmas.List.Sums.{sum_by-cons, sum_by-le, get_or-le-sum_by, length-filter, count_by-le-length}
use Rattle.bp_theory.specs.Limits.{most_lines, price_limit}
use Rattle.bp_theory.specs.Sums.{sum_of, sum_at}
use Rattle.bp_theory.specs.Program.{Program, coefficient, span_at, reach, KeepsActivity}
use Rattle.bp_theory.specs.Blocking.{Copy, Block, Blocking, all_copies, coef_in, row_at, sides_of}
use Rattle.bp_theory.specs.Decomposition.{Decomposition, is_in, is_first, members, ProofRow, whole_row, link_row, no_row, proof_row, links_of, proof_rows, full_row, at_first, copy_coefficient, copy_of, blocking_of, HasLargeLinks, link_count, HasVariablesBelow}
use Rattle.bp_theory.specs.Cuts.{cut_row, cut_rows}
use Rattle.bp_theory.specs.Bound.{reduced_cost, side, side_at, Fits}
use Rattle.bp_theory.specs.Trees.{IsZone, IsSubspan}
use Rattle.bp_theory.specs.declared.Limits.TheVariants.{Large}
use Rattle.bp_theory.specs.declared.Span.{Span}
use Rattle.bp_theory.specs.declared.Term.{Term}
use Rattle.bp_theory.specs.declared.Row.{Row}
use Rattle.bp_theory.specs.declared.MasterRow.{MasterRow}
use Rattle.bp_theory.specs.declared.Cut.{Cut}
use Rattle.bp_theory.specs.declared.Sense.TheVariants.{Eq}
use Rattle.bp_theory.specs.declared.Proof.{Proof}
use Rattle.bp_theory.proofs.LimitLaws.{few_lines}
use Rattle.bp_theory.proofs.SumLaws.{sum_of-same, sum_of-within, sum_of-le, sum_of-add}
use Rattle.bp_theory.proofs.ZipLaws.{AllZip_at, AllZip-length}
use Rattle.bp_theory.proofs.KeyLaws.{if_same, if_other}
use Rattle.bp_theory.proofs.DecompositionProof.{get_or-map_past, first_takes, copies_at, copies_past, coefficient_past, coef_in-copy_of, kept_at, all_blocks, below_range, decomposition_lem}
use Rattle.bp_theory.proofs.CutProof.{cuts_are_met_lem}
use Rattle.bp_theory.proofs.CopyProof.{copies_of_each_lem}
use Rattle.bp_model.specs.Named.{cost_limit}
use Rattle.block_program.specs.Blocked.{BlockedProgram, IsFormed}
use Rattle.reduced_costs.specs.Sizes.{IsSmallCopy, IsSmallProof, IsSmallBlock, block_size, base_size, bound_size}
use Rattle.reduced_costs.proofs.MultLemmas.{key, rows_of}
use Rattle.reduced_costs.proofs.Sums.{sum_by-same, sum_by-smaller, sum_by-joined, sum_by-mul, sum_by-flat_map, copies_within, copies_below, cost_size-maps}

-- ---- which rows proofs may name

none_pass : (q : ℕ → Bool) (a n : ℕ) → ((k : ℕ) → a ≤ k → k < a + n → q k ≡ true → ⊥) → filter q (range_with_len a n) ≡ []
none_pass q a zero h = refl
none_pass q a (suc n) h = by (q a) refl (none_pass q (a + 1) n (λ k low high. h k (omega (arith, low)) (omega (arith, high))))
  where
    by : (b : Bool) → q a ≡ b → filter q (range_with_len (a + 1) n) ≡ []
        → (if b then a ∷ filter q (range_with_len (a + 1) n) else filter q (range_with_len (a + 1) n)) ≡ []
    by true here rest = absurd (h a (omega arith) (omega arith) here)
    by false here rest = rest

-- where no two pass, none is behind the first
one_passes : (q : ℕ → Bool) (a n : ℕ) → ((j k : ℕ) → j < k → k < a + n → q j ≡ true → q k ≡ true → ⊥) → drop 1 (filter q (range_with_len a n)) ≡ []
one_passes q a zero h = refl
one_passes q a (suc n) h = by (q a) refl (one_passes q (a + 1) n (λ j k less high. h j k less (omega (arith, high))))
  where
    by : (b : Bool) → q a ≡ b → drop 1 (filter q (range_with_len (a + 1) n)) ≡ []
        → drop 1 (if b then a ∷ filter q (range_with_len (a + 1) n) else filter q (range_with_len (a + 1) n)) ≡ []
    by true here rest = none_pass q (a + 1) n (λ k low high. h a k (omega (arith, low)) (omega (arith, high)) here)
    by false here rest = rest

-- what each row of proofs keeps: a row of the program and a cut keep their limit, and the difference of two copies does so too
abbrev pub IsLimited : Program → ProofRow → Type 0
IsLimited p (whole_row row) = KeepsActivity p row × AllByRecursion (λ (t : Term). t.var < length p.spans) row.terms
IsLimited p (link_row v k) = (v < length p.spans) × (2 * reach (span_at p.spans v) < 2 ^ 62)
IsLimited p no_row = Unit {0}

limited_own : (p : Program) (rows : List Row) (places : List (Option ℕ))
    → AllByRecursion (KeepsActivity p) rows → AllByRecursion (λ row. HasVariablesBelow (length p.spans) row.terms) rows
    → AllByRecursion (IsLimited p) (map (λ (e : Row × Option ℕ). proof_row e.0 e.1) (zip rows places))
limited_own p [] places h g = tt
limited_own p (row ∷ rows) [] h g = tt
limited_own p (row ∷ rows) (None ∷ places) h g =
    ((h.0, recursion_from_All (λ (t : Term). t.var < length p.spans) row.terms g.0), limited_own p rows places h.1 g.1)
limited_own p (row ∷ rows) (Some k ∷ places) h g = (tt, limited_own p rows places h.1 g.1)

few_own : (rows : List Row) (places : List (Option ℕ)) → length (map (λ (e : Row × Option ℕ). proof_row e.0 e.1) (zip rows places)) ≤ length rows
few_own [] places = omega arith
few_own (row ∷ rows) [] = omega arith
few_own (row ∷ rows) (place ∷ places) = omega (arith, few_own rows places)

limited_cuts : (p : Program) (cuts : List Row) → AllByRecursion (KeepsActivity p) cuts
    → AllByRecursion (λ row. HasVariablesBelow (length p.spans) row.terms) cuts → AllByRecursion (IsLimited p) (map whole_row cuts)
limited_cuts p [] h g = tt
limited_cuts p (cut ∷ cuts) h g =
    ((h.0, recursion_from_All (λ (t : Term). t.var < length p.spans) cut.terms g.0), limited_cuts p cuts h.1 g.1)

-- a variable of large reach has one copy, and so no link rows
limited_links_of : (p : Program) (d : Decomposition) (v : ℕ) → (HasLargeLinks p d → ⊥) → v < length p.spans → AllByRecursion (IsLimited p) (links_of p d v)
limited_links_of p d v moderate there = ⊎_elim
    (λ small. each small (drop 1 (filter (is_in p d v) (range_with_len 0 d.blocks))))
    (λ large. subst (λ ks. AllByRecursion (IsLimited p) (map (link_row v) ks))
    (sym (one_passes (is_in p d v) 0 d.blocks (λ j k less high jin kin.
    moderate (inr (v, there, record { first = j; later = k; apart = less; there = omega (arith, high); in_first = jin; in_later = kin }, large)))))
    tt)
    (cases_lt (2 * reach (span_at p.spans v)) (2 ^ 62))
  where
    each : 2 * reach (span_at p.spans v) < 2 ^ 62 → (ks : List ℕ) → AllByRecursion (IsLimited p) (map (link_row v) ks)
    each small [] = tt
    each small (k ∷ ks) = ((there, small), each small ks)

append_all : {X : Type 0} (P : X → Type 0) (xs ys : List X) → AllByRecursion P xs → AllByRecursion P ys → AllByRecursion P (xs ++ ys)
append_all P [] ys h g = g
append_all P (x ∷ xs) ys h g = (h.0, append_all P xs ys h.1 g)

limited_links : (p : Program) (d : Decomposition) → (HasLargeLinks p d → ⊥) → (vs : List ℕ) → AllByRecursion (λ v. v < length p.spans) vs
    → AllByRecursion (IsLimited p) (flat_map (links_of p d) vs)
limited_links p d moderate [] h = tt
limited_links p d moderate (v ∷ vs) h =
    append_all (IsLimited p) (links_of p d v) (flat_map (links_of p d) vs) (limited_links_of p d v moderate h.0) (limited_links p d moderate vs h.1)

-- the rows of the program's cuts
abbrev cuts_of : BlockedProgram → List Row
cuts_of b = cut_rows b.named.program b.dec [] b.cuts

cuts_closed : (b : BlockedProgram) → All (λ row. HasVariablesBelow (length b.named.program.spans) row.terms) (cuts_of b)
cuts_closed b = cuts_are_met_lem.closed b.named.program b.dec b.cuts

limited : (b : BlockedProgram) → IsFormed b → AllByRecursion (IsLimited b.named.program) (proof_rows b.named.program b.dec (cuts_of b))
limited b formed =
    let p : Program = b.named.program in
    let own : List ProofRow = map (λ (e : Row × Option ℕ). proof_row e.0 e.1) (zip p.rows b.dec.places) in
    let links : List ProofRow = flat_map (links_of p b.dec) (range_with_len 0 (length p.spans)) in
    append_all (IsLimited p) (own ++ links) (map whole_row (cuts_of b))
    (append_all (IsLimited p) own links
    (limited_own p p.rows b.dec.places (recursion_from_All (KeepsActivity p) p.rows formed.kept.row_activity)
    (recursion_from_All (λ row. HasVariablesBelow (length p.spans) row.terms) p.rows formed.kept.closed.rows))
    (limited_links p b.dec formed.moderate (range_with_len 0 (length p.spans)) (below_range (length p.spans) 0 (length p.spans) (omega arith))))
    (limited_cuts p (cuts_of b) (recursion_from_All (KeepsActivity p) (cuts_of b) formed.cuts_kept.bounded)
    (recursion_from_All (λ row. HasVariablesBelow (length p.spans) row.terms) (cuts_of b) (cuts_closed b)))

few_links : (p : Program) (d : Decomposition) → (HasLargeLinks p d → ⊥) → length p.rows + link_count p d ≤ most_lines Large
few_links p d moderate = ⊎_elim (λ large. absurd (moderate (inl large))) (λ few. omega (arith, few, few_lines p.limits)) (cases_lt (most_lines p.limits) (length p.rows + link_count p d))

as_many_cuts : (p : Program) (d : Decomposition) (earlier : List Row) (cuts : List Cut) → length (cut_rows p d earlier cuts) ≡ length earlier + length cuts
as_many_cuts p d earlier [] = omega arith
as_many_cuts p d earlier (cut ∷ cuts) =
    let row : Row = cut_row p (proof_rows p d earlier) cut in
    omega (arith, as_many_cuts p d (earlier ++ row ∷ []) cuts, length-append earlier (row ∷ []))

few_rows : (b : BlockedProgram) → IsFormed b → length (proof_rows b.named.program b.dec (cuts_of b)) ≤ 1048832
few_rows b formed =
    let p : Program = b.named.program in
    let own : List ProofRow = map (λ (e : Row × Option ℕ). proof_row e.0 e.1) (zip p.rows b.dec.places) in
    let links : List ProofRow = flat_map (links_of p b.dec) (range_with_len 0 (length p.spans)) in
    omega (
      arith,
      length-append (own ++ links) (map whole_row (cuts_of b)),
      length-append own links,
      length-map (cuts_of b) whole_row,
      few_own p.rows b.dec.places,
      few_links p b.dec formed.moderate,
      as_many_cuts p b.dec [] b.cuts,
      formed.cuts_kept.few,
    )

-- ---- copies

least_reach : (s : Span) → 1 ≤ reach s
least_reach s = omega arith

-- a coefficient is no more than its terms weigh
coefficient_small : (spans : List Span) (terms : List Term) (v : ℕ)
    → unsigned_abs (coefficient terms v) ≤ sum_by (λ t. unsigned_abs t.coef * reach (span_at spans t.var)) terms
coefficient_small spans [] v = omega arith
coefficient_small spans (t ∷ ts) v =
    let own : unsigned_abs t.coef * 1 ≤ unsigned_abs t.coef * reach (span_at spans t.var) = mul-le-mul_left (unsigned_abs t.coef) (least_reach (span_at spans t.var)) in
    let all = sum_by-cons (λ (u : Term). unsigned_abs u.coef * reach (span_at spans u.var)) t ts in
    ⊎_elim
    (λ same. omega (arith, ints, if_same t.var v t.coef (pos 0) same.1, own, all, coefficient_small spans ts v))
    (λ other. omega (arith, ints, if_other t.var v t.coef (pos 0) other.1, all, coefficient_small spans ts v))
    (eqb_tells t.var v)

first_small : (first : Bool) (z : ℤ) → unsigned_abs z < 2 ^ 62 → unsigned_abs (at_first first z) < 2 ^ 62
first_small true z h = h
first_small false z h = omega arith

coefficients_small : (p : Program) (first : Bool) (v k : ℕ) (rows : List ProofRow) → AllByRecursion (IsLimited p) rows
    → AllByRecursion (λ z. unsigned_abs z < 2 ^ 62) (map (copy_coefficient first v k) rows)
coefficients_small p first v k [] h = tt
coefficients_small p first v k (whole_row row ∷ rows) h = (
  first_small first (coefficient row.terms v) (omega (arith, coefficient_small p.spans row.terms v, h.0.0)),
  coefficients_small p first v k rows h.1,
)
coefficients_small p first v k (link_row w j ∷ rows) h = (link_small (w == v) first (k == j), coefficients_small p first v k rows h.1)
  where
    link_small : (s f t : Bool) → unsigned_abs (if s then at_first f (pos 1) -ℤ (if t then pos 1 else pos 0) else pos 0) < 2 ^ 62
    link_small true true true = omega (arith, ints)
    link_small true true false = omega (arith, ints)
    link_small true false true = omega (arith, ints)
    link_small true false false = omega (arith, ints)
    link_small false f t = omega (arith, ints)
coefficients_small p first v k (no_row ∷ rows) h = (omega arith, coefficients_small p first v k rows h.1)

entries : (P : ℤ → Type 0) (a : ℕ) (zs : List ℤ) → AllByRecursion P zs → AllByRecursion (λ (e : ℕ × ℤ). P e.1) (enumerate_from a zs)
entries P a [] h = tt
entries P a (z ∷ zs) h = (h.0, entries P (a + 1) zs h.1)

copy_small : (p : Program) (rows : List ProofRow) (first : Bool) (v k : ℕ) → cost_limit p < 2 ^ 62 → AllByRecursion (IsLimited p) rows
    → length rows ≤ 1048832 → IsSmallCopy (copy_of p rows first v k)
copy_small p rows first v k cost rows_limited few =
    let zs : List ℤ = map (copy_coefficient first v k) rows in
    record {
      cost = first_small first (coefficient p.costs v) (omega (arith, coefficient_small p.spans p.costs v, cost));
      few = omega (
        arith,
        length-filter (λ (e : ℕ × ℤ). not (int_eq e.1 (pos 0))) (enumerate_from 0 zs),
        count_by-le-length (λ (e : ℕ × ℤ). not (int_eq e.1 (pos 0))) (enumerate_from 0 zs),
        length-enumerate_from 0 zs,
        length-map rows (copy_coefficient first v k),
        few,
      );
      coefs = All-filter (λ (e : ℕ × ℤ). not (int_eq e.1 (pos 0))) (λ (e : ℕ × ℤ). unsigned_abs e.1 < 2 ^ 62) (enumerate_from 0 zs)
          (All-from_recursion (λ (e : ℕ × ℤ). unsigned_abs e.1 < 2 ^ 62) (enumerate_from 0 zs)
          (entries (λ z. unsigned_abs z < 2 ^ 62) 0 zs (coefficients_small p first v k rows rows_limited)));
    }

-- all copies of a program in blocks are small
pub copies_small : (b : BlockedProgram) → IsFormed b → All (λ (k : Block). All IsSmallCopy k.copies) b.blocking.blocks
copies_small b formed =
    let p : Program = b.named.program in
    let d : Decomposition = b.dec in
    let rows : List ProofRow = proof_rows p d (cuts_of b) in
    let one : (first : Bool) (v k : ℕ) → IsSmallCopy (copy_of p rows first v k) =
    λ first v k. copy_small p rows first v k formed.kept.cost_activity (limited b formed) (few_rows b formed) in
    subst (λ (bs : Blocking). All (λ (k : Block). All IsSmallCopy k.copies) bs.blocks) (sym formed.blocking)
    (all_blocks p d rows (λ (k : Block). All IsSmallCopy k.copies)
    (λ k. All-map IsSmallCopy (λ v. copy_of p rows (is_first p d v k) v k) (members p d k) (λ i v l. one (is_first p d (get_or (members p d k) i v) k) (get_or (members p d k) i v) k))
    (λ v l. All-from_recursion IsSmallCopy (copy_of p rows true v d.blocks ∷ []) (one true v d.blocks, tt)))

-- ---- what all copies weigh

abs_first : (t : Bool) (z : ℤ) → pos (unsigned_abs (at_first t z)) ≡ (if t then pos (unsigned_abs z) else pos 0)
abs_first true z = refl
abs_first false z = refl

copies_of : Program → Decomposition → List Row → List Copy
copies_of p d cuts = all_copies (blocking_of p d cuts)

weights : (p : Program) (d : Decomposition) (cuts : List Row) (w : Copy → ℤ) (terms : List Term) → AllByRecursion (λ (t : Term). t.var < length p.spans) terms
    → ((first : Bool) (v k : ℕ) → w (copy_of p (proof_rows p d cuts) first v k) ≡ at_first first (coefficient terms v))
    → (v : ℕ) → sum_at (λ (c : Copy). c.var) (λ c. pos (unsigned_abs (w c))) (copies_of p d cuts) v ≡ pos (unsigned_abs (coefficient terms v))
unfolding copies_of
weights p d cuts w terms closed e v = ⊎_elim there past (cases_lt v (length p.spans))
  where
    rows : List ProofRow
    rows = proof_rows p d cuts

    g : ℤ
    g = coefficient terms v

    f : Copy → ℤ
    f c = pos (unsigned_abs (w c))

    weight : (first : Bool) (k : ℕ) → pos (unsigned_abs (w (copy_of p (proof_rows p d cuts) first v k))) ≡ (if first then pos (unsigned_abs (coefficient terms v)) else pos 0)
    weight first k = ap (λ z. pos (unsigned_abs z)) (e first v k) ∙ abs_first first (coefficient terms v)

    there : v < length p.spans → sum_at (λ (c : Copy). c.var) (λ c. pos (unsigned_abs (w c))) (all_copies (blocking_of p d cuts)) v ≡ pos (unsigned_abs (coefficient terms v))
    there l =
        copies_at p d (proof_rows p d cuts) (λ c. pos (unsigned_abs (w c))) v l
        ∙ ap (λ z. z +ℤ (if is_first p d v d.blocks then pos (unsigned_abs (w (copy_of p (proof_rows p d cuts) true v d.blocks))) else pos 0))
        (sum_of-same
        (λ k. if is_in p d v k then pos (unsigned_abs (w (copy_of p (proof_rows p d cuts) (is_first p d v k) v k))) else pos 0)
        (λ k. if is_in p d v k then (if is_first p d v k then pos (unsigned_abs (coefficient terms v)) else pos 0) else pos 0)
        (λ k. ap (λ z. if is_in p d v k then z else pos 0) (weight (is_first p d v k) k))
        (range_with_len 0 d.blocks))
        ∙ ap (λ z. sum_of (λ k. if is_in p d v k then (if is_first p d v k then pos (unsigned_abs (coefficient terms v)) else pos 0) else pos 0) (range_with_len 0 d.blocks)
        +ℤ (if is_first p d v d.blocks then z else pos 0)) (weight true d.blocks)
        ∙ first_takes (is_in p d v) (pos (unsigned_abs (coefficient terms v))) d.blocks

    past : length p.spans ≤ v → sum_at (λ (c : Copy). c.var) (λ c. pos (unsigned_abs (w c))) (all_copies (blocking_of p d cuts)) v ≡ pos (unsigned_abs (coefficient terms v))
    past l =
        copies_past p d (proof_rows p d cuts) (λ c. pos (unsigned_abs (w c))) v l
        ∙ sym (ap (λ z. pos (unsigned_abs z)) (coefficient_past (length p.spans) v terms closed l))

-- what holds of the copies of each block holds of all copies
all_of_blocks : (P : Copy → Type 0) (bs : List Block) → AllByRecursion (λ (k : Block). All P k.copies) bs → AllByRecursion P (flat_map (λ (k : Block). k.copies) bs)
all_of_blocks P [] h = tt
all_of_blocks P (k ∷ ks) h = joined k.copies (recursion_from_All P k.copies h.0) (all_of_blocks P ks h.1)
  where
    joined : (cs : List Copy) → AllByRecursion P cs → AllByRecursion P (flat_map (λ (k : Block). k.copies) ks) → AllByRecursion P (cs ++ flat_map (λ (k : Block). k.copies) ks)
    joined [] g rest = rest
    joined (c ∷ cs) g rest = (g.0, joined cs g.1 rest)

known : (b : BlockedProgram) → IsFormed b → All (λ (k : Block). All (λ (c : Copy). c.var < length b.named.program.spans) k.copies) (blocking_of b.named.program b.dec (cuts_of b)).blocks
known b formed = (decomposition_lem.adds_up b.named.program b.dec (cuts_of b) formed.kept.closed (cuts_closed b)).known

known_copies : (b : BlockedProgram) → IsFormed b → AllByRecursion (λ (c : Copy). c.var < length b.named.program.spans) (copies_of b.named.program b.dec (cuts_of b))
unfolding copies_of
known_copies b formed =
    let n : ℕ = length b.named.program.spans in
    let bs : List Block = (blocking_of b.named.program b.dec (cuts_of b)).blocks in
    all_of_blocks (λ (c : Copy). c.var < n) bs (recursion_from_All (λ (k : Block). All (λ (c : Copy). c.var < n) k.copies) bs (known b formed))

-- what all copies weigh in the costs, and in a row
costs_weigh : (b : BlockedProgram) → IsFormed b
    → sum_by (λ (c : Copy). unsigned_abs c.cost * reach (span_at b.named.program.spans c.var)) (copies_of b.named.program b.dec (cuts_of b))
    ≤ sum_by (λ (t : Term). unsigned_abs t.coef * reach (span_at b.named.program.spans t.var)) b.named.program.costs
costs_weigh b formed =
    let p : Program = b.named.program in
    let closed = recursion_from_All (λ (t : Term). t.var < length p.spans) p.costs formed.kept.closed.costs in
    copies_within (λ (c : Copy). unsigned_abs c.cost) (λ v. reach (span_at p.spans v)) (length p.spans) (copies_of p b.dec (cuts_of b)) p.costs
    (known_copies b formed) closed (weights p b.dec (cuts_of b) (λ (c : Copy). c.cost) p.costs closed (λ first v k. refl))

row_weighs : (b : BlockedProgram) (i : ℕ) (row : Row) → IsFormed b → get_or (proof_rows b.named.program b.dec (cuts_of b)) i no_row ≡ whole_row row
    → AllByRecursion (λ (t : Term). t.var < length b.named.program.spans) row.terms
    → sum_by (λ (c : Copy). unsigned_abs (coef_in c i) * reach (span_at b.named.program.spans c.var)) (copies_of b.named.program b.dec (cuts_of b))
    ≤ sum_by (λ (t : Term). unsigned_abs t.coef * reach (span_at b.named.program.spans t.var)) row.terms
row_weighs b i row formed e closed =
    let p : Program = b.named.program in
    copies_within (λ (c : Copy). unsigned_abs (coef_in c i)) (λ v. reach (span_at p.spans v)) (length p.spans) (copies_of p b.dec (cuts_of b)) row.terms
    (known_copies b formed) closed
    (weights p b.dec (cuts_of b) (λ (c : Copy). coef_in c i) row.terms closed
    (λ first v k. coef_in-copy_of p (proof_rows p b.dec (cuts_of b)) first v k i ∙ ap (copy_coefficient first v k) e))

-- what the copy in a link's block weighs: it is one of the blocks, or none
none_linked : (q : ℕ → Bool) (j : ℕ) (g : ℤ) (a n : ℕ) → a + n ≤ j → sum_of (λ k. if q k then (if k == j then g else pos 0) else pos 0) (range_with_len a n) ≡ pos 0
none_linked q j g a zero l = refl
none_linked q j g a (suc n) l =
    omega (arith, ints, left_out (q a) (if_other a j g (pos 0) (λ e. omega (arith, l, e))), none_linked q j g (a + 1) n (omega (arith, l)))
  where
    left_out : (t : Bool) → (if a == j then g else pos 0) ≡ pos 0 → (if t then (if a == j then g else pos 0) else pos 0) ≡ pos 0
    left_out true e = e
    left_out false e = refl

past_link : (q : ℕ → Bool) (j : ℕ) (g : ℤ) (a n : ℕ) → j < a → sum_of (λ k. if q k then (if k == j then g else pos 0) else pos 0) (range_with_len a n) ≡ pos 0
past_link q j g a zero l = refl
past_link q j g a (suc n) l =
    omega (arith, ints, left_out (q a) (if_other a j g (pos 0) (λ e. omega (arith, l, e))), past_link q j g (a + 1) n (omega (arith, l)))
  where
    left_out : (t : Bool) → (if a == j then g else pos 0) ≡ pos 0 → (if t then (if a == j then g else pos 0) else pos 0) ≡ pos 0
    left_out true e = e
    left_out false e = refl

one_linked : (q : ℕ → Bool) (j : ℕ) (g : ℤ) (a n : ℕ) → pos 0 ≤ℤ g → sum_of (λ k. if q k then (if k == j then g else pos 0) else pos 0) (range_with_len a n) ≤ℤ g
one_linked q j g a zero h = h
one_linked q j g a (suc n) h = ⊎_elim
    (λ same. omega (arith, ints, h, within (q a) (if_same a j g (pos 0) same.1), past_link q j g (a + 1) n (omega (arith, same.1))))
    (λ other. omega (arith, ints, left_out (q a) (if_other a j g (pos 0) other.1), one_linked q j g (a + 1) n h))
    (eqb_tells a j)
  where
    within : (t : Bool) → (if a == j then g else pos 0) ≡ g → (if t then (if a == j then g else pos 0) else pos 0) ≤ℤ g
    within true e = omega (arith, ints, e)
    within false e = h

    left_out : (t : Bool) → (if a == j then g else pos 0) ≡ pos 0 → (if t then (if a == j then g else pos 0) else pos 0) ≡ pos 0
    left_out true e = e
    left_out false e = refl

-- with a last one behind the blocks
linked_with_last : (q : ℕ → Bool) (t : Bool) (j : ℕ) (g : ℤ) (n : ℕ) → pos 0 ≤ℤ g
    → (sum_of (λ k. if q k then (if k == j then g else pos 0) else pos 0) (range_with_len 0 n) +ℤ (if t then (if n == j then g else pos 0) else pos 0)) ≤ℤ g
linked_with_last q t j g n h = ⊎_elim
    (λ same. omega (arith, ints, none_linked q j g 0 n (omega (arith, same.1)), within t (if_same n j g (pos 0) same.1)))
    (λ other. omega (arith, ints, one_linked q j g 0 n h, left_out t (if_other n j g (pos 0) other.1)))
    (eqb_tells n j)
  where
    within : (t : Bool) → (if n == j then g else pos 0) ≡ g → (if t then (if n == j then g else pos 0) else pos 0) ≤ℤ g
    within true e = omega (arith, ints, e)
    within false e = h

    left_out : (t : Bool) → (if n == j then g else pos 0) ≡ pos 0 → (if t then (if n == j then g else pos 0) else pos 0) ≡ pos 0
    left_out true e = e
    left_out false e = refl

-- the copies of a variable in a link row: the first copy, and the one in the link's block
link_weights : (b : BlockedProgram) (i w j v : ℕ) → get_or (proof_rows b.named.program b.dec (cuts_of b)) i no_row ≡ link_row w j
    → sum_at (λ (c : Copy). c.var) (λ c. pos (unsigned_abs (coef_in c i))) (copies_of b.named.program b.dec (cuts_of b)) v
    ≤ℤ sum_at (λ (t : Term). t.var) (λ t. pos (unsigned_abs t.coef)) (record { var = w; coef = pos 2 } ∷ []) v
unfolding copies_of
link_weights b i w j v e = ⊎_elim there past (cases_lt v (length p.spans))
  where
    p : Program
    p = b.named.program

    d : Decomposition
    d = b.dec

    rows : List ProofRow
    rows = proof_rows b.named.program b.dec (cuts_of b)

    g : ℤ
    g = if w == v then pos 1 else pos 0

    nonneg : (s : Bool) → pos 0 ≤ℤ (if s then pos 1 else pos 0)
    nonneg true = omega (arith, ints)
    nonneg false = omega (arith, ints)

    twice : (s : Bool) → ((if s then pos 1 else pos 0) +ℤ (if s then pos 1 else pos 0)) ≡ (if s then pos 2 else pos 0) +ℤ pos 0
    twice true = omega (arith, ints)
    twice false = omega (arith, ints)

    parts : (s f t : Bool) → pos (unsigned_abs (if s then at_first f (pos 1) -ℤ (if t then pos 1 else pos 0) else pos 0))
        ≤ℤ ((if f then (if s then pos 1 else pos 0) else pos 0) +ℤ (if t then (if s then pos 1 else pos 0) else pos 0))
    parts true true true = omega (arith, ints)
    parts true true false = omega (arith, ints)
    parts true false true = omega (arith, ints)
    parts true false false = omega (arith, ints)
    parts false true true = omega (arith, ints)
    parts false true false = omega (arith, ints)
    parts false false true = omega (arith, ints)
    parts false false false = omega (arith, ints)

    weight : Bool → ℕ → ℤ
    weight f k = pos (unsigned_abs (coef_in (copy_of p rows f v k) i))

    one : (f : Bool) (k : ℕ) → weight f k ≤ℤ ((if f then g else pos 0) +ℤ (if k == j then g else pos 0))
    one f k =
        subst (λ z. pos (unsigned_abs z) ≤ℤ ((if f then g else pos 0) +ℤ (if k == j then g else pos 0)))
        (sym (coef_in-copy_of p rows f v k i ∙ ap (copy_coefficient f v k) e)) (parts (w == v) f (k == j))

    if_both : (t : Bool) (x y z : ℤ) → x ≤ℤ (y +ℤ z) → (if t then x else pos 0) ≤ℤ ((if t then y else pos 0) +ℤ (if t then z else pos 0))
    if_both true x y z h = h
    if_both false x y z h = omega (arith, ints)

    every : (P : ℕ → Type 0) → ((k : ℕ) → P k) → (ks : List ℕ) → AllByRecursion P ks
    every P h [] = tt
    every P h (k ∷ ks) = (h k, every P h ks)

    first_part : ℕ → ℤ
    first_part k = if is_in p d v k then (if is_first p d v k then g else pos 0) else pos 0

    link_part : ℕ → ℤ
    link_part k = if is_in p d v k then (if k == j then g else pos 0) else pos 0

    there : v < length p.spans → sum_at (λ (c : Copy). c.var) (λ c. pos (unsigned_abs (coef_in c i))) (all_copies (blocking_of p d (cuts_of b))) v
        ≤ℤ sum_at (λ (t : Term). t.var) (λ t. pos (unsigned_abs t.coef)) (record { var = w; coef = pos 2 } ∷ []) v
    there l =
        let blocks : List ℕ = range_with_len 0 d.blocks in
        let each = sum_of-le (λ k. if is_in p d v k then weight (is_first p d v k) k else pos 0) (λ k. first_part k +ℤ link_part k) blocks
        (every (λ k. (if is_in p d v k then weight (is_first p d v k) k else pos 0) ≤ℤ (first_part k +ℤ link_part k))
        (λ k. if_both (is_in p d v k) (weight (is_first p d v k) k) (if is_first p d v k then g else pos 0) (if k == j then g else pos 0) (one (is_first p d v k) k)) blocks) in
        let last = if_both (is_first p d v d.blocks) (weight true d.blocks) g (if d.blocks == j then g else pos 0) (one true d.blocks) in
        omega (
          arith,
          ints,
          copies_at p d rows (λ c. pos (unsigned_abs (coef_in c i))) v l,
          each,
          last,
          sum_of-add first_part link_part blocks,
          first_takes (is_in p d v) g d.blocks,
          linked_with_last (is_in p d v) (is_first p d v d.blocks) j g d.blocks (nonneg (w == v)),
          twice (w == v),
        )

    past : length p.spans ≤ v → sum_at (λ (c : Copy). c.var) (λ c. pos (unsigned_abs (coef_in c i))) (all_copies (blocking_of p d (cuts_of b))) v
        ≤ℤ sum_at (λ (t : Term). t.var) (λ t. pos (unsigned_abs t.coef)) (record { var = w; coef = pos 2 } ∷ []) v
    past l = omega (arith, ints, copies_past p d rows (λ c. pos (unsigned_abs (coef_in c i))) v l, twice (w == v), nonneg (w == v))

link_weighs : (b : BlockedProgram) (i w j : ℕ) → IsFormed b → get_or (proof_rows b.named.program b.dec (cuts_of b)) i no_row ≡ link_row w j
    → w < length b.named.program.spans
    → sum_by (λ (c : Copy). unsigned_abs (coef_in c i) * reach (span_at b.named.program.spans c.var)) (copies_of b.named.program b.dec (cuts_of b))
    ≤ 2 * reach (span_at b.named.program.spans w)
link_weighs b i w j formed e there =
    let p : Program = b.named.program in
    let t : Term = record { var = w; coef = pos 2 } in
    let within = copies_below (λ (c : Copy). unsigned_abs (coef_in c i)) (λ v. reach (span_at p.spans v)) (length p.spans) (copies_of p b.dec (cuts_of b)) (t ∷ [])
    (known_copies b formed) (there, tt) (λ v. link_weights b i w j v e) in
    omega (arith, within, sum_by-cons (λ (t : Term). unsigned_abs t.coef * reach (span_at p.spans t.var)) t [])

-- the row of proofs of a number, and its sides
row_is : (b : BlockedProgram) (i : ℕ) → row_at (blocking_of b.named.program b.dec (cuts_of b)) i ≡ option_map sides_of (full_row (get_or (proof_rows b.named.program b.dec (cuts_of b)) i no_row))
row_is b i =
    let rows : List ProofRow = proof_rows b.named.program b.dec (cuts_of b) in
    get_or-map_past (option_map sides_of) (map full_row rows) i None ∙ ap (option_map sides_of) (get_or-map_past full_row rows i no_row)

side_within : (row : Row) (m : ℤ) → unsigned_abs (side (sides_of row) m) ≤ max (unsigned_abs row.low) (unsigned_abs row.rhs)
side_within row (pos zero) = omega arith
side_within row (pos (suc n)) = omega arith
side_within row (negsuc n) = omega arith

none_is_some : (o : Option MasterRow) → o ≡ None → IsSome o → ⊥
none_is_some None e h = absurd (cc)
none_is_some (Some r) e h = absurd (cc)

-- a row that proofs may name: its side and all copies in it weigh less than 2 to the 62
named_weighs : (b : BlockedProgram) (i : ℕ) (m : ℤ) → IsFormed b → IsSome (row_at (blocking_of b.named.program b.dec (cuts_of b)) i)
    → unsigned_abs (side_at (row_at (blocking_of b.named.program b.dec (cuts_of b)) i) m)
    + sum_by (λ (c : Copy). unsigned_abs (coef_in c i) * reach (span_at b.named.program.spans c.var)) (copies_of b.named.program b.dec (cuts_of b)) < 2 ^ 62
named_weighs b i m formed some =
    by (get_or (proof_rows b.named.program b.dec (cuts_of b)) i no_row) refl
    (kept_at (IsLimited b.named.program) (proof_rows b.named.program b.dec (cuts_of b)) no_row (limited b formed) tt i)
  where
    by : (row : ProofRow) → get_or (proof_rows b.named.program b.dec (cuts_of b)) i no_row ≡ row → IsLimited b.named.program row
        → unsigned_abs (side_at (row_at (blocking_of b.named.program b.dec (cuts_of b)) i) m)
        + sum_by (λ (c : Copy). unsigned_abs (coef_in c i) * reach (span_at b.named.program.spans c.var)) (copies_of b.named.program b.dec (cuts_of b)) < 2 ^ 62
    by (whole_row row) e kept =
        let at : row_at (blocking_of b.named.program b.dec (cuts_of b)) i ≡ Some (sides_of row) = row_is b i ∙ ap (λ r. option_map sides_of (full_row r)) e in
        let same : unsigned_abs (side_at (row_at (blocking_of b.named.program b.dec (cuts_of b)) i) m) ≡ unsigned_abs (side (sides_of row) m) =
        ap (λ (o : Option MasterRow). unsigned_abs (side_at o m)) at in
        omega (arith, same, side_within row m, row_weighs b i row formed e kept.1, kept.0)
    by (link_row v k) e kept =
        let none : Row = record { sense = Eq; low = pos 0; rhs = pos 0; terms = [] } in
        let at : row_at (blocking_of b.named.program b.dec (cuts_of b)) i ≡ Some (sides_of none) = row_is b i ∙ ap (λ r. option_map sides_of (full_row r)) e in
        let same : unsigned_abs (side_at (row_at (blocking_of b.named.program b.dec (cuts_of b)) i) m) ≡ unsigned_abs (side (sides_of none) m) =
        ap (λ (o : Option MasterRow). unsigned_abs (side_at o m)) at in
        omega (arith, same, side_within none m, link_weighs b i v k formed e kept.0, kept.1)
    by no_row e kept =
        let at : row_at (blocking_of b.named.program b.dec (cuts_of b)) i ≡ None = row_is b i ∙ ap (λ r. option_map sides_of (full_row r)) e in
        absurd (none_is_some (row_at (blocking_of b.named.program b.dec (cuts_of b)) i) at some)

-- ---- the sums of a proof

abbrev size_of : (ℕ → ℕ) → Proof → Copy → ℕ
size_of r proof c = unsigned_abs (reduced_cost proof c) * r c.var

copy_weighs : (r : ℕ → ℕ) (proof : Proof) (c : Copy)
    → unsigned_abs (reduced_cost proof c) * r c.var
    ≤ proof.scale * (unsigned_abs c.cost * r c.var) + sum_by (λ (m : ℕ × ℤ). unsigned_abs m.1 * (unsigned_abs (coef_in c m.0) * r c.var)) proof.mults
copy_weighs r proof c =
    let f : ℕ × ℤ → ℤ = λ m. m.1 *ℤ coef_in c m.0 in
    let inner : unsigned_abs (reduced_cost proof c) ≤ proof.scale * unsigned_abs c.cost + sum_by (λ m. unsigned_abs (f m)) proof.mults =
    split (pos proof.scale *ℤ c.cost) (sum_of f proof.mults) (proof.scale * unsigned_abs c.cost) (sum_by (λ m. unsigned_abs (f m)) proof.mults)
    (unsigned_abs-mul (pos proof.scale) c.cost) (sum_of-within f proof.mults) in
    let times : r c.var * unsigned_abs (reduced_cost proof c) ≤ r c.var * (proof.scale * unsigned_abs c.cost + sum_by (λ m. unsigned_abs (f m)) proof.mults) =
    mul-le-mul_left (r c.var) inner in
    let out = sum_by-mul (λ m. unsigned_abs (f m)) (r c.var) proof.mults in
    let same = sum_by-same (λ (m : ℕ × ℤ). unsigned_abs (f m) * r c.var) (λ m. unsigned_abs m.1 * (unsigned_abs (coef_in c m.0) * r c.var)) proof.mults
    (each (λ (m : ℕ × ℤ). unsigned_abs (f m) * r c.var ≡ unsigned_abs m.1 * (unsigned_abs (coef_in c m.0) * r c.var))
    (λ m. regroup (unsigned_abs (f m)) (unsigned_abs m.1) (unsigned_abs (coef_in c m.0)) (r c.var) (unsigned_abs-mul m.1 (coef_in c m.0))) proof.mults) in
    omega (arith, times, out, same)
  where
    split : (a s : ℤ) (n m : ℕ) → unsigned_abs a ≡ n → unsigned_abs s ≤ m → unsigned_abs (a -ℤ s) ≤ n + m
    split a s n m e h = omega (arith, ints, e, h)

    regroup : (x y z r : ℕ) → x ≡ y * z → x * r ≡ y * (z * r)
    regroup x y z r e = omega (arith, ap (λ n. n * r) e)

    each : {X : Type 0} (P : X → Type 0) → ((x : X) → P x) → (xs : List X) → AllByRecursion P xs
    each P h [] = tt
    each P h (x ∷ xs) = (h x, each P h xs)

copies_weigh : (r : ℕ → ℕ) (proof : Proof) (cs : List Copy)
    → sum_by (λ (c : Copy). unsigned_abs (reduced_cost proof c) * r c.var) cs
    ≤ proof.scale * sum_by (λ (c : Copy). unsigned_abs c.cost * r c.var) cs
    + sum_by (λ (m : ℕ × ℤ). unsigned_abs m.1 * sum_by (λ (c : Copy). unsigned_abs (coef_in c m.0) * r c.var) cs) proof.mults
copies_weigh r proof [] = omega arith
copies_weigh r proof (c ∷ cs) =
    omega (
      arith,
      sum_by-cons (λ (c : Copy). unsigned_abs (reduced_cost proof c) * r c.var) c cs,
      ap (λ n. proof.scale * n) (sum_by-cons (λ (c : Copy). unsigned_abs c.cost * r c.var) c cs),
      copy_weighs r proof c,
      copies_weigh r proof cs,
      sum_by-joined
          (λ (m : ℕ × ℤ). unsigned_abs m.1 * (unsigned_abs (coef_in c m.0) * r c.var))
          (λ m. unsigned_abs m.1 * sum_by (λ (c : Copy). unsigned_abs (coef_in c m.0) * r c.var) cs)
          (λ m. unsigned_abs m.1 * sum_by (λ (c : Copy). unsigned_abs (coef_in c m.0) * r c.var) (c ∷ cs))
          proof.mults
          (λ m. out (unsigned_abs m.1) _ _ _ (sum_by-cons (λ (c : Copy). unsigned_abs (coef_in c m.0) * r c.var) c cs)),
    )
  where
    out : (a s f rest : ℕ) → s ≡ f + rest → a * s ≡ a * f + a * rest
    out a s f rest e = omega (arith, ap (λ n. a * n) e)

-- ---- the limit of all sums

-- numbers that ascend below a number are no more than that
few_below : (xs : List ℕ) (n : ℕ) → IsStrictlyIncreasing xs → ((k : ℕ) → k < length xs → get_or xs k 0 < n) → length xs ≤ n
few_below xs n h below = by (length xs) refl
  where
    at_least : (k : ℕ) → k < length xs → k ≤ get_or xs k 0
    at_least zero l = omega arith
    at_least (suc k) l =
        let before = at_least k (omega arith) in
        let next : k + 1 ≡ suc k = omega arith in
        let step : get_or xs k 0 < get_or xs (k + 1) 0 = h k (omega arith) in
        omega (arith, before, step, ap (λ m. get_or xs m 0) next)

    by : (m : ℕ) → length xs ≡ m → length xs ≤ n
    by zero e = omega (arith, e)
    by (suc m) e =
        let l : m < length xs = omega (arith, e) in
        let first = at_least m l in
        let last = below m l in
        omega (arith, e, first, last)

row_below : (b : BlockedProgram) (i : ℕ) → IsFormed b → IsSome (row_at (blocking_of b.named.program b.dec (cuts_of b)) i) → i < length (proof_rows b.named.program b.dec (cuts_of b))
row_below b i formed some = ⊎_elim
    (λ less. less)
    (λ past. absurd (none_is_some (row_at (blocking_of b.named.program b.dec (cuts_of b)) i)
    (row_is b i ∙ ap (λ r. option_map sides_of (full_row r)) (get_or_past (proof_rows b.named.program b.dec (cuts_of b)) i no_row past)) some))
    (cases_lt i (length (proof_rows b.named.program b.dec (cuts_of b))))

-- a proof that fits is small
pub proof_small : (b : BlockedProgram) (proof : Proof) → IsFormed b → Fits b.blocking proof → IsSmallProof proof
proof_small b proof formed fits =
    let rows = subst (λ (bs : Blocking). All (λ (m : ℕ × ℤ). IsSome (row_at bs m.0)) proof.mults) formed.blocking fits.rows in
    let few = few_below (rows_of proof.mults) (length (proof_rows b.named.program b.dec (cuts_of b))) fits.ascend
    (λ k l. subst (λ i. i < length (proof_rows b.named.program b.dec (cuts_of b))) (sym (get_or-map_past (λ (m : ℕ × ℤ). m.0) proof.mults k (0, pos 0)))
    (row_below b (key proof.mults k) formed (rows k (0, pos 0) (omega (arith, l, length-map proof.mults (λ (m : ℕ × ℤ). m.0)))))) in
    record {
      scale = fits.scale;
      sizes = fits.sizes;
      few = omega (arith, few, few_rows b formed, length-map proof.mults (λ (m : ℕ × ℤ). m.0));
      ascend = fits.ascend;
    }

-- what a proof gives before the blocks, and all copies, weigh together
all_weigh : (b : BlockedProgram) (proof : Proof) → IsFormed b → Fits b.blocking proof
    → base_size (blocking_of b.named.program b.dec (cuts_of b)) proof
    + sum_by (λ (c : Copy). unsigned_abs (reduced_cost proof c) * reach (span_at b.named.program.spans c.var)) (copies_of b.named.program b.dec (cuts_of b)) < price_limit
all_weigh b proof formed fits =
    let p : Program = b.named.program in
    let bs : Blocking = blocking_of p b.dec (cuts_of b) in
    let cs : List Copy = copies_of p b.dec (cuts_of b) in
    let r : ℕ → ℕ = λ v. reach (span_at p.spans v) in
    let small = proof_small b proof formed fits in
    let rows = subst (λ (k : Blocking). All (λ (m : ℕ × ℤ). IsSome (row_at k m.0)) proof.mults) formed.blocking fits.rows in
    let cost : ℕ = sum_by (λ (c : Copy). unsigned_abs c.cost * r c.var) cs in
    let row : ℕ × ℤ → ℕ = λ m. sum_by (λ (c : Copy). unsigned_abs (coef_in c m.0) * r c.var) cs in
    let side_size : ℕ × ℤ → ℕ = λ m. unsigned_abs (side_at (row_at bs m.0) m.1) in
    let sides : sum_by (λ (m : ℕ × ℤ). unsigned_abs (m.1 *ℤ side_at (row_at bs m.0) m.1)) proof.mults ≡ sum_by (λ (m : ℕ × ℤ). unsigned_abs m.1 * side_size m) proof.mults =
    same_sides (λ (m : ℕ × ℤ). unsigned_abs (m.1 *ℤ side_at (row_at bs m.0) m.1)) (λ (m : ℕ × ℤ). unsigned_abs m.1 * side_size m) (λ m. unsigned_abs-mul m.1 (side_at (row_at bs m.0) m.1)) proof.mults in
    let together = sum_by-joined (λ (m : ℕ × ℤ). unsigned_abs m.1 * side_size m) (λ m. unsigned_abs m.1 * row m) (λ m. unsigned_abs m.1 * (side_size m + row m)) proof.mults (λ m. omega arith) in
    let limit : sum_by (λ (m : ℕ × ℤ). unsigned_abs m.1 * (side_size m + row m)) proof.mults ≤ length proof.mults * (2 ^ 40 * 2 ^ 62) =
    sum_by-le (λ (m : ℕ × ℤ). unsigned_abs m.1 * (side_size m + row m)) (2 ^ 40 * 2 ^ 62) proof.mults
    (λ k d l. product_within (unsigned_abs (get_or proof.mults k d).1) (side_size (get_or proof.mults k d) + row (get_or proof.mults k d)) (fits.sizes k d l)
    (named_weighs b (get_or proof.mults k d).0 (get_or proof.mults k d).1 formed (rows k d l))) in
    let first : unsigned_abs (pos proof.scale *ℤ p.constant) ≡ proof.scale * unsigned_abs p.constant = unsigned_abs-mul (pos proof.scale) p.constant in
    let scaled : proof.scale * (unsigned_abs p.constant + cost) ≤ proof.scale * 2 ^ 62 =
    mul-le-mul_left proof.scale (omega (arith, costs_weigh b formed, formed.kept.cost_activity)) in
    omega (arith, copies_weigh r proof cs, sides, together, limit, first, scaled, small.scale, small.few)
  where
    same_sides : {X : Type 0} (f g : X → ℕ) → ((x : X) → f x ≡ g x) → (xs : List X) → sum_by f xs ≡ sum_by g xs
    same_sides f g e [] = refl
    same_sides f g e (x ∷ xs) = omega (arith, sum_by-cons f x xs, sum_by-cons g x xs, e x, same_sides f g e xs)

    product_within : (a b : ℕ) → a ≤ 2 ^ 40 → b < 2 ^ 62 → a * b ≤ 2 ^ 40 * 2 ^ 62
    product_within a b h g =
        let step : a * b ≤ a * 2 ^ 62 = mul-le-mul_left a (omega arith) in
        omega (arith, step, h)

-- ---- zones

-- a zone's spans reach no further than the program's
reach_within : (spans zone : List Span) → IsZone spans zone → (v : ℕ) → reach (span_at zone v) ≤ reach (span_at spans v)
reach_within spans zone h v = ⊎_elim
    (λ there.
    let inside = AllZip_at IsSubspan zone spans h.inside v (record { lo = pos 0; hi = pos 0 }) (record { lo = pos 0; hi = pos 0 }) there in
    let proper = h.proper v (record { lo = pos 0; hi = pos 0 }) there in
    narrower (span_at zone v) (span_at spans v) inside.above inside.below proper)
    (λ past.
    let same = AllZip-length IsSubspan zone spans h.inside in
    omega (
      arith,
      ap (λ (s : Span). reach s) (get_or_past zone v (record { lo = pos 0; hi = pos 0 }) past),
      ap (λ (s : Span). reach s) (get_or_past spans v (record { lo = pos 0; hi = pos 0 }) (omega (arith, past, same))),
    ))
    (cases_lt v (length zone))
  where
    narrower : (s t : Span) → t.lo ≤ℤ s.lo → s.hi ≤ℤ t.hi → s.lo ≤ℤ s.hi → reach s ≤ reach t
    narrower s t low high proper = omega (arith, ints, low, high, proper)

-- the blocks' sizes add up to those of all copies
blocks_weigh : (zone : List Span) (proof : Proof) (bs : List Block)
    → sum_by (block_size zone proof) bs ≡ sum_by (λ (c : Copy). unsigned_abs (reduced_cost proof c) * reach (span_at zone c.var)) (flat_map (λ (k : Block). k.copies) bs)
blocks_weigh zone proof bs =
    sum_by-same (block_size zone proof) (λ (k : Block). sum_by (λ (c : Copy). unsigned_abs (reduced_cost proof c) * reach (span_at zone c.var)) k.copies) bs
    (each bs)
    ∙ sym (sum_by-flat_map (λ (c : Copy). unsigned_abs (reduced_cost proof c) * reach (span_at zone c.var)) (λ (k : Block). k.copies) bs)
  where
    each : (bs : List Block) → AllByRecursion (λ (k : Block). block_size zone proof k ≡ sum_by (λ (c : Copy). unsigned_abs (reduced_cost proof c) * reach (span_at zone c.var)) k.copies) bs
    each [] = tt
    each (k ∷ ks) = (sym (cost_size-maps (λ (c : Copy). span_at zone c.var) (reduced_cost proof) k.copies), each ks)

-- all sums of a bound in a zone are below the limit of prices together
pub bound_small : (b : BlockedProgram) (zone : List Span) (proof : Proof) → IsFormed b → IsZone b.named.program.spans zone → Fits b.blocking proof
    → bound_size b.blocking zone proof < price_limit
unfolding copies_of
bound_small b zone proof formed in_root fits =
    let p : Program = b.named.program in
    let bs : Blocking = blocking_of p b.dec (cuts_of b) in
    let cs : List Copy = all_copies bs in
    let all = all_weigh b proof formed fits in
    let less : sum_by (λ (c : Copy). unsigned_abs (reduced_cost proof c) * reach (span_at zone c.var)) cs
    ≤ sum_by (λ (c : Copy). unsigned_abs (reduced_cost proof c) * reach (span_at p.spans c.var)) cs =
    sum_by-smaller (λ (c : Copy). unsigned_abs (reduced_cost proof c) * reach (span_at zone c.var)) (λ (c : Copy). unsigned_abs (reduced_cost proof c) * reach (span_at p.spans c.var)) cs
    (each (λ (c : Copy). unsigned_abs (reduced_cost proof c) * reach (span_at zone c.var) ≤ unsigned_abs (reduced_cost proof c) * reach (span_at p.spans c.var))
    (λ c. mul-le-mul_left (unsigned_abs (reduced_cost proof c)) (reach_within p.spans zone in_root c.var)) cs) in
    subst (λ (k : Blocking). bound_size k zone proof < price_limit) (sym formed.blocking)
    (omega (arith, all, less, blocks_weigh zone proof bs.blocks))
  where
    each : {X : Type 0} (P : X → Type 0) → ((x : X) → P x) → (xs : List X) → AllByRecursion P xs
    each P h [] = tt
    each P h (x ∷ xs) = (h x, each P h xs)

-- a block has no more copies than there are variables
few_copies : (n : ℕ) (cs : List Copy) → IsStrictlyIncreasing (map (λ (c : Copy). c.var) cs) → All (λ (c : Copy). c.var < n) cs → length cs ≤ n
few_copies n cs ascend below =
    let none : Copy = record { var = 0; cost = pos 0; coefs = [] } in
    omega (
      arith,
      length-map cs (λ (c : Copy). c.var),
      few_below (map (λ (c : Copy). c.var) cs) n ascend
          (λ k l. subst (λ v. v < n) (sym (get_or-map_past (λ (c : Copy). c.var) cs k none)) (below k none (omega (arith, l, length-map cs (λ (c : Copy). c.var))))),
    )

-- the variables of a block are in a zone
pub vars_there : (b : BlockedProgram) (zone : List Span) → IsFormed b → IsZone b.named.program.spans zone → (k : ℕ) (d : Block) → k < length b.blocking.blocks
    → All (λ (c : Copy). c.var < length zone) (get_or b.blocking.blocks k d).copies
vars_there b zone formed in_root k d l = λ i c m.
    let same : length zone ≡ length b.named.program.spans = AllZip-length IsSubspan zone b.named.program.spans in_root.inside in
    let there = subst (λ (bs : Blocking). All (λ (k : Block). All (λ (c : Copy). c.var < length b.named.program.spans) k.copies) bs.blocks) (sym formed.blocking) (known b formed) in
    omega (arith, there k d l i c m, same)

-- so each block is small
pub blocks_small : (b : BlockedProgram) (zone : List Span) (proof : Proof) → IsFormed b → IsZone b.named.program.spans zone → Fits b.blocking proof
    → All (IsSmallBlock zone proof) b.blocking.blocks
blocks_small b zone proof formed in_root fits = λ k d l.
    let same : length zone ≡ length b.named.program.spans = AllZip-length IsSubspan zone b.named.program.spans in_root.inside in
    let there = subst (λ (bs : Blocking). All (λ (k : Block). All (λ (c : Copy). c.var < length b.named.program.spans) k.copies) bs.blocks) (sym formed.blocking) (known b formed) in
    let ascend = subst (λ (bs : Blocking). All (λ (k : Block). IsStrictlyIncreasing (map (λ (c : Copy). c.var) k.copies)) bs.blocks) (sym formed.blocking)
    (copies_of_each_lem.ascend b.named.program b.dec (cuts_of b)) in
    record {
      copies = copies_small b formed k d l;
      few = omega (arith, formed.kept.variables, few_copies (length b.named.program.spans) (get_or b.blocking.blocks k d).copies (ascend k d l) (there k d l));
      there = λ i c m. omega (arith, there k d l i c m, same);
      size = omega (arith, get_or-le-sum_by (block_size zone proof) b.blocking.blocks k d l, bound_small b zone proof formed in_root fits);
    }
