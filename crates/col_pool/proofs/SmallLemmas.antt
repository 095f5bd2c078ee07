-- No sum over a point of a block of a kept program leaves 62 bits.
use Rattle.std.proofs.Common.{◌≡◌, ◌≢◌, refl, sym, ap, subst, ◌∙◌, ℕ, zero, suc, ◌+◌, ◌*◌, ◌<◌, ◌≤◌, ◌^◌, Bool, true, false, List, [], ◌∷◌, ◌++◌, map, filter, length, get_or, arith, ⊎_elim, Option, None, Some, All, Contains, if◌then◌else◌}
use Rattle.std.proofs.Math.IntN.{ℤ, pos, ◌+ℤ◌, ◌-ℤ◌}
use Rattle.std.proofs.Math.Nat.{mul-le-mul_right}
use Rattle.std.proofs.Math.ListN.{get_or-eq_default}
use Rattle.std.specs.Prelude.{◌==◌, unsigned_abs, sum_by, drop}
use Rattle.std.specs.List.{AllByRecursion, AllZip, range_with_len, zip, flat_map}
use Rattle.std.proofs.lemmas.Int.{ints}
use Rattle.std.proofs.lemmas.Bool.{cases_lt}
use Rattle.std.proofs.lemmas.Bool.Decides.{eqb_tells}
use Rattle.std.proofs.lemmas.List.{get_or-map, length-map}
use Rattle.std.proofs.lemmas.List.Elements.{All-from_recursion, recursion_from_All, All-map, All-contains}
use Rattle.std.proofs.lemmas.List.Sums.{sum_by-cons}
use Rattle.bp_theory.specs.Program.{Program, coefficient, reach, span_at, KeepsActivity}
use Rattle.bp_theory.specs.Blocking.{Copy, Block, Blocking, coef_in, Mirrors, StandsFor}
use Rattle.bp_theory.specs.Bound.{spans_of}
use Rattle.bp_theory.specs.Decomposition.{Decomposition, ProofRow, whole_row, link_row, no_row, proof_row, proof_rows, links_of, copy_coefficient, copy_of, at_first, is_in, is_first, is_block, members, rows_of, row_with_places, blocking_of, HasVariablesBelow}
use Rattle.bp_theory.specs.Cuts.{cut_rows}
use Rattle.bp_theory.specs.declared.Span.{Span}
use Rattle.bp_theory.specs.declared.Term.{Term}
use Rattle.bp_theory.specs.declared.Row.{Row}
use Rattle.bp_theory.proofs.DecompositionProof.{coef_in-copy_of, kept_at, all_blocks, decomposition_lem}
use Rattle.bp_theory.proofs.CutProof.{cuts_are_met_lem}
use Rattle.bp_model.specs.Named.{NamedProgram, IsKept, HasSmallEnds}
use Rattle.block_program.specs.Blocked.{BlockedProgram, IsFormed}
use Rattle.block_program.proofs.StandLemmas.{passing_few}
use Rattle.pricing_problem.specs.Form.{HasShortEnds, row_size, term_size, cost_size}
use Rattle.col_pool.specs.Pools.{HasSmallSums, root_block, costs_of, coefs_of}

-- ---- sums over the variables of a block

-- the size of terms at points within spans
abbrev pub terms_size : List Span → List Term → ℕ
terms_size spans terms = sum_by (λ t. unsigned_abs t.coef * reach (span_at spans t.var)) terms

-- numbers ascend, from a number on
abbrev pub Ascends : ℕ → List ℕ → Type 0
Ascends n [] = Unit {0}
Ascends n (v ∷ vs) = (n ≤ v) × Ascends (suc v) vs

ascends_lower : (m n : ℕ) (vs : List ℕ) → m ≤ n → Ascends n vs → Ascends m vs
ascends_lower m n [] l h = tt
ascends_lower m n (v ∷ vs) l h = (omega (arith, l, h.0), h.1)

ascends_filter : (q : ℕ → Bool) (a n : ℕ) → Ascends a (filter q (range_with_len a n))
ascends_filter q a zero = tt
ascends_filter q a (suc n) = by (q a) (ascends_filter q (a + 1) n)
  where
    one : (n : ℕ) → n + 1 ≡ suc n
    one n = omega arith

    by : (b : Bool) → Ascends (a + 1) (filter q (range_with_len (a + 1) n))
        → Ascends a (if b then a ∷ filter q (range_with_len (a + 1) n) else filter q (range_with_len (a + 1) n))
    by true rest = (omega arith, subst (λ m. Ascends m (filter q (range_with_len (a + 1) n))) (one a) rest)
    by false rest = ascends_lower a (a + 1) (filter q (range_with_len (a + 1) n)) (omega arith) rest

-- a weight at one variable alone
at_one : (u w : ℕ) (r : ℕ → ℕ) → ℕ → ℕ
at_one u w r v = (if u == v then w else 0) * r v

at_one_same : (u w : ℕ) (r : ℕ → ℕ) (v : ℕ) → u ≡ v → at_one u w r v ≡ w * r u
unfolding at_one
at_one_same u w r v e = ⊎_elim
    (λ same. ap (λ b. (if b then w else 0) * r v) same.0 ∙ ap (λ n. w * r n) (sym e))
    (λ other. absurd (other.1 e))
    (eqb_tells u v)

at_one_other : (u w : ℕ) (r : ℕ → ℕ) (v : ℕ) → u ≢ v → at_one u w r v ≡ 0
unfolding at_one
at_one_other u w r v e = ⊎_elim
    (λ same. absurd (e same.1))
    (λ other. ap (λ b. (if b then w else 0) * r v) other.0 ∙ nothing (r v))
    (eqb_tells u v)
  where
    nothing : (n : ℕ) → 0 * n ≡ 0
    nothing n = omega arith

pick_none : (u w : ℕ) (r : ℕ → ℕ) (n : ℕ) (vs : List ℕ) → Ascends n vs → u < n → sum_by (at_one u w r) vs ≡ 0
pick_none u w r n [] h l = refl
pick_none u w r n (v ∷ vs) h l =
    omega (
      arith,
      sum_by-cons (at_one u w r) v vs,
      at_one_other u w r v (λ e. omega (arith, e, l, h.0)),
      pick_none u w r (suc v) vs h.1 (omega (arith, l, h.0)),
    )

pick_most : (u w : ℕ) (r : ℕ → ℕ) (n : ℕ) (vs : List ℕ) → Ascends n vs → sum_by (at_one u w r) vs ≤ w * r u
pick_most u w r n [] h = omega arith
pick_most u w r n (v ∷ vs) h = ⊎_elim
    (λ same. omega (arith, sum_by-cons (at_one u w r) v vs, at_one_same u w r v same.1, pick_none u w r (suc v) vs h.1 (omega (arith, same.1))))
    (λ other. omega (arith, sum_by-cons (at_one u w r) v vs, at_one_other u w r v other.1, pick_most u w r (suc v) vs h.1))
    (eqb_tells u v)

-- the size of each variable's coefficient
of_variable : List Span → List Term → ℕ → ℕ
of_variable spans terms v = unsigned_abs (coefficient terms v) * reach (span_at spans v)

-- one term more
of_variable_more : (spans : List Span) (t : Term) (ts : List Term) (v : ℕ)
    → of_variable spans (t ∷ ts) v ≤ at_one t.var (unsigned_abs t.coef) (λ u. reach (span_at spans u)) v + of_variable spans ts v
unfolding of_variable at_one
of_variable_more spans t ts v = by (t.var == v) (coefficient ts v) (reach (span_at spans v))
  where
    split : (a b c r : ℕ) → a ≤ b + c → a * r ≤ b * r + c * r
    split a b c r l = omega (arith, mul-le-mul_right r l)

    by : (b : Bool) (rest : ℤ) (r : ℕ)
        → unsigned_abs ((if b then t.coef else pos 0) +ℤ rest) * r ≤ (if b then unsigned_abs t.coef else 0) * r + unsigned_abs rest * r
    by true rest r = split (unsigned_abs (t.coef +ℤ rest)) (unsigned_abs t.coef) (unsigned_abs rest) r (sum_low t.coef rest)
      where
        sum_low : (a b : ℤ) → unsigned_abs (a +ℤ b) ≤ unsigned_abs a + unsigned_abs b
        sum_low a b = omega (arith, ints)
    by false rest r = split (unsigned_abs (pos 0 +ℤ rest)) 0 (unsigned_abs rest) r (sum_low rest)
      where
        sum_low : (b : ℤ) → unsigned_abs (pos 0 +ℤ b) ≤ 0 + unsigned_abs b
        sum_low b = omega (arith, ints)

sums_more : (f g h : ℕ → ℕ) → ((v : ℕ) → f v ≤ g v + h v) → (vs : List ℕ) → sum_by f vs ≤ sum_by g vs + sum_by h vs
sums_more f g h each [] = omega arith
sums_more f g h each (v ∷ vs) = omega (arith, sum_by-cons f v vs, sum_by-cons g v vs, sum_by-cons h v vs, each v, sums_more f g h each vs)

nothing_of : (spans : List Span) (vs : List ℕ) → sum_by (of_variable spans []) vs ≡ 0
unfolding of_variable
nothing_of spans [] = refl
nothing_of spans (v ∷ vs) = omega (arith, sum_by-cons (of_variable spans []) v vs, nothing_of spans vs)

-- the coefficients of different variables have no greater size together than the terms
variables_within : (spans : List Span) (terms : List Term) (vs : List ℕ) → Ascends 0 vs → sum_by (of_variable spans terms) vs ≤ terms_size spans terms
variables_within spans [] vs h = omega (arith, nothing_of spans vs)
variables_within spans (t ∷ ts) vs h =
    omega (
      arith,
      sums_more (of_variable spans (t ∷ ts)) (at_one t.var (unsigned_abs t.coef) (λ u. reach (span_at spans u))) (of_variable spans ts) (of_variable_more spans t ts) vs,
      pick_most t.var (unsigned_abs t.coef) (λ u. reach (span_at spans u)) 0 vs h,
      variables_within spans ts vs h,
      sum_by-cons (λ (t : Term). unsigned_abs t.coef * reach (span_at spans t.var)) t ts,
    )

-- the size of copies' numbers that are no larger than coefficients
copies_within : (spans : List Span) (terms : List Term) (f : ℕ → Copy) (g : Copy → ℤ) → ((v : ℕ) → (f v).var ≡ v)
    → ((v : ℕ) → unsigned_abs (g (f v)) ≤ unsigned_abs (coefficient terms v)) → (vs : List ℕ)
    → cost_size (map (λ (c : Copy). span_at spans c.var) (map f vs)) (map g (map f vs)) ≤ sum_by (of_variable spans terms) vs
unfolding of_variable
copies_within spans terms f g same low [] = omega arith
copies_within spans terms f g same low (v ∷ vs) =
    omega (
      arith,
      sum_by-cons (of_variable spans terms) v vs,
      copies_within spans terms f g same low vs,
      ap (λ u. unsigned_abs (g (f v)) * reach (span_at spans u)) (same v),
      mul-le-mul_right (reach (span_at spans v)) (low v),
    )

-- ---- the rows that proofs name

-- terms whose coefficients bound those of copies
bounding : ProofRow → List Term
bounding (whole_row row) = row.terms
bounding (link_row w j) = record { var = w; coef = pos 1 } ∷ []
bounding no_row = []

copy_within : (first : Bool) (v k : ℕ) (r : ProofRow) → unsigned_abs (copy_coefficient first v k r) ≤ unsigned_abs (coefficient (bounding r) v)
unfolding bounding
copy_within true v k (whole_row row) = omega arith
copy_within false v k (whole_row row) = omega arith
copy_within first v k (link_row w j) = by (w == v) first (k == j)
  where
    by : (s f t : Bool)
        → unsigned_abs (if s then at_first f (pos 1) -ℤ (if t then pos 1 else pos 0) else pos 0) ≤ unsigned_abs ((if s then pos 1 else pos 0) +ℤ pos 0)
    by true true true = omega (arith, ints)
    by true true false = omega (arith, ints)
    by true false true = omega (arith, ints)
    by true false false = omega (arith, ints)
    by false f t = omega (arith, ints)
copy_within first v k no_row = omega arith

-- a row's bounding terms are small
IsLimited : List Span → ProofRow → Type 0
IsLimited spans r = terms_size spans (bounding r) < 2 ^ 62

append_all : {X : Type 0} (P : X → Type 0) (xs ys : List X) → AllByRecursion P xs → AllByRecursion P ys → AllByRecursion P (xs ++ ys)
append_all P [] ys h g = g
append_all P (x ∷ xs) ys h g = (h.0, append_all P xs ys h.1 g)

limited_rows : (p : Program) (rows : List Row) (places : List (Option ℕ)) → AllByRecursion (KeepsActivity p) rows
    → AllByRecursion (IsLimited p.spans) (map (λ (e : Row × Option ℕ). proof_row e.0 e.1) (zip rows places))
unfolding IsLimited bounding
limited_rows p [] places h = tt
limited_rows p (row ∷ rows) [] h = tt
limited_rows p (row ∷ rows) (None ∷ places) h = (omega (arith, h.0), limited_rows p rows places h.1)
limited_rows p (row ∷ rows) (Some k ∷ places) h = (omega arith, limited_rows p rows places h.1)

reach_small : (spans : List Span) (v : ℕ) → All HasSmallEnds spans → reach (span_at spans v) < 2 ^ 62
reach_small spans v ends = ⊎_elim
    (λ l. let end : HasSmallEnds (span_at spans v) = ends v (record { lo = pos 0; hi = pos 0 }) l in omega (arith, end.lo, end.hi))
    (λ l. let none : span_at spans v ≡ record { lo = pos 0; hi = pos 0 } = get_or-eq_default spans (record { lo = pos 0; hi = pos 0 }) l in
    subst (λ s. reach s < 2 ^ 62) (sym none) (omega arith))
    (cases_lt v (length spans))

limited_links_of : (spans : List Span) (v : ℕ) → All HasSmallEnds spans → (ks : List ℕ) → AllByRecursion (IsLimited spans) (map (link_row v) ks)
unfolding IsLimited bounding
limited_links_of spans v ends [] = tt
limited_links_of spans v ends (k ∷ ks) = (
  omega (arith, reach_small spans v ends, sum_by-cons (λ (t : Term). unsigned_abs t.coef * reach (span_at spans t.var)) (record { var = v; coef = pos 1 }) []),
  limited_links_of spans v ends ks,
)

limited_links : (p : Program) (d : Decomposition) → All HasSmallEnds p.spans → (vs : List ℕ) → AllByRecursion (IsLimited p.spans) (flat_map (links_of p d) vs)
limited_links p d ends [] = tt
limited_links p d ends (v ∷ vs) =
    append_all (IsLimited p.spans) (links_of p d v) (flat_map (links_of p d) vs)
    (limited_links_of p.spans v ends (drop 1 (filter (is_in p d v) (range_with_len 0 d.blocks)))) (limited_links p d ends vs)

limited_cuts : (p : Program) (cuts : List Row) → AllByRecursion (KeepsActivity p) cuts → AllByRecursion (IsLimited p.spans) (map whole_row cuts)
unfolding IsLimited bounding
limited_cuts p [] h = tt
limited_cuts p (cut ∷ cuts) h = (omega (arith, h.0), limited_cuts p cuts h.1)

limited_all : (m : NamedProgram) (d : Decomposition) (cuts : List Row) → IsKept m → AllByRecursion (KeepsActivity m.program) cuts
    → AllByRecursion (IsLimited m.program.spans) (proof_rows m.program d cuts)
limited_all m d cuts kept small =
    let p = m.program in
    append_all (IsLimited p.spans) (map (λ (e : Row × Option ℕ). proof_row e.0 e.1) (zip p.rows d.places) ++ flat_map (links_of p d) (range_with_len 0 (length p.spans)))
    (map whole_row cuts)
    (append_all (IsLimited p.spans) (map (λ (e : Row × Option ℕ). proof_row e.0 e.1) (zip p.rows d.places)) (flat_map (links_of p d) (range_with_len 0 (length p.spans)))
    (limited_rows p p.rows d.places (recursion_from_All (KeepsActivity p) p.rows kept.row_activity))
    (limited_links p d kept.ends (range_with_len 0 (length p.spans))))
    (limited_cuts p cuts small)

-- ---- one block

-- few copies and rows, and small costs and activities
record IsSmallBlock (spans : List Span) (block : Block) : Type 0 where
  copies : length block.copies ≤ 524288
  rows : length block.rows ≤ 524288
  costs : cost_size (spans_of spans block) (costs_of block) < 2 ^ 62
  acts : (row : ℕ) → cost_size (spans_of spans block) (coefs_of block row) < 2 ^ 62

-- copies of different variables are small
copies_small : (m : NamedProgram) (d : Decomposition) (cuts : List Row) (k : ℕ) (first : ℕ → Bool) (vs : List ℕ) (rows : List Row) → IsKept m
    → AllByRecursion (KeepsActivity m.program) cuts → Ascends 0 vs → length vs ≤ 524288 → length rows ≤ 524288
    → IsSmallBlock m.program.spans (record { copies = map (λ v. copy_of m.program (proof_rows m.program d cuts) (first v) v k) vs; rows = rows })
unfolding IsLimited bounding
copies_small m d cuts k first vs rows kept small ascend few few_rows =
    let p = m.program in
    let pr : List ProofRow = proof_rows p d cuts in
    let f : ℕ → Copy = λ v. copy_of p pr (first v) v k in
    record {
      copies = omega (arith, few, length-map vs f);
      rows = few_rows;
      costs = omega (
        arith,
        copies_within p.spans p.costs f (λ (c : Copy). c.cost) (λ v. refl) (λ v. at_first_low (first v) (coefficient p.costs v)) vs,
        variables_within p.spans p.costs vs ascend,
        kept.cost_activity,
      );
      acts = λ row.
          let r : ProofRow = get_or pr row no_row in
          let limit : terms_size p.spans (bounding r) < 2 ^ 62 = kept_at (IsLimited p.spans) pr no_row (limited_all m d cuts kept small) nothing_limited row in
          omega (
            arith,
            copies_within p.spans (bounding r) f (λ (c : Copy). coef_in c row) (λ v. refl)
                (λ v. subst (λ z. unsigned_abs z ≤ unsigned_abs (coefficient (bounding r) v)) (sym (coef_in-copy_of p pr (first v) v k row)) (copy_within (first v) v k r)) vs,
            variables_within p.spans (bounding r) vs ascend,
            limit,
          );
    }
  where
    at_first_low : (b : Bool) (z : ℤ) → unsigned_abs (at_first b z) ≤ unsigned_abs z
    at_first_low true z = omega arith
    at_first_low false z = omega arith

    nothing_limited : IsLimited m.program.spans no_row
    nothing_limited = omega arith

chosen_few : (q : Row × Option ℕ → Bool) (rows : List Row) (places : List (Option ℕ)) → length (map (λ (e : Row × Option ℕ). e.0) (filter q (zip rows places))) ≤ length rows
chosen_few q [] places = omega arith
chosen_few q (row ∷ rows) [] = omega arith
chosen_few q (row ∷ rows) (place ∷ places) = by (q (row, place)) (chosen_few q rows places)
  where
    by : (b : Bool) → length (map (λ (e : Row × Option ℕ). e.0) (filter q (zip rows places))) ≤ length rows
        → length (map (λ (e : Row × Option ℕ). e.0) (if b then (row, place) ∷ filter q (zip rows places) else filter q (zip rows places))) ≤ length (row ∷ rows)
    by true rest = omega (arith, rest)
    by false rest = omega (arith, rest)

blocks_small : (m : NamedProgram) (d : Decomposition) (cuts : List Row) → IsKept m → AllByRecursion (KeepsActivity m.program) cuts
    → All (IsSmallBlock m.program.spans) (blocking_of m.program d cuts).blocks
blocks_small m d cuts kept small =
    let p = m.program in
    let pr : List ProofRow = proof_rows p d cuts in
    all_blocks p d pr (IsSmallBlock p.spans)
    (λ k. copies_small m d cuts k (λ v. is_first p d v k) (members p d k) (map (row_with_places (members p d k)) (rows_of p d k)) kept small
    (ascends_filter (λ v. is_in p d v k) 0 (length p.spans))
    (omega (arith, passing_few (λ v. is_in p d v k) (length p.spans), kept.variables))
    (omega (arith, length-map (rows_of p d k) (row_with_places (members p d k)), chosen_few (λ e. is_block k e.1) p.rows d.places, kept.rows)))
    (λ v l. copies_small m d cuts d.blocks (λ u. true) (v ∷ []) [] kept small (omega arith, tt) (omega arith) (omega arith))

-- ---- rows of blocks

-- terms that stand for others name places that are there, and have the same size
stand_below : (block : Block) (ts us : List Term) → AllZip (StandsFor block) ts us → AllByRecursion (λ t. t.var < length block.copies) ts
stand_below block [] us h = tt
stand_below block (t ∷ ts) [] h = absurd h
stand_below block (t ∷ ts) (u ∷ us) h = (h.0.there, stand_below block ts us h.1)

stand_size : (spans : List Span) (block : Block) (ts us : List Term) → AllZip (StandsFor block) ts us
    → sum_by (term_size (spans_of spans block)) ts ≡ terms_size spans us
stand_size spans block [] [] h = refl
stand_size spans block [] (u ∷ us) h = absurd h
stand_size spans block (t ∷ ts) [] h = absurd h
stand_size spans block (t ∷ ts) (u ∷ us) h =
    let none : Copy = record { var = 0; cost = pos 0; coefs = [] } in
    let at : span_at (spans_of spans block) t.var ≡ span_at spans u.var =
    get_or-map (λ (c : Copy). span_at spans c.var) block.copies t.var none (record { lo = pos 0; hi = pos 0 }) h.0.there
    ∙ ap (span_at spans) (h.0.var none) in
    let one : term_size (spans_of spans block) t ≡ unsigned_abs u.coef * reach (span_at spans u.var) =
    ap (λ (s : Span). unsigned_abs t.coef * reach s) at ∙ ap (λ z. unsigned_abs z * reach (span_at spans u.var)) h.0.coef in
    omega (
      arith,
      sum_by-cons (term_size (spans_of spans block)) t ts,
      sum_by-cons (λ (t : Term). unsigned_abs t.coef * reach (span_at spans t.var)) u us,
      one,
      stand_size spans block ts us h.1,
    )

row_small : (p : Program) (block : Block) (row full : Row) → Mirrors block row full → KeepsActivity p full → row_size (spans_of p.spans block) row < 2 ^ 62
row_small p block row full h kept =
    let low : unsigned_abs row.low ≡ unsigned_abs full.low = ap unsigned_abs h.low in
    let rhs : unsigned_abs row.rhs ≡ unsigned_abs full.rhs = ap unsigned_abs h.rhs in
    omega (arith, low, rhs, stand_size p.spans block row.terms full.terms h.terms, kept)

-- a block of small copies and rows of the program is one whose sums are small
sums_small : (m : NamedProgram) (block : Block) → IsKept m → IsSmallBlock m.program.spans block
    → All (λ (c : Copy). c.var < length m.program.spans) block.copies
    → All (λ row. (full : Row) × Contains m.program.rows full × Mirrors block row full) block.rows
    → HasSmallSums (record { block = block; spans = spans_of m.program.spans block })
sums_small m block kept small known mirrored =
    let spans = m.program.spans in
    let many : length (spans_of spans block) ≡ length block.copies = length-map block.copies (λ (c : Copy). span_at spans c.var) in
    record {
      form = record {
        few_spans = omega (arith, many, small.copies);
        few_rows = omega (arith, small.rows);
        ends = All-map HasShortEnds (λ (c : Copy). span_at spans c.var) block.copies
            (λ i c l. let end : HasSmallEnds (span_at spans (get_or block.copies i c).var) =
            kept.ends (get_or block.copies i c).var (record { lo = pos 0; hi = pos 0 }) (known i c l) in
            record { lo = end.lo; hi = end.hi });
        places = λ i row l.
            let h = mirrored i row l in
            subst (λ n. HasVariablesBelow n (get_or block.rows i row).terms) (sym many)
            (All-from_recursion (λ t. t.var < length block.copies) (get_or block.rows i row).terms (stand_below block (get_or block.rows i row).terms h.0.terms h.2.terms));
        sizes = λ i row l.
            let h = mirrored i row l in
            row_small m.program block (get_or block.rows i row) h.0 h.2 (All-contains (KeepsActivity m.program) m.program.rows h.0 kept.row_activity h.1);
      };
      costs = small.costs;
      acts = small.acts;
    }

-- the blocks of a program in blocks have small sums
pub root_small : (b : BlockedProgram) (k : ℕ) → IsFormed b → k < length b.blocking.blocks → HasSmallSums (root_block b k)
root_small b k formed l =
    let m = b.named in
    let none : Block = record { copies = []; rows = [] } in
    let cuts : List Row = cut_rows m.program b.dec [] b.cuts in
    let small = recursion_from_All (KeepsActivity m.program) cuts formed.cuts_kept.bounded in
    let faith = decomposition_lem.adds_up m.program b.dec cuts formed.kept.closed (cuts_are_met_lem.closed m.program b.dec b.cuts) in
    subst (λ (bl : Blocking). HasSmallSums (record { block = get_or bl.blocks k none; spans = spans_of m.program.spans (get_or bl.blocks k none) })) (sym formed.blocking)
    (let there : k < length (blocking_of m.program b.dec cuts).blocks = subst (λ (bl : Blocking). k < length bl.blocks) formed.blocking l in
    sums_small m (get_or (blocking_of m.program b.dec cuts).blocks k none) formed.kept (blocks_small m b.dec cuts formed.kept small k none there)
    (faith.known k none there) (faith.mirrored k none there))
