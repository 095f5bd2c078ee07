-- What closes a zone of one point: the plain proof at a feasible point, and else a row that the point misses.
use Rattle.std.proofs.Common.{◌≡◌, ◌≢◌, refl, sym, ap, subst, ◌∙◌, ℕ, zero, suc, ◌<◌, ◌≤◌, Bool, true, false, ◌||◌, ◌^◌, List, [], ◌∷◌, ◌++◌, map, length, get_or, Option, Some, None, arith, inl, inr, ⊎_elim, length-append}
use Rattle.std.proofs.Math.IntN.{ℤ, pos, negsuc, ◌+ℤ◌, ◌-ℤ◌, ◌*ℤ◌, zero-*ℤ}
use Rattle.std.specs.Prelude.{◌≤ℤ◌, ◌<ℤ◌, All, IsSome, filter, if◌then◌else◌, option_map, unsigned_abs, int_lt}
use Rattle.std.specs.List.{AllByRecursion, zip, flat_map, range_with_len}
use Rattle.std.proofs.lemmas.Int.{ints, by_lt_z}
use Rattle.std.proofs.lemmas.List.{get_or_append_left, get_or-map, length-map}
use Rattle.std.proofs.lemmas.List.FromFn.{length-map-range_with_len, get_or-map-range_with_len}
use Rattle.std.proofs.lemmas.List.Elements.{All-from_recursion}
use Rattle.bp_theory.specs.Sums.{sum_of, dot}
use Rattle.bp_theory.specs.Program.{Program, value_at, activity, span_at, IsInside, Meets, MeetsRow, cost}
use Rattle.bp_theory.specs.Blocking.{Copy, Block, Blocking, all_copies, coef_in, copy_cost, copy_activity, restriction, row_at, sides_of, Mirrors, AddsUp}
use Rattle.bp_theory.specs.Decomposition.{Decomposition, ProofRow, whole_row, no_row, proof_row, links_of, proof_rows, full_row, is_block, rows_of, members, row_with_places, block_of, lone_block, lone_variables, blocking_of, HasVariablesBelow, IsClosed, IsPlace}
use Rattle.bp_theory.specs.Bound.{spans_of, IsPoint, reduced_cost, AreParts, side, side_at, base, IsBound, SignFits, SignFitsSense, plain_proof}
use Rattle.bp_theory.specs.Trees.{IsProper, zone_of}
use Rattle.bp_theory.specs.Claims.{Holds}
use Rattle.bp_theory.specs.Cuts.{cut_rows}
use Rattle.bp_theory.specs.declared.Span.{Span}
use Rattle.bp_theory.specs.declared.Sense.{Sense}
use Rattle.bp_theory.specs.declared.Sense.TheVariants.{Le, Ge, Eq, In}
use Rattle.bp_theory.specs.declared.Row.{Row}
use Rattle.bp_theory.specs.declared.MasterRow.{MasterRow}
use Rattle.bp_theory.specs.declared.Proof.{Proof}
use Rattle.bp_theory.proofs.SumLaws.{sum_of-append, dot-map-map}
use Rattle.bp_theory.proofs.KeyLaws.{sum_of-same_keys}
use Rattle.bp_theory.proofs.DualityProof.{reduced_costs_at}
use Rattle.bp_theory.proofs.ShrinkProof.{one_bound_lem}
use Rattle.bp_theory.proofs.FaithProof.{activity_of_places}
use Rattle.bp_theory.proofs.DecompositionProof.{decomposition_lem, get_or-map_past, mirrored_row, eqb_itself}
use Rattle.bp_theory.proofs.CutProof.{cuts_are_met_lem}
use Rattle.block_program.specs.Blocked.{BlockedProgram, IsFormed}
use Rattle.node_bound.specs.Shown.{ShutsOff, IsMissed, row_proof, block_proof, closing_sign}

-- ---- the zone of one point

span_at-zone_of : (x : List ℤ) (v : ℕ) → span_at (zone_of x) v ≡ record { lo = value_at x v; hi = value_at x v }
span_at-zone_of x v = get_or-map_past (λ w. record { lo = w; hi = w }) x v (pos 0)

pub proper-zone_of : (x : List ℤ) → IsProper (zone_of x)
proper-zone_of x = All-from_recursion (λ (s : Span). s.lo ≤ℤ s.hi) (zone_of x) (each x)
  where
    each : (x : List ℤ) → AllByRecursion (λ (s : Span). s.lo ≤ℤ s.hi) (zone_of x)
    each [] = tt
    each (v ∷ vs) = (omega (arith, ints), each vs)

-- numbers inside it are the point's
only_point : (x : List ℤ) (cs : List Copy) (y : List ℤ) → IsInside (map (λ c. span_at (zone_of x) c.var) cs) y → y ≡ map (λ c. value_at x c.var) cs
only_point x [] [] inside = refl
only_point x [] (v ∷ ys) inside = absurd inside
only_point x (c ∷ cs) [] inside = absurd inside
only_point x (c ∷ cs) (v ∷ ys) inside =
    let e = span_at-zone_of x c.var in
    let low : (span_at (zone_of x) c.var).lo ≡ value_at x c.var = ap (λ (s : Span). s.lo) e in
    let high : (span_at (zone_of x) c.var).hi ≡ value_at x c.var = ap (λ (s : Span). s.hi) e in
    let here : v ≡ value_at x c.var = omega (arith, ints, inside.0.above, inside.0.below, low, high) in
    ap (λ w. w ∷ ys) here ∙ ap (λ ws. value_at x c.var ∷ ws) (only_point x cs ys inside.1)

-- the parts add up to the reduced costs of the point
parts_of_point : (proof : Proof) (x : List ℤ) (k : ℕ) (bs : List Block) (vs : List ℤ) → AreParts (zone_of x) proof k bs vs
    → sum_of (λ z. z) vs ≡ sum_of (λ c. reduced_cost proof c *ℤ value_at x c.var) (flat_map (λ (b : Block). b.copies) bs)
parts_of_point proof x k [] [] parts = refl
parts_of_point proof x k [] (v ∷ vs) parts = absurd parts
parts_of_point proof x k (b ∷ bs) [] parts = absurd parts
parts_of_point proof x k (b ∷ bs) (v ∷ vs) parts =
    let same = only_point x b.copies parts.0.point parts.0.is_point.inside in
    omega (
      arith,
      ints,
      parts.0.reached,
      ap (dot (map (reduced_cost proof) b.copies)) same,
      dot-map-map (reduced_cost proof) (λ c. value_at x c.var) b.copies,
      sum_of-append (λ c. reduced_cost proof c *ℤ value_at x c.var) b.copies (flat_map (λ (b' : Block). b'.copies) bs),
      parts_of_point proof x (suc k) bs vs parts.1,
    )

-- the bound in the zone of one point
bound_of_point : (b : Blocking) (proof : Proof) (x : List ℤ) (v : ℤ) → IsBound b (zone_of x) proof v
    → v ≡ base b proof +ℤ (pos proof.scale *ℤ copy_cost x (all_copies b)
    -ℤ sum_of (λ m. m.1 *ℤ copy_activity x m.0 (all_copies b)) proof.mults)
bound_of_point b proof x v bound =
    omega (arith, ints, bound.total, parts_of_point proof x 0 b.blocks bound.parts bound.are_parts, reduced_costs_at proof x (all_copies b))

-- ---- the plain proof

plain_value : (p : Program) (rows : List (Option Row)) (b : Blocking) (x : List ℤ) (v : ℤ) → AddsUp p rows b
    → IsBound b (zone_of x) plain_proof v → v ≡ cost p x
plain_value p rows b x v adds bound =
    omega (
      arith,
      ints,
      bound_of_point b plain_proof x v bound,
      sum_of-same_keys (λ c. c.var) (λ c. c.cost) (λ t. t.var) (λ t. t.coef) (value_at x) (all_copies b) p.costs adds.costs,
      adds.constant,
    )

pub plain_holds : (p : Program) (rows : List (Option Row)) (b : Blocking) (x : List ℤ) → AddsUp p rows b
    → Holds b (zone_of x) plain_proof (cost p x)
plain_holds p rows b x adds = ⊎_elim
    (λ endless. inl endless)
    (λ found. inr (found.0, found.1, omega (arith, ints, plain_value p rows b x found.0 adds found.1)))
    (one_bound_lem.total b (zone_of x) plain_proof (proper-zone_of x))

-- ---- a missed row that proofs may name

lt_true : (a b : ℤ) (x y : ℤ) → a <ℤ b → (if int_lt a b then x else y) ≡ x
lt_true a b x y h = grind (arith, ints)

lt_false : (a b : ℤ) (x y : ℤ) → b ≤ℤ a → (if int_lt a b then x else y) ≡ y
lt_false a b x y h = grind (arith, ints)

-- by its sign a missed row is worth more than the sum
closes : (s : Sense) (low rhs sum m : ℤ) → (Meets s low rhs sum → ⊥) → m ≡ closing_sign s low sum
    → SignFitsSense s m × (m ≢ pos 0) × (unsigned_abs m ≤ 1)
    × ((m *ℤ sum) <ℤ (m *ℤ side (record { sense = s; low = low; rhs = rhs }) m))
closes Le low rhs sum m miss e = by_lt_z rhs sum
    (λ less. subst (λ m. SignFitsSense Le m × (m ≢ pos 0) × (unsigned_abs m ≤ 1) × ((m *ℤ sum) <ℤ (m *ℤ side (record { sense = Le; low = low; rhs = rhs }) m))) (sym e)
    (omega (arith, ints), (λ f. absurd (omega (arith, ints, f))), omega (arith, ints), omega (arith, ints, less)))
    (λ more. absurd (miss more))
closes Ge low rhs sum m miss e = by_lt_z sum low
    (λ less. subst (λ m. SignFitsSense Ge m × (m ≢ pos 0) × (unsigned_abs m ≤ 1) × ((m *ℤ sum) <ℤ (m *ℤ side (record { sense = Ge; low = low; rhs = rhs }) m))) (sym e)
    (omega (arith, ints), (λ f. absurd (omega (arith, ints, f))), omega (arith, ints), omega (arith, ints, less)))
    (λ more. absurd (miss more))
closes Eq low rhs sum m miss e = by_lt_z sum low
    (λ less. subst (λ m. SignFitsSense Eq m × (m ≢ pos 0) × (unsigned_abs m ≤ 1) × ((m *ℤ sum) <ℤ (m *ℤ side (record { sense = Eq; low = low; rhs = rhs }) m))) (sym (e ∙ lt_true sum low (pos 1) (negsuc 0) less))
    (tt, (λ f. absurd (omega (arith, ints, f))), omega (arith, ints), omega (arith, ints, less)))
    (λ more. by_lt_z rhs sum
    (λ less. subst (λ m. SignFitsSense Eq m × (m ≢ pos 0) × (unsigned_abs m ≤ 1) × ((m *ℤ sum) <ℤ (m *ℤ side (record { sense = Eq; low = low; rhs = rhs }) m))) (sym (e ∙ lt_false sum low (pos 1) (negsuc 0) more))
    (tt, (λ f. absurd (omega (arith, ints, f))), omega (arith, ints), omega (arith, ints, less)))
    (λ most. absurd (miss (more, most))))
closes In low rhs sum m miss e = by_lt_z sum low
    (λ less. subst (λ m. SignFitsSense In m × (m ≢ pos 0) × (unsigned_abs m ≤ 1) × ((m *ℤ sum) <ℤ (m *ℤ side (record { sense = In; low = low; rhs = rhs }) m))) (sym (e ∙ lt_true sum low (pos 1) (negsuc 0) less))
    (tt, (λ f. absurd (omega (arith, ints, f))), omega (arith, ints), omega (arith, ints, less)))
    (λ more. by_lt_z rhs sum
    (λ less. subst (λ m. SignFitsSense In m × (m ≢ pos 0) × (unsigned_abs m ≤ 1) × ((m *ℤ sum) <ℤ (m *ℤ side (record { sense = In; low = low; rhs = rhs }) m))) (sym (e ∙ lt_false sum low (pos 1) (negsuc 0) more))
    (tt, (λ f. absurd (omega (arith, ints, f))), omega (arith, ints), omega (arith, ints, less)))
    (λ most. absurd (miss (more, most))))

one_only : {X : Type 0} (P : X → Type 0) (x : X) → P x → All P (x ∷ [])
one_only P x h = All-from_recursion P (x ∷ []) (h, tt)

row_shuts : (p : Program) (rows : List (Option Row)) (b : Blocking) (x : List ℤ) (i : ℕ) (row : Row) (m : ℤ) → AddsUp p rows b
    → get_or rows i None ≡ Some row → (MeetsRow x row → ⊥) → m ≡ closing_sign row.sense row.low (activity row.terms x)
    → ShutsOff b (zone_of x) (row_proof i m)
row_shuts p rows b x i row m adds e miss sign =
    let found = closes row.sense row.low row.rhs (activity row.terms x) m miss sign in
    let proof : Proof = row_proof i m in
    let at : row_at b i ≡ Some (sides_of row) =
    ap (λ rs. get_or rs i None) adds.sides ∙ get_or-map_past (option_map sides_of) rows i None ∙ ap (option_map sides_of) e in
    let same : copy_activity x i (all_copies b) ≡ activity row.terms x =
    sum_of-same_keys (λ c. c.var) (λ c. coef_in c i) (λ t. t.var) (λ t. t.coef) (value_at x) (all_copies b) row.terms (adds.coefs i row e) in
    record {
      sound = record {
        fits = record {
          scale = omega arith;
          sizes = one_only (λ (n : ℕ × ℤ). unsigned_abs n.1 ≤ 2 ^ 40) (i, m) (omega (arith, found.2));
          nonzero = one_only (λ (n : ℕ × ℤ). n.1 ≢ pos 0) (i, m) found.1;
          rows = one_only (λ (n : ℕ × ℤ). IsSome (row_at b n.0)) (i, m) (subst (λ (o : Option MasterRow). IsSome o) (sym at) refl);
          ascend = λ k l. absurd (omega arith);
          picked = ((λ k l. absurd (omega arith)), (λ k d l. absurd (omega arith)));
        };
        signs = one_only (λ (n : ℕ × ℤ). SignFits (row_at b n.0) n.1) (i, m) (subst (λ (o : Option MasterRow). SignFits o m) (sym at) found.0);
      };
      empties = ⊎_elim
          (λ endless. inl endless)
          (λ bound. inr (
            bound.0,
            bound.1,
            refl,
            omega (
              arith,
              ints,
              bound_of_point b proof x bound.0 bound.1,
              ap (λ (o : Option MasterRow). m *ℤ side_at o m) at,
              ap (λ z. m *ℤ z) same,
              zero-*ℤ b.constant,
              zero-*ℤ (copy_cost x (all_copies b)),
              found.3,
            ),
          ))
          (one_bound_lem.total b (zone_of x) proof (proper-zone_of x));
    }

-- ---- a missed row of a block

block_shuts : (p : Program) (d : Decomposition) (cuts : List Row) (x : List ℤ) (k j : ℕ) (e : Row) → IsClosed p → k < d.blocks
    → j < length (rows_of p d k) → HasVariablesBelow (length p.spans) (get_or (rows_of p d k) j e).terms
    → (MeetsRow x (get_or (rows_of p d k) j e) → ⊥) → ShutsOff (blocking_of p d cuts) (zone_of x) (block_proof k)
block_shuts p d cuts x k j e closed there l closed_row miss =
    let rows : List ProofRow = proof_rows p d cuts in
    let b : Blocking = blocking_of p d cuts in
    let row : Row = get_or (rows_of p d k) j e in
    let first : List Block = map (block_of p d rows) (range_with_len 0 d.blocks) in
    let second : List Block = map (lone_block p d rows) (lone_variables p d) in
    let short : length first ≡ d.blocks = length-map-range_with_len (block_of p d rows) 0 d.blocks in
    let inside : k < length first = omega (arith, there, short) in
    let at : (c : Block) → get_or b.blocks k c ≡ block_of p d rows k = λ c.
    get_or_append_left first second c k inside
    ∙ get_or-map-range_with_len (block_of p d rows) 0 d.blocks k k c there (omega arith) in
    let mirrors : Mirrors (block_of p d rows k) (row_with_places (members p d k) row) row = mirrored_row p d rows k j e l closed_row in
    let place : ℕ = j in
    let none : (y : List ℤ) → IsPoint (block_of p d rows k).rows (spans_of (zone_of x) (block_of p d rows k)) y → ⊥ = λ y h.
    let same : y ≡ restriction x (block_of p d rows k) = only_point x (block_of p d rows k).copies y h.inside in
    let met : MeetsRow y (row_with_places (members p d k) row) =
    subst (MeetsRow y) (get_or-map (row_with_places (members p d k)) (rows_of p d k) j e e l)
    (h.meets j e (subst (λ n. j < n) (sym (length-map (rows_of p d k) (row_with_places (members p d k)))) l)) in
    miss (subst (λ a. Meets row.sense row.low row.rhs a)
    (ap (activity (row_with_places (members p d k) row).terms) same
    ∙ activity_of_places (block_of p d rows k) x (row_with_places (members p d k) row).terms row.terms mirrors.terms)
    met) in
    record {
      sound = record {
        fits = record {
          scale = omega arith;
          sizes = λ i m h. absurd (omega arith);
          nonzero = λ i m h. absurd (omega arith);
          rows = λ i m h. absurd (omega arith);
          ascend = λ i h. absurd (omega arith);
          picked = (
            (λ i h. absurd (omega arith)),
            one_only (λ n. n < length b.blocks) k (omega (arith, inside, length-append first second)),
          );
        };
        signs = λ i m h. absurd (omega arith);
      };
      empties = inl (record {
        block = k;
        there = omega (arith, inside, length-append first second);
        picked = ap (λ t. t || false) (eqb_itself k);
        none = λ c y h. none y (subst (λ (c : Block). IsPoint c.rows (spans_of (zone_of x) c) y) (at c) h);
      });
    }

-- the row of proofs of a row, by its place
row_in_proofs : (rows : List Row) (places : List (Option ℕ)) (i : ℕ) (d : Row) → i < length rows → length places ≡ length rows
    → get_or (map (λ e. proof_row e.0 e.1) (zip rows places)) i no_row ≡ proof_row (get_or rows i d) (get_or places i None)
row_in_proofs [] places i d l e = absurd (omega arith)
row_in_proofs (row ∷ rows) [] i d l e = absurd (omega arith)
row_in_proofs (row ∷ rows) (place ∷ places) zero d l e = refl
row_in_proofs (row ∷ rows) (place ∷ places) (suc i) d l e = row_in_proofs rows places i d (omega arith) (omega arith)

long_enough : (rows : List Row) (places : List (Option ℕ)) → length places ≡ length rows
    → length (map (λ e. proof_row e.0 e.1) (zip rows places)) ≡ length rows
long_enough [] places e = refl
long_enough (row ∷ rows) [] e = absurd (omega arith)
long_enough (row ∷ rows) (place ∷ places) e = ap suc (long_enough rows places (omega arith))

-- a row with a block's place is among the block's rows
row_in_block : (k : ℕ) (rows : List Row) (places : List (Option ℕ)) (i : ℕ) (d : Row) → i < length rows → length places ≡ length rows
    → get_or places i None ≡ Some k
    → (j : ℕ) × (j < length (map (λ (e : Row × Option ℕ). e.0) (filter (λ e. is_block k e.1) (zip rows places))))
    × (get_or (map (λ (e : Row × Option ℕ). e.0) (filter (λ e. is_block k e.1) (zip rows places))) j d ≡ get_or rows i d)
row_in_block k [] places i d l e at = absurd (omega arith)
row_in_block k (row ∷ rows) [] i d l e at = absurd (omega arith)
row_in_block k (row ∷ rows) (place ∷ places) zero d l e at =
    let rest : List (Row × Option ℕ) = filter (λ e. is_block k e.1) (zip rows places) in
    let kept : is_block k place ≡ true = ap (is_block k) at ∙ eqb_itself k in (
      0,
      subst (λ t. 0 < length (map (λ (e : Row × Option ℕ). e.0) (if t then (row, place) ∷ rest else rest))) (sym kept) (omega arith),
      ap (λ t. get_or (map (λ (e : Row × Option ℕ). e.0) (if t then (row, place) ∷ rest else rest)) 0 d) kept,
    )
row_in_block k (row ∷ rows) (place ∷ places) (suc i) d l e at =
    by (is_block k place) (row_in_block k rows places i d (omega arith) (omega arith) at)
  where
    by : (t : Bool)
        → (j : ℕ) × (j < length (map (λ (e : Row × Option ℕ). e.0) (filter (λ e. is_block k e.1) (zip rows places))))
        × (get_or (map (λ (e : Row × Option ℕ). e.0) (filter (λ e. is_block k e.1) (zip rows places))) j d ≡ get_or rows i d)
        → (j : ℕ)
        × (j < length (map (λ (e : Row × Option ℕ). e.0)
        (if t then (row, place) ∷ filter (λ e. is_block k e.1) (zip rows places) else filter (λ e. is_block k e.1) (zip rows places))))
        × (get_or (map (λ (e : Row × Option ℕ). e.0)
        (if t then (row, place) ∷ filter (λ e. is_block k e.1) (zip rows places) else filter (λ e. is_block k e.1) (zip rows places))) j d
        ≡ get_or rows i d)
    by true found = (suc found.0, omega (arith, found.1), found.2)
    by false found = found

-- ---- a missed row of a program in blocks

-- a missed master row
pub master_shuts : (b : BlockedProgram) (x : List ℤ) (i : ℕ) (m : ℤ) → IsFormed b → IsMissed b.named.program x i → get_or b.dec.places i None ≡ None
    → ((d : Row) → m ≡ closing_sign (get_or b.named.program.rows i d).sense (get_or b.named.program.rows i d).low (activity (get_or b.named.program.rows i d).terms x))
    → ShutsOff b.blocking (zone_of x) (row_proof i m)
master_shuts b x i m formed missed e sign =
    let p : Program = b.named.program in
    let d : Decomposition = b.dec in
    let cuts : List Row = cut_rows p d [] b.cuts in
    let adds = decomposition_lem.adds_up p d cuts formed.kept.closed (cuts_are_met_lem.closed p d b.cuts) in
    let r : Row = record { sense = Eq; low = pos 0; rhs = pos 0; terms = [] } in
    let own : List ProofRow = map (λ e. proof_row e.0 e.1) (zip p.rows d.places) in
    let links : List ProofRow = flat_map (links_of p d) (range_with_len 0 (length p.spans)) in
    let long : length own ≡ length p.rows = long_enough p.rows d.places formed.places.each in
    let kind : get_or (proof_rows p d cuts) i no_row ≡ whole_row (get_or p.rows i r) =
    get_or_append_left (own ++ links) (map whole_row cuts) no_row i (omega (arith, missed.there, long, length-append own links))
    ∙ get_or_append_left own links no_row i (omega (arith, missed.there, long))
    ∙ row_in_proofs p.rows d.places i r missed.there formed.places.each
    ∙ ap (proof_row (get_or p.rows i r)) e in
    subst (λ (bs : Blocking). ShutsOff bs (zone_of x) (row_proof i m)) (sym formed.blocking)
    (row_shuts p (map full_row (proof_rows p d cuts)) (blocking_of p d cuts) x i (get_or p.rows i r) m adds
    (get_or-map_past full_row (proof_rows p d cuts) i no_row ∙ ap full_row kind) (missed.missed r) (sign r))

-- a missed row of a block
pub own_shuts : (b : BlockedProgram) (x : List ℤ) (i k : ℕ) → IsFormed b → IsMissed b.named.program x i → get_or b.dec.places i None ≡ Some k
    → ShutsOff b.blocking (zone_of x) (block_proof k)
own_shuts b x i k formed missed e =
    let p : Program = b.named.program in
    let d : Decomposition = b.dec in
    let r : Row = record { sense = Eq; low = pos 0; rhs = pos 0; terms = [] } in
    let found = row_in_block k p.rows d.places i r missed.there formed.places.each e in
    let there : k < d.blocks = subst (IsPlace d.blocks) e (formed.places.known i None (omega (arith, missed.there, formed.places.each))) in
    subst (λ (bs : Blocking). ShutsOff bs (zone_of x) (block_proof k)) (sym formed.blocking)
    (block_shuts p d (cut_rows p d [] b.cuts) x k found.0 r formed.kept.closed there found.1
    (subst (λ (row : Row). HasVariablesBelow (length p.spans) row.terms) (sym found.2) (formed.kept.closed.rows i r missed.there))
    (λ h. missed.missed r (subst (MeetsRow x) found.2 h)))

-- the plain proof holds for the cost of a feasible point
pub point_holds : (b : BlockedProgram) (x : List ℤ) → IsFormed b → Holds b.blocking (zone_of x) plain_proof (cost b.named.program x)
point_holds b x formed =
    let p : Program = b.named.program in
    let cuts : List Row = cut_rows p b.dec [] b.cuts in
    subst (λ (bs : Blocking). Holds bs (zone_of x) plain_proof (cost p x)) (sym formed.blocking)
    (plain_holds p (map full_row (proof_rows p b.dec cuts)) (blocking_of p b.dec cuts) x
    (decomposition_lem.adds_up p b.dec cuts formed.kept.closed (cuts_are_met_lem.closed p b.dec b.cuts)))
