-- Each block of a program in blocks keeps the limits of pricing.
use Rattle.std.proofs.Common.{◌≡◌, refl, sym, ap, subst, ◌∙◌, ℕ, zero, suc, ◌+◌, ◌*◌, ◌<◌, ◌≤◌, ◌^◌, max, Bool, true, false, if◌then◌else◌, List, [], ◌∷◌, ◌++◌, map, filter, length, get_or, arith, ⊎_elim}
use Rattle.std.proofs.Math.IntN.{pos}
use Rattle.std.specs.Prelude.{All, unsigned_abs, sum_by, Contains, Option}
use Rattle.std.specs.List.{range_with_len, AllZip, zip}
use Rattle.std.proofs.lemmas.Bool.{cases_lt}
use Rattle.std.proofs.lemmas.List.Sums.{sum_by-cons}
use Rattle.std.proofs.lemmas.List.{get_or-map, length-map, get_or_default}
use Rattle.std.proofs.lemmas.List.Elements.{All-contains, All-map}
use Rattle.std.proofs.lemmas.List.FromFn.{length-range_with_len}
use Rattle.bp_theory.specs.Program.{Program, span_at, reach, KeepsActivity}
use Rattle.bp_theory.specs.Blocking.{Copy, Block, StandsFor, Mirrors, AddsUp}
use Rattle.bp_theory.specs.Bound.{spans_of}
use Rattle.bp_theory.specs.Decomposition.{Decomposition, ProofRow, rows_of, members, is_in, is_first, is_block, copy_of, block_of, lone_block, proof_rows, full_row, row_with_places, HasVariablesBelow, blocking_of}
use Rattle.bp_theory.specs.Cuts.{cut_rows}
use Rattle.bp_theory.specs.declared.Span.{Span}
use Rattle.bp_theory.specs.declared.Term.{Term}
use Rattle.bp_theory.specs.declared.Row.{Row}
use Rattle.bp_theory.proofs.ZipLaws.{AllZip_at, AllZip-length}
use Rattle.bp_theory.proofs.DecompositionProof.{decomposition_lem, all_blocks}
use Rattle.bp_theory.proofs.CutProof.{cuts_are_met_lem}
use Rattle.bp_model.specs.Named.{HasSmallEnds}
use Rattle.block_program.specs.Blocked.{BlockedProgram, IsFormed}
use Rattle.pricing_problem.specs.Form.{term_size, HasShortEnds, IsForm}
use Rattle.pricing_problem.specs.Laws.{BlocksHaveForm}

-- ---- a block's spans and rows are few

filter_few : {X : Type 0} (q : X → Bool) (xs : List X) → length (filter q xs) ≤ length xs
filter_few q [] = omega arith
filter_few q (x ∷ xs) = by (q x) (filter_few q xs)
  where
    by : (b : Bool) → length (filter q xs) ≤ length xs → length (if b then x ∷ filter q xs else filter q xs) ≤ suc (length xs)
    by true rest = omega (arith, rest)
    by false rest = omega (arith, rest)

zip_few : {X Y : Type 0} (xs : List X) (ys : List Y) → length (zip xs ys) ≤ length xs
zip_few [] ys = omega arith
zip_few (x ∷ xs) [] = omega arith
zip_few (x ∷ xs) (y ∷ ys) = omega (arith, zip_few xs ys)

-- at most as many copies as variables, or one, and at most as many rows as the program has
abbrev pub IsFew : Program → Block → Type 0
IsFew p k = (length k.copies ≤ length p.spans + 1) × (length k.rows ≤ length p.rows)

few_parts : (p : Program) (d : Decomposition) (rows : List ProofRow) (k : ℕ) → IsFew p (block_of p d rows k)
few_parts p d rows k =
    let kept : List (Row × Option ℕ) = filter (λ (e : Row × Option ℕ). is_block k e.1) (zip p.rows d.places) in (
      omega (
        arith,
        length-map (members p d k) (λ v. copy_of p rows (is_first p d v k) v k),
        filter_few (λ v. is_in p d v k) (range_with_len 0 (length p.spans)),
        length-range_with_len 0 (length p.spans),
      ),
      omega (
        arith,
        length-map (rows_of p d k) (row_with_places (members p d k)),
        length-map kept (λ (e : Row × Option ℕ). e.0),
        filter_few (λ (e : Row × Option ℕ). is_block k e.1) (zip p.rows d.places),
        zip_few p.rows d.places,
      ),
    )

few_blocks : (p : Program) (d : Decomposition) (cuts : List Row) → All (IsFew p) (blocking_of p d cuts).blocks
few_blocks p d cuts = all_blocks p d (proof_rows p d cuts) (IsFew p) (few_parts p d (proof_rows p d cuts)) (λ v l. (omega arith, omega arith))

-- ---- its spans are the program's

short_at : (spans : List Span) → All HasSmallEnds spans → (v : ℕ) → HasShortEnds (span_at spans v)
short_at spans ends v = ⊎_elim
    (λ below. let e = ends v (record { lo = pos 0; hi = pos 0 }) below in record { lo = e.lo; hi = e.hi })
    (λ above. past spans v above)
    (cases_lt v (length spans))
  where
    past : (ss : List Span) (i : ℕ) → length ss ≤ i → HasShortEnds (span_at ss i)
    past [] i l = record { lo = omega arith; hi = omega arith }
    past (s ∷ ss) zero l = absurd (omega (arith, l))
    past (s ∷ ss) (suc i) l = past ss i (omega (arith, l))

-- ---- its rows are the program's

same_size : (spans : List Span) (k : Block) (t u : Term) → StandsFor k t u → term_size (spans_of spans k) t ≡ term_size spans u
same_size spans k t u h =
    let d : Copy = record { var = 0; cost = pos 0; coefs = [] } in
    let here : span_at (spans_of spans k) t.var ≡ span_at spans u.var =
    get_or-map (λ (c : Copy). span_at spans c.var) k.copies t.var d (record { lo = pos 0; hi = pos 0 }) h.there
    ∙ ap (span_at spans) (h.var d) in
    ap (λ s. unsigned_abs t.coef * reach s) here ∙ ap (λ z. unsigned_abs z * reach (span_at spans u.var)) h.coef

same_sizes : (spans : List Span) (k : Block) (ts us : List Term) → AllZip (StandsFor k) ts us
    → sum_by (term_size (spans_of spans k)) ts ≡ sum_by (term_size spans) us
same_sizes spans k [] [] h = refl
same_sizes spans k [] (u ∷ us) h = absurd h
same_sizes spans k (t ∷ ts) [] h = absurd h
same_sizes spans k (t ∷ ts) (u ∷ us) h = omega (
  arith,
  sum_by-cons (term_size (spans_of spans k)) t ts,
  sum_by-cons (term_size spans) u us,
  same_size spans k t u h.0,
  same_sizes spans k ts us h.1,
)

placed : (spans : List Span) (k : Block) (ts us : List Term) → AllZip (StandsFor k) ts us → HasVariablesBelow (length (spans_of spans k)) ts
placed spans k ts us h i t l =
    let s : StandsFor k (get_or ts i t) (get_or us i t) = AllZip_at (StandsFor k) ts us h i t t l in
    omega (arith, s.there, length-map k.copies (λ (c : Copy). span_at spans c.var))

-- ---- all together

form_of : (p : Program) (k : Block) → length p.spans ≤ 524288 → length p.rows ≤ 524288 → All HasSmallEnds p.spans → All (KeepsActivity p) p.rows
    → IsFew p k → All (λ row. (full : Row) × Contains p.rows full × Mirrors k row full) k.rows → IsForm k.rows (spans_of p.spans k)
form_of p k vars many ends small few mirrored =
    let wide : length (spans_of p.spans k) ≡ length k.copies = length-map k.copies (λ (c : Copy). span_at p.spans c.var) in
    record {
      few_spans = omega (arith, wide, few.0, vars);
      few_rows = omega (arith, few.1, many);
      ends = All-map HasShortEnds (λ (c : Copy). span_at p.spans c.var) k.copies (λ i c l. short_at p.spans ends (get_or k.copies i c).var);
      places = λ i row l. let m = mirrored i row l in placed p.spans k (get_or k.rows i row).terms m.0.terms m.2.terms;
      sizes = λ i row l.
          let m = mirrored i row l in
          let full : Row = m.0 in
          let kept : KeepsActivity p full = All-contains (KeepsActivity p) p.rows full small m.1 in
          let sums : sum_by (term_size (spans_of p.spans k)) (get_or k.rows i row).terms ≡ sum_by (term_size p.spans) full.terms =
          same_sizes p.spans k (get_or k.rows i row).terms full.terms m.2.terms in
          let lows : unsigned_abs (get_or k.rows i row).low ≡ unsigned_abs full.low = ap unsigned_abs m.2.low in
          let tops : unsigned_abs (get_or k.rows i row).rhs ≡ unsigned_abs full.rhs = ap unsigned_abs m.2.rhs in
          omega (arith, kept, sums, lows, tops);
    }

pub blocks_have_form_lem : BlocksHaveForm
blocks_have_form_lem b formed =
    let p : Program = b.named.program in
    let cuts : List Row = cut_rows p b.dec [] b.cuts in
    subst (λ (blocks : List Block). All (λ k. IsForm k.rows (spans_of p.spans k)) blocks) (sym (ap (λ c. c.blocks) formed.blocking))
    (λ i k l.
    let adds : AddsUp p (map full_row (proof_rows p b.dec cuts)) (blocking_of p b.dec cuts) =
    decomposition_lem.adds_up p b.dec cuts formed.kept.closed (cuts_are_met_lem.closed p b.dec b.cuts) in
    form_of p (get_or (blocking_of p b.dec cuts).blocks i k) formed.kept.variables formed.kept.rows formed.kept.ends formed.kept.row_activity
    (few_blocks p b.dec cuts i k l) (adds.mirrored i k l))
