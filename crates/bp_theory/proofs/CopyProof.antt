-- Copies of variables, and link rows.
use Rattle.std.proofs.Common.{◌≡◌, ◌≢◌, refl, sym, ap, subst, ◌∙◌, ℕ, suc, ◌+◌, ◌<◌, Bool, true, false, not, ◌||◌, List, [], ◌∷◌, map, length, get_or, Some, None, arith, inl, inr, ⊎_elim, length-append, zero-add}
use Rattle.std.proofs.Math.IntN.{pos}
use Rattle.std.specs.Prelude.{◌⊎◌, ◌==◌, if◌then◌else◌, All, Any, Contains}
use Rattle.std.specs.List.{range_with_len, list_any}
use Rattle.std.specs.List.Sorted.{IsStrictlyIncreasing}
use Rattle.std.proofs.lemmas.Bool.{cases_Bool}
use Rattle.std.proofs.lemmas.Bool.Decides.{eqb_tells}
use Rattle.std.proofs.lemmas.Int.{ints}
use Rattle.std.proofs.lemmas.List.{get_or_append_left, get_or-append-add, get_or-map, length-map}
use Rattle.std.proofs.lemmas.List.Folds.{Any-from_list_any}
use Rattle.std.proofs.lemmas.List.FromFn.{get_or-range_with_len, length-range_with_len, length-map-range_with_len, get_or-map-range_with_len}
use Rattle.std.proofs.lemmas.List.Kept.{IsStrictlyIncreasing-filter}
use Rattle.bp_theory.specs.Program.{Program, value_at, coefficient}
use Rattle.bp_theory.specs.Blocking.{Copy, Block, all_copies, coef_in}
use Rattle.bp_theory.specs.Decomposition.{Decomposition, ProofRow, no_row, proof_rows, full_row, stands_in, is_in, is_first, members, lone_variables, copy_of, block_of, lone_block, place_of, blocking_of, IsTidyFrom}
use Rattle.bp_theory.specs.Laws.{StandsWhereNonzero, CopiesOfEach, LinksCancel}
use Rattle.bp_theory.specs.declared.Term.{Term}
use Rattle.bp_theory.specs.declared.Sense.TheVariants.{Eq}
use Rattle.bp_theory.specs.declared.Row.{Row}
use Rattle.bp_theory.proofs.KeyLaws.{if_same, if_other, sum_of-same_keys}
use Rattle.bp_theory.proofs.DecompositionProof.{decomposition_lem, get_or-map_past, all_blocks, or_true, place_there, var_at_place, is_member, filtered_has}

-- ---- link rows

pub links_cancel_lem : LinksCancel
links_cancel_lem p d cuts x i v k closed closed_cuts e =
    let adds = decomposition_lem.adds_up p d cuts closed closed_cuts in
    let full : Row = record { sense = Eq; low = pos 0; rhs = pos 0; terms = [] } in
    let at : get_or (map full_row (proof_rows p d cuts)) i None ≡ Some full =
    get_or-map_past full_row (proof_rows p d cuts) i no_row ∙ ap full_row e in
    sum_of-same_keys (λ c. c.var) (λ c. coef_in c i) (λ t. t.var) (λ t. t.coef) (value_at x) (all_copies (blocking_of p d cuts)) full.terms
    (adds.coefs i full at)

-- ---- tidy rows

-- a variable before all terms doesn't stand and has no coefficient
before_all : (v n : ℕ) (terms : List Term) → IsTidyFrom n terms → v < n
    → (list_any (λ (t : Term). t.var == v) terms ≡ false) × (coefficient terms v ≡ pos 0)
before_all v n [] tidy l = (refl, refl)
before_all v n (t ∷ ts) tidy l =
    let rest = before_all v (suc t.var) ts tidy.2 (omega (arith, tidy.0)) in
    let apart : t.var ≡ v → ⊥ = λ e. omega (arith, tidy.0, e) in (
      ⊎_elim (λ same. absurd (apart same.1)) (λ other. ap (λ s. s || list_any (λ (u : Term). u.var == v) ts) other.0 ∙ rest.0) (eqb_tells t.var v),
      omega (arith, ints, if_other t.var v t.coef (pos 0) apart, rest.1),
    )

stands_by : (v n : ℕ) (terms : List Term) → IsTidyFrom n terms
    → ((list_any (λ (t : Term). t.var == v) terms ≡ true) × (coefficient terms v ≢ pos 0))
    ⊎ ((list_any (λ (t : Term). t.var == v) terms ≡ false) × (coefficient terms v ≡ pos 0))
stands_by v n [] tidy = inr (refl, refl)
stands_by v n (t ∷ ts) tidy = ⊎_elim
    (λ same. inl (
      ap (λ s. s || list_any (λ (u : Term). u.var == v) ts) same.0,
      λ zero'. tidy.1 (omega (
        arith,
        ints,
        zero',
        if_same t.var v t.coef (pos 0) same.1,
        (before_all v (suc t.var) ts tidy.2 (omega (arith, same.1))).1,
      )),
    ))
    (λ other.
    let head : (if t.var == v then t.coef else pos 0) ≡ pos 0 = if_other t.var v t.coef (pos 0) other.1 in
    ⊎_elim
    (λ h. inl (
      or_true (t.var == v) (list_any (λ (u : Term). u.var == v) ts) h.0,
      λ zero'. h.1 (omega (arith, ints, zero', head)),
    ))
    (λ h. inr (
      ap (λ s. s || list_any (λ (u : Term). u.var == v) ts) other.0 ∙ h.0,
      omega (arith, ints, head, h.1),
    ))
    (stands_by v (suc t.var) ts tidy.2))
    (eqb_tells t.var v)

pub stands_where_nonzero_lem : StandsWhereNonzero
stands_where_nonzero_lem row v tidy = (
  (λ stands. ⊎_elim (λ h. h.1) (λ h. absurd (clash (stands_in v row) stands h.0)) (stands_by v 0 row.terms tidy)),
  (λ nonzero. ⊎_elim (λ h. h.0) (λ h. absurd (nonzero h.1)) (stands_by v 0 row.terms tidy)),
)
  where
    clash : (t : Bool) → t ≡ true → t ≡ false → ⊥
    clash t a b = absurd (cc)

-- ---- copies

increasing_range : (a n : ℕ) → IsStrictlyIncreasing (range_with_len a n)
increasing_range a n k l =
    let short : length (range_with_len a n) ≡ n = length-range_with_len a n in
    omega (arith, get_or-range_with_len a n k 0 (omega (arith, l, short)), get_or-range_with_len a n (k + 1) 0 (omega (arith, l, short)))

vars_of_copies : (p : Program) (rows : List ProofRow) (first : ℕ → Bool) (k : ℕ) (vs : List ℕ)
    → map (λ (c : Copy). c.var) (map (λ v. copy_of p rows (first v) v k) vs) ≡ vs
vars_of_copies p rows first k [] = refl
vars_of_copies p rows first k (v ∷ vs) = ap (λ us. v ∷ us) (vars_of_copies p rows first k vs)

copies_ascend : (p : Program) (d : Decomposition) (cuts : List Row)
    → All (λ (b : Block). IsStrictlyIncreasing (map (λ (c : Copy). c.var) b.copies)) (blocking_of p d cuts).blocks
copies_ascend p d cuts =
    let rows : List ProofRow = proof_rows p d cuts in
    all_blocks p d rows (λ (b : Block). IsStrictlyIncreasing (map (λ (c : Copy). c.var) b.copies))
    (λ k. subst IsStrictlyIncreasing (sym (vars_of_copies p rows (λ v. is_first p d v k) k (members p d k)))
    (IsStrictlyIncreasing-filter (λ v. is_in p d v k) (range_with_len 0 (length p.spans)) (increasing_range 0 (length p.spans))))
    (λ v l k m. absurd (omega arith))

-- the place of a number in a list that has it
contains_at : (vs : List ℕ) (v : ℕ) → list_any (λ u. u == v) vs ≡ true → Contains vs v
contains_at vs v e = (place_of vs v, place_there vs v e, var_at_place vs v e v)

held : (p : Program) (d : Decomposition) (cuts : List Row) (v : ℕ) → v < length p.spans
    → list_any (is_in p d v) (range_with_len 0 d.blocks) ≡ true
    → Any (λ (b : Block). Contains (map (λ (c : Copy). c.var) b.copies) v) (blocking_of p d cuts).blocks
held p d cuts v l e =
    let rows : List ProofRow = proof_rows p d cuts in
    let first : List Block = map (block_of p d rows) (range_with_len 0 d.blocks) in
    let second : List Block = map (lone_block p d rows) (lone_variables p d) in
    let short : length first ≡ d.blocks = length-map-range_with_len (block_of p d rows) 0 d.blocks in
    let found = Any-from_list_any (is_in p d v) (range_with_len 0 d.blocks) e in
    let k : ℕ = found.0 in
    let below : k < d.blocks = omega (arith, found.2, length-range_with_len 0 d.blocks) in
    let same : found.1 ≡ k = sym found.3 ∙ get_or-range_with_len 0 d.blocks k found.1 below ∙ zero-add k in
    let there : is_in p d v k ≡ true = ap (is_in p d v) (sym same) ∙ found.4 in
    let b : Block = block_of p d rows k in (
      k,
      b,
      omega (arith, below, short, length-append first second),
      get_or_append_left first second b k (omega (arith, below, short))
          ∙ get_or-map-range_with_len (block_of p d rows) 0 d.blocks k k b below (omega arith),
      subst (λ vs. Contains vs v) (sym (vars_of_copies p rows (λ u. is_first p d u k) k (members p d k)))
          (contains_at (members p d k) v (is_member p d k v l there)),
    )

alone : (p : Program) (d : Decomposition) (cuts : List Row) (v : ℕ) → v < length p.spans
    → list_any (is_in p d v) (range_with_len 0 d.blocks) ≡ false
    → Any (λ (b : Block). Contains (map (λ (c : Copy). c.var) b.copies) v) (blocking_of p d cuts).blocks
alone p d cuts v l e =
    let rows : List ProofRow = proof_rows p d cuts in
    let first : List Block = map (block_of p d rows) (range_with_len 0 d.blocks) in
    let second : List Block = map (lone_block p d rows) (lone_variables p d) in
    let short : length first ≡ d.blocks = length-map-range_with_len (block_of p d rows) 0 d.blocks in
    let has : list_any (λ u. u == v) (lone_variables p d) ≡ true =
    filtered_has (λ u. is_first p d u d.blocks) v 0 (length p.spans) (omega arith) (omega arith) (ap not e) in
    let j : ℕ = place_of (lone_variables p d) v in
    let below : j < length (lone_variables p d) = place_there (lone_variables p d) v has in
    let b : Block = lone_block p d rows v in
    let long : length second ≡ length (lone_variables p d) = length-map (lone_variables p d) (lone_block p d rows) in (
      length first + j,
      b,
      omega (arith, below, long, length-append first second),
      get_or-append-add first second j b
          ∙ get_or-map (lone_block p d rows) (lone_variables p d) j v b below
          ∙ ap (lone_block p d rows) (var_at_place (lone_variables p d) v has v),
      (0, omega arith, refl),
    )

some_copy : (p : Program) (d : Decomposition) (cuts : List Row) (v : ℕ) → v < length p.spans
    → Any (λ (b : Block). Contains (map (λ (c : Copy). c.var) b.copies) v) (blocking_of p d cuts).blocks
some_copy p d cuts v l = ⊎_elim (held p d cuts v l) (alone p d cuts v l) (cases_Bool (list_any (is_in p d v) (range_with_len 0 d.blocks)))

pub copies_of_each_lem : CopiesOfEach
copies_of_each_lem = record { ascend = copies_ascend; there = some_copy }
