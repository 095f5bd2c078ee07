-- A feasible point with the numbers of two blocks changed is feasible and costs as much.
use Rattle.std.proofs.Common.{◌≡◌, ◌≢◌, ◌⊎◌, refl, sym, ap, subst, ◌∙◌, ℕ, zero, suc, ◌<◌, true, List, [], ◌∷◌, map, length, get_or, Option, Some, None, arith, inl, inr, ⊎_elim}
use Rattle.std.proofs.Math.IntN.{ℤ, pos, ◌+ℤ◌, ◌*ℤ◌}
use Rattle.std.specs.Prelude.{All, Contains}
use Rattle.std.specs.List.{AllByRecursion}
use Rattle.std.proofs.lemmas.Bool.{cases_lt}
use Rattle.std.proofs.lemmas.Bool.Decides.{eqb_tells}
use Rattle.std.proofs.lemmas.Int.{ints}
use Rattle.std.proofs.lemmas.List.{get_or_past, length-map}
use Rattle.std.proofs.lemmas.List.Elements.{All-contains, recursion_from_All}
use Rattle.bp_theory.specs.Sums.{sum_of, dot}
use Rattle.bp_theory.specs.Program.{Program, IsFeasible, IsInside, IsWithin, Meets, MeetsRow, activity, cost, value_at, span_at}
use Rattle.bp_theory.specs.Blocking.{Copy, Block, Blocking, AddsUp, IsFaithful, Mirrors, coef_in, restriction, all_copies}
use Rattle.bp_theory.specs.Classes.{IsSame}
use Rattle.bp_theory.specs.declared.Span.{Span}
use Rattle.bp_theory.specs.declared.Term.{Term}
use Rattle.bp_theory.specs.declared.Row.{Row}
use Rattle.bp_theory.proofs.KeyLaws.{sum_of-same_keys}
use Rattle.bp_theory.proofs.FaithProof.{activity_of_places}
use Rattle.bp_theory.proofs.ZipLaws.{AllZip_at, AllZip-length, AllZip-from_places}
use Rattle.search_laws.specs.Spread.{block_at, HasEachRow}
use Rattle.stronger_laws.specs.Alike.{variables_of, HasDistinctVariables, stands_alone}
use Rattle.stronger_laws.proofs.SwapProof.{partner, partner_keeps, AreApart, distinct_at, alone_apart, apart_back, partners_of_first, partners_of_second, partners_of_other, swapped, length-swapped, swapped_at, swapped_numbers, restriction_by, copies_by_block, swapped_sum, fused}

-- two blocks whose numbers can change places
pub record CanSwap (b : Blocking) (zone : List Span) (j k : ℕ) : Type 0 where
  pub first : j < length b.blocks
  pub second : k < length b.blocks
  pub others : k ≢ j
  pub alone_first : stands_alone b j ≡ true
  pub alone_second : stands_alone b k ≡ true
  pub alike : IsSame zone (block_at b j) (block_at b k)
  pub distinct : HasDistinctVariables b

abbrev pub after_swap : Blocking → ℕ → ℕ → List ℤ → List ℤ
after_swap b j k x = swapped (variables_of (block_at b j)) (variables_of (block_at b k)) x

-- a default is not read within a list
pub any_default : {X : Type 0} (xs : List X) (k : ℕ) (d e : X) → k < length xs → get_or xs k d ≡ get_or xs k e
any_default [] k d e l = absurd (omega arith)
any_default (x ∷ xs) zero d e l = refl
any_default (x ∷ xs) (suc k) d e l = any_default xs k d e (omega (arith, l))

-- as many variables
pub as_many : (zone : List Span) (k l : Block) → IsSame zone k l → length (variables_of k) ≡ length (variables_of l)
as_many zone k l alike =
    omega (
      arith,
      ap (length {A = ℤ}) alike.costs,
      length-map k.copies (λ (c : Copy). c.cost),
      length-map l.copies (λ (c : Copy). c.cost),
      length-map k.copies (λ (c : Copy). c.var),
      length-map l.copies (λ (c : Copy). c.var),
    )

-- the variables of a block are those of a point
known_at : (p : Program) (b : Blocking) (x : List ℤ) (k : ℕ) → IsFaithful p b → IsFeasible p x → k < length b.blocks
    → AllByRecursion (λ v. v < length x) (variables_of (block_at b k))
known_at p b x k faithful feasible l =
    weaken (block_at b k).copies
    (recursion_from_All (λ (c : Copy). c.var < length p.spans) (block_at b k).copies (faithful.known k (record { copies = []; rows = [] }) l))
  where
    weaken : (cs : List Copy) → AllByRecursion (λ (c : Copy). c.var < length p.spans) cs → AllByRecursion (λ v. v < length x) (map (λ (c : Copy). c.var) cs)
    weaken [] h = tt
    weaken (c ∷ cs) h = (omega (arith, h.0, AllZip-length IsWithin p.spans x feasible.inside), weaken cs h.1)

pub first_apart : (b : Blocking) (zone : List Span) (j k : ℕ) → CanSwap b zone j k
    → AreApart (variables_of (block_at b j)) (variables_of (block_at b k))
first_apart b zone j k can = alone_apart b j k can.second can.others can.alone_first

-- the partners of the first block's variables
pub partners_there : (b : Blocking) (zone : List Span) (j k : ℕ) → CanSwap b zone j k
    → map (partner (variables_of (block_at b j)) (variables_of (block_at b k))) (variables_of (block_at b j)) ≡ variables_of (block_at b k)
partners_there b zone j k can =
    partners_of_first (variables_of (block_at b j)) (variables_of (block_at b k)) (as_many zone (block_at b j) (block_at b k) can.alike)
    (distinct_at b j can.first can.distinct) (first_apart b zone j k can)

-- ---- restrictions

restriction_first : (p : Program) (b : Blocking) (zone : List Span) (j k : ℕ) (x : List ℤ) → IsFaithful p b → IsFeasible p x → CanSwap b zone j k
    → restriction (after_swap b j k x) (block_at b j) ≡ restriction x (block_at b k)
restriction_first p b zone j k x faithful feasible can =
    let us : List ℕ = variables_of (block_at b j) in
    let ws : List ℕ = variables_of (block_at b k) in
    restriction_by (after_swap b j k x) (block_at b j)
    ∙ swapped_numbers us ws x us ws (known_at p b x j faithful feasible can.first) (partners_there b zone j k can)
    ∙ sym (restriction_by x (block_at b k))

restriction_second : (p : Program) (b : Blocking) (zone : List Span) (j k : ℕ) (x : List ℤ) → IsFaithful p b → IsFeasible p x → CanSwap b zone j k
    → restriction (after_swap b j k x) (block_at b k) ≡ restriction x (block_at b j)
restriction_second p b zone j k x faithful feasible can =
    let us : List ℕ = variables_of (block_at b j) in
    let ws : List ℕ = variables_of (block_at b k) in
    restriction_by (after_swap b j k x) (block_at b k)
    ∙ swapped_numbers us ws x ws us (known_at p b x k faithful feasible can.second)
    (partners_of_second us ws (as_many zone (block_at b j) (block_at b k) can.alike) (distinct_at b k can.second can.distinct) (first_apart b zone j k can))
    ∙ sym (restriction_by x (block_at b j))

restriction_other : (p : Program) (b : Blocking) (zone : List Span) (j k : ℕ) (x : List ℤ) → IsFaithful p b → IsFeasible p x → CanSwap b zone j k
    → (i : ℕ) → i < length b.blocks → i ≢ j → i ≢ k → restriction (after_swap b j k x) (block_at b i) ≡ restriction x (block_at b i)
restriction_other p b zone j k x faithful feasible can i l n m =
    let us : List ℕ = variables_of (block_at b j) in
    let ws : List ℕ = variables_of (block_at b k) in
    let vs : List ℕ = variables_of (block_at b i) in
    restriction_by (after_swap b j k x) (block_at b i)
    ∙ swapped_numbers us ws x vs vs (known_at p b x i faithful feasible l)
    (partners_of_other us ws vs (apart_back us vs (alone_apart b j i l n can.alone_first)) (apart_back ws vs (alone_apart b k i l m can.alone_second)))
    ∙ sym (restriction_by x (block_at b i))

-- ---- sums over all copies stay

copies_stay : (p : Program) (b : Blocking) (zone : List Span) (j k : ℕ) (x : List ℤ) → IsFaithful p b → IsFeasible p x → CanSwap b zone j k
    → (f : Copy → ℤ) → map f (block_at b j).copies ≡ map f (block_at b k).copies
    → sum_of (λ c. f c *ℤ value_at (after_swap b j k x) c.var) (all_copies b) ≡ sum_of (λ c. f c *ℤ value_at x c.var) (all_copies b)
copies_stay p b zone j k x faithful feasible can f same =
    let y : List ℤ = after_swap b j k x in
    copies_by_block b y f
    ∙ swapped_sum (λ i. dot (map f (block_at b i).copies) (restriction y (block_at b i))) (λ i. dot (map f (block_at b i).copies) (restriction x (block_at b i)))
    j k (length b.blocks) can.first can.second (λ e. can.others (sym e))
    (ap (λ zs. dot zs (restriction y (block_at b j))) same ∙ ap (dot (map f (block_at b k).copies)) (restriction_first p b zone j k x faithful feasible can))
    (ap (λ zs. dot zs (restriction y (block_at b k))) (sym same) ∙ ap (dot (map f (block_at b j).copies)) (restriction_second p b zone j k x faithful feasible can))
    (λ i l n m. ap (dot (map f (block_at b i).copies)) (restriction_other p b zone j k x faithful feasible can i l n m))
    ∙ sym (copies_by_block b x f)

pub cost_stays : (p : Program) (rows : List (Option Row)) (b : Blocking) (zone : List Span) (j k : ℕ) (x : List ℤ) → IsFaithful p b → AddsUp p rows b
    → IsFeasible p x → CanSwap b zone j k → cost p (after_swap b j k x) ≡ cost p x
cost_stays p rows b zone j k x faithful adds feasible can =
    let y : List ℤ = after_swap b j k x in
    ap (λ z. p.constant +ℤ z)
    (sym (sum_of-same_keys (λ (c : Copy). c.var) (λ c. c.cost) (λ (t : Term). t.var) (λ t. t.coef) (value_at y) (all_copies b) p.costs adds.costs)
    ∙ copies_stay p b zone j k x faithful feasible can (λ c. c.cost) can.alike.costs
    ∙ sum_of-same_keys (λ (c : Copy). c.var) (λ c. c.cost) (λ (t : Term). t.var) (λ t. t.coef) (value_at x) (all_copies b) p.costs adds.costs)

activity_stays : (p : Program) (rows : List (Option Row)) (b : Blocking) (zone : List Span) (j k : ℕ) (x : List ℤ) → IsFaithful p b → AddsUp p rows b
    → IsFeasible p x → CanSwap b zone j k → (i : ℕ) (full : Row) → get_or rows i None ≡ Some full
    → activity full.terms x ≡ activity full.terms (after_swap b j k x)
activity_stays p rows b zone j k x faithful adds feasible can i full named =
    let y : List ℤ = after_swap b j k x in
    sym (sum_of-same_keys (λ (c : Copy). c.var) (λ c. coef_in c i) (λ (t : Term). t.var) (λ t. t.coef) (value_at x) (all_copies b) full.terms (adds.coefs i full named))
    ∙ sym (copies_stay p b zone j k x faithful feasible can (λ c. coef_in c i) (can.alike.coefs i))
    ∙ sum_of-same_keys (λ (c : Copy). c.var) (λ c. coef_in c i) (λ (t : Term). t.var) (λ t. t.coef) (value_at y) (all_copies b) full.terms (adds.coefs i full named)

-- ---- rows of blocks

block_rows : (p : Program) (b : Blocking) (x : List ℤ) (i : ℕ) → IsFaithful p b → IsFeasible p x → i < length b.blocks
    → All (MeetsRow (restriction x (block_at b i))) (block_at b i).rows
block_rows p b x i faithful feasible l = faithful.points x feasible i (record { copies = []; rows = [] }) l

swapped_rows : (p : Program) (b : Blocking) (zone : List Span) (j k : ℕ) (x : List ℤ) → IsFaithful p b → IsFeasible p x → CanSwap b zone j k
    → (i : ℕ) → i < length b.blocks → All (MeetsRow (restriction (after_swap b j k x) (block_at b i))) (block_at b i).rows
swapped_rows p b zone j k x faithful feasible can i l = ⊎_elim
    (λ same. subst (λ n. All (MeetsRow (restriction (after_swap b j k x) (block_at b n))) (block_at b n).rows) (sym same.1) first)
    (λ n. ⊎_elim
    (λ same. subst (λ n. All (MeetsRow (restriction (after_swap b j k x) (block_at b n))) (block_at b n).rows) (sym same.1) second)
    (λ m. subst (λ y. All (MeetsRow y) (block_at b i).rows) (sym (restriction_other p b zone j k x faithful feasible can i l n.1 m.1))
    (block_rows p b x i faithful feasible l))
    (eqb_tells i k))
    (eqb_tells i j)
  where
    first : All (MeetsRow (restriction (after_swap b j k x) (block_at b j))) (block_at b j).rows
    first =
        subst (λ y. All (MeetsRow y) (block_at b j).rows) (sym (restriction_first p b zone j k x faithful feasible can))
        (subst (λ (rs : List Row). All (MeetsRow (restriction x (block_at b k))) rs) (sym can.alike.rows) (block_rows p b x k faithful feasible can.second))

    second : All (MeetsRow (restriction (after_swap b j k x) (block_at b k))) (block_at b k).rows
    second =
        subst (λ y. All (MeetsRow y) (block_at b k).rows) (sym (restriction_second p b zone j k x faithful feasible can))
        (subst (λ (rs : List Row). All (MeetsRow (restriction x (block_at b j))) rs) can.alike.rows (block_rows p b x j faithful feasible can.first))

-- a row whose mirror is met is met
mirrors_back : (k : Block) (row full : Row) (x : List ℤ) → Mirrors k row full → MeetsRow (restriction x k) row → MeetsRow x full
mirrors_back k row full x mirrors meets =
    subst (λ a. Meets full.sense full.low full.rhs a) (activity_of_places k x row.terms full.terms mirrors.terms)
    (subst (λ h. Meets full.sense full.low h (activity row.terms (restriction x k))) mirrors.rhs
    (subst (λ l. Meets full.sense l row.rhs (activity row.terms (restriction x k))) mirrors.low
    (subst (λ s. Meets s row.low row.rhs (activity row.terms (restriction x k))) mirrors.sense meets)))

-- ---- the zone

-- a point's numbers lie within the spans of a zone, those of no variable too
pub within_anywhere : (zone : List Span) (x : List ℤ) → IsInside zone x → (v : ℕ) → IsWithin (span_at zone v) (value_at x v)
within_anywhere zone x inside v = ⊎_elim
    (λ l. AllZip_at IsWithin zone x inside v (record { lo = pos 0; hi = pos 0 }) (pos 0) l)
    (λ past.
    let none : Span = record { lo = pos 0; hi = pos 0 } in
    subst (λ (s : Span). IsWithin s (value_at x v)) (sym (get_or_past zone v none past))
    (subst (λ z. IsWithin none z) (sym (get_or_past x v (pos 0) (omega (arith, past, AllZip-length IsWithin zone x inside))))
    (record { above = omega (arith, ints); below = omega (arith, ints) })))
    (cases_lt v (length zone))

pub zone_stays : (b : Blocking) (zone : List Span) (j k : ℕ) (x : List ℤ) → CanSwap b zone j k → IsInside zone x → IsInside zone (after_swap b j k x)
zone_stays b zone j k x can inside =
    let us : List ℕ = variables_of (block_at b j) in
    let ws : List ℕ = variables_of (block_at b k) in
    let long : length zone ≡ length x = AllZip-length IsWithin zone x inside in
    let spans : map (span_at zone) us ≡ map (span_at zone) ws =
    sym (fused (span_at zone) (λ (c : Copy). c.var) (block_at b j).copies) ∙ can.alike.spans ∙ fused (span_at zone) (λ (c : Copy). c.var) (block_at b k).copies in
    AllZip-from_places IsWithin zone (after_swap b j k x) (long ∙ sym (length-swapped us ws x))
    (λ v d e l.
    let u : ℕ = partner us ws v in
    subst (λ (s : Span). IsWithin s (get_or (after_swap b j k x) v e))
    (partner_keeps (span_at zone) us ws spans v ∙ any_default zone v (record { lo = pos 0; hi = pos 0 }) d l)
    (subst (λ z. IsWithin (span_at zone u) z) (sym (swapped_at us ws x v e (omega (arith, l, long)))) (within_anywhere zone x inside u)))

-- ---- the point is feasible

pub swap_is_feasible : (p : Program) (rows : List (Option Row)) (b : Blocking) (zone : List Span) (j k : ℕ) (x : List ℤ)
    → IsFaithful p b → AddsUp p rows b → HasEachRow p rows b → ((y : List ℤ) → IsInside zone y → IsInside p.spans y)
    → CanSwap b zone j k → IsFeasible p x → IsInside zone x → IsFeasible p (after_swap b j k x)
swap_is_feasible p rows b zone j k x faithful adds has inner can feasible inside = record {
  inside = inner (after_swap b j k x) (zone_stays b zone j k x can inside);
  rows = λ i d l. by i d l (has.placed i d l);
}
  where
    by : (i : ℕ) (d : Row) → i < length p.rows
        → ((m : ℕ) × (row : Row) × (m < length b.blocks) × Contains (block_at b m).rows row × Mirrors (block_at b m) row (get_or p.rows i d))
        ⊎ (get_or rows i None ≡ Some (get_or p.rows i d))
        → MeetsRow (after_swap b j k x) (get_or p.rows i d)
    by i d l (inl found) =
        mirrors_back (block_at b found.0) found.1 (get_or p.rows i d) (after_swap b j k x) found.4
        (All-contains (MeetsRow (restriction (after_swap b j k x) (block_at b found.0))) (block_at b found.0).rows found.1
        (swapped_rows p b zone j k x faithful feasible can found.0 found.2) found.3)
    by i d l (inr named) =
        let full : Row = get_or p.rows i d in
        subst (λ a. Meets full.sense full.low full.rhs a) (activity_stays p rows b zone j k x faithful adds feasible can i full named) (feasible.rows i d l)
