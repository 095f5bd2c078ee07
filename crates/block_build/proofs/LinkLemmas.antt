-- The coefficients of copies in the rows that proofs may name.
use Rattle.std.proofs.Common.{◌≡◌, ◌≢◌, ℕ, zero, suc, ◌+◌, ◌<◌, Bool, true, false, not, if◌then◌else◌, List, [], ◌∷◌, ◌++◌, map, filter, drop, length, get_or, Option, Some, None, refl, sym, ap, subst, ◌∙◌, ⊎_elim, arith, add-one}
use Rattle.std.specs.Prelude.{ℤ, pos, negsuc, ◌==◌, ◌-ℤ◌}
use Rattle.std.specs.List.{AllByRecursion, flat_map, enumerate_from}
use Rattle.std.specs.Ordering.{int_eq}
use Rattle.std.proofs.lemmas.Bool.Decides.{eqb_tells}
use Rattle.std.proofs.lemmas.List.{map-append}
use Rattle.bp_theory.specs.Program.{coefficient}
use Rattle.bp_theory.specs.Decomposition.{whole_row, link_row, proof_row, copy_coefficient, at_first, IsTidyFrom}
use Rattle.bp_theory.specs.declared.Row.{Row}
use Rattle.bp_theory.proofs.DecompositionProof.{eqb_itself}
use Rattle.block_program.proofs.NamedRows.{own_rows}
use Rattle.block_build.specs.Columns.{row_entries, column_from}
use Rattle.block_build.specs.Gather.{coefs_from, master_coefficient}
use Rattle.block_build.specs.Homes.{link_entries}
use Rattle.block_build.proofs.ColumnLemmas.{one_entry}

-- ---- numbered lists from a number on

-- the numbers that aren't 0, with their places from a number on
abbrev pub numbered_from : ℕ → List ℤ → List (ℕ × ℤ)
numbered_from a zs = filter (λ (e : ℕ × ℤ). not (int_eq e.1 (pos 0))) (enumerate_from a zs)

pub numbered_append : (a : ℕ) (xs ys : List ℤ) → numbered_from a (xs ++ ys) ≡ numbered_from a xs ++ numbered_from (a + length xs) ys
numbered_append a [] ys = ap (λ n. numbered_from n ys) (let e : a ≡ a + 0 = omega arith in e)
numbered_append a (x ∷ xs) ys =
    by (int_eq x (pos 0))
    (numbered_append (a + 1) xs ys ∙ ap (λ n. numbered_from (a + 1) xs ++ numbered_from n ys) (let e : (a + 1) + length xs ≡ a + suc (length xs) = omega arith in e))
  where
    by : (b : Bool) → numbered_from (a + 1) (xs ++ ys) ≡ numbered_from (a + 1) xs ++ numbered_from (a + suc (length xs)) ys
        → (if not b then (a, x) ∷ numbered_from (a + 1) (xs ++ ys) else numbered_from (a + 1) (xs ++ ys))
        ≡ (if not b then (a, x) ∷ numbered_from (a + 1) xs else numbered_from (a + 1) xs) ++ numbered_from (a + suc (length xs)) ys
    by true rest = rest
    by false rest = ap (λ (es : List (ℕ × ℤ)). (a, x) ∷ es) rest

pub numbered_zeros : (a : ℕ) (zs : List ℤ) → AllByRecursion (λ z. z ≡ pos 0) zs → numbered_from a zs ≡ []
numbered_zeros a [] h = refl
numbered_zeros a (z ∷ zs) h =
    ap (λ b. if not b then (a, z) ∷ numbered_from (a + 1) zs else numbered_from (a + 1) zs) (ap (λ y. int_eq y (pos 0)) h.0)
    ∙ numbered_zeros (a + 1) zs h.1

zeros_append : (xs ys : List ℤ) → AllByRecursion (λ z. z ≡ pos 0) xs → AllByRecursion (λ z. z ≡ pos 0) ys → AllByRecursion (λ z. z ≡ pos 0) (xs ++ ys)
zeros_append [] ys h g = g
zeros_append (x ∷ xs) ys h g = (h.0, zeros_append xs ys h.1 g)

-- ---- the program's rows

-- the rows of proofs that are the program's
head_coefficient : (v k : ℕ) (row : Row) (place : Option ℕ) → copy_coefficient true v k (proof_row row place) ≡ master_coefficient v row place
head_coefficient v k row None = refl
head_coefficient v k row (Some j) = refl

-- the coefficients of a first copy
pub own_first : (v k i : ℕ) (rows : List Row) (places : List (Option ℕ))
    → numbered_from i (map (copy_coefficient true v k) (own_rows rows places)) ≡ coefs_from v i rows places
own_first v k i [] places = refl
own_first v k i (row ∷ rows) [] = refl
own_first v k i (row ∷ rows) (place ∷ places) =
    ap (λ z. numbered_from i (z ∷ map (copy_coefficient true v k) (own_rows rows places))) (head_coefficient v k row place)
    ∙ by (int_eq (master_coefficient v row place) (pos 0))
    ∙ ap (λ rest. if int_eq (master_coefficient v row place) (pos 0) then rest else (i, master_coefficient v row place) ∷ rest)
    (ap (λ n. numbered_from n (map (copy_coefficient true v k) (own_rows rows places))) (add-one i) ∙ own_first v k (suc i) rows places)
  where
    rest : List (ℕ × ℤ)
    rest = numbered_from (i + 1) (map (copy_coefficient true v k) (own_rows rows places))

    by : (b : Bool) → (if not b then (i, master_coefficient v row place) ∷ rest else rest) ≡ (if b then rest else (i, master_coefficient v row place) ∷ rest)
    by true = refl
    by false = refl

own_zeros : (v k : ℕ) (rows : List Row) (places : List (Option ℕ))
    → AllByRecursion (λ z. z ≡ pos 0) (map (copy_coefficient false v k) (own_rows rows places))
own_zeros v k [] places = tt
own_zeros v k (row ∷ rows) [] = tt
own_zeros v k (row ∷ rows) (None ∷ places) = (refl, own_zeros v k rows places)
own_zeros v k (row ∷ rows) (Some j ∷ places) = (refl, own_zeros v k rows places)

-- a further copy has none
pub own_further : (v k i : ℕ) (rows : List Row) (places : List (Option ℕ)) → numbered_from i (map (copy_coefficient false v k) (own_rows rows places)) ≡ []
own_further v k i rows places = numbered_zeros i (map (copy_coefficient false v k) (own_rows rows places)) (own_zeros v k rows places)

-- ---- cuts

pub cuts_first : (v k a : ℕ) (cuts : List Row) → AllByRecursion (λ (row : Row). IsTidyFrom 0 row.terms) cuts
    → numbered_from a (map (copy_coefficient true v k) (map whole_row cuts)) ≡ column_from a cuts v
cuts_first v k a [] h = refl
cuts_first v k a (cut ∷ cuts) h =
    by (int_eq (coefficient cut.terms v) (pos 0)) (one_entry a v 0 cut.terms h.0)
    (ap (λ n. numbered_from n (map (copy_coefficient true v k) (map whole_row cuts))) (add-one a) ∙ cuts_first v k (suc a) cuts h.1)
  where
    by : (b : Bool) → row_entries a v cut.terms ≡ (if b then [] else (a, coefficient cut.terms v) ∷ [])
        → numbered_from (a + 1) (map (copy_coefficient true v k) (map whole_row cuts)) ≡ column_from (suc a) cuts v
        → (if not b then (a, coefficient cut.terms v) ∷ numbered_from (a + 1) (map (copy_coefficient true v k) (map whole_row cuts))
        else numbered_from (a + 1) (map (copy_coefficient true v k) (map whole_row cuts)))
        ≡ row_entries a v cut.terms ++ column_from (suc a) cuts v
    by true own rest = rest ∙ ap (λ (es : List (ℕ × ℤ)). es ++ column_from (suc a) cuts v) (sym own)
    by false own rest = ap (λ (es : List (ℕ × ℤ)). (a, coefficient cut.terms v) ∷ es) rest ∙ ap (λ (es : List (ℕ × ℤ)). es ++ column_from (suc a) cuts v) (sym own)

cut_zeros : (v k : ℕ) (cuts : List Row) → AllByRecursion (λ z. z ≡ pos 0) (map (copy_coefficient false v k) (map whole_row cuts))
cut_zeros v k [] = tt
cut_zeros v k (cut ∷ cuts) = (refl, cut_zeros v k cuts)

pub cuts_further : (v k a : ℕ) (cuts : List Row) → numbered_from a (map (copy_coefficient false v k) (map whole_row cuts)) ≡ []
cuts_further v k a cuts = numbered_zeros a (map (copy_coefficient false v k) (map whole_row cuts)) (cut_zeros v k cuts)

-- ---- link rows of other variables

other_link : (first : Bool) (v k w j : ℕ) → w ≢ v → copy_coefficient first v k (link_row w j) ≡ pos 0
other_link first v k w j apart = ⊎_elim
    (λ same. absurd (apart same.1))
    (λ other. ap (λ b. if b then at_first first (pos 1) -ℤ (if k == j then pos 1 else pos 0) else pos 0) other.0)
    (eqb_tells w v)

other_zeros : (first : Bool) (v k w : ℕ) (ks : List ℕ) → w ≢ v → AllByRecursion (λ z. z ≡ pos 0) (map (copy_coefficient first v k) (map (link_row w) ks))
other_zeros first v k w [] apart = tt
other_zeros first v k w (j ∷ ks) apart = (other_link first v k w j apart, other_zeros first v k w ks apart)

-- the links of variables that aren't this one
pub others_zeros : (first : Bool) (v k : ℕ) (homes : ℕ → List ℕ) (ws : List ℕ) → AllByRecursion (λ w. w ≢ v) ws
    → AllByRecursion (λ z. z ≡ pos 0) (map (copy_coefficient first v k) (flat_map (λ w. map (link_row w) (drop 1 (homes w))) ws))
others_zeros first v k homes [] h = tt
others_zeros first v k homes (w ∷ ws) h =
    subst (AllByRecursion (λ z. z ≡ pos 0))
    (sym (map-append (copy_coefficient first v k) (map (link_row w) (drop 1 (homes w))) (flat_map (λ u. map (link_row u) (drop 1 (homes u))) ws)))
    (zeros_append (map (copy_coefficient first v k) (map (link_row w) (drop 1 (homes w))))
    (map (copy_coefficient first v k) (flat_map (λ u. map (link_row u) (drop 1 (homes u))) ws))
    (other_zeros first v k w (drop 1 (homes w)) h.0) (others_zeros first v k homes ws h.1))

-- ---- a variable's own link rows

own_link : (first : Bool) (v k j : ℕ) → copy_coefficient first v k (link_row v j) ≡ at_first first (pos 1) -ℤ (if k == j then pos 1 else pos 0)
own_link first v k j = ap (λ b. if b then at_first first (pos 1) -ℤ (if k == j then pos 1 else pos 0) else pos 0) (eqb_itself v)

apart_link : (first : Bool) (v k j : ℕ) → k ≢ j → copy_coefficient first v k (link_row v j) ≡ at_first first (pos 1) -ℤ pos 0
apart_link first v k j apart = ⊎_elim
    (λ same. absurd (apart same.1))
    (λ other. own_link first v k j ∙ ap (λ b. at_first first (pos 1) -ℤ (if b then pos 1 else pos 0)) other.0)
    (eqb_tells k j)

same_link : (first : Bool) (v k j : ℕ) → k ≡ j → copy_coefficient first v k (link_row v j) ≡ at_first first (pos 1) -ℤ pos 1
same_link first v k j same = ⊎_elim
    (λ here. own_link first v k j ∙ ap (λ b. at_first first (pos 1) -ℤ (if b then pos 1 else pos 0)) here.0)
    (λ other. absurd (other.1 same))
    (eqb_tells k j)

-- a first copy has 1 in each
pub links_first : (v k a : ℕ) (ks : List ℕ) → AllByRecursion (λ j. k ≢ j) ks
    → numbered_from a (map (copy_coefficient true v k) (map (link_row v) ks)) ≡ link_entries a (length ks)
links_first v k a [] h = refl
links_first v k a (j ∷ ks) h =
    ap (λ z. numbered_from a (z ∷ map (copy_coefficient true v k) (map (link_row v) ks))) (apart_link true v k j h.0)
    ∙ ap (λ (es : List (ℕ × ℤ)). (a, pos 1) ∷ es) (links_first v k (a + 1) ks h.1)

further_zeros : (v k : ℕ) (ks : List ℕ) → AllByRecursion (λ j. k ≢ j) ks → AllByRecursion (λ z. z ≡ pos 0) (map (copy_coefficient false v k) (map (link_row v) ks))
further_zeros v k [] h = tt
further_zeros v k (j ∷ ks) h = (apart_link false v k j h.0, further_zeros v k ks h.1)

all_apart : (k : ℕ) (ks : List ℕ) → ((j : ℕ) → j < length ks → get_or ks j 0 ≢ k) → AllByRecursion (λ j. k ≢ j) ks
all_apart k [] h = tt
all_apart k (j ∷ ks) h = (λ e. h 0 (omega arith) (sym e), all_apart k ks (λ i l. h (suc i) (omega (arith, l))))

-- a further copy has -1 in its own
pub links_further : (v k a i : ℕ) (ks : List ℕ) → i < length ks → get_or ks i 0 ≡ k → ((j : ℕ) → j < length ks → j ≢ i → get_or ks j 0 ≢ k)
    → numbered_from a (map (copy_coefficient false v k) (map (link_row v) ks)) ≡ (a + i, negsuc 0) ∷ []
links_further v k a i [] l at apart = absurd (omega arith)
links_further v k a zero (j ∷ ks) l at apart =
    ap (λ z. numbered_from a (z ∷ map (copy_coefficient false v k) (map (link_row v) ks))) (same_link false v k j (sym at))
    ∙ ap (λ (es : List (ℕ × ℤ)). (a, negsuc 0) ∷ es)
    (numbered_zeros (a + 1) (map (copy_coefficient false v k) (map (link_row v) ks))
    (further_zeros v k ks (all_apart k ks (λ i m. apart (suc i) (omega (arith, m)) (omega arith)))))
    ∙ ap (λ (n : ℕ). (n, negsuc 0) ∷ []) (let e : a ≡ a + 0 = omega arith in e)
links_further v k a (suc i) (j ∷ ks) l at apart =
    ap (λ z. numbered_from a (z ∷ map (copy_coefficient false v k) (map (link_row v) ks))) (apart_link false v k j (λ e. apart 0 (omega arith) (omega arith) (sym e)))
    ∙ links_further v k (a + 1) i ks (omega (arith, l)) at (λ m lm other. apart (suc m) (omega (arith, lm)) (omega (arith, other)))
    ∙ ap (λ (n : ℕ). (n, negsuc 0) ∷ []) (let e : (a + 1) + i ≡ a + suc i = omega arith in e)
