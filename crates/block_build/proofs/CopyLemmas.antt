-- The coefficients and the cost of a variable's copy in a block.
use Rattle.std.proofs.Common.{◌≡◌, ◌≢◌, ℕ, zero, suc, ◌+◌, ◌-◌, ◌<◌, ◌≤◌, Bool, true, false, not, ◌||◌, if◌then◌else◌, List, [], ◌∷◌, ◌++◌, map, filter, drop, take, length, get_or, refl, sym, ap, subst, ◌∙◌, ⊎_elim, arith, true≢false, zero-add, length-append}
use Rattle.std.specs.Prelude.{ℤ, pos, negsuc, sum_by, ◌==◌}
use Rattle.std.specs.List.{range_with_len, list_any, AllByRecursion, flat_map}
use Rattle.std.proofs.lemmas.List.{length-map, map-append, append-nil}
use Rattle.std.proofs.lemmas.List.FromFn.{take-map-range_with_len}
use Rattle.std.proofs.lemmas.List.Sums.{sum_by-cons, sum_by-take-le}
use Rattle.std.proofs.lemmas.List.Concat.{flat_map-append}
use Rattle.std.proofs.lemmas.List.Elements.{recursion_from_All}
use Rattle.bp_theory.specs.Program.{Program, coefficient}
use Rattle.bp_theory.specs.Decomposition.{Decomposition, ProofRow, whole_row, link_row, links_of, proof_rows, copy_coefficient, numbered, at_first, is_in, is_first, place_of, IsTidyFrom, HasPlaces, link_count}
use Rattle.bp_theory.specs.Limits.{most_blocks, most_lines}
use Rattle.bp_theory.specs.declared.Limits.TheVariants.{Large}
use Rattle.bp_theory.specs.declared.Row.{Row}
use Rattle.block_build.specs.Columns.{column_from, master_entries}
use Rattle.block_build.specs.Gather.{coefs_from}
use Rattle.block_build.specs.Homes.{homes_in, further, link_entries, AreHomes, IsHeld}
use Rattle.block_build.specs.Source.{IsSource, copy_in, first_entries}
use Rattle.block_build.specs.declared.source.Source.{Source}
use Rattle.block_build.proofs.ColumnLemmas.{master_is}
use Rattle.block_program.proofs.StandLemmas.{passing_few}
use Rattle.block_build.proofs.GatherLemmas.{any_default}
use Rattle.block_build.proofs.HomeLemmas.{homes_are}
use Rattle.block_build.proofs.RangeLemmas.{range_split, first_passing, later_passing, later_place, others_behind}
use Rattle.block_program.proofs.NamedRows.{own_rows, own_long}
use Rattle.block_build.proofs.LinkLemmas.{numbered_from, numbered_append, numbered_zeros, own_first, own_further, cuts_first, cuts_further, others_zeros, links_first, links_further}

-- ---- three parts of the rows of proofs

three_parts : (f : ProofRow → ℤ) (X Y Z : List ProofRow)
    → numbered_from 0 (map f ((X ++ Y) ++ Z)) ≡ (numbered_from 0 (map f X) ++ numbered_from (length X) (map f Y)) ++ numbered_from (length X + length Y) (map f Z)
three_parts f X Y Z =
    ap (numbered_from 0) (map-append f (X ++ Y) Z)
    ∙ numbered_append 0 (map f (X ++ Y)) (map f Z)
    ∙ ap (λ n. numbered_from 0 (map f (X ++ Y)) ++ numbered_from n (map f Z)) (let e : 0 + length (map f (X ++ Y)) ≡ length X + length Y = omega (arith, length-map (X ++ Y) f, length-append X Y) in e)
    ∙ ap (λ (es : List (ℕ × ℤ)). es ++ numbered_from (length X + length Y) (map f Z))
    (ap (numbered_from 0) (map-append f X Y) ∙ numbered_append 0 (map f X) (map f Y)
    ∙ ap (λ n. numbered_from 0 (map f X) ++ numbered_from n (map f Y)) (let e : 0 + length (map f X) ≡ length X = omega (arith, length-map X f) in e))

-- where all else is 0 the middle is all
middle_alone : (f : ProofRow → ℤ) (a : ℕ) (A B C : List ProofRow) → AllByRecursion (λ z. z ≡ pos 0) (map f A) → AllByRecursion (λ z. z ≡ pos 0) (map f C)
    → numbered_from a (map f (A ++ (B ++ C))) ≡ numbered_from (a + length A) (map f B)
middle_alone f a A B C h g =
    ap (numbered_from a) (map-append f A (B ++ C))
    ∙ numbered_append a (map f A) (map f (B ++ C))
    ∙ ap (λ (es : List (ℕ × ℤ)). es ++ numbered_from (a + length (map f A)) (map f (B ++ C))) (numbered_zeros a (map f A) h)
    ∙ ap (λ n. numbered_from n (map f (B ++ C))) (let e : a + length (map f A) ≡ a + length A = omega (arith, length-map A f) in e)
    ∙ ap (numbered_from (a + length A)) (map-append f B C)
    ∙ numbered_append (a + length A) (map f B) (map f C)
    ∙ ap (λ (es : List (ℕ × ℤ)). numbered_from (a + length A) (map f B) ++ es) (numbered_zeros ((a + length A) + length (map f B)) (map f C) g)
    ∙ append-nil (numbered_from (a + length A) (map f B))

-- ---- a variable's own links among all

others_in : (v a n : ℕ) → ((k : ℕ) → a ≤ k → k < a + n → k ≢ v) → AllByRecursion (λ w. w ≢ v) (range_with_len a n)
others_in v a zero h = tt
others_in v a (suc n) h = (h a (omega arith) (omega arith), others_in v (a + 1) n (λ k low high. h k (omega (arith, low)) (omega (arith, high))))

-- the links of the variables before one
before : Program → Decomposition → ℕ → ℕ
before p d v = length (flat_map (links_of p d) (range_with_len 0 v))

own_links : (p : Program) (d : Decomposition) (first : Bool) (v k a n : ℕ) → v < n
    → numbered_from a (map (copy_coefficient first v k) (flat_map (links_of p d) (range_with_len 0 n)))
    ≡ numbered_from (a + before p d v) (map (copy_coefficient first v k) (links_of p d v))
unfolding before
own_links p d first v k a n l =
    let f : ProofRow → ℤ = copy_coefficient first v k in
    let front : List ℕ = range_with_len 0 v in
    let back : List ℕ = range_with_len (v + 1) (n - suc v) in
    let A : List ProofRow = flat_map (links_of p d) front in
    let C : List ProofRow = flat_map (links_of p d) back in
    let split : range_with_len 0 n ≡ front ++ v ∷ back =
    ap (range_with_len 0) (let e : n ≡ v + suc (n - suc v) = omega (arith, l) in e) ∙ range_split 0 v (suc (n - suc v))
    ∙ ap (λ m. front ++ m ∷ range_with_len (m + 1) (n - suc v)) (zero-add v) in
    ap (λ ws. numbered_from a (map f (flat_map (links_of p d) ws))) split
    ∙ ap (λ rows. numbered_from a (map f rows)) (flat_map-append (links_of p d) front (v ∷ back))
    ∙ middle_alone f a A (links_of p d v) C
    (others_zeros first v k (homes_in p d) front (others_in v 0 v (λ j low high. omega (arith, high))))
    (others_zeros first v k (homes_in p d) back (others_in v (v + 1) (n - suc v) (λ j low high. omega (arith, low))))

-- ---- how many links there are

count_range : (p : Program) (d : Decomposition) (vs : List ℕ) → length (flat_map (links_of p d) vs) ≡ sum_by further (map (homes_in p d) vs)
count_range p d [] = refl
count_range p d (v ∷ vs) =
    omega (
      arith,
      length-append (links_of p d v) (flat_map (links_of p d) vs),
      length-map (drop 1 (homes_in p d v)) (link_row v),
      count_range p d vs,
      sum_by-cons further (homes_in p d v) (map (homes_in p d) vs),
    )

pub links_counted : (p : Program) (d : Decomposition) (homes : List (List ℕ)) → AreHomes p d homes → link_count p d ≡ sum_by further homes
links_counted p d homes h = count_range p d (range_with_len 0 (length p.spans)) ∙ ap (sum_by further) (sym (homes_are p d homes h))

links_before : (p : Program) (d : Decomposition) (homes : List (List ℕ)) (v : ℕ) → AreHomes p d homes → v < length p.spans → before p d v ≡ sum_by further (take v homes)
unfolding before
links_before p d homes v h l =
    count_range p d (range_with_len 0 v)
    ∙ ap (sum_by further) (sym (ap (take v) (homes_are p d homes h) ∙ take-map-range_with_len (homes_in p d) 0 (length p.spans) v (omega (arith, l))))

-- ---- copies

no_homes : (q : ℕ → Bool) (xs : List ℕ) → not (list_any q xs) ≡ true → filter q xs ≡ []
no_homes q [] e = refl
no_homes q (x ∷ xs) e = by (q x) e (no_homes q xs)
  where
    by : (b : Bool) → not (b || list_any q xs) ≡ true → (not (list_any q xs) ≡ true → filter q xs ≡ []) → (if b then x ∷ filter q xs else filter q xs) ≡ []
    by true h rest = absurd (true≢false (sym h))
    by false h rest = rest h

-- a copy at the first place is the first
pub first_copy : (p : Program) (d : Decomposition) (v k : ℕ) → IsHeld p d v k → place_of (homes_in p d v) k ≡ 0
    → (is_first p d v k ≡ true) × AllByRecursion (λ j. k ≢ j) (drop 1 (homes_in p d v))
first_copy p d v k held place = ⊎_elim
    (λ home. (first_passing (is_in p d v) k d.blocks home.0 home.1 place, others_behind (is_in p d v) k d.blocks home.0 home.1 place))
    (λ lone. (
      ap (is_first p d v) lone.0 ∙ lone.1,
      subst (λ ks. AllByRecursion (λ j. k ≢ j) (drop 1 ks)) (sym (no_homes (is_in p d v) (range_with_len 0 d.blocks) lone.1)) tt,
    ))
    held

-- and at a later one a further one
pub later_copy : (p : Program) (d : Decomposition) (v k i : ℕ) → IsHeld p d v k → place_of (homes_in p d v) k ≡ suc i
    → (k < d.blocks) × (is_in p d v k ≡ true) × (is_first p d v k ≡ false)
later_copy p d v k i held place = ⊎_elim
    (λ home. (home.0, home.1, later_passing (is_in p d v) k d.blocks home.0 home.1 (omega (arith, place))))
    (λ lone. absurd (let none : ⊥ = omega (arith, place, ap (λ ks. place_of ks k) (no_homes (is_in p d v) (range_with_len 0 d.blocks) lone.1)) in none))
    held

-- the coefficients of a first copy, part by part
first_parts : (p : Program) (d : Decomposition) (cuts : List Row) (v k : ℕ) → HasPlaces p d → AllByRecursion (λ (row : Row). IsTidyFrom 0 row.terms) cuts
    → v < length p.spans → AllByRecursion (λ j. k ≢ j) (drop 1 (homes_in p d v))
    → numbered (map (copy_coefficient true v k) (proof_rows p d cuts))
    ≡ (coefs_from v 0 p.rows d.places ++ link_entries (length p.rows + before p d v) (further (homes_in p d v)))
    ++ column_from (length p.rows + link_count p d) cuts v
first_parts p d cuts v k places tidy l apart =
    let f : ProofRow → ℤ = copy_coefficient true v k in
    let X : List ProofRow = own_rows p.rows d.places in
    let Y : List ProofRow = flat_map (links_of p d) (range_with_len 0 (length p.spans)) in
    let long : length X ≡ length p.rows = own_long p.rows d.places places.each in
    three_parts f X Y (map whole_row cuts)
    ∙ ap (λ (es : List (ℕ × ℤ)). (es ++ numbered_from (length X) (map f Y)) ++ numbered_from (length X + length Y) (map f (map whole_row cuts))) (own_first v k 0 p.rows d.places)
    ∙ ap (λ (es : List (ℕ × ℤ)). (coefs_from v 0 p.rows d.places ++ es) ++ numbered_from (length X + length Y) (map f (map whole_row cuts)))
    (own_links p d true v k (length X) (length p.spans) l ∙ links_first v k (length X + before p d v) (drop 1 (homes_in p d v)) apart
    ∙ ap (λ n. link_entries (n + before p d v) (further (homes_in p d v))) long)
    ∙ ap (λ (es : List (ℕ × ℤ)). (coefs_from v 0 p.rows d.places ++ link_entries (length p.rows + before p d v) (further (homes_in p d v))) ++ es)
    (cuts_first v k (length X + length Y) cuts tidy ∙ ap (λ n. column_from (n + length Y) cuts v) long)

-- the coefficient of a further copy
further_part : (p : Program) (d : Decomposition) (cuts : List Row) (v k i : ℕ) → HasPlaces p d → v < length p.spans → k < d.blocks → is_in p d v k ≡ true
    → place_of (homes_in p d v) k ≡ suc i
    → numbered (map (copy_coefficient false v k) (proof_rows p d cuts)) ≡ ((length p.rows + before p d v) + i, negsuc 0) ∷ []
further_part p d cuts v k i places l there inside place =
    let f : ProofRow → ℤ = copy_coefficient false v k in
    let X : List ProofRow = own_rows p.rows d.places in
    let Y : List ProofRow = flat_map (links_of p d) (range_with_len 0 (length p.spans)) in
    let long : length X ≡ length p.rows = own_long p.rows d.places places.each in
    let later = later_place (is_in p d v) k d.blocks i there inside place in
    three_parts f X Y (map whole_row cuts)
    ∙ ap (λ (es : List (ℕ × ℤ)). (es ++ numbered_from (length X) (map f Y)) ++ numbered_from (length X + length Y) (map f (map whole_row cuts))) (own_further v k 0 p.rows d.places)
    ∙ ap (λ (es : List (ℕ × ℤ)). es ++ numbered_from (length X + length Y) (map f (map whole_row cuts)))
    (own_links p d false v k (length X) (length p.spans) l
    ∙ links_further v k (length X + before p d v) i (drop 1 (homes_in p d v)) later.0 later.1 later.2
    ∙ ap (λ n. ((n + before p d v) + i, negsuc 0) ∷ []) long)
    ∙ ap (λ (es : List (ℕ × ℤ)). (((length p.rows + before p d v) + i, negsuc 0) ∷ []) ++ es) (cuts_further v k (length X + length Y) cuts)

-- ---- the same of a source

pub first_coefs_are : (s : Source) (k v : ℕ) → IsSource s → v < length s.model.now.program.spans → IsHeld s.model.now.program s.dec.now v k
    → place_of (homes_in s.model.now.program s.dec.now v) k ≡ 0 → first_entries s v ≡ (copy_in s k v).coefs
first_coefs_are s k v source l held place =
    let p = s.model.now.program in
    let d = s.dec.now in
    let cuts = s.cuts.now in
    let first = first_copy p d v k held place in
    let link : get_or s.links.items v 0 ≡ length p.rows + before p d v =
    source.links.1 v (omega (arith, l, source.homes.0)) ∙ ap (λ n. length p.rows + n) (sym (links_before p d s.homes.items v source.homes l)) in
    let end : s.end ≡ length p.rows + link_count p d = source.end ∙ ap (λ n. length p.rows + n) (sym (links_counted p d s.homes.items source.homes)) in
    ap (λ (column : List (ℕ × ℤ)). (master_entries d.places column ++ link_entries (get_or s.links.items v 0) (further (get_or s.homes.items v []))) ++ get_or s.cut_columns.items v [])
    (source.columns v (omega (arith, l, source.each_column)))
    ∙ ap (λ (es : List (ℕ × ℤ)). (es ++ link_entries (get_or s.links.items v 0) (further (get_or s.homes.items v []))) ++ get_or s.cut_columns.items v [])
    (master_is p.rows d.places v source.places.each source.kept.tidy_rows)
    ∙ ap (λ n. (coefs_from v 0 p.rows d.places ++ link_entries n (further (get_or s.homes.items v []))) ++ get_or s.cut_columns.items v []) link
    ∙ ap (λ ks. (coefs_from v 0 p.rows d.places ++ link_entries (length p.rows + before p d v) (further ks)) ++ get_or s.cut_columns.items v []) (source.homes.1 v l)
    ∙ ap (λ (es : List (ℕ × ℤ)). (coefs_from v 0 p.rows d.places ++ link_entries (length p.rows + before p d v) (further (homes_in p d v))) ++ es)
    (source.cut_columns v (omega (arith, l, source.each_cut_column)) ∙ ap (λ n. column_from n cuts v) end)
    ∙ sym (first_parts p d cuts v k source.places (recursion_from_All (λ (row : Row). IsTidyFrom 0 row.terms) cuts source.cuts.tidy) l first.1)
    ∙ ap (λ b. numbered (map (copy_coefficient b v k) (proof_rows p d cuts))) (sym first.0)

pub further_coefs_are : (s : Source) (k v i link n : ℕ) → IsSource s → v < length s.model.now.program.spans → IsHeld s.model.now.program s.dec.now v k
    → place_of (homes_in s.model.now.program s.dec.now v) k ≡ suc i → link ≡ get_or s.links.items v 0 → n + 1 ≡ link + suc i
    → ((n, negsuc 0) ∷ []) ≡ (copy_in s k v).coefs
further_coefs_are s k v i link n source l held place link_is n_is =
    let p = s.model.now.program in
    let d = s.dec.now in
    let cuts = s.cuts.now in
    let later = later_copy p d v k i held place in
    let first : get_or s.links.items v 0 ≡ length p.rows + before p d v =
    source.links.1 v (omega (arith, l, source.homes.0)) ∙ ap (λ m. length p.rows + m) (sym (links_before p d s.homes.items v source.homes l)) in
    ap (λ m. (m, negsuc 0) ∷ []) (let e : n ≡ (length p.rows + before p d v) + i = omega (arith, n_is, link_is, first) in e)
    ∙ sym (further_part p d cuts v k i source.places l later.0 later.1 place)
    ∙ ap (λ b. numbered (map (copy_coefficient b v k) (proof_rows p d cuts))) (sym later.2)

pub first_cost : (s : Source) (k v : ℕ) → IsHeld s.model.now.program s.dec.now v k → place_of (homes_in s.model.now.program s.dec.now v) k ≡ 0
    → coefficient s.model.now.program.costs v ≡ (copy_in s k v).cost
first_cost s k v held place =
    ap (λ b. at_first b (coefficient s.model.now.program.costs v)) (sym (first_copy s.model.now.program s.dec.now v k held place).0)

pub further_cost : (s : Source) (k v i : ℕ) → IsHeld s.model.now.program s.dec.now v k → place_of (homes_in s.model.now.program s.dec.now v) k ≡ suc i
    → pos 0 ≡ (copy_in s k v).cost
further_cost s k v i held place =
    ap (λ b. at_first b (coefficient s.model.now.program.costs v)) (sym (later_copy s.model.now.program s.dec.now v k i held place).2)

-- a place that isn't the first is behind it
pub behind_first : (place : ℕ) → place ≢ 0 → (i : ℕ) × (place ≡ suc i)
behind_first zero apart = absurd (apart refl)
behind_first (suc i) apart = (i, refl)

-- ---- sizes

-- the number of a variable's first link row
pub few_links : (s : Source) (v link : ℕ) → IsSource s → v < length s.model.now.program.spans → link ≡ get_or s.links.items v link → link ≤ most_lines Large
few_links s v link source l is =
    let at : get_or s.links.items v link ≡ get_or s.links.items v 0 = any_default s.links.items v link 0 (omega (arith, l, source.homes.0, source.links.0)) in
    omega (
      arith,
      is,
      at,
      source.links.1 v (omega (arith, l, source.homes.0)),
      sum_by-take-le further s.homes.items v,
      source.end,
      source.few_lines,
    )

-- the place of a block among a variable's homes
pub few_places : (s : Source) (k v place : ℕ) → IsSource s → place ≡ place_of (homes_in s.model.now.program s.dec.now v) k → place ≤ most_blocks Large
few_places s k v place source is =
    omega (arith, is, place_within (homes_in s.model.now.program s.dec.now v) k, passing_few (is_in s.model.now.program s.dec.now v) s.dec.now.blocks, source.few)
  where
    place_within : (xs : List ℕ) (j : ℕ) → place_of xs j ≤ length xs
    place_within [] j = omega arith
    place_within (x ∷ xs) j = by (x == j) (place_within xs j)
      where
        by : (b : Bool) → place_of xs j ≤ length xs → (if b then 0 else suc (place_of xs j)) ≤ suc (length xs)
        by true rest = omega arith
        by false rest = omega (arith, rest)

-- how many homes a variable has
pub few_further : (s : Source) (v : ℕ) (own : List ℕ) → IsSource s → v < length s.model.now.program.spans → own ≡ get_or s.homes.items v own → length own ≤ most_blocks Large
few_further s v own source l is =
    omega (
      arith,
      ap (λ (ks : List ℕ). length ks) (is ∙ any_default s.homes.items v own [] (omega (arith, l, source.homes.0)) ∙ source.homes.1 v l),
      passing_few (is_in s.model.now.program s.dec.now v) s.dec.now.blocks,
      source.few,
    )
