-- The homes of variables, and the copies in a block.
use Rattle.std.proofs.Common.{◌≡◌, ◌⊎◌, inl, inr, ℕ, zero, suc, ◌+◌, ◌<◌, ◌≤◌, Bool, true, false, not, ◌||◌, if◌then◌else◌, List, [], ◌∷◌, ◌++◌, map, filter, take, length, get_or, Option, Some, None, All, refl, sym, ap, subst, ◌∙◌, ⊎_elim, arith, true≢false}
use Rattle.std.specs.Prelude.{ℤ, pos, ◌==◌}
use Rattle.std.specs.List.{range_with_len, list_any, AllByRecursion}
use Rattle.std.proofs.lemmas.List.{take_more}
use Rattle.std.proofs.lemmas.List.FromFn.{fill_by_all}
use Rattle.std.proofs.lemmas.List.Folds.{list_any_at, Any-from_list_any}
use Rattle.std.proofs.lemmas.List.Elements.{All-from_recursion, recursion_from_All}
use Rattle.bp_theory.specs.Program.{Program}
use Rattle.bp_theory.specs.Decomposition.{Decomposition, is_block, is_in, is_first, members, lone_variables, IsPlace}
use Rattle.bp_theory.specs.Limits.{most_blocks}
use Rattle.bp_theory.specs.declared.Limits.TheVariants.{Large}
use Rattle.bp_theory.specs.declared.Row.{Row}
use Rattle.block_build.specs.Columns.{column_from, row_at, PlacedAt, AreColumns}
use Rattle.block_build.specs.Gather.{at_home, homeless, is_empty}
use Rattle.block_build.specs.Homes.{has_block, shown_homes, IsNext, IsNearer, homes_in, AreHomes, IsHeld}
use Rattle.block_build.proofs.FormLemmas.{block_is, own_block, in_from_stands, stands_from_in}
use Rattle.block_build.proofs.ColumnLemmas.{placed_stands, stands_placed}
use Rattle.block_program.proofs.StandLemmas.{passing_few}
use Rattle.block_build.proofs.RangeLemmas.{among_passing}

-- ---- the next home in a column

no_one : (k : ℕ) → None ≡ Some k → ⊥
no_one k e = absurd (cc)

-- where a further place adds to those that have a property, the nearer is the next
nearer_is : (P Q : ℕ → Type 0) (found place : Option ℕ) (from : ℕ) (nearer : Option ℕ) → ((k : ℕ) → Q k → P k ⊎ (place ≡ Some k)) → ((k : ℕ) → P k → Q k)
    → ((k : ℕ) → place ≡ Some k → Q k) → IsNext P from found → IsNearer found place from nearer → IsNext Q from nearer
nearer_is P Q None None from nearer split old new h is =
    subst (IsNext Q from) (sym is) (λ k q. ⊎_elim (λ p. h k p) (λ e. absurd (no_one k e)) (split k q))
nearer_is P Q (Some n) None from nearer split old new h is =
    subst (IsNext Q from) (sym is) (h.0, old n h.1, λ k q low. ⊎_elim (λ p. h.2 k p low) (λ e. absurd (no_one k e)) (split k q))
nearer_is P Q None (Some j) from nearer split old new h is = ⊎_elim
    (λ below. subst (IsNext Q from) (sym below.1) (λ k q. ⊎_elim (λ p. h k p) (λ e. let same : j ≡ k = cc in omega (arith, same, below.0)) (split k q)))
    (λ there. subst (IsNext Q from) (sym there.1) (
      there.0,
      new j refl,
      λ k q low. ⊎_elim (λ p. let none : ⊥ = omega (arith, h k p, low) in absurd none) (λ e. let same : j ≡ k = cc in omega (arith, same)) (split k q),
    ))
    is
nearer_is P Q (Some n) (Some j) from nearer split old new h is = ⊎_elim
    (λ below. subst (IsNext Q from) (sym below.1) (
      h.0,
      old n h.1,
      λ k q low. ⊎_elim (λ p. h.2 k p low) (λ e. let same : j ≡ k = cc in let none : ⊥ = omega (arith, same, below.0, low) in absurd none) (split k q),
    ))
    (λ rest. ⊎_elim
    (λ above. subst (IsNext Q from) (sym above.1) (
      h.0,
      old n h.1,
      λ k q low. ⊎_elim (λ p. h.2 k p low) (λ e. let same : j ≡ k = cc in omega (arith, same, above.0)) (split k q),
    ))
    (λ nearest. subst (IsNext Q from) (sym nearest.2) (
      nearest.0,
      new j refl,
      λ k q low. ⊎_elim (λ p. let later : n ≤ k = h.2 k p low in omega (arith, later, nearest.1)) (λ e. let same : j ≡ k = cc in omega (arith, same)) (split k q),
    ))
    rest)
    is

or_cases : (a b : Bool) → (a || b) ≡ true → (a ≡ true) ⊎ (b ≡ true)
or_cases true b e = inl refl
or_cases false b e = inr e

or_left : (a b : Bool) → a ≡ true → (a || b) ≡ true
or_left true b e = refl
or_left false b e = absurd (true≢false (sym e))

or_right : (a b : Bool) → b ≡ true → (a || b) ≡ true
or_right true b e = refl
or_right false b e = e

pub any_more : {X : Type 0} (q : X → Bool) (xs : List X) (x : X) → list_any q (xs ++ x ∷ []) ≡ (list_any q xs || q x)
any_more q [] x = by (q x)
  where
    by : (b : Bool) → (b || false) ≡ b
    by true = refl
    by false = refl
any_more q (y ∷ ys) x = by (q y) (any_more q ys x)
  where
    by : (b : Bool) → list_any q (ys ++ x ∷ []) ≡ (list_any q ys || q x) → (b || list_any q (ys ++ x ∷ [])) ≡ ((b || list_any q ys) || q x)
    by true rest = refl
    by false rest = rest

-- a loop's step: one entry more
pub next_more : (places : List (Option ℕ)) (column : List (ℕ × ℤ)) (i from : ℕ) (e : ℕ × ℤ) (found place nearer : Option ℕ) → i < length column
    → place ≡ get_or places (get_or column i e).0 None → IsNearer found place from nearer
    → IsNext (λ k. has_block places (take i column) k ≡ true) from found → IsNext (λ k. has_block places (take (i + 1) column) k ≡ true) from nearer
next_more places column i from e found place nearer l is near h =
    nearer_is (λ k. has_block places (take i column) k ≡ true) (λ k. has_block places (take (i + 1) column) k ≡ true) found place from nearer
    (λ k q. ⊎_elim
    (λ old. inl old)
    (λ new. inr (is ∙ block_is k (get_or places (get_or column i e).0 None) new))
    (or_cases (has_block places (take i column) k) (is_block k (get_or places (get_or column i e).0 None)) (sym (step k) ∙ q)))
    (λ k p. step k ∙ or_left (has_block places (take i column) k) (is_block k (get_or places (get_or column i e).0 None)) p)
    (λ k at. step k ∙ or_right (has_block places (take i column) k) (is_block k (get_or places (get_or column i e).0 None)) (ap (is_block k) (sym is ∙ at) ∙ own_block k))
    h near
  where
    step : (k : ℕ) → has_block places (take (i + 1) column) k ≡ (has_block places (take i column) k || is_block k (get_or places (get_or column i e).0 None))
    step k = ap (λ es. has_block places es k) (take_more column i e l) ∙ any_more (λ (x : ℕ × ℤ). is_block k (get_or places x.0 None)) (take i column) (get_or column i e)

-- an empty column has no block
pub none_among_none : (places : List (Option ℕ)) (from : ℕ) → IsNext (λ k. has_block places [] k ≡ true) from None
none_among_none places from = λ k e. absurd (true≢false (sym e))

-- a block of a row is there
place_known : (blocks : ℕ) (places : List (Option ℕ)) (r k : ℕ) → AllByRecursion (IsPlace blocks) places → get_or places r None ≡ Some k → k < blocks
place_known blocks [] r k h e = absurd (no_one k e)
place_known blocks (place ∷ places) zero k h e = subst (IsPlace blocks) e h.0
place_known blocks (place ∷ places) (suc r) k h e = place_known blocks places r k h.1 e

pub home_known : (blocks : ℕ) (places : List (Option ℕ)) (column : List (ℕ × ℤ)) (k : ℕ) → All (IsPlace blocks) places → has_block places column k ≡ true → k < blocks
home_known blocks places column k known has =
    let found = Any-from_list_any (λ (e : ℕ × ℤ). is_block k (get_or places e.0 None)) column has in
    place_known blocks places found.1.0 k (recursion_from_All (IsPlace blocks) places known) (block_is k (get_or places found.1.0 None) found.4)

-- ---- columns tell homes

same_truth : (a b : Bool) → (a ≡ true → b ≡ true) → (b ≡ true → a ≡ true) → a ≡ b
same_truth true b h g = sym (h refl)
same_truth false true h g = g refl
same_truth false false h g = refl

filter_same : (q r : ℕ → Bool) → ((k : ℕ) → q k ≡ r k) → (xs : List ℕ) → filter q xs ≡ filter r xs
filter_same q r e [] = refl
filter_same q r e (x ∷ xs) = ap (λ b. if b then x ∷ filter q xs else filter q xs) (e x) ∙ ap (λ ys. if r x then x ∷ ys else ys) (filter_same q r e xs)

shown_in : (p : Program) (d : Decomposition) (v k : ℕ) → has_block d.places (column_from 0 p.rows v) k ≡ is_in p d v k
shown_in p d v k = same_truth (has_block d.places (column_from 0 p.rows v) k) (is_in p d v k)
    (λ has.
    let column : List (ℕ × ℤ) = column_from 0 p.rows v in
    let found = Any-from_list_any (λ (e : ℕ × ℤ). is_block k (get_or d.places e.0 None)) column has in
    let same : get_or column found.0 (0, pos 0) ≡ found.1 = get_or_any column found.0 (0, pos 0) found.1 found.2 ∙ found.3 in
    let placed : PlacedAt d.places column found.0 k = record {
      there = found.2;
      place = ap (λ (e : ℕ × ℤ). get_or d.places e.0 None) same ∙ block_is k (get_or d.places found.1.0 None) found.4;
    } in
    in_from_stands p d v (row_at column found.0) k (placed_stands p.rows d.places v found.0 k placed))
    (λ inside.
    let column : List (ℕ × ℤ) = column_from 0 p.rows v in
    let stands = stands_from_in p d v k inside in
    let placed = stands_placed p.rows d.places v stands.0 k stands.1 in
    list_any_at (λ (e : ℕ × ℤ). is_block k (get_or d.places e.0 None)) column placed.0 (0, pos 0) placed.1.there (ap (is_block k) placed.1.place ∙ own_block k))
  where
    get_or_any : (xs : List (ℕ × ℤ)) (i : ℕ) (a b : ℕ × ℤ) → i < length xs → get_or xs i a ≡ get_or xs i b
    get_or_any [] i a b l = absurd (omega arith)
    get_or_any (x ∷ xs) zero a b l = refl
    get_or_any (x ∷ xs) (suc i) a b l = get_or_any xs i a b (omega (arith, l))

-- the homes that columns show
pub homes_by : (p : Program) (d : Decomposition) (rows : List Row) (places : List (Option ℕ)) (blocks : ℕ) (columns : List (List (ℕ × ℤ))) (homes : List (List ℕ))
    → rows ≡ p.rows → places ≡ d.places → blocks ≡ d.blocks → AreColumns rows columns → length columns ≡ length p.spans → length homes ≡ length columns
    → ((v : ℕ) → v < length columns → get_or homes v [] ≡ shown_homes blocks places (get_or columns v [])) → AreHomes p d homes
homes_by p d rows places blocks columns homes rows_are places_are blocks_are are each each_home shown = (
  each_home ∙ each,
  λ v l.
      let there : v < length columns = omega (arith, l, each) in
      shown v there
      ∙ ap (λ (column : List (ℕ × ℤ)). shown_homes blocks places column) (are v there ∙ ap (λ (rs : List Row). column_from 0 rs v) rows_are)
      ∙ ap (λ (ps : List (Option ℕ)). shown_homes blocks ps (column_from 0 p.rows v)) places_are
      ∙ ap (λ n. shown_homes n d.places (column_from 0 p.rows v)) blocks_are
      ∙ filter_same (has_block d.places (column_from 0 p.rows v)) (is_in p d v) (shown_in p d v) (range_with_len 0 d.blocks),
)

-- the homes as a list
pub homes_are : (p : Program) (d : Decomposition) (homes : List (List ℕ)) → AreHomes p d homes → homes ≡ map (homes_in p d) (range_with_len 0 (length p.spans))
homes_are p d homes h = fill_by_all (homes_in p d) homes (length p.spans) [] h.0 h.1

pub few_homes : (p : Program) (d : Decomposition) (homes : List (List ℕ)) → AreHomes p d homes → d.blocks ≤ most_blocks Large → All (λ (own : List ℕ). length own ≤ most_blocks Large) homes
few_homes p d homes h few = λ v own l.
    let at : get_or homes v own ≡ homes_in p d v = any homes v own [] l ∙ h.1 v (omega (arith, l, h.0)) in
    omega (arith, ap (λ (ks : List ℕ). length ks) at, passing_few (is_in p d v) d.blocks, few)
  where
    any : (xs : List (List ℕ)) (i : ℕ) (a b : List ℕ) → i < length xs → get_or xs i a ≡ get_or xs i b
    any [] i a b l = absurd (omega arith)
    any (x ∷ xs) zero a b l = refl
    any (x ∷ xs) (suc i) a b l = any xs i a b (omega (arith, l))

-- ---- the variables of a block

filter_within : (q r : ℕ → Bool) (xs : List ℕ) → AllByRecursion (λ v. q v ≡ r v) xs → filter q xs ≡ filter r xs
filter_within q r [] h = refl
filter_within q r (x ∷ xs) h =
    ap (λ b. if b then x ∷ filter q xs else filter q xs) h.0 ∙ ap (λ ys. if r x then x ∷ ys else ys) (filter_within q r xs h.1)

range_all : (P : ℕ → Type 0) (a n : ℕ) → ((k : ℕ) → k < a + n → P k) → AllByRecursion P (range_with_len a n)
range_all P a zero h = tt
range_all P a (suc n) h = (h a (omega arith), range_all P (a + 1) n (λ k l. h k (omega (arith, l))))

passing_all : (P : ℕ → Type 0) (q : ℕ → Bool) (xs : List ℕ) → AllByRecursion P xs → AllByRecursion (λ v. P v × (q v ≡ true)) (filter q xs)
passing_all P q [] h = tt
passing_all P q (x ∷ xs) h = by (q x) refl (passing_all P q xs h.1)
  where
    by : (b : Bool) → q x ≡ b → AllByRecursion (λ v. P v × (q v ≡ true)) (filter q xs) → AllByRecursion (λ v. P v × (q v ≡ true)) (if b then x ∷ filter q xs else filter q xs)
    by true is rest = ((h.0, is), rest)
    by false is rest = rest

pub at_home_are : (p : Program) (d : Decomposition) (homes : List (List ℕ)) (k : ℕ) → AreHomes p d homes → k < d.blocks → at_home k homes ≡ members p d k
at_home_are p d homes k h there =
    ap (λ n. filter (λ v. list_any (λ j. j == k) (get_or homes v [])) (range_with_len 0 n)) h.0
    ∙ filter_within (λ v. list_any (λ j. j == k) (get_or homes v [])) (λ v. is_in p d v k) (range_with_len 0 (length p.spans))
    (range_all (λ v. list_any (λ j. j == k) (get_or homes v []) ≡ is_in p d v k) 0 (length p.spans)
    (λ v l. ap (list_any (λ j. j == k)) (h.1 v (omega (arith, l))) ∙ among_passing (is_in p d v) k d.blocks there))

empty_passing : (q : ℕ → Bool) (xs : List ℕ) → is_empty (filter q xs) ≡ not (list_any q xs)
empty_passing q [] = refl
empty_passing q (x ∷ xs) = by (q x) (empty_passing q xs)
  where
    by : (b : Bool) → is_empty (filter q xs) ≡ not (list_any q xs) → is_empty (if b then x ∷ filter q xs else filter q xs) ≡ not (b || list_any q xs)
    by true rest = refl
    by false rest = rest

pub homeless_are : (p : Program) (d : Decomposition) (homes : List (List ℕ)) → AreHomes p d homes → homeless homes ≡ lone_variables p d
homeless_are p d homes h =
    ap (λ n. filter (λ v. is_empty (get_or homes v [])) (range_with_len 0 n)) h.0
    ∙ filter_within (λ v. is_empty (get_or homes v [])) (λ v. is_first p d v d.blocks) (range_with_len 0 (length p.spans))
    (range_all (λ v. is_empty (get_or homes v []) ≡ is_first p d v d.blocks) 0 (length p.spans)
    (λ v l. ap is_empty (h.1 v (omega (arith, l))) ∙ empty_passing (is_in p d v) (range_with_len 0 d.blocks)))

-- a block has its variables' copies
pub members_held : (p : Program) (d : Decomposition) (k : ℕ) → k < d.blocks → All (λ v. IsHeld p d v k) (members p d k)
members_held p d k there =
    All-from_recursion (λ v. IsHeld p d v k) (members p d k)
    (held (members p d k) (passing_all (λ v. Unit {0}) (λ v. is_in p d v k) (range_with_len 0 (length p.spans)) (range_all (λ v. Unit {0}) 0 (length p.spans) (λ v l. tt))))
  where
    held : (vs : List ℕ) → AllByRecursion (λ v. Unit {0} × (is_in p d v k ≡ true)) vs → AllByRecursion (λ v. IsHeld p d v k) vs
    held [] h = tt
    held (v ∷ vs) h = (inl (there, h.0.1), held vs h.1)

pub lone_held : (p : Program) (d : Decomposition) → All (λ v. (v < length p.spans) × IsHeld p d v d.blocks) (lone_variables p d)
lone_held p d =
    All-from_recursion (λ v. (v < length p.spans) × IsHeld p d v d.blocks) (lone_variables p d)
    (held (lone_variables p d) (passing_all (λ v. v < length p.spans) (λ v. is_first p d v d.blocks) (range_with_len 0 (length p.spans)) (range_all (λ v. v < length p.spans) 0 (length p.spans) (λ v l. omega (arith, l)))))
  where
    held : (vs : List ℕ) → AllByRecursion (λ v. (v < length p.spans) × (is_first p d v d.blocks ≡ true)) vs → AllByRecursion (λ v. (v < length p.spans) × IsHeld p d v d.blocks) vs
    held [] h = tt
    held (v ∷ vs) h = ((h.0.0, inr (refl, h.0.1)), held vs h.1)
