-- What is gathered row by row is the blocking of the decomposition.
use Rattle.std.proofs.Common.{◌≡◌, ℕ, zero, suc, ◌<◌, Bool, true, false, ◌||◌, if◌then◌else◌, List, [], ◌∷◌, map, filter, length, get_or, Option, Some, None, All, refl, sym, ap, subst, ◌∙◌, ⊎_elim, arith, true≢false}
use Rattle.std.specs.Prelude.{pos}
use Rattle.std.specs.List.{list_any, zip, range_with_len}
use Rattle.std.proofs.lemmas.Bool.Decides.{eqb_tells}
use Rattle.std.proofs.lemmas.List.Elements.{All-from_recursion}
use Rattle.bp_theory.specs.Program.{Program}
use Rattle.bp_theory.specs.Decomposition.{Decomposition, is_block, stands_in, is_in, IsMisplaced, IsFirstMisplaced, place_of}
use Rattle.bp_theory.specs.declared.Row.{Row}
use Rattle.bp_theory.specs.declared.Sense.TheVariants.{Le}
use Rattle.bp_theory.proofs.DecompositionProof.{eqb_itself}
use Rattle.block_build.specs.Stand.{StandsInRow}
use Rattle.block_build.specs.Gather.{IsElsewhere, IsFirstElsewhere, IsOneElse}
use Rattle.block_build.specs.Homes.{homes_in, AreHomes}
use Rattle.block_build.proofs.GatherLemmas.{any_default}
use Rattle.block_build.proofs.RangeLemmas.{at_place, kept_passing}

-- a row where there is none
none_row : Row
none_row = record { sense = Le; low = pos 0; rhs = pos 0; terms = [] }

-- ---- standing in a row of a block

any_in : ℕ → ℕ → List Row → List (Option ℕ) → Bool
any_in v k rows places = list_any (stands_in v) (map (λ (e : Row × Option ℕ). e.0) (filter (λ e. is_block k e.1) (zip rows places)))

any_step : (v k : ℕ) (row : Row) (place : Option ℕ) (rows : List Row) (places : List (Option ℕ))
    → any_in v k (row ∷ rows) (place ∷ places) ≡ (if is_block k place then stands_in v row || any_in v k rows places else any_in v k rows places)
unfolding any_in
any_step v k row place rows places = by (is_block k place)
  where
    es : List (Row × Option ℕ)
    es = filter (λ (e : Row × Option ℕ). is_block k e.1) (zip rows places)

    by : (b : Bool) → list_any (stands_in v) (map (λ (e : Row × Option ℕ). e.0) (if b then (row, place) ∷ es else es))
        ≡ (if b then stands_in v row || list_any (stands_in v) (map (λ (e : Row × Option ℕ). e.0) es) else list_any (stands_in v) (map (λ (e : Row × Option ℕ). e.0) es))
    by true = refl
    by false = refl

or_right : (a b : Bool) → b ≡ true → (a || b) ≡ true
or_right true b e = refl
or_right false b e = e

or_left : (a b : Bool) → a ≡ true → (a || b) ≡ true
or_left true b e = refl
or_left false b e = absurd (true≢false (sym e))

-- the test of a block at its own place
pub own_block : (k : ℕ) → is_block k (Some k) ≡ true
own_block k = eqb_itself k

pub block_is : (k : ℕ) (place : Option ℕ) → is_block k place ≡ true → place ≡ Some k
block_is k None e = absurd (true≢false (sym e))
block_is k (Some j) e = ⊎_elim (λ same. ap Some same.1) (λ other. absurd (true≢false (sym e ∙ other.0))) (eqb_tells j k)

-- who stands at a place stands in the block
any_from_place : (v k : ℕ) (rows : List Row) (places : List (Option ℕ)) (r : ℕ) → r < length rows → get_or places r None ≡ Some k
    → stands_in v (get_or rows r none_row) ≡ true → any_in v k rows places ≡ true
any_from_place v k [] places r l at stands = absurd (omega arith)
any_from_place v k (row ∷ rows) [] r l at stands = absurd (cc)
any_from_place v k (row ∷ rows) (place ∷ places) zero l at stands =
    any_step v k row place rows places
    ∙ ap (λ b. if b then stands_in v row || any_in v k rows places else any_in v k rows places) (ap (is_block k) at ∙ own_block k)
    ∙ or_left (stands_in v row) (any_in v k rows places) stands
any_from_place v k (row ∷ rows) (place ∷ places) (suc r) l at stands =
    any_step v k row place rows places ∙ by (is_block k place) (any_from_place v k rows places r (omega (arith, l)) at stands)
  where
    by : (b : Bool) → any_in v k rows places ≡ true → (if b then stands_in v row || any_in v k rows places else any_in v k rows places) ≡ true
    by true rest = or_right (stands_in v row) (any_in v k rows places) rest
    by false rest = rest

-- who stands in the block stands at some place
abbrev StandsSome : ℕ → ℕ → List Row → List (Option ℕ) → Type 0
StandsSome v k rows places = (r : ℕ) × (r < length rows) × (get_or places r None ≡ Some k) × (stands_in v (get_or rows r none_row) ≡ true)

place_from_any : (v k : ℕ) (rows : List Row) (places : List (Option ℕ)) → any_in v k rows places ≡ true → StandsSome v k rows places
unfolding any_in
place_from_any v k [] places e = absurd (true≢false (sym e))
place_from_any v k (row ∷ rows) [] e = absurd (true≢false (sym e))
place_from_any v k (row ∷ rows) (place ∷ places) e =
    by (is_block k place) refl (place_from_any v k rows places)
  where
    later : StandsSome v k rows places → StandsSome v k (row ∷ rows) (place ∷ places)
    later h = (suc h.0, omega (arith, h.1), h.2, h.3)

    whole : (b : Bool) → is_block k place ≡ b → (if b then stands_in v row || any_in v k rows places else any_in v k rows places) ≡ true
    whole b is = ap (λ t. if t then stands_in v row || any_in v k rows places else any_in v k rows places) (sym is) ∙ sym (any_step v k row place rows places) ∙ e

    first : (s : Bool) → stands_in v row ≡ s → is_block k place ≡ true → (s || any_in v k rows places) ≡ true → (any_in v k rows places ≡ true → StandsSome v k rows places)
        → StandsSome v k (row ∷ rows) (place ∷ places)
    first true s is either rest = (0, omega arith, block_is k place is, s)
    first false s is either rest = later (rest either)

    by : (b : Bool) → is_block k place ≡ b → (any_in v k rows places ≡ true → StandsSome v k rows places) → StandsSome v k (row ∷ rows) (place ∷ places)
    by true is rest = first (stands_in v row) refl is (whole true is) rest
    by false is rest = later (rest (whole false is))

pub in_from_stands : (p : Program) (d : Decomposition) (v r k : ℕ) → StandsInRow p.rows d.places v r k → is_in p d v k ≡ true
unfolding any_in
in_from_stands p d v r k h = any_from_place v k p.rows d.places r h.there h.place (h.stands none_row)

pub stands_from_in : (p : Program) (d : Decomposition) (v k : ℕ) → is_in p d v k ≡ true → (r : ℕ) × StandsInRow p.rows d.places v r k
unfolding any_in
stands_from_in p d v k e =
    let h = place_from_any v k p.rows d.places e in
    (h.0, record { there = h.1; place = h.2; stands = λ row. subst (λ (x : Row). stands_in v x ≡ true) (any_default p.rows h.0 none_row row h.1) h.3 })

-- ---- misplaced variables

-- those of a range that pass, by places
passed_there : (q : ℕ → Bool) (n i : ℕ) → i < length (filter q (range_with_len 0 n)) → (get_or (filter q (range_with_len 0 n)) i 0 < n) × (q (get_or (filter q (range_with_len 0 n)) i 0) ≡ true)
passed_there q n i l = All-from_recursion (λ k. (k < n) × (q k ≡ true)) (filter q (range_with_len 0 n)) (kept_passing q n 0 n (omega arith)) i 0 l

misplaced_from_homes : (p : Program) (d : Decomposition) (v : ℕ) (place : Option ℕ) → IsOneElse (homes_in p d v) place → IsMisplaced p d (v, place)
misplaced_from_homes p d v place h =
    let at = passed_there (is_in p d v) d.blocks h.0 h.1 in
    record { block = get_or (homes_in p d v) h.0 0; there = at.0; stands = at.1; elsewhere = h.2 0 }

homes_from_misplaced : (p : Program) (d : Decomposition) (v : ℕ) (place : Option ℕ) → IsMisplaced p d (v, place) → IsOneElse (homes_in p d v) place
homes_from_misplaced p d v place m =
    let at = at_place (is_in p d v) m.block d.blocks m.there m.stands in
    let i : ℕ = place_of (homes_in p d v) m.block in
    (i, at.0, λ d' e. m.elsewhere (e ∙ ap Some (any_default (homes_in p d v) i d' 0 at.0 ∙ at.1)))

pub first_misplaced : (p : Program) (d : Decomposition) (homes : List (List ℕ)) (v : ℕ) → AreHomes p d homes → All (λ e. e.0 < length p.spans) d.listed
    → IsFirstElsewhere homes d.listed v → IsFirstMisplaced p d v
first_misplaced p d homes v is below h = record {
  place = h.place;
  there = h.there;
  var = h.var;
  misplaced = λ e.
      let entry : ℕ × Option ℕ = get_or d.listed h.place e in
      misplaced_from_homes p d entry.0 entry.1 (subst (λ ks. IsOneElse ks entry.1) (is.1 entry.0 (below h.place e h.there)) (h.misplaced e));
  first = λ k e l m.
      let entry : ℕ × Option ℕ = get_or d.listed k e in
      h.first k e l (subst (λ ks. IsOneElse ks entry.1) (sym (is.1 entry.0 (below k e (omega (arith, l, h.there))))) (homes_from_misplaced p d entry.0 entry.1 m));
}

pub none_misplaced : (p : Program) (d : Decomposition) (homes : List (List ℕ)) → AreHomes p d homes → All (λ e. e.0 < length p.spans) d.listed
    → All (λ e. IsElsewhere homes e → ⊥) d.listed → All (λ e. IsMisplaced p d e → ⊥) d.listed
none_misplaced p d homes is below h = λ k e l m.
    let entry : ℕ × Option ℕ = get_or d.listed k e in
    h k e l (subst (λ ks. IsOneElse ks entry.1) (sym (is.1 entry.0 (below k e l))) (homes_from_misplaced p d entry.0 entry.1 m))
