-- Gathered blocks.
use Rattle.std.proofs.Common.{◌≡◌, ℕ, zero, suc, ◌+◌, ◌<◌, Bool, true, false, if◌then◌else◌, List, [], ◌∷◌, ◌++◌, map, filter, length, get_or, Option, Some, Result, Ok, Err, IfOk, All, refl, sym, ap, subst, ◌∙◌, ⊎_elim, arith, add-one, true≢false}
use Rattle.std.specs.Prelude.{ℤ, IsTrue, ◌↔◌}
use Rattle.std.specs.List.{range_with_len, AllByRecursion}
use Rattle.std.proofs.lemmas.Bool.{cases_lt}
use Rattle.std.proofs.lemmas.List.{map-append}
use Rattle.std.proofs.lemmas.List.Elements.{All-from_recursion}
use Rattle.bp_theory.specs.Program.{span_at}
use Rattle.bp_theory.specs.Blocking.{Copy, Block}
use Rattle.bp_theory.specs.Bound.{spans_of}
use Rattle.bp_theory.specs.Decomposition.{row_with_places, rows_of}
use Rattle.bp_theory.specs.declared.Span.{Span}
use Rattle.bp_theory.specs.declared.Row.{Row}
use Rattle.bp_theory.proofs.DecompositionProof.{below_range}
use Rattle.block_program.specs.Blocked.{copies_from}
use Rattle.block_build.specs.Gather.{is_empty, IsElsewhere}
use Rattle.block_build.specs.Source.{block_in, copy_in}
use Rattle.block_build.specs.declared.source.Source.{Source}
use Rattle.block_program.proofs.StandLemmas.{range_more}

-- the copies of variables, each with its cost and coefficients
copies_made : (s : Source) (k : ℕ) (vars : List ℕ)
    → copies_from vars (map (λ v. (copy_in s k v).cost) vars) (map (λ v. (copy_in s k v).coefs) vars) ≡ map (copy_in s k) vars
copies_made s k [] = refl
copies_made s k (v ∷ vs) = ap (λ (cs : List Copy). copy_in s k v ∷ cs) (copies_made s k vs)

pub spans_made : (spans : List Span) (s : Source) (k : ℕ) (vars : List ℕ) → map (span_at spans) vars ≡ spans_of spans (block_in s k vars)
spans_made spans s k [] = refl
spans_made spans s k (v ∷ vs) = ap (λ ss. span_at spans v ∷ ss) (spans_made spans s k vs)

-- a block made of what was gathered
pub block_made : (s : Source) (k : ℕ) (vars : List ℕ) (cs : List ℤ) (ms : List (List (ℕ × ℤ))) (own : List Row)
    → cs ≡ map (λ v. (copy_in s k v).cost) vars → ms ≡ map (λ v. (copy_in s k v).coefs) vars
    → own ≡ map (row_with_places vars) (rows_of s.model.now.program s.dec.now k)
    → ◌≡◌ {A = Block} (record { copies = copies_from vars cs ms; rows = own }) (block_in s k vars)
block_made s k vars cs ms own costs_are masters_are own_are =
    ap (λ (zs : List ℤ). record { copies = copies_from vars zs ms; rows = own }) costs_are
    ∙ ap (λ (xs : List (List (ℕ × ℤ))). record { copies = copies_from vars (map (λ v. (copy_in s k v).cost) vars) xs; rows = own }) masters_are
    ∙ ap (λ (copies : List Copy). record { copies = copies; rows = own }) (copies_made s k vars)
    ∙ ap (λ (rs : List Row). record { copies = map (copy_in s k) vars; rows = rs }) own_are

-- those that pass are there, and no more
filter_below : (q : ℕ → Bool) (m : ℕ) (xs : List ℕ) → AllByRecursion (λ v. v < m) xs → AllByRecursion (λ v. v < m) (filter q xs)
filter_below q m [] h = tt
filter_below q m (x ∷ xs) h = by (q x) (filter_below q m xs h.1)
  where
    by : (b : Bool) → AllByRecursion (λ v. v < m) (filter q xs) → AllByRecursion (λ v. v < m) (if b then x ∷ filter q xs else filter q xs)
    by true rest = (h.0, rest)
    by false rest = rest

pub passing_below : (q : ℕ → Bool) (n : ℕ) → All (λ v. v < n) (filter q (range_with_len 0 n))
passing_below q n = All-from_recursion (λ v. v < n) (filter q (range_with_len 0 n)) (filter_below q n (range_with_len 0 n) (below_range n 0 n (omega arith)))

-- one number more of a function
pub map_range_more : {X : Type 0} (f : ℕ → X) (n : ℕ) → map f (range_with_len 0 (n + 1)) ≡ map f (range_with_len 0 n) ++ f n ∷ []
map_range_more f n =
    ap (λ k. map f (range_with_len 0 k)) (add-one n) ∙ ap (map f) (range_more 0 n ∙ ap (λ k. range_with_len 0 n ++ k ∷ []) (omega arith))
    ∙ map-append f (range_with_len 0 n) (n ∷ [])

pub all_single : (n v : ℕ) → v < n → All (λ u. u < n) (v ∷ [])
all_single n v l = All-from_recursion (λ u. u < n) (v ∷ []) (l, tt)

pub single_has : (P : ℕ → Type 0) (v : ℕ) → P v → All P (v ∷ [])
single_has P v h = All-from_recursion P (v ∷ []) (h, tt)

-- an element that is there doesn't hang on the default
pub any_default : {X : Type 0} (xs : List X) (i : ℕ) (d e : X) → i < length xs → get_or xs i d ≡ get_or xs i e
any_default [] i d e l = absurd (omega arith)
any_default (x ∷ xs) zero d e l = refl
any_default (x ∷ xs) (suc i) d e l = any_default xs i d e (omega (arith, l))

-- one entry more that isn't elsewhere
pub none_more : (homes : List (List ℕ)) (listed : List (ℕ × Option ℕ)) (i : ℕ) (d : ℕ × Option ℕ) → i < length listed
    → ((k : ℕ) (e : ℕ × Option ℕ) → k < i → IsElsewhere homes (get_or listed k e) → ⊥) → (IsElsewhere homes (get_or listed i d) → ⊥)
    → (k : ℕ) (e : ℕ × Option ℕ) → k < i + 1 → IsElsewhere homes (get_or listed k e) → ⊥
none_more homes listed i d l before here k e less h = ⊎_elim
    (λ lower. before k e lower h)
    (λ upper.
    let same : k ≡ i = omega (arith, less, upper) in
    let at : get_or listed k e ≡ get_or listed i d = ap (λ n. get_or listed n e) same ∙ any_default listed i e d l in
    here (subst (IsElsewhere homes) at h))
    (cases_lt k i)

-- one number more that is the list's
pub same_more : (homes : List ℕ) (list : Option ℕ) (i d : ℕ) → i < length homes → d ≡ get_or homes i d → ((k e : ℕ) → k < i → list ≡ Some (get_or homes k e))
    → list ≡ Some d → (k e : ℕ) → k < i + 1 → list ≡ Some (get_or homes k e)
same_more homes list i d l is before here k e less = ⊎_elim
    (λ lower. before k e lower)
    (λ upper.
    let same : k ≡ i = omega (arith, less, upper) in
    here ∙ ap Some (is ∙ any_default homes i d e l ∙ ap (λ n. get_or homes n e) (sym same)))
    (cases_lt k i)

-- a test that is true of the empty list alone
pub empty_by : (b : Bool) (xs : List ℕ) → IsTrue b ↔ (xs ≡ []) → b ≡ is_empty xs
empty_by true [] h = refl
empty_by false [] h = absurd (true≢false (sym (h.1 refl)))
empty_by true (x ∷ xs) h = absurd (let none : x ∷ xs ≡ [] = h.0 refl in cc)
empty_by false (x ∷ xs) h = refl

-- what follows from what holds of a value holds of it
pub if_ok : {X E : Type 0} (r : Result X E) (P Q : X → Type 0) → ((x : X) → P x → Q x) → IfOk r P → IfOk r Q
if_ok (Ok x) P Q f h = f x h
if_ok (Err e) P Q f h = tt
