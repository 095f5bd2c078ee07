-- The first fault of a tree's variables, by their numbers.
use Rattle.std.proofs.Common.{◌≡◌, ◌∙◌, refl, sym, ap, subst, ℕ, zero, suc, ◌+◌, ◌<◌, ◌≤◌, Bool, true, false, not, List, [], ◌∷◌, map, take, length, get_or, Option, Some, None, All, arith, if◌then◌else◌, add-one}
use Rattle.bp_theory.specs.Limits.{most_digits}
use Rattle.bp_theory.specs.declared.Limits.{Limits}
use Rattle.std.specs.Prelude.{sum_by, filter}
use Rattle.std.specs.Str.{bytes_eq}
use Rattle.std.specs.List.{IsDistinct, AllByRecursion}
use Rattle.std.proofs.lemmas.Bool.{lt-ltb, le-ltb}
use Rattle.std.proofs.lemmas.List.{get_or-map, length-map, same_lists, take-map}
use Rattle.std.proofs.lemmas.List.Sums.{sum_by-cons}
use Rattle.std.proofs.lemmas.List.Folds.{fold-map}
use Rattle.bp_theory.specs.Digits.{span_bits, zone_bits}
use Rattle.bp_theory.specs.declared.Span.{Span}
use Rattle.lp_token.specs.declared.LpKind.{LpKind}
use Rattle.lp_token.specs.declared.LpKind.TheVariants.{Limit}
use Rattle.lp_syntax.specs.Tree.{Name, SyntaxTree}
use Rattle.lp_syntax.specs.Roles.{firsts, variables}
use Rattle.lp_semantics.specs.Meaning.{ends, span_of, tokens_of}
use Rattle.lp_semantics.specs.Reading.{ends_fault, bounds_fault, variable_fault, digits_fault, place_of, first_found, first_past, or_else}
use Rattle.lp_semantics.specs.Numbered.{ends_in, is_listed_in, fault_in, stated_at, table_of, unsaid, IsFirstBoundsFault, IsFirstPast}
use Rattle.lp_semantics.specs.declared.bounds.Stated.{Stated}
use Rattle.lp_semantics.proofs.TableLemmas.{StandsFor, HasNames, table_says, length-table}

-- the firsts of names are apart
all_kept : (Q : Name → Type 0) (p : Name → Bool) (names : List Name) → AllByRecursion Q names → AllByRecursion Q (filter p names)
all_kept Q p [] h = tt
all_kept Q p (n ∷ names) h = by (p n) (all_kept Q p names h.1)
  where
    by : (b : Bool) → AllByRecursion Q (filter p names) → AllByRecursion Q (if b then n ∷ filter p names else filter p names)
    by true rest = (h.0, rest)
    by false rest = rest

distinct_kept : (p : Name → Bool) (names : List Name) → IsDistinct bytes_eq names → IsDistinct bytes_eq (filter p names)
unfolding IsDistinct
distinct_kept p [] h = tt
distinct_kept p (n ∷ names) h = by (p n) (distinct_kept p names h.1) (all_kept (λ y. bytes_eq n y ≡ false) p names h.0)
  where
    by : (b : Bool) → IsDistinct bytes_eq (filter p names) → AllByRecursion (λ y. bytes_eq n y ≡ false) (filter p names)
        → IsDistinct bytes_eq (if b then n ∷ filter p names else filter p names)
    by true rest apart = (apart, rest)
    by false rest apart = rest

apart_kept : (n : Name) (names : List Name) → AllByRecursion (λ y. bytes_eq n y ≡ false) (filter (λ m. not (bytes_eq n m)) names)
apart_kept n [] = tt
apart_kept n (m ∷ names) = by (bytes_eq n m) refl (apart_kept n names)
  where
    by : (b : Bool) → bytes_eq n m ≡ b → AllByRecursion (λ y. bytes_eq n y ≡ false) (filter (λ k. not (bytes_eq n k)) names)
        → AllByRecursion (λ y. bytes_eq n y ≡ false) (if not b then m ∷ filter (λ k. not (bytes_eq n k)) names else filter (λ k. not (bytes_eq n k)) names)
    by true e rest = rest
    by false e rest = (e, rest)

distinct_firsts : (names : List Name) → IsDistinct bytes_eq (firsts names)
unfolding IsDistinct
distinct_firsts [] = tt
distinct_firsts (n ∷ names) = (apart_kept n (firsts names), distinct_kept (λ m. not (bytes_eq n m)) (firsts names) (distinct_firsts names))

pub variables_distinct : (t : SyntaxTree) → IsDistinct bytes_eq (variables (tokens_of t))
unfolding variables
variables_distinct t = distinct_firsts _

-- the first that is found along a list
found_none : {B : Type 0} (f : Name → Option B) (names : List Name) → ((k : ℕ) → k < length names → f (get_or names k []) ≡ None) → first_found f names ≡ None
found_none f [] h = refl
found_none f (n ∷ names) h =
    ap (λ o. or_else o (first_found f names)) (h 0 (omega arith)) ∙ found_none f names (λ k l. h (suc k) (omega arith))

found_some : {B : Type 0} (f : Name → Option B) (names : List Name) (v : ℕ) (y : B) → v < length names → f (get_or names v []) ≡ Some y
    → ((k : ℕ) → k < v → f (get_or names k []) ≡ None) → first_found f names ≡ Some y
found_some f [] v y l e before = let none : ⊥ = omega arith in absurd none
found_some f (n ∷ names) zero y l e before = ap (λ o. or_else o (first_found f names)) e
found_some f (n ∷ names) (suc v) y l e before =
    ap (λ o. or_else o (first_found f names)) (before 0 (omega arith))
    ∙ found_some f names v y (omega arith) e (λ k m. before (suc k) (omega arith))

-- the name with which a running total passes
past_none : (w : Name → ℕ) (limit so_far : ℕ) (names : List Name) → so_far + sum_by w names ≤ limit
    → first_past limit so_far (map (λ n. (n, w n)) names) ≡ None
past_none w limit so_far [] l = refl
past_none w limit so_far (n ∷ names) l =
    let rest : so_far + w n + sum_by w names ≤ limit = omega (arith, l, sum_by-cons w n names) in
    ap (λ b. if b then Some n else first_past limit (so_far + w n) (map (λ m. (m, w m)) names)) (le-ltb limit (so_far + w n) (omega (arith, rest)))
    ∙ past_none w limit (so_far + w n) names rest

past_some : (w : Name → ℕ) (limit so_far : ℕ) (names : List Name) (v : ℕ) → v < length names
    → so_far + sum_by w (take v names) ≤ limit → limit < so_far + sum_by w (take (suc v) names)
    → first_past limit so_far (map (λ n. (n, w n)) names) ≡ Some (get_or names v [])
past_some w limit so_far [] v l before past = let none : ⊥ = omega arith in absurd none
past_some w limit so_far (n ∷ names) zero l before past =
    ap (λ b. if b then Some n else first_past limit (so_far + w n) (map (λ m. (m, w m)) names))
    (lt-ltb limit (so_far + w n) (omega (arith, past, sum_by-cons w n [])))
past_some w limit so_far (n ∷ names) (suc v) l before past =
    let low : so_far + w n + sum_by w (take v names) ≤ limit = omega (arith, before, sum_by-cons w n (take v names)) in
    let high : limit < so_far + w n + sum_by w (take (suc v) names) = omega (arith, past, sum_by-cons w n (take (suc v) names)) in
    ap (λ b. if b then Some n else first_past limit (so_far + w n) (map (λ m. (m, w m)) names)) (le-ltb limit (so_far + w n) (omega (arith, low)))
    ∙ past_some w limit (so_far + w n) names v (omega arith) low high

-- what a table says of a tree's variables
pub record Tells (t : SyntaxTree) (table : List Stated) : Type 0 where
  pub long : length table ≡ length (variables (tokens_of t))
  pub each : (v : ℕ) → v < length table → StandsFor t (get_or (variables (tokens_of t)) v []) (stated_at table v)

pub table_tells : (t : SyntaxTree) → AllByRecursion (HasNames (variables (tokens_of t))) t.parts → Tells t (table_of (variables (tokens_of t)) t.parts)
table_tells t there =
    let names : List Name = variables (tokens_of t) in
    record {
      long = length-table names t.parts;
      each = λ v l. table_says names t v (variables_distinct t) (omega (arith, l, length-table names t.parts)) there;
    }

fault_is : (t : SyntaxTree) (n : Name) (s : Stated) → StandsFor t n s → fault_in s ≡ bounds_fault t n
unfolding bounds_fault
fault_is t n s h = ap (λ e. ends_fault e (is_listed_in s)) h.ends ∙ ap (ends_fault (ends t n)) h.lists

-- the spans in a table
pub spans_are : (t : SyntaxTree) (table : List Stated) → Tells t table
    → map (λ s. span_of (ends_in s)) table ≡ map (λ n. span_of (ends t n)) (variables (tokens_of t))
spans_are t table h =
    let names : List Name = variables (tokens_of t) in
    same_lists (map (λ s. span_of (ends_in s)) table) (map (λ n. span_of (ends t n)) names)
    (length-map table (λ s. span_of (ends_in s)) ∙ h.long ∙ sym (length-map names (λ n. span_of (ends t n))))
    (λ k d l.
    let inside : k < length table = omega (arith, l, length-map table (λ s. span_of (ends_in s))) in
    get_or-map (λ s. span_of (ends_in s)) table k unsaid d inside
    ∙ ap span_of (h.each k inside).ends
    ∙ sym (get_or-map (λ n. span_of (ends t n)) names k [] d (omega (arith, inside, h.long))))

-- no variable at fault
pub no_variable : (t : SyntaxTree) (table : List Stated) → Tells t table → All (λ s. fault_in s ≡ None) table → variable_fault t ≡ None
unfolding variable_fault
no_variable t table h sound =
    found_none _ (variables (tokens_of t)) (λ k l.
    let inside : k < length table = omega (arith, l, h.long) in
    let here : bounds_fault t (get_or (variables (tokens_of t)) k []) ≡ None =
    sym (fault_is t (get_or (variables (tokens_of t)) k []) (stated_at table k) (h.each k inside)) ∙ sound k unsaid inside in
    ap (λ o. elim o [ None ↦ None | Some kind ↦ Some (place_of (get_or (variables (tokens_of t)) k []) (tokens_of t), kind) ]) here)

-- the first variable at fault
pub first_variable : (t : SyntaxTree) (table : List Stated) (v : ℕ) (kind : LpKind) → Tells t table → IsFirstBoundsFault table v kind
    → variable_fault t ≡ Some (place_of (get_or (variables (tokens_of t)) v []) (tokens_of t), kind)
unfolding variable_fault
first_variable t table v kind h first =
    let names : List Name = variables (tokens_of t) in
    let fault_at : (k : ℕ) → k < length table → fault_in (stated_at table k) ≡ bounds_fault t (get_or names k []) =
    λ k inside. fault_is t (get_or names k []) (stated_at table k) (h.each k inside) in
    found_some _ names v (place_of (get_or names v []) (tokens_of t), kind) (omega (arith, first.there, h.long))
    (ap (λ o. elim o [ None ↦ None | Some kind ↦ Some (place_of (get_or names v []) (tokens_of t), kind) ]) (sym (fault_at v first.there) ∙ first.fault))
    (λ k l. ap (λ o. elim o [ None ↦ None | Some kind ↦ Some (place_of (get_or names k []) (tokens_of t), kind) ])
    (sym (fault_at k (omega (arith, l, first.there))) ∙ first.first k l))

-- binary digits of a tree's spans
bits_of_names : (t : SyntaxTree) (spans : List Span) (i : ℕ) → spans ≡ map (λ n. span_of (ends t n)) (variables (tokens_of t))
    → zone_bits (take i spans) ≡ sum_by (λ n. span_bits (span_of (ends t n))) (take i (variables (tokens_of t)))
bits_of_names t spans i e =
    ap (λ ss. zone_bits (take i ss)) e
    ∙ ap zone_bits (take-map (λ n. span_of (ends t n)) i (variables (tokens_of t)))
    ∙ fold-map (λ a s. a + span_bits s) (λ n. span_of (ends t n)) 0 (take i (variables (tokens_of t)))

pub few_digits : (limits : Limits) (t : SyntaxTree) (spans : List Span) → spans ≡ map (λ n. span_of (ends t n)) (variables (tokens_of t)) → zone_bits spans ≤ most_digits limits → digits_fault limits t ≡ None
unfolding digits_fault
few_digits limits t spans e l =
    let whole : zone_bits spans ≡ sum_by (λ n. span_bits (span_of (ends t n))) (variables (tokens_of t)) =
    ap zone_bits e ∙ fold-map (λ a s. a + span_bits s) (λ n. span_of (ends t n)) 0 (variables (tokens_of t)) in
    ap (λ o. elim o [ None ↦ None | Some n ↦ Some (place_of n (tokens_of t), Limit) ])
    (past_none (λ n. span_bits (span_of (ends t n))) (most_digits limits) 0 (variables (tokens_of t)) (omega (arith, whole, l)))

pub many_digits : (limits : Limits) (t : SyntaxTree) (spans : List Span) (v : ℕ) → spans ≡ map (λ n. span_of (ends t n)) (variables (tokens_of t)) → IsFirstPast limits spans v
    → digits_fault limits t ≡ Some (place_of (get_or (variables (tokens_of t)) v []) (tokens_of t), Limit)
unfolding digits_fault
many_digits limits t spans v e past =
    let names : List Name = variables (tokens_of t) in
    let long : length spans ≡ length names = ap length e ∙ length-map names (λ n. span_of (ends t n)) in
    let after : most_digits limits < sum_by (λ n. span_bits (span_of (ends t n))) (take (suc v) names) =
    subst (λ i. most_digits limits < sum_by (λ n. span_bits (span_of (ends t n))) (take i names)) (add-one v) (omega (arith, past.past, bits_of_names t spans (v + 1) e)) in
    ap (λ o. elim o [ None ↦ None | Some n ↦ Some (place_of n (tokens_of t), Limit) ])
    (past_some (λ n. span_bits (span_of (ends t n))) (most_digits limits) 0 names v (omega (arith, past.there, long))
    (omega (arith, past.before, bits_of_names t spans v e)) (omega (arith, after)))
