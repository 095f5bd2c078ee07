-- What a model is made of, and what it is refused for.
use Rattle.std.proofs.Common.{◌≡◌, ℕ, zero, suc, ◌+◌, ◌<◌, ◌≤◌, ◌^◌, List, [], ◌∷◌, ◌++◌, map, length, take, drop, get_or, length-append, All, Option, None, Some, refl, sym, ap, subst, ◌∙◌, arith, Result, Ok, Err, IfErr}
use Rattle.std.specs.Result.{IsErrAnd}
use Rattle.std.specs.Prelude.{ℤ, pos, unsigned_abs}
use Rattle.std.specs.List.{AllByRecursion, AllZip, IsDistinct}
use Rattle.std.specs.Str.{bytes_eq}
use Rattle.std.proofs.lemmas.List.{length-take}
use Rattle.std.proofs.lemmas.List.Elements.{recursion_from_All, All-from_recursion}
use Rattle.bp_theory.specs.Program.{Program, KeepsActivity}
use Rattle.bp_theory.specs.Decomposition.{HasVariablesBelow, IsTidyFrom}
use Rattle.bp_theory.specs.Digits.{zone_bits}
use Rattle.bp_theory.specs.Limits.{most_digits}
use Rattle.bp_theory.specs.declared.Span.{Span}
use Rattle.bp_theory.proofs.LimitLaws.{few_rows, few_variables, rows_are_lines}
use Rattle.bp_theory.specs.declared.Term.{Term}
use Rattle.bp_theory.specs.declared.Row.{Row}
use Rattle.bp_theory.specs.declared.Sense.TheVariants.{Le}
use Rattle.bp_theory.proofs.ZipLaws.{AllZip_at, AllZip-length}
use Rattle.bp_model.specs.Named.{NamedProgram, IsKept, cost_limit, HasSmallEnds}
use Rattle.bp_model.specs.Parts.{AreFitting, IsTidied, IsTidiedRow, Makes, NoneCrossed, IsFirstCrossed, IsFirstLarge, IsOverLimit, HasModelFault}
use Rattle.bp_model.specs.Tidy.{IsLarge, IsSmall, IsSmallRow, IsLargeAt, HasRowsFault, HasCostsFault, HasSpansFault, CanAssemble, assembled}
use Rattle.bp_model.specs.declared.parts.Parts.{Parts}
use Rattle.bp_model.specs.declared.parts.ModelFault.{ModelFault}
use Rattle.bp_model.specs.declared.parts.ModelFault.TheVariants.{Crossed, Bits, Activity, Limit, NoMemory}
use Rattle.bp_model.proofs.TidyLemmas.{tidied_below, row_sums, rows_sums_tidy}

-- a row where there is none
no_row : Row
no_row = record { sense = Le; low = pos 0; rhs = pos 0; terms = [] }

-- ---- facts of two lists

zip_weaker : {A B : Type 0} (R S : A → B → Type 0) → ((a : A) (b : B) → R a b → S a b) → (xs : List A) (ys : List B) → AllZip R xs ys → AllZip S xs ys
zip_weaker R S h [] [] all = tt
zip_weaker R S h [] (y ∷ ys) all = all
zip_weaker R S h (x ∷ xs) [] all = all
zip_weaker R S h (x ∷ xs) (y ∷ ys) all = (h x y all.0, zip_weaker R S h xs ys all.1)

zip-append : {A B : Type 0} (R : A → B → Type 0) (xs : List A) (ys : List B) (us : List A) (vs : List B)
    → AllZip R xs ys → AllZip R us vs → AllZip R (xs ++ us) (ys ++ vs)
zip-append R [] [] us vs h k = k
zip-append R [] (y ∷ ys) us vs h k = absurd h
zip-append R (x ∷ xs) [] us vs h k = absurd h
zip-append R (x ∷ xs) (y ∷ ys) us vs h k = (h.0, zip-append R xs ys us vs h.1 k)

zip_all : {A B : Type 0} (R : A → B → Type 0) (P : A → Type 0) (Q : B → Type 0) → ((a : A) (b : B) → P a → R a b → Q b)
    → (xs : List A) (ys : List B) → AllByRecursion P xs → AllZip R xs ys → AllByRecursion Q ys
zip_all R P Q h [] [] all zip = tt
zip_all R P Q h [] (y ∷ ys) all zip = absurd zip
zip_all R P Q h (x ∷ xs) [] all zip = absurd zip
zip_all R P Q h (x ∷ xs) (y ∷ ys) all zip = (h x y all.0 zip.0, zip_all R P Q h xs ys all.1 zip.1)

-- a list around a place
split_at : {A : Type 0} (xs : List A) (k : ℕ) (d : A) → k < length xs → xs ≡ take k xs ++ get_or xs k d ∷ drop (suc k) xs
split_at [] k d l = absurd (omega arith)
split_at (x ∷ xs) zero d l = refl
split_at (x ∷ xs) (suc k) d l = ap (λ ys. x ∷ ys) (split_at xs k d (omega arith))

-- what stands at the place behind a front, and in the front
at_middle : {A : Type 0} (xs : List A) (y : A) (ys : List A) (k : ℕ) (d : A) → length xs ≡ k → get_or (xs ++ y ∷ ys) k d ≡ y
at_middle [] y ys zero d e = refl
at_middle [] y ys (suc k) d e = absurd (omega (arith, e))
at_middle (x ∷ xs) y ys zero d e = absurd (omega (arith, e))
at_middle (x ∷ xs) y ys (suc k) d e = at_middle xs y ys k d (omega (arith, e))

in_front : {A : Type 0} (xs ys : List A) (k : ℕ) (d : A) → k < length xs → get_or (xs ++ ys) k d ≡ get_or xs k d
in_front [] ys k d l = absurd (omega arith)
in_front (x ∷ xs) ys zero d l = refl
in_front (x ∷ xs) ys (suc k) d l = in_front xs ys k d (omega arith)

all_dropped : {A : Type 0} (P : A → Type 0) (k : ℕ) (xs : List A) → AllByRecursion P xs → AllByRecursion P (drop k xs)
all_dropped P zero xs h = h
all_dropped P (suc k) [] h = tt
all_dropped P (suc k) (x ∷ xs) h = all_dropped P k xs h.1

-- ---- a model that is made

tidied_rows_of : (spans : List Span) (rows tidy : List Row) → AllZip (IsSmallRow spans) rows tidy → AllZip IsTidiedRow rows tidy
tidied_rows_of spans rows tidy h = zip_weaker (IsSmallRow spans) IsTidiedRow (λ row t small. small.tidied) rows tidy h

pub makes : (parts : Parts) (costs : List Term) (rows : List Row) → IsTidied parts.costs costs → AllZip (IsSmallRow parts.spans) parts.rows rows
    → Makes parts (assembled parts costs rows)
makes parts costs rows tidied small = record {
  names = refl;
  row_names = refl;
  spans = refl;
  rows = tidied_rows_of parts.spans parts.rows rows small;
  costs = tidied;
  constant = refl;
  maximises = refl;
  limits = refl;
}

-- nothing of each
trivial : (xs : List Row) → AllByRecursion (λ (row : Row). Unit {0}) xs
trivial [] = tt
trivial (x ∷ xs) = (tt, trivial xs)

-- the added rows keep their limits
keep_activity : (p : Program) (rows tidy : List Row) → AllZip (IsSmallRow p.spans) rows tidy → All (KeepsActivity p) tidy
keep_activity p rows tidy h =
    All-from_recursion (KeepsActivity p) tidy
    (zip_all (IsSmallRow p.spans) (λ row. Unit {0}) (KeepsActivity p) (λ row t any small. small.small) rows tidy (trivial rows) h)

pub keeps : (parts : Parts) (costs : List Term) (rows : List Row) → CanAssemble parts costs rows
    → IsDistinct bytes_eq parts.names → IsDistinct bytes_eq parts.row_names → IsKept (assembled parts costs rows)
keeps parts costs rows h distinct rows_distinct =
    let n = length parts.spans in
    let as_many : length parts.rows ≡ length rows = AllZip-length (IsSmallRow parts.spans) parts.rows rows h.rows_small in record {
      named = h.fitting.named;
      row_named = h.fitting.row_named ∙ as_many;
      distinct = distinct;
      rows_distinct = rows_distinct;
      proper = h.proper;
      ends = h.limits.ends;
      variables = omega (arith, h.limits.variables, few_variables parts.limits);
      rows = omega (arith, h.limits.rows, few_rows parts.limits, as_many);
      lines = omega (arith, h.limits.rows, rows_are_lines parts.limits, as_many);
      bits = h.bits;
      closed = record {
        costs = tidied_below n parts.costs costs h.costs_small.tidied h.fitting.costs;
        rows = All-from_recursion (λ (row : Row). HasVariablesBelow n row.terms) rows
            (zip_all (IsSmallRow parts.spans) (λ row. HasVariablesBelow n row.terms) (λ row. HasVariablesBelow n row.terms)
            (λ row tidy below small. tidied_below n row.terms tidy.terms small.tidied.terms below)
            parts.rows rows (recursion_from_All (λ (row : Row). HasVariablesBelow n row.terms) parts.rows h.fitting.terms) h.rows_small);
      };
      tidy_costs = h.costs_small.tidied.tidy;
      tidy_rows = All-from_recursion (λ (row : Row). IsTidyFrom 0 row.terms) rows
          (zip_all (IsSmallRow parts.spans) (λ row. Unit {0}) (λ row. IsTidyFrom 0 row.terms) (λ row tidy any small. small.tidied.terms.tidy) parts.rows rows (trivial parts.rows) h.rows_small);
      cost_activity = h.costs_small.small;
      row_activity = keep_activity (assembled parts costs rows).program parts.rows rows h.rows_small;
    }

-- ---- what parts are refused for

pub spans_fault : (parts : Parts) (f : ModelFault) → HasSpansFault parts.limits parts.spans f → HasModelFault parts f
spans_fault parts (Crossed v) h = h
spans_fault parts Bits h = h
spans_fault parts (Activity row) h = absurd h
spans_fault parts Limit h = absurd h
spans_fault parts NoMemory h = absurd h

-- the named program of parts whose rows are added up by their coefficients
by_sums : Parts → List Term → NamedProgram
by_sums parts costs = assembled parts costs (map (row_sums (length parts.spans)) parts.rows)

makes_by_sums : (parts : Parts) (costs : List Term) → AreFitting parts → IsTidied parts.costs costs → Makes parts (by_sums parts costs)
unfolding by_sums
makes_by_sums parts costs fitting tidied = record {
  names = refl;
  row_names = refl;
  spans = refl;
  rows = rows_sums_tidy (length parts.spans) parts.rows
      (recursion_from_All (λ (row : Row). HasVariablesBelow (length parts.spans) row.terms) parts.rows fitting.terms);
  costs = tidied;
  constant = refl;
  maximises = refl;
  limits = refl;
}

large_by_sums : (parts : Parts) (costs : List Term) → 2 ^ 62 ≤ cost_limit (assembled parts costs (map (row_sums (length parts.spans)) parts.rows)).program
    → 2 ^ 62 ≤ cost_limit (by_sums parts costs).program
unfolding by_sums
large_by_sums parts costs h = h

pub costs_fault : (parts : Parts) (f : ModelFault) → AreFitting parts → NoneCrossed parts.spans → zone_bits parts.spans ≤ most_digits parts.limits
    → HasCostsFault parts.spans parts.constant parts.costs f → HasModelFault parts f
costs_fault parts (Crossed v) fitting proper bits h = absurd h
costs_fault parts Bits fitting proper bits h = absurd h
costs_fault parts (Activity None) fitting proper bits h =
    (proper, bits, (by_sums parts h.sums, makes_by_sums parts h.sums fitting h.tidied, large_by_sums parts h.sums h.large))
costs_fault parts (Activity (Some row)) fitting proper bits h = absurd h
costs_fault parts Limit fitting proper bits h = absurd h
costs_fault parts NoMemory fitting proper bits h = tt

-- the rows around the first large one
rows_around : ℕ → List Row → List Row → ℕ → List Term → List Row
rows_around n rows before k sums =
    before ++ (record { sense = (get_or rows k no_row).sense; low = (get_or rows k no_row).low; rhs = (get_or rows k no_row).rhs; terms = sums }) ∷ map (row_sums n) (drop (suc k) rows)

rows_around_tidy : (n : ℕ) (spans : List Span) (rows : List Row) (k : ℕ) (h : IsLargeAt spans rows k)
    → AllByRecursion (λ (row : Row). HasVariablesBelow n row.terms) rows
    → AllZip IsTidiedRow rows (rows_around n rows h.before k (h.large no_row).sums)
unfolding rows_around
rows_around_tidy n spans rows k h below =
    let large : Row = record { sense = (get_or rows k no_row).sense; low = (get_or rows k no_row).low; rhs = (get_or rows k no_row).rhs; terms = (h.large no_row).sums } in
    subst (λ (all : List Row). AllZip IsTidiedRow all (h.before ++ large ∷ map (row_sums n) (drop (suc k) rows))) (sym (split_at rows k no_row h.there))
    (zip-append IsTidiedRow (take k rows) h.before (get_or rows k no_row ∷ drop (suc k) rows) (large ∷ map (row_sums n) (drop (suc k) rows))
    (tidied_rows_of spans (take k rows) h.before h.small) (
      record { sense = refl; low = refl; rhs = refl; terms = (h.large no_row).tidied },
      rows_sums_tidy n (drop (suc k) rows) (all_dropped (λ (row : Row). HasVariablesBelow n row.terms) (suc k) rows below),
    ))

length_before : (spans : List Span) (rows : List Row) (k : ℕ) (h : IsLargeAt spans rows k) → length h.before ≡ k
length_before spans rows k h =
    omega (arith, AllZip-length (IsSmallRow spans) (take k rows) h.before h.small, length-take k rows, h.there)

first_large : (p : Program) (n : ℕ) (rows : List Row) (k : ℕ) (h : IsLargeAt p.spans rows k)
    → p.rows ≡ rows_around n rows h.before k (h.large no_row).sums → IsFirstLarge p k
unfolding rows_around
first_large p n rows k h is =
    let large : Row = record { sense = (get_or rows k no_row).sense; low = (get_or rows k no_row).low; rhs = (get_or rows k no_row).rhs; terms = (h.large no_row).sums } in
    let rest : List Row = map (row_sums n) (drop (suc k) rows) in
    let front = length_before p.spans rows k h in record {
      there = subst (λ (all : List Row). k < length all) (sym is) (omega (arith, length-append h.before (large ∷ rest), front));
      large = λ d fits.
          let at : get_or p.rows k d ≡ large = ap (λ (all : List Row). get_or all k d) is ∙ at_middle h.before large rest k d front in
          let small : KeepsActivity p large = subst (KeepsActivity p) at fits in
          let none : ⊥ = omega (arith, small, (h.large no_row).large) in none;
      first = λ j d l.
          let at : get_or p.rows j d ≡ get_or h.before j d =
          ap (λ (all : List Row). get_or all j d) is ∙ in_front h.before (large ∷ rest) j d (omega (arith, l, front)) in
          let there : j < length (take k rows) = omega (arith, l, length-take k rows, h.there) in
          subst (KeepsActivity p) (sym at) (AllZip_at (IsSmallRow p.spans) (take k rows) h.before h.small j d d there).small;
    }

pub rows_fault : (parts : Parts) (costs : List Term) (f : ModelFault) → AreFitting parts → NoneCrossed parts.spans → zone_bits parts.spans ≤ most_digits parts.limits
    → IsSmall parts.spans (unsigned_abs parts.constant) parts.costs costs → HasRowsFault parts.spans parts.rows f → HasModelFault parts f
rows_fault parts costs (Crossed v) fitting proper bits small h = absurd h
rows_fault parts costs Bits fitting proper bits small h = absurd h
rows_fault parts costs (Activity None) fitting proper bits small h = absurd h
rows_fault parts costs (Activity (Some row)) fitting proper bits small h =
    let n = length parts.spans in
    let rows : List Row = rows_around n parts.rows h.before row (h.large no_row).sums in
    let m : NamedProgram = assembled parts costs rows in
    let made : Makes parts m = record {
      names = refl;
      row_names = refl;
      spans = refl;
      rows = rows_around_tidy n parts.spans parts.rows row h (recursion_from_All (λ (row : Row). HasVariablesBelow n row.terms) parts.rows fitting.terms);
      costs = small.tidied;
      constant = refl;
      maximises = refl;
      limits = refl;
    } in
    (proper, bits, (m, made, small.small, first_large m.program n parts.rows row h refl))
rows_fault parts costs Limit fitting proper bits small h = absurd h
rows_fault parts costs NoMemory fitting proper bits small h = tt

pub limit_fault : (parts : Parts) (costs : List Term) (rows : List Row) → NoneCrossed parts.spans → zone_bits parts.spans ≤ most_digits parts.limits
    → IsSmall parts.spans (unsigned_abs parts.constant) parts.costs costs → AllZip (IsSmallRow parts.spans) parts.rows rows
    → IsOverLimit parts → HasModelFault parts Limit
limit_fault parts costs rows proper bits costs_small rows_small over =
    let m : NamedProgram = assembled parts costs rows in
    let made : Makes parts m = record {
      names = refl;
      row_names = refl;
      spans = refl;
      rows = tidied_rows_of parts.spans parts.rows rows rows_small;
      costs = costs_small.tidied;
      constant = refl;
      maximises = refl;
      limits = refl;
    } in
    (proper, bits, (m, made, costs_small.small, keep_activity m.program parts.rows rows rows_small), over)

-- ---- the same where slices show the parts

pub costs_fault_at : (parts : Parts) (f : ModelFault) (spans : List Span) (costs : List Term) → AreFitting parts → NoneCrossed parts.spans
    → zone_bits parts.spans ≤ most_digits parts.limits → spans ≡ parts.spans → costs ≡ parts.costs → HasCostsFault spans parts.constant costs f → HasModelFault parts f
costs_fault_at parts f spans costs fitting proper bits spans_are costs_are h =
    costs_fault parts f fitting proper bits
    (subst (λ (all : List Term). HasCostsFault parts.spans parts.constant all f) costs_are
    (subst (λ (all : List Span). HasCostsFault all parts.constant costs f) spans_are h))

pub small_costs_at : (parts : Parts) (spans : List Span) (costs tidy : List Term) → spans ≡ parts.spans → costs ≡ parts.costs
    → IsSmall spans (unsigned_abs parts.constant) costs tidy → IsSmall parts.spans (unsigned_abs parts.constant) parts.costs tidy
small_costs_at parts spans costs tidy spans_are costs_are h =
    subst (λ (all : List Term). IsSmall parts.spans (unsigned_abs parts.constant) all tidy) costs_are
    (subst (λ (all : List Span). IsSmall all (unsigned_abs parts.constant) costs tidy) spans_are h)

pub small_rows_at : (parts : Parts) (spans : List Span) (rows tidy : List Row) → spans ≡ parts.spans → rows ≡ parts.rows
    → AllZip (IsSmallRow spans) rows tidy → AllZip (IsSmallRow parts.spans) parts.rows tidy
small_rows_at parts spans rows tidy spans_are rows_are h =
    subst (λ (all : List Row). AllZip (IsSmallRow parts.spans) all tidy) rows_are
    (subst (λ (all : List Span). AllZip (IsSmallRow all) rows tidy) spans_are h)

pub rows_fault_at : (parts : Parts) (costs : List Term) (f : ModelFault) (spans : List Span) (rows : List Row) → AreFitting parts → NoneCrossed parts.spans
    → zone_bits parts.spans ≤ most_digits parts.limits → IsSmall parts.spans (unsigned_abs parts.constant) parts.costs costs
    → spans ≡ parts.spans → rows ≡ parts.rows → HasRowsFault spans rows f → HasModelFault parts f
rows_fault_at parts costs f spans rows fitting proper bits small spans_are rows_are h =
    rows_fault parts costs f fitting proper bits small
    (subst (λ (all : List Row). HasRowsFault parts.spans all f) rows_are
    (subst (λ (all : List Span). HasRowsFault all rows f) spans_are h))

-- an error handed on as it is
pub handed_on : {T : Type 0} (r : Result T ModelFault) (f : ModelFault) (Q : ModelFault → Type 0) → IsErrAnd r (λ e. e ≡ f) → Q f → IfErr r Q
handed_on (Ok x) f Q h q = tt
handed_on (Err e) f Q h q = subst Q (sym h) q
