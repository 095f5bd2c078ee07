-- What the sections of a tree say of a variable stands in the table at its number.
use Rattle.std.proofs.Common.{◌≡◌, ◌∙◌, refl, sym, ap, ℕ, ◌<◌, Bool, true, false, ◌||◌, ◌&&◌, List, [], ◌∷◌, ◌++◌, fold, length, replicate, set, get_or, Contains, arith, if◌then◌else◌, nat_eq, get_or-set_same, get_or-set_other, length-set}
use Rattle.std.specs.Prelude.{pos, flat_map}
use Rattle.std.specs.Str.{bytes_eq}
use Rattle.std.specs.List.{IsDistinct, AllByRecursion}
use Rattle.std.proofs.lemmas.Bool.{eqb-true, eqb-false}
use Rattle.std.proofs.lemmas.List.{length-replicate, get_or-replicate}
use Rattle.std.proofs.lemmas.List.Folds.{list_any-append}
use Rattle.lp_syntax.specs.Tree.{Name, Bound, Part, bounds, generals, binaries, SyntaxTree}
use Rattle.lp_semantics.specs.Meaning.{Extended, whole, above, Side, lower, upper, Statement, statements, part_statements, general_names, binary_names, is_on, last_said, has_name, Ends, greater, lesser, stated_ends, ends, is_listed}
use Rattle.lp_semantics.specs.Numbered.{number_in, unsaid, with_value, with_general, with_binary, stated_at, say, say_bound, list_general, list_binary, say_part, table_of, ends_in, is_listed_in}
use Rattle.lp_semantics.specs.declared.bounds.Stated.{Stated}
use Rattle.lp_semantics.proofs.NameNumbers.{same_number}

-- a variable after more statements and lists
abbrev summed : Name → Stated → List Statement → List Name → List Name → Stated
summed n s said gs bs = record {
  lo = last_said n lower s.lo said;
  hi = last_said n upper s.hi said;
  general = has_name gs n || s.general;
  binary = has_name bs n || s.binary;
}

last_said-append : (n : Name) (side : Side) (d : Extended) (xs ys : List Statement) → last_said n side d (xs ++ ys) ≡ last_said n side (last_said n side d xs) ys
last_said-append n side d [] ys = refl
last_said-append n side d (x ∷ xs) ys = last_said-append n side (if is_on n side x then x.value else d) xs ys

later_or : (xs ys : List Name) (n : Name) (b : Bool) → (has_name ys n || (has_name xs n || b)) ≡ (has_name (xs ++ ys) n || b)
later_or xs ys n b = by (has_name xs n) (has_name ys n) b ∙ ap (λ t. t || b) (sym (list_any-append (bytes_eq n) xs ys))
  where
    by : (x y c : Bool) → (y || (x || c)) ≡ ((x || y) || c)
    by true true c = refl
    by true false c = refl
    by false true c = refl
    by false false c = refl

-- first some, then more
summed_twice : (n : Name) (s : Stated) (said said' : List Statement) (gs gs' bs bs' : List Name)
    → summed n (summed n s said gs bs) said' gs' bs' ≡ summed n s (said ++ said') (gs ++ gs') (bs ++ bs')
summed_twice n s said said' gs gs' bs bs' =
    make (sym (last_said-append n lower s.lo said said')) (sym (last_said-append n upper s.hi said said')) (later_or gs gs' n s.general) (later_or bs bs' n s.binary)
  where
    make : {a b c d : Extended} {e f g h : Bool} → a ≡ b → c ≡ d → e ≡ f → g ≡ h
        → (let x : Stated = record { lo = a; hi = c; general = e; binary = g } in x) ≡ record { lo = b; hi = d; general = f; binary = h }
    make {a} {b} {c} {d} {e} {f} {g} {h} p q r s =
        ap (λ z. let x : Stated = record { lo = z; hi = c; general = e; binary = g } in x) p
        ∙ ap (λ z. let x : Stated = record { lo = b; hi = z; general = e; binary = g } in x) q
        ∙ ap (λ z. let x : Stated = record { lo = b; hi = d; general = z; binary = g } in x) r
        ∙ ap (λ z. let x : Stated = record { lo = b; hi = d; general = f; binary = z } in x) s

-- at its number a variable is changed, elsewhere not
changed : (table : List Stated) (k v : ℕ) (x : Stated) (b : Bool) → nat_eq k v ≡ b → v < length table
    → stated_at (set table k x) v ≡ (if b then x else stated_at table v)
changed table k v x true e l =
    let same : k ≡ v = eqb-true k v e in
    ap (λ i. stated_at (set table i x) v) same ∙ get_or-set_same table v x unsaid l
changed table k v x false e l = get_or-set_other table k v x unsaid (λ same. eqb-false k v e (sym same))

-- one statement
said_once : (names : List Name) (table : List Stated) (v : ℕ) (t : Statement) → IsDistinct bytes_eq names → length table ≡ length names → v < length names
    → Contains names t.variable → stated_at (say names table t) v ≡ summed (get_or names v []) (stated_at table v) (t ∷ []) [] []
said_once names table v t distinct same l there =
    let k : ℕ = number_in names t.variable in
    let here : nat_eq k v ≡ bytes_eq (get_or names v []) t.variable = same_number names t.variable v distinct there l in
    changed table k v (with_value (stated_at table k) t.side t.value) (bytes_eq (get_or names v []) t.variable) here (omega (arith, l, same))
    ∙ by (bytes_eq (get_or names v []) t.variable) t.side here
  where
    by : (b : Bool) (side : Side) → nat_eq (number_in names t.variable) v ≡ b
        → (if b then with_value (stated_at table (number_in names t.variable)) side t.value else stated_at table v)
        ≡ record {
          lo = if (b && (elim side [ lower ↦ true | upper ↦ false ])) then t.value else (stated_at table v).lo;
          hi = if (b && (elim side [ lower ↦ false | upper ↦ true ])) then t.value else (stated_at table v).hi;
          general = (stated_at table v).general;
          binary = (stated_at table v).binary;
        }
    by true lower e = ap (λ i. with_value (stated_at table i) lower t.value) (eqb-true (number_in names t.variable) v e)
    by true upper e = ap (λ i. with_value (stated_at table i) upper t.value) (eqb-true (number_in names t.variable) v e)
    by false side e = refl

length-say : (names : List Name) (table : List Stated) (t : Statement) → length (say names table t) ≡ length table
length-say names table t = length-set table (number_in names t.variable) (with_value (stated_at table (number_in names t.variable)) t.side t.value)

-- the statements of a list
abbrev pub AreNamed : List Name → List Statement → Type 0
AreNamed names said = AllByRecursion (λ (t : Statement). Contains names t.variable) said

said_all : (names : List Name) (table : List Stated) (v : ℕ) (said : List Statement) → IsDistinct bytes_eq names → length table ≡ length names → v < length names
    → AreNamed names said
    → (stated_at (fold (say names) table said) v ≡ summed (get_or names v []) (stated_at table v) said [] []) × (length (fold (say names) table said) ≡ length names)
said_all names table v [] distinct same l there = (refl, same)
said_all names table v (t ∷ said) distinct same l there =
    let rest : (stated_at (fold (say names) (say names table t) said) v ≡ summed (get_or names v []) (stated_at (say names table t) v) said [] []) × (length (fold (say names) (say names table t) said) ≡ length names) =
    said_all names (say names table t) v said distinct (length-say names table t ∙ same) l there.1 in (
      rest.0 ∙ ap (λ s. summed (get_or names v []) s said [] []) (said_once names table v t distinct same l there.0)
          ∙ summed_twice (get_or names v []) (stated_at table v) (t ∷ []) said [] [] [] [],
      rest.1,
    )

bounds_all : (names : List Name) (table : List Stated) (v : ℕ) (bs : List Bound) → IsDistinct bytes_eq names → length table ≡ length names → v < length names
    → AllByRecursion (λ b. AreNamed names (statements b)) bs
    → (stated_at (fold (say_bound names) table bs) v ≡ summed (get_or names v []) (stated_at table v) (flat_map statements bs) [] []) × (length (fold (say_bound names) table bs) ≡ length names)
bounds_all names table v [] distinct same l there = (refl, same)
bounds_all names table v (b ∷ bs) distinct same l there =
    let here : (stated_at (say_bound names table b) v ≡ summed (get_or names v []) (stated_at table v) (statements b) [] []) × (length (say_bound names table b) ≡ length names) =
    said_all names table v (statements b) distinct same l there.0 in
    let rest : (stated_at (fold (say_bound names) (say_bound names table b) bs) v ≡ summed (get_or names v []) (stated_at (say_bound names table b) v) (flat_map statements bs) [] []) × (length (fold (say_bound names) (say_bound names table b) bs) ≡ length names) =
    bounds_all names (say_bound names table b) v bs distinct here.1 l there.1 in (
      rest.0 ∙ ap (λ s. summed (get_or names v []) s (flat_map statements bs) [] []) here.0
          ∙ summed_twice (get_or names v []) (stated_at table v) (statements b) (flat_map statements bs) [] [] [] [],
      rest.1,
    )

general_once : (names : List Name) (table : List Stated) (v : ℕ) (m : Name) → IsDistinct bytes_eq names → length table ≡ length names → v < length names
    → Contains names m → stated_at (list_general names table m) v ≡ summed (get_or names v []) (stated_at table v) [] (m ∷ []) []
general_once names table v m distinct same l there =
    let here : nat_eq (number_in names m) v ≡ bytes_eq (get_or names v []) m = same_number names m v distinct there l in
    changed table (number_in names m) v (with_general (stated_at table (number_in names m))) (bytes_eq (get_or names v []) m) here (omega (arith, l, same))
    ∙ by (bytes_eq (get_or names v []) m) here
  where
    by : (b : Bool) → nat_eq (number_in names m) v ≡ b
        → (if b then with_general (stated_at table (number_in names m)) else stated_at table v)
        ≡ record { lo = (stated_at table v).lo; hi = (stated_at table v).hi; general = (b || false) || (stated_at table v).general; binary = (stated_at table v).binary }
    by true e = ap (λ i. with_general (stated_at table i)) (eqb-true (number_in names m) v e)
    by false e = refl

generals_all : (names : List Name) (table : List Stated) (v : ℕ) (ns : List Name) → IsDistinct bytes_eq names → length table ≡ length names → v < length names
    → AllByRecursion (Contains names) ns
    → (stated_at (fold (list_general names) table ns) v ≡ summed (get_or names v []) (stated_at table v) [] ns []) × (length (fold (list_general names) table ns) ≡ length names)
generals_all names table v [] distinct same l there = (refl, same)
generals_all names table v (m ∷ ns) distinct same l there =
    let k : ℕ = number_in names m in
    let rest : (stated_at (fold (list_general names) (list_general names table m) ns) v ≡ summed (get_or names v []) (stated_at (list_general names table m) v) [] ns []) × (length (fold (list_general names) (list_general names table m) ns) ≡ length names) =
    generals_all names (list_general names table m) v ns distinct (length-set table k (with_general (stated_at table k)) ∙ same) l there.1 in (
      rest.0 ∙ ap (λ s. summed (get_or names v []) s [] ns []) (general_once names table v m distinct same l there.0)
          ∙ summed_twice (get_or names v []) (stated_at table v) [] [] (m ∷ []) ns [] [],
      rest.1,
    )

binary_once : (names : List Name) (table : List Stated) (v : ℕ) (m : Name) → IsDistinct bytes_eq names → length table ≡ length names → v < length names
    → Contains names m → stated_at (list_binary names table m) v ≡ summed (get_or names v []) (stated_at table v) [] [] (m ∷ [])
binary_once names table v m distinct same l there =
    let here : nat_eq (number_in names m) v ≡ bytes_eq (get_or names v []) m = same_number names m v distinct there l in
    changed table (number_in names m) v (with_binary (stated_at table (number_in names m))) (bytes_eq (get_or names v []) m) here (omega (arith, l, same))
    ∙ by (bytes_eq (get_or names v []) m) here
  where
    by : (b : Bool) → nat_eq (number_in names m) v ≡ b
        → (if b then with_binary (stated_at table (number_in names m)) else stated_at table v)
        ≡ record { lo = (stated_at table v).lo; hi = (stated_at table v).hi; general = (stated_at table v).general; binary = (b || false) || (stated_at table v).binary }
    by true e = ap (λ i. with_binary (stated_at table i)) (eqb-true (number_in names m) v e)
    by false e = refl

binaries_all : (names : List Name) (table : List Stated) (v : ℕ) (ns : List Name) → IsDistinct bytes_eq names → length table ≡ length names → v < length names
    → AllByRecursion (Contains names) ns
    → (stated_at (fold (list_binary names) table ns) v ≡ summed (get_or names v []) (stated_at table v) [] [] ns) × (length (fold (list_binary names) table ns) ≡ length names)
binaries_all names table v [] distinct same l there = (refl, same)
binaries_all names table v (m ∷ ns) distinct same l there =
    let k : ℕ = number_in names m in
    let rest : (stated_at (fold (list_binary names) (list_binary names table m) ns) v ≡ summed (get_or names v []) (stated_at (list_binary names table m) v) [] [] ns) × (length (fold (list_binary names) (list_binary names table m) ns) ≡ length names) =
    binaries_all names (list_binary names table m) v ns distinct (length-set table k (with_binary (stated_at table k)) ∙ same) l there.1 in (
      rest.0 ∙ ap (λ s. summed (get_or names v []) s [] [] ns) (binary_once names table v m distinct same l there.0)
          ∙ summed_twice (get_or names v []) (stated_at table v) [] [] [] [] (m ∷ []) ns,
      rest.1,
    )

-- the names of a section are in the list
abbrev pub HasNames : List Name → Part → Type 0
HasNames names (bounds bs) = AllByRecursion (λ b. AreNamed names (statements b)) bs
HasNames names (generals ns) = AllByRecursion (Contains names) ns
HasNames names (binaries ns) = AllByRecursion (Contains names) ns

part_said : (names : List Name) (table : List Stated) (v : ℕ) (p : Part) → IsDistinct bytes_eq names → length table ≡ length names → v < length names
    → HasNames names p
    → (stated_at (say_part names table p) v ≡ summed (get_or names v []) (stated_at table v) (part_statements p) (general_names p) (binary_names p)) × (length (say_part names table p) ≡ length names)
part_said names table v (bounds bs) distinct same l there = bounds_all names table v bs distinct same l there
part_said names table v (generals ns) distinct same l there = generals_all names table v ns distinct same l there
part_said names table v (binaries ns) distinct same l there = binaries_all names table v ns distinct same l there

parts_said : (names : List Name) (table : List Stated) (v : ℕ) (ps : List Part) → IsDistinct bytes_eq names → length table ≡ length names → v < length names
    → AllByRecursion (HasNames names) ps
    → (stated_at (fold (say_part names) table ps) v ≡ summed (get_or names v []) (stated_at table v) (flat_map part_statements ps) (flat_map general_names ps) (flat_map binary_names ps))
    × (length (fold (say_part names) table ps) ≡ length names)
parts_said names table v [] distinct same l there = (refl, same)
parts_said names table v (p ∷ ps) distinct same l there =
    let here : (stated_at (say_part names table p) v ≡ summed (get_or names v []) (stated_at table v) (part_statements p) (general_names p) (binary_names p)) × (length (say_part names table p) ≡ length names) =
    part_said names table v p distinct same l there.0 in
    let rest : (stated_at (fold (say_part names) (say_part names table p) ps) v ≡ summed (get_or names v []) (stated_at (say_part names table p) v) (flat_map part_statements ps) (flat_map general_names ps) (flat_map binary_names ps)) × (length (fold (say_part names) (say_part names table p) ps) ≡ length names) =
    parts_said names (say_part names table p) v ps distinct here.1 l there.1 in (
      rest.0 ∙ ap (λ s. summed (get_or names v []) s (flat_map part_statements ps) (flat_map general_names ps) (flat_map binary_names ps)) here.0
          ∙ summed_twice (get_or names v []) (stated_at table v) (part_statements p) (flat_map part_statements ps) (general_names p) (flat_map general_names ps) (binary_names p) (flat_map binary_names ps),
      rest.1,
    )

or_none : (b : Bool) → (b || false) ≡ b
or_none true = refl
or_none false = refl

-- a variable's bounds and lists stand at its number
pub record StandsFor (t : SyntaxTree) (n : Name) (s : Stated) : Type 0 where
  pub ends : ends_in s ≡ ends t n
  pub lists : is_listed_in s ≡ is_listed t n

pub table_says : (names : List Name) (t : SyntaxTree) (v : ℕ) → IsDistinct bytes_eq names → v < length names → AllByRecursion (HasNames names) t.parts
    → StandsFor t (get_or names v []) (stated_at (table_of names t.parts) v)
unfolding table_of ends stated_ends is_listed
table_says names t v distinct l there =
    let n : Name = get_or names v [] in
    let start : List Stated = replicate (length names) unsaid in
    let all : stated_at (fold (say_part names) start t.parts) v ≡ summed n (stated_at start v) (flat_map part_statements t.parts) (flat_map general_names t.parts) (flat_map binary_names t.parts) =
    (parts_said names start v t.parts distinct (length-replicate (length names) unsaid) l there).0 in
    let from_unsaid : stated_at (fold (say_part names) start t.parts) v ≡ summed n unsaid (flat_map part_statements t.parts) (flat_map general_names t.parts) (flat_map binary_names t.parts) =
    all ∙ ap (λ s. summed n s (flat_map part_statements t.parts) (flat_map general_names t.parts) (flat_map binary_names t.parts)) (get_or-replicate (length names) v unsaid unsaid l) in
    let said : List Statement = flat_map part_statements t.parts in
    record {
      ends = ap ends_in from_unsaid
          ∙ ap (λ b. if b then (let e : Ends = record { lo = greater (last_said n lower (whole (pos 0)) said) (whole (pos 0)); hi = lesser (last_said n upper above said) (whole (pos 1)) } in e)
          else record { lo = last_said n lower (whole (pos 0)) said; hi = last_said n upper above said }) (or_none (has_name (flat_map binary_names t.parts) n));
      lists = ap is_listed_in from_unsaid
          ∙ ap (λ b. b || (has_name (flat_map binary_names t.parts) n || false)) (or_none (has_name (flat_map general_names t.parts) n))
          ∙ ap (λ b. has_name (flat_map general_names t.parts) n || b) (or_none (has_name (flat_map binary_names t.parts) n));
    }

pub length-table : (names : List Name) (parts : List Part) → length (table_of names parts) ≡ length names
unfolding table_of
length-table names parts = along (replicate (length names) unsaid) parts (length-replicate (length names) unsaid)
  where
    keeps : {X : Type 0} (f : List Stated → X → List Stated) → ((t : List Stated) (x : X) → length (f t x) ≡ length t) → (t : List Stated) (xs : List X) → length (fold f t xs) ≡ length t
    keeps f each t [] = refl
    keeps f each t (x ∷ xs) = keeps f each (f t x) xs ∙ each t x

    part : (t : List Stated) (p : Part) → length (say_part names t p) ≡ length t
    part t (bounds bs) = keeps (say_bound names) (λ u b. keeps (say names) (length-say names) u (statements b)) t bs
    part t (generals ns) = keeps (list_general names) (λ u m. length-set u (number_in names m) (with_general (stated_at u (number_in names m)))) t ns
    part t (binaries ns) = keeps (list_binary names) (λ u m. length-set u (number_in names m) (with_binary (stated_at u (number_in names m)))) t ns

    along : (t : List Stated) (ps : List Part) → length t ≡ length names → length (fold (say_part names) t ps) ≡ length names
    along t ps e = keeps (say_part names) part t ps ∙ e
