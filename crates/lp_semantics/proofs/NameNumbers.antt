-- The numbers of names in a list that has each name once.
use Rattle.std.proofs.Common.{◌≡◌, ◌∙◌, refl, sym, ap, subst, ℕ, zero, suc, ◌<◌, Bool, true, false, List, [], ◌∷◌, length, arith, if◌then◌else◌, Some, slice_get, get_or, Contains, true≢false, nat_eq, Option, IfSome}
use Rattle.std.specs.List.{IsDistinct, AllByRecursion}
use Rattle.std.specs.Str.{bytes_eq}
use Rattle.std.proofs.lemmas.Slice.Eq.{bytes_eq-Decides}
use Rattle.std.proofs.lemmas.Bool.{false_from_ne_true, eq-eqb, ne_eqb}
use Rattle.std.proofs.lemmas.Option.{slice_get_within, slice_get-get_or}
use Rattle.lp_syntax.specs.Tree.{Name}
use Rattle.lp_semantics.specs.Numbered.{number_in}

-- names that differ don't pass the test
pub other_name : (m n : Name) → (m ≡ n → ⊥) → bytes_eq m n ≡ false
other_name m n h = false_from_ne_true (bytes_eq m n) (λ e. h ((bytes_eq-Decides m n).0 e))

pub same_name : (n : Name) → bytes_eq n n ≡ true
same_name n = (bytes_eq-Decides n n).1 refl

-- the number of the first name is 0, that of any other one more than behind it
pub number_first : (m n : Name) (names : List Name) → n ≡ m → number_in (m ∷ names) n ≡ 0
number_first m n names e = ap (λ t. if t then 0 else suc (number_in names n)) ((bytes_eq-Decides n m).1 e)

pub number_behind : (m n : Name) (names : List Name) → (n ≡ m → ⊥) → number_in (m ∷ names) n ≡ suc (number_in names n)
number_behind m n names h = ap (λ t. if t then 0 else suc (number_in names n)) (other_name n m h)

-- what is apart from each name isn't among them
apart_from : (m n : Name) (names : List Name) (k : ℕ) → AllByRecursion (λ y. bytes_eq m y ≡ false) names → slice_get names k ≡ Some n → n ≡ m → ⊥
apart_from m n [] k all e same = let none : ⊥ = cc in none
apart_from m n (x ∷ names) zero all e same =
    let here : m ≡ x = cc in true≢false (sym ((bytes_eq-Decides m x).1 here) ∙ all.0)
apart_from m n (x ∷ names) (suc k) all e same = apart_from m n names k all.1 e same

-- the name of a number has that number
pub number_at : (names : List Name) (k : ℕ) (n : Name) → IsDistinct bytes_eq names → slice_get names k ≡ Some n → number_in names n ≡ k
unfolding IsDistinct
number_at [] k n distinct e = let none : ⊥ = cc in absurd none
number_at (m ∷ names) zero n distinct e = let same : n ≡ m = cc in number_first m n names same
number_at (m ∷ names) (suc k) n distinct e =
    number_behind m n names (apart_from m n names k distinct.0 e) ∙ ap suc (number_at names k n distinct.1 e)

-- the number of a name that is there is that of it
pub name_there : (names : List Name) (n : Name) → Contains names n → slice_get names (number_in names n) ≡ Some n
name_there [] n there = let none : ⊥ = omega (arith, there.1) in absurd none
name_there (m ∷ names) n there = by (bytes_eq n m) refl there.0 there.1 there.2 (name_there names n)
  where
    by : (b : Bool) → bytes_eq n m ≡ b → (k : ℕ) → k < length (m ∷ names) → get_or (m ∷ names) k n ≡ n
        → (Contains names n → slice_get names (number_in names n) ≡ Some n)
        → slice_get (m ∷ names) (if b then zero else suc (number_in names n)) ≡ Some n
    by true e k l same behind = ap Some (sym ((bytes_eq-Decides n m).0 e))
    by false e zero l same behind = absurd (true≢false (sym ((bytes_eq-Decides n m).1 (sym same)) ∙ e))
    by false e (suc k) l same behind = behind (k, omega arith, same)

pub number_within : (names : List Name) (n : Name) → Contains names n → number_in names n < length names
number_within names n there = slice_get_within names (number_in names n) n (name_there names n there)

-- the test of a name against the name of a number is the test of the numbers
pub same_number : (names : List Name) (n : Name) (v : ℕ) → IsDistinct bytes_eq names → Contains names n → v < length names
    → nat_eq (number_in names n) v ≡ bytes_eq (get_or names v []) n
same_number names n v distinct there inside = by (bytes_eq (get_or names v []) n) refl
  where
    here : slice_get names v ≡ Some (get_or names v [])
    here = slice_get-get_or names v [] inside

    found : number_in names n ≡ v → get_or names v [] ≡ n
    found same = let both : Some (get_or names v []) ≡ Some n = sym here ∙ ap (slice_get names) (sym same) ∙ name_there names n there in cc

    by : (b : Bool) → bytes_eq (get_or names v []) n ≡ b → nat_eq (number_in names n) v ≡ b
    by true e =
        let same : get_or names v [] ≡ n = (bytes_eq-Decides (get_or names v []) n).0 e in
        eq-eqb (number_in names n) v (number_at names v n distinct (here ∙ ap Some same))
    by false e =
        ne_eqb (number_in names n) v (λ same. true≢false (sym ((bytes_eq-Decides (get_or names v []) n).1 (found same)) ∙ e))

-- a name that was looked up has its number
pub number_found : (names : List Name) (o : Option ℕ) (k : ℕ) (bytes n : Name) → IsDistinct bytes_eq names
    → IfSome o (λ i. slice_get names i ≡ Some bytes) → o ≡ Some k → bytes ≡ n → (k ≡ number_in names n) × (k < length names)
number_found names o k bytes n distinct found e same =
    let here : slice_get names k ≡ Some n = subst (λ p. IfSome p (λ i. slice_get names i ≡ Some bytes)) e found ∙ ap Some same in
    (sym (number_at names k n distinct here), slice_get_within names k n here)
