-- Laws of sums and scalar products of whole numbers over lists.
use Rattle.std.proofs.Common.{◌∙◌, ℕ, ◌≡◌, refl, sym, ap, List, [], ◌∷◌, ◌++◌, map, Bool, true, false, arith, length, take, get_or, ◌+◌, ◌<◌, ◌≤◌}
use Rattle.std.proofs.Math.IntN.{ℤ, pos, ◌+ℤ◌, ◌-ℤ◌, ◌*ℤ◌, *ℤ-zero, zero-*ℤ, +ℤ_idl, +ℤ_idr}
use Rattle.std.specs.Prelude.{◌≤ℤ◌, filter, if◌then◌else◌, sum_by, unsigned_abs}
use Rattle.std.proofs.lemmas.List.{take_more}
use Rattle.std.proofs.lemmas.List.Sums.{sum_by-cons, sum_by-take-le}
use Rattle.std.specs.List.{flat_map, AllByRecursion}
use Rattle.std.proofs.lemmas.Int.{ints}
use Rattle.bp_theory.specs.Sums.{sum_of, dot}
use Rattle.bp_theory.proofs.Whole.{mul-add, add-mul, le-add}

pub sum_of-append : {X : Type 0} (f : X → ℤ) (xs ys : List X) → sum_of f (xs ++ ys) ≡ sum_of f xs +ℤ sum_of f ys
sum_of-append f [] ys = sym (+ℤ_idl (sum_of f ys))
sum_of-append f (x ∷ xs) ys = omega (arith, ints, sum_of-append f xs ys)

-- a sum over joined lists
pub sum_of-flat_map : {X Y : Type 0} (f : Y → ℤ) (g : X → List Y) (xs : List X)
    → sum_of f (flat_map g xs) ≡ sum_of (λ x. sum_of f (g x)) xs
sum_of-flat_map f g [] = refl
sum_of-flat_map f g (x ∷ xs) = omega (arith, ints, sum_of-append f (g x) (flat_map g xs), sum_of-flat_map f g xs)

pub sum_of-map : {X Y : Type 0} (f : Y → ℤ) (g : X → Y) (xs : List X) → sum_of f (map g xs) ≡ sum_of (λ x. f (g x)) xs
sum_of-map f g [] = refl
sum_of-map f g (x ∷ xs) = ap (λ z. f (g x) +ℤ z) (sum_of-map f g xs)

-- terms that agree
pub sum_of-same : {X : Type 0} (f g : X → ℤ) → ((x : X) → f x ≡ g x) → (xs : List X) → sum_of f xs ≡ sum_of g xs
sum_of-same f g e [] = refl
sum_of-same f g e (x ∷ xs) = omega (arith, ints, e x, sum_of-same f g e xs)

pub sum_of-add : {X : Type 0} (f g : X → ℤ) (xs : List X) → sum_of (λ x. f x +ℤ g x) xs ≡ sum_of f xs +ℤ sum_of g xs
sum_of-add f g [] = refl
sum_of-add f g (x ∷ xs) = omega (arith, ints, sum_of-add f g xs)

pub sum_of-sub : {X : Type 0} (f g : X → ℤ) (xs : List X) → sum_of (λ x. f x -ℤ g x) xs ≡ sum_of f xs -ℤ sum_of g xs
sum_of-sub f g [] = refl
sum_of-sub f g (x ∷ xs) = omega (arith, ints, sum_of-sub f g xs)

pub sum_of-zero : {X : Type 0} (xs : List X) → sum_of (λ (x : X). pos 0) xs ≡ pos 0
sum_of-zero [] = refl
sum_of-zero (x ∷ xs) = omega (arith, ints, sum_of-zero xs)

-- a factor in front
pub mul-sum_of : {X : Type 0} (a : ℤ) (f : X → ℤ) (xs : List X) → a *ℤ sum_of f xs ≡ sum_of (λ x. a *ℤ f x) xs
mul-sum_of a f [] = *ℤ-zero a
mul-sum_of a f (x ∷ xs) = omega (arith, ints, mul-add a (f x) (sum_of f xs), mul-sum_of a f xs)

-- a factor behind
pub sum_of-mul : {X : Type 0} (a : ℤ) (f : X → ℤ) (xs : List X) → sum_of f xs *ℤ a ≡ sum_of (λ x. f x *ℤ a) xs
sum_of-mul a f [] = zero-*ℤ a
sum_of-mul a f (x ∷ xs) = omega (arith, ints, add-mul (f x) (sum_of f xs) a, sum_of-mul a f xs)

-- two sums change places
pub sum_of_swap : {X Y : Type 0} (f : X → Y → ℤ) (xs : List X) (ys : List Y)
    → sum_of (λ x. sum_of (f x) ys) xs ≡ sum_of (λ y. sum_of (λ x. f x y) xs) ys
sum_of_swap f [] ys = sym (sum_of-zero ys)
sum_of_swap f (x ∷ xs) ys =
    omega (arith, ints, sum_of_swap f xs ys, sum_of-add (f x) (λ y. sum_of (λ x'. f x' y) xs) ys)

-- a sum of smaller terms is smaller
pub sum_of-le : {X : Type 0} (f g : X → ℤ) (xs : List X) → AllByRecursion (λ x. f x ≤ℤ g x) xs → sum_of f xs ≤ℤ sum_of g xs
sum_of-le f g [] h = omega (arith, ints)
sum_of-le f g (x ∷ xs) h = le-add (f x) (g x) (sum_of f xs) (sum_of g xs) h.0 (sum_of-le f g xs h.1)

-- a scalar product of two functions of one list
pub dot-map-map : {X : Type 0} (f g : X → ℤ) (xs : List X) → dot (map f xs) (map g xs) ≡ sum_of (λ x. f x *ℤ g x) xs
dot-map-map f g [] = refl
dot-map-map f g (x ∷ xs) = ap (λ z. f x *ℤ g x +ℤ z) (dot-map-map f g xs)

-- a sum over what passes a test
pub sum_of-filter : {X : Type 0} (f : X → ℤ) (q : X → Bool) (xs : List X) → sum_of f (filter q xs) ≡ sum_of (λ x. if q x then f x else pos 0) xs
sum_of-filter f q [] = refl
sum_of-filter f q (x ∷ xs) = by (q x) (sum_of-filter f q xs)
  where
    by : (t : Bool) → sum_of f (filter q xs) ≡ sum_of (λ y. if q y then f y else pos 0) xs
        → sum_of f (if t then x ∷ filter q xs else filter q xs)
        ≡ (if t then f x else pos 0) +ℤ sum_of (λ y. if q y then f y else pos 0) xs
    by true rest = ap (λ z. f x +ℤ z) rest
    by false rest = omega (arith, ints, rest)

-- a loop's step: one more element
pub sum_of_more : {X : Type 0} (f : X → ℤ) (xs : List X) (i : ℕ) (d : X) → i < length xs
    → sum_of f (take (i + 1) xs) ≡ sum_of f (take i xs) +ℤ f (get_or xs i d)
sum_of_more f xs i d l =
    ap (sum_of f) (take_more xs i d l)
    ∙ sum_of-append f (take i xs) (get_or xs i d ∷ [])
    ∙ ap (λ z. sum_of f (take i xs) +ℤ z) (+ℤ_idr (f (get_or xs i d)))

-- a sum's magnitude is at most the sum of the magnitudes
pub sum_of-within : {X : Type 0} (f : X → ℤ) (xs : List X) → unsigned_abs (sum_of f xs) ≤ sum_by (λ x. unsigned_abs (f x)) xs
sum_of-within f [] = omega arith
sum_of-within f (x ∷ xs) = omega (arith, ints, sum_of-within f xs, sum_by-cons (λ y. unsigned_abs (f y)) x xs)

-- so is that of each sum so far
pub sum_of_so_far_within : {X : Type 0} (f : X → ℤ) (xs : List X) (i : ℕ)
    → unsigned_abs (sum_of f (take i xs)) ≤ sum_by (λ x. unsigned_abs (f x)) xs
sum_of_so_far_within f xs i = omega (arith, sum_of-within f (take i xs), sum_by-take-le (λ x. unsigned_abs (f x)) xs i)
