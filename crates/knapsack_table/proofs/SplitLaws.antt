-- Laws of the parts of a number.
use Rattle.std.proofs.Common.{◌≡◌, refl, sym, ap, subst, ◌∙◌, ℕ, zero, suc, ◌+◌, ◌*◌, ◌^◌, ◌<◌, ◌≤◌, List, [], ◌∷◌, ◌++◌, arith, pow_pos}
use Rattle.std.proofs.Math.Nat.{mul-le-mul_left, pow-suc}
use Rattle.std.specs.Prelude.{sum}
use Rattle.std.proofs.lemmas.List.Sums.{sum_by-cons, sum_by_push}
use Rattle.search_laws.specs.Parts.{doubles, rest_part, ArePartsOf}
use Rattle.knapsack_table.specs.Parts.{AreGrowing}

-- a first double of which more than one is left fits 64 bits
pub first_fits : (first count : ℕ) → 0 < count → first * 2 ^ count ≤ 2 ^ 64 → first < 2 ^ 64
first_fits first zero l h = absurd (omega arith)
first_fits first (suc count) l h = omega (arith, h, pow-suc 2 count, mul-le-mul_left first (pow_pos count), ap (λ n. first * n) (pow-suc 2 count))

-- doubles from one more than what is done on grow, and so does a rest that is smaller than the next double
doubles_grow : (done count rest : ℕ) → rest ≤ (done + 1) * 2 ^ count → AreGrowing done (doubles (done + 1) count ++ rest_part rest)
doubles_grow done zero zero l = tt
doubles_grow done zero (suc rest) l = (omega arith, omega (arith, l), tt)
doubles_grow done (suc count) rest l = (
  omega arith,
  omega arith,
  subst (λ n. AreGrowing (done + (done + 1)) (doubles n count ++ rest_part rest)) (twice done)
      (doubles_grow (done + (done + 1)) count rest (omega (arith, l, pow-suc 2 count, ap (λ n. (done + 1) * n) (pow-suc 2 count), next done (2 ^ count)))),
)
  where
    twice : (n : ℕ) → (n + (n + 1)) + 1 ≡ 2 * (n + 1)
    twice n = omega arith

    next : (n p : ℕ) → ((n + (n + 1)) + 1) * p ≡ (n + 1) * (2 * p)
    next n p = omega arith

-- the parts of a number grow
pub parts_grow : (w : ℕ) (parts : List ℕ) → ArePartsOf w parts → AreGrowing 0 parts
parts_grow w parts h = subst (AreGrowing 0) (sym h.listed) (doubles_grow 0 h.count h.rest (omega (arith, h.small)))

-- one part more is yielded
pub grown_more : (width done : ℕ) (left rest : List ℕ) (units : ℕ) → left ≡ units ∷ rest → done + sum left ≡ width → AreGrowing done left
    → (0 < units) × (units ≤ done + 1) × ((done + units) + sum rest ≡ width) × AreGrowing (done + units) rest
grown_more width done left rest units e s g =
    by left e s g
  where
    by : (xs : List ℕ) → xs ≡ units ∷ rest → done + sum xs ≡ width → AreGrowing done xs
        → (0 < units) × (units ≤ done + 1) × ((done + units) + sum rest ≡ width) × AreGrowing (done + units) rest
    by [] e s g = absurd (cc)
    by (x ∷ xs) e s g =
        let head : x ≡ units = cc in
        let tail : xs ≡ rest = cc in
        let grows : AreGrowing (done + units) rest =
        subst (λ v. AreGrowing (done + v) rest) head (subst (AreGrowing (done + x)) tail g.2) in
        (omega (arith, g.0, head), omega (arith, g.1, head), omega (arith, s, sum_by-cons (λ (n : ℕ). n) x xs, head, ap sum tail), grows)

pub sum_more : (xs : List ℕ) (y : ℕ) → sum (xs ++ y ∷ []) ≡ sum xs + y
sum_more xs y = sum_by_push (λ (n : ℕ). n) xs y
