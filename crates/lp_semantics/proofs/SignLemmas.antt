-- Numbers under runs of signs: the product of signs is minus where the minuses are odd.
use mathlib.Core.Bool.{beq}
use Rattle.std.proofs.Common.{◌≡◌, ◌∙◌, refl, sym, ap, ℕ, ◌+◌, ◌%◌, Bool, true, false, not, List, [], ◌∷◌, arith, zero-add, if◌then◌else◌, nat_eq}
use Rattle.std.specs.Prelude.{count_by, pos, neg_ℤ, int_lt, unsigned_abs}
use Rattle.std.proofs.lemmas.List.Sums.{sum_by-cons}
use Rattle.std.proofs.lemmas.Int.{ints}
use Rattle.std.proofs.lemmas.Bool.Decides.{nat_tests}
use Rattle.lp_syntax.specs.declared.tree.Sign.{Sign}
use Rattle.lp_syntax.specs.declared.tree.Sign.TheVariants.{Plus as plus, Minus as minus}
use Rattle.lp_syntax.specs.declared.tree.Value.{Value}
use Rattle.lp_syntax.specs.declared.tree.Value.TheVariants.{Endless as endless}
use Rattle.lp_semantics.specs.Meaning.{signed, minimised, below, above, value_of}
use Rattle.lp_semantics.specs.Numbered.{is_minus, is_negative}

flips : (n : ℕ) → nat_eq ((1 + n) % 2) 1 ≡ not (nat_eq (n % 2) 1)
flips n = grind (arith, nat_tests)

-- a run of signs is minus where its minuses are odd
pub odd_minuses : (signs : List Sign) → nat_eq (count_by is_minus signs % 2) 1 ≡ is_negative signs
odd_minuses [] = refl
odd_minuses (plus ∷ signs) =
    ap (λ n. nat_eq (n % 2) 1) (sum_by-cons (λ s. if is_minus s then 1 else 0) plus signs ∙ zero-add (count_by is_minus signs))
    ∙ odd_minuses signs
odd_minuses (minus ∷ signs) =
    ap (λ n. nat_eq (n % 2) 1) (sum_by-cons (λ s. if is_minus s then 1 else 0) minus signs)
    ∙ flips (count_by is_minus signs)
    ∙ ap not (odd_minuses signs)

-- a number with the sign of a run
pub signed_is : (signs : List Sign) (n : ℕ) → signed signs n ≡ (if is_negative signs then neg_ℤ (pos n) else pos n)
signed_is [] n = refl
signed_is (plus ∷ signs) n = signed_is signs n
signed_is (minus ∷ signs) n = ap neg_ℤ (signed_is signs n) ∙ turn (is_negative signs)
  where
    turn : (b : Bool) → neg_ℤ (if b then neg_ℤ (pos n) else pos n) ≡ (if not b then neg_ℤ (pos n) else pos n)
    turn true = omega (arith, ints)
    turn false = refl

-- a run that is turned as it is minus leaves the number
pub turned_back : (turned : Bool) (signs : List Sign) (n : ℕ) → is_negative signs ≡ turned → minimised turned (signed signs n) ≡ pos n
turned_back turned signs n e =
    ap (minimised turned) (signed_is signs n ∙ ap (λ b. if b then neg_ℤ (pos n) else pos n) e) ∙ by turned
  where
    by : (b : Bool) → minimised b (if b then neg_ℤ (pos n) else pos n) ≡ pos n
    by true = omega (arith, ints)
    by false = refl

-- and one that is not turns it
pub turned_over : (turned : Bool) (signs : List Sign) (n : ℕ) → is_negative signs ≡ not turned → minimised turned (signed signs n) ≡ neg_ℤ (pos n)
turned_over turned signs n e =
    ap (minimised turned) (signed_is signs n ∙ ap (λ b. if b then neg_ℤ (pos n) else pos n) e) ∙ by turned
  where
    by : (b : Bool) → minimised b (if not b then neg_ℤ (pos n) else pos n) ≡ neg_ℤ (pos n)
    by true = refl
    by false = refl

-- the magnitude of a number under signs
pub size_stays : (turned : Bool) (signs : List Sign) (n : ℕ) → unsigned_abs (minimised turned (signed signs n)) ≡ n
size_stays turned signs n = ap (λ z. unsigned_abs (minimised turned z)) (signed_is signs n) ∙ by turned (is_negative signs)
  where
    by : (t b : Bool) → unsigned_abs (minimised t (if b then neg_ℤ (pos n) else pos n)) ≡ n
    by true true = omega (arith, ints)
    by true false = omega (arith, ints)
    by false true = omega (arith, ints)
    by false false = refl

-- a run before an infinity is minus where 1 under it is below 0
pub below_zero : (signs : List Sign) → int_lt (signed signs 1) (pos 0) ≡ is_negative signs
below_zero signs = ap (λ z. int_lt z (pos 0)) (signed_is signs 1) ∙ by (is_negative signs)
  where
    by : (b : Bool) → int_lt (if b then neg_ℤ (pos 1) else pos 1) (pos 0) ≡ b
    by true = refl
    by false = refl

-- what a test of two truth values says
pub same_truth : (b t : Bool) → beq b t ≡ true → b ≡ t
same_truth true true e = refl
same_truth true false e = sym e
same_truth false true e = e
same_truth false false e = refl

pub other_truth : (b t : Bool) → beq b t ≡ false → b ≡ not t
other_truth true true e = e
other_truth true false e = refl
other_truth false true e = refl
other_truth false false e = sym e

-- an infinity with the sign of its run
pub endless_is : (v : Value) (signs run : List Sign) (b : Bool) → v ≡ endless signs → run ≡ signs → b ≡ is_negative run
    → (if b then below else above) ≡ value_of v
endless_is v signs run b e same sign =
    ap (λ t. if t then below else above) (sign ∙ ap is_negative same ∙ sym (below_zero signs)) ∙ ap value_of (sym e)
