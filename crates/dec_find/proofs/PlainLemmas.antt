-- The decomposition without blocks is that beside all rows.
use Rattle.std.proofs.Common.{◌≡◌, ℕ, zero, suc, ◌+◌, ◌<◌, List, [], ◌∷◌, length, get_or, map, Option, Some, None, refl, sym, ap, subst, ◌∙◌, arith}
use Rattle.std.specs.Prelude.{Contains}
use Rattle.std.specs.List.{range_with_len}
use Rattle.std.proofs.lemmas.List.FromFn.{length-range_with_len, get_or-range_with_len}
use Rattle.bp_theory.specs.Program.{Program}
use Rattle.bp_theory.specs.Decomposition.{IsPlace}
use Rattle.bp_theory.specs.declared.Row.{Row}
use Rattle.bp_model.specs.Dec.{plain_of}
use Rattle.dec_components.proofs.NumberLemmas.{no_some}
use Rattle.dec_find.specs.Guess.{IsGuess}

no_place : (rows : List Row) (r : ℕ) (d : Option ℕ) → r < length rows → get_or (map (λ (row : Row). let none : Option ℕ = None in none) rows) r d ≡ None
no_place [] r d l = absurd (omega arith)
no_place (x ∷ rows) zero d l = refl
no_place (x ∷ rows) (suc r) d l = no_place rows r d (omega (arith, l))

never_some : (rows : List Row) (r k : ℕ) → get_or (map (λ (row : Row). let none : Option ℕ = None in none) rows) r None ≡ Some k → ⊥
never_some [] r k e = no_some k e
never_some (x ∷ rows) zero k e = no_some k e
never_some (x ∷ rows) (suc r) k e = never_some rows r k e

count : (rows : List Row) → length (map (λ (row : Row). let none : Option ℕ = None in none) rows) ≡ length rows
count [] = refl
count (x ∷ rows) = ap suc (count rows)

all_rows : Program → List ℕ
all_rows p = range_with_len 0 (length p.rows)

in_all : (p : Program) (r : ℕ) → r < length p.rows → Contains (all_rows p) r
unfolding all_rows
in_all p r l = (r, omega (arith, l, length-range_with_len 0 (length p.rows)), (let none : 0 + r ≡ r = omega arith in get_or-range_with_len 0 (length p.rows) r r l ∙ none))

pub plain_guess : (p : Program) → IsGuess p (plain_of p)
plain_guess p = (
  all_rows p,
  record {
    places = record {
      each = count p.rows;
      known = λ r d l. subst (IsPlace 0) (sym (no_place p.rows r d (omega (arith, l, count p.rows)))) tt;
    };
    master_rows = λ r l. (λ e. in_all p r l, λ c. no_place p.rows r None l);
    blocks = λ r s o q. absurd (o.outside (in_all p r o.there));
    filled = λ k l. absurd (omega (arith, l));
    numbered = λ r j k e l. absurd (never_some p.rows r k e);
    unlisted = refl;
  },
)
