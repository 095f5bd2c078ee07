-- What a search finds in terms that are in order.
use Rattle.std.proofs.Common.{◌≡◌, ℕ, zero, suc, ◌<◌, ◌≤◌, List, [], ◌∷◌, length, get_or, Result, Ok, Err, sym, ap, ⊎_elim, arith}
use Rattle.std.specs.Prelude.{pos, MatchResult}
use Rattle.std.specs.List.Sorted.{IsBinarySearchResult, IsNonDecreasingBy}
use Rattle.std.specs.Ordering.{nat_cmp, ordering_index}
use Rattle.std.proofs.lemmas.Bool.{cases_lt}
use Rattle.std.proofs.lemmas.Bool.Decides.{nat_tests}
use Rattle.std.proofs.lemmas.Cmp.{ranked}
use Rattle.std.proofs.lemmas.List.Sorted.{IsNonDecreasingBy-from_default}
use Rattle.bp_theory.specs.Program.{coefficient}
use Rattle.bp_theory.specs.Decomposition.{IsTidyFrom}
use Rattle.bp_theory.specs.declared.Term.{Term}
use Rattle.block_program.proofs.StandLemmas.{coefficient_none}

from_start : (n : ℕ) (ts : List Term) (i : ℕ) (d : Term) → IsTidyFrom n ts → i < length ts → n ≤ (get_or ts i d).var
from_start n [] i d h l = absurd (omega arith)
from_start n (t ∷ ts) zero d h l = h.0
from_start n (t ∷ ts) (suc i) d h l = omega (arith, h.0, from_start (suc t.var) ts i d h.2 (omega (arith, l)))

terms_rise : (n : ℕ) (ts : List Term) (i j : ℕ) (d : Term) → IsTidyFrom n ts → i < j → j < length ts → (get_or ts i d).var < (get_or ts j d).var
terms_rise n [] i j d h l m = absurd (omega arith)
terms_rise n (t ∷ ts) i zero d h l m = absurd (omega arith)
terms_rise n (t ∷ ts) zero (suc j) d h l m = omega (arith, from_start (suc t.var) ts j d h.2 (omega (arith, m)))
terms_rise n (t ∷ ts) (suc i) (suc j) d h l m = terms_rise (suc t.var) ts i j d h.2 (omega (arith, l)) (omega (arith, m))

-- the comparisons with a variable rise along the terms, as a binary search asks
comparisons_rise : (ts : List Term) (v : ℕ) → IsTidyFrom 0 ts → IsNonDecreasingBy (λ (t : Term). ordering_index (nat_cmp t.var v)) ts
comparisons_rise ts v tidy = IsNonDecreasingBy-from_default (λ (t : Term). ordering_index (nat_cmp t.var v)) ts none (λ i j le within.
    let rise : (get_or ts i none).var ≤ (get_or ts j none).var = ⊎_elim
    (λ less. omega (arith, terms_rise 0 ts i j none tidy less within))
    (λ more. let same : i ≡ j = omega (arith, le, more) in omega (arith, ap (λ k. (get_or ts k none).var) same))
    (cases_lt i j) in
    grind (arith, nat_tests))
  where
    none : Term
    none = record { var = 0; coef = pos 0 }

-- a search by a variable ends at its term, or finds that it has none
pub term_found : (ts : List Term) (v : ℕ) (r : Result ℕ ℕ) → IsTidyFrom 0 ts → IsBinarySearchResult (λ (t : Term). nat_cmp t.var v) ts r
    → MatchResult r (λ i. (d : Term) → (get_or ts i d).var ≡ v) (λ i. coefficient ts v ≡ pos 0)
term_found ts v (Ok i) tidy equal = λ d. ranked (get_or ts i d).var v _ (sym (equal d))
term_found ts v (Err i) tidy parted =
    coefficient_none ts v (λ k d l same. ⊎_elim
    (λ less. let below : (get_or ts k d).var < v = ranked (get_or ts k d).var v _ (sym ((parted (comparisons_rise ts v tidy)).0 k d (omega arith) less)) in omega (arith, below, same))
    (λ more. let above : v < (get_or ts k d).var = ranked (get_or ts k d).var v _ (sym ((parted (comparisons_rise ts v tidy)).1 k d more l)) in omega (arith, above, same))
    (cases_lt k i))
