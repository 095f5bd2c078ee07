-- Whether the sums of a row keep the limit, from its coefficients.
use Rattle.std.proofs.Common.{◌≡◌, ◌∙◌, ◌+◌, ◌<◌, ◌≤◌, ◌^◌, ℕ, List, map, max, sym, subst, ap, arith, All}
use Rattle.std.specs.Prelude.{ℤ, ◌+ℤ◌, unsigned_abs}
use Rattle.std.proofs.lemmas.List.Elements.{All-map}
use Rattle.bp_theory.specs.Program.{Program, KeepsActivity}
use Rattle.bp_theory.specs.Decomposition.{HasVariablesBelow}
use Rattle.bp_theory.specs.declared.Span.{Span}
use Rattle.bp_theory.specs.declared.Term.{Term}
use Rattle.bp_model.specs.Tidy.{as_term, pair_limit, sum_limit}
use Rattle.bp_model.proofs.TidyLemmas.{limit-as_term, small_sums}
use Rattle.bp_theory.specs.declared.Row.{Row}
use Rattle.bp_theory.specs.declared.Sense.TheVariants.{Ge}
use Rattle.cut_sums.specs.Bounded.{row_from, IsRowFrom}
use Rattle.cut_sums.specs.Rows.{low_activity}

-- what a row of coefficients keeps
limit_is : (p : Program) (above : ℤ) (es : List (ℕ × ℤ)) → KeepsActivity p (row_from p above (map as_term es))
    → unsigned_abs (above +ℤ low_activity p.spans (map as_term es)) + pair_limit p.spans es < 2 ^ 62
limit_is p above es kept =
    let low : ℤ = above +ℤ low_activity p.spans (map as_term es) in
    let act : max (unsigned_abs low) (unsigned_abs low) + sum_limit p.spans (map as_term es) < 2 ^ 62 = kept in
    omega (arith, act, limit-as_term p.spans es)

-- coefficients whose sums alone may leave 62 bits
pub large_limit : (p : Program) (above : ℤ) (es : List (ℕ × ℤ)) → 2 ^ 62 ≤ pair_limit p.spans es → KeepsActivity p (row_from p above (map as_term es)) → ⊥
large_limit p above es large kept = omega (arith, large, limit_is p above es kept)

-- coefficients whose sums together with the side may leave 62 bits
pub large_row : (p : Program) (above : ℤ) (es : List (ℕ × ℤ)) (low : ℤ) (limit : ℕ) → low ≡ above +ℤ low_activity p.spans (map as_term es) → limit ≡ pair_limit p.spans es
    → 2 ^ 62 ≤ unsigned_abs low + limit → KeepsActivity p (row_from p above (map as_term es)) → ⊥
large_row p above es low limit low_is limit_is' large kept =
    omega (arith, large, limit_is p above es kept, ap unsigned_abs low_is, limit_is')

pub small_row : (p : Program) (above : ℤ) (es : List (ℕ × ℤ)) (low : ℤ) (limit : ℕ) → low ≡ above +ℤ low_activity p.spans (map as_term es) → limit ≡ pair_limit p.spans es
    → unsigned_abs low + limit < 2 ^ 62 → KeepsActivity p (row_from p above (map as_term es))
small_row p above es low limit low_is limit_is' small =
    let act : max (unsigned_abs (above +ℤ low_activity p.spans (map as_term es))) (unsigned_abs (above +ℤ low_activity p.spans (map as_term es))) + sum_limit p.spans (map as_term es) < 2 ^ 62 =
    omega (arith, small, ap unsigned_abs low_is, limit_is', limit-as_term p.spans es) in act

-- each coefficient is small
pub small_coefs : (spans : List Span) (es : List (ℕ × ℤ)) (limit : ℕ) → limit ≡ pair_limit spans es → limit < 2 ^ 62 → All (λ e. unsigned_abs e.1 < 2 ^ 62) es
small_coefs spans es limit is small = small_sums spans 0 es (omega (arith, is, small))

-- the terms of coefficients
pub terms_below : (n : ℕ) (es : List (ℕ × ℤ)) (ts : List Term) → ts ≡ map as_term es → All (λ e. e.0 < n) es → HasVariablesBelow n ts
terms_below n es ts is h = subst (HasVariablesBelow n) (sym is) (All-map (λ (t : Term). t.var < n) as_term es h)

pub terms_small : (spans : List Span) (es : List (ℕ × ℤ)) (ts : List Term) (limit : ℕ) → ts ≡ map as_term es → limit ≡ pair_limit spans es → limit < 2 ^ 62
    → sum_limit spans ts < 2 ^ 62
terms_small spans es ts limit is limit_is' small =
    subst (λ (ts : List Term). sum_limit spans ts < 2 ^ 62) (sym is) (omega (arith, limit-as_term spans es, limit_is', small))

-- the row of small numbers
pub is_row_from : (p : Program) (above : ℤ) (es : List (ℕ × ℤ)) (low : ℤ) (limit : ℕ) (ts : List Term) (row : Row) → low ≡ above +ℤ low_activity p.spans (map as_term es)
    → limit ≡ pair_limit p.spans es → unsigned_abs low + limit < 2 ^ 62 → ts ≡ map as_term es → row ≡ record { sense = Ge; low = low; rhs = low; terms = ts }
    → IsRowFrom p above (map as_term es) row
is_row_from p above es low limit ts row low_is limit_is' small terms is =
    let same : row ≡ row_from p above (map as_term es) =
    is ∙ ap (λ (z : ℤ). record { sense = Ge; low = z; rhs = z; terms = ts }) low_is
    ∙ ap (λ (us : List Term). record { sense = Ge; low = above +ℤ low_activity p.spans (map as_term es); rhs = above +ℤ low_activity p.spans (map as_term es); terms = us }) terms in
    record { is = same; kept = subst (KeepsActivity p) (sym same) (small_row p above es low limit low_is limit_is' small) }
