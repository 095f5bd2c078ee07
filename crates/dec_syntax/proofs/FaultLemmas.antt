-- The first fault among tokens.
use Rattle.std.proofs.Common.{◌≡◌, ℕ, ◌<◌, ◌≤◌, ◌⊎◌, suc, zero, List, length, refl, sym, ◌∙◌, ap, inl, inr, arith, Option, None, Some}
use Rattle.std.proofs.lemmas.Bool.{cases_order}
use Rattle.std.proofs.lemmas.Option.{slice_get_past}
use Rattle.std.specs.Prelude.{slice_get, option_and_then}
use Rattle.bp_model.specs.Named.{NamedProgram}
use Rattle.dec_syntax.specs.Cut.{Token}
use Rattle.dec_syntax.specs.Parts.{parts_before}
use Rattle.dec_syntax.specs.Faults.{token_fault, fault_at}
use Rattle.dec_syntax.specs.declared.kind.DecKind.{DecKind}

-- no token is past the last
pub no_fault_past : (m : NamedProgram) (ts : List Token) (i : ℕ) → length ts ≤ i → fault_at m ts i ≡ None
unfolding fault_at
no_fault_past m ts i l = ap (option_and_then (token_fault m (parts_before ts i))) (slice_get_past ts i l)

-- the first place below a number with a fault, or none
pub record IsFirstBelow (m : NamedProgram) (ts : List Token) (n : ℕ) : Type 0 where
  pub place : ℕ
  pub kind : DecKind
  pub here : fault_at m ts place ≡ Some kind
  pub first : (k : ℕ) → k < place → fault_at m ts k ≡ None

pub first_or_none : (m : NamedProgram) (ts : List Token) (n : ℕ) → IsFirstBelow m ts n ⊎ ((k : ℕ) → k < n → fault_at m ts k ≡ None)
first_or_none m ts zero = inr (λ k l. absurd (omega arith))
first_or_none m ts (suc n) = by (first_or_none m ts n)
  where
    here : (o : Option DecKind) → fault_at m ts n ≡ o → ((k : ℕ) → k < n → fault_at m ts k ≡ None) → IsFirstBelow m ts (suc n) ⊎ ((k : ℕ) → k < suc n → fault_at m ts k ≡ None)
    here None e below = inr (λ k l. elim (cases_order k n) [
      | inl s ↦ ap (fault_at m ts) s ∙ e
      | inr (inl s) ↦ below k s
      | inr (inr s) ↦ absurd (omega arith)
    ])
    here (Some kind) e below = inl (record { place = n; kind = kind; here = e; first = below })

    by : IsFirstBelow m ts n ⊎ ((k : ℕ) → k < n → fault_at m ts k ≡ None) → IsFirstBelow m ts (suc n) ⊎ ((k : ℕ) → k < suc n → fault_at m ts k ≡ None)
    by (inl f) = inl (record { place = f.place; kind = f.kind; here = f.here; first = f.first })
    by (inr below) = here (fault_at m ts n) refl below

-- a fault stands at a token
pub fault_token : (m : NamedProgram) (ts : List Token) (i : ℕ) (kind : DecKind) → fault_at m ts i ≡ Some kind → (token : Token) × (slice_get ts i ≡ Some token)
unfolding fault_at
fault_token m ts i kind e = by (slice_get ts i) refl
  where
    by : (o : Option Token) → slice_get ts i ≡ o → (token : Token) × (slice_get ts i ≡ Some token)
    by (Some token) s = (token, s)
    by None s =
        let none : fault_at m ts i ≡ None = ap (option_and_then (token_fault m (parts_before ts i))) s in
        let odd : ◌≡◌ {A = Option DecKind} (Some kind) None = sym e ∙ none in
        absurd (cc)
