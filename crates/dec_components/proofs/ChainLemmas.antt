-- Chains of rows that neighbours' common variables make, and what they say of any decomposition.
use Rattle.std.proofs.Common.{◌≡◌, ◌≢◌, ℕ, zero, suc, ◌<◌, ◌≤◌, Bool, true, false, List, [], ◌∷◌, ◌++◌, length, get_or, Option, Some, None, refl, sym, ap, subst, ◌∙◌, ⊎_elim, ◌==◌, ◌||◌, arith}
use Rattle.std.specs.Prelude.{pos, All}
use Rattle.std.specs.List.{list_any}
use Rattle.std.proofs.lemmas.Bool.{false_from_ne_true, both_ways, or_left, or_right}
use Rattle.std.proofs.lemmas.Bool.Decides.{eqb_tells}
use Rattle.bp_theory.specs.Program.{Program, coefficient}
use Rattle.bp_theory.specs.Decomposition.{Decomposition, HasPlaces, IsPlace, IsLinking, is_in, stands_in, IsTidyFrom}
use Rattle.bp_theory.specs.declared.Term.{Term}
use Rattle.bp_theory.specs.declared.Row.{Row}
use Rattle.bp_theory.proofs.KeyLaws.{if_other}
use Rattle.bp_model.specs.Named.{NamedProgram, IsKept}
use Rattle.block_build.specs.Stand.{StandsInRow}
use Rattle.block_program.proofs.StandLemmas.{coefficient_none, before_none, coefficient_at}
use Rattle.block_build.proofs.FormLemmas.{in_from_stands, stands_from_in}
use Rattle.dec_components.specs.Joined.{HasVariable, SharesVariable, IsOutside, IsChain, Joined, place_at, IsFound, HasMaster}

shares_back : (p : Program) (r s : ℕ) → SharesVariable p r s → SharesVariable p s r
shares_back p r s h = record { var = h.var; first = h.second; second = h.first }

chain_more : (p : Program) (master : List ℕ) (r s t : ℕ) (c d : List ℕ) → IsChain p master r c s → IsChain p master s d t → IsChain p master r (c ++ d) t
chain_more p master r s t [] d one two = subst (λ (x : ℕ). IsChain p master x d t) (sym one) two
chain_more p master r s t (u ∷ c) d one two = (one.0, one.1, chain_more p master u s t c d one.2 two)

chain_back : (p : Program) (master : List ℕ) (r s : ℕ) (c : List ℕ) → IsOutside p master r → IsChain p master r c s → (d : List ℕ) × IsChain p master s d r
chain_back p master r s [] o h = ([], sym h)
chain_back p master r s (t ∷ c) o h =
    let rest = chain_back p master t s c h.1 h.2 in
    (rest.0 ++ (r ∷ []), chain_more p master s t r rest.0 (r ∷ []) rest.1 (shares_back p r t h.0, o, refl))

chain_end : (p : Program) (master : List ℕ) (r s : ℕ) (c : List ℕ) → IsOutside p master r → IsChain p master r c s → IsOutside p master s
chain_end p master r s [] o h = subst (IsOutside p master) h o
chain_end p master r s (t ∷ c) o h = chain_end p master t s c h.1 h.2

pub joined_end : (p : Program) (master : List ℕ) (r s : ℕ) → Joined p master r s → IsOutside p master s
joined_end p master r s j = chain_end p master r s j.chain j.outside j.steps

pub joined_self : (p : Program) (master : List ℕ) (r : ℕ) → IsOutside p master r → Joined p master r r
joined_self p master r o = record { outside = o; chain = []; steps = refl }

pub joined_more : (p : Program) (master : List ℕ) (r s t : ℕ) → Joined p master r s → Joined p master s t → Joined p master r t
joined_more p master r s t one two = record { outside = one.outside; chain = one.chain ++ two.chain; steps = chain_more p master r s t one.chain two.chain one.steps two.steps }

pub joined_back : (p : Program) (master : List ℕ) (r s : ℕ) → Joined p master r s → Joined p master s r
joined_back p master r s j =
    let back = chain_back p master r s j.chain j.outside j.steps in
    record { outside = joined_end p master r s j; chain = back.0; steps = back.1 }

pub joined_by : (p : Program) (master : List ℕ) (r s v : ℕ) → IsOutside p master r → IsOutside p master s → HasVariable p r v → HasVariable p s v → Joined p master r s
joined_by p master r s v o q a b = record { outside = o; chain = s ∷ []; steps = (record { var = v; first = a; second = b }, q, refl) }

-- what neighbours have alike is alike along a chain
chain_keeps : (p : Program) (master : List ℕ) (label : ℕ → Option ℕ) (r s : ℕ) (c : List ℕ)
    → ((a b : ℕ) → IsOutside p master a → IsOutside p master b → SharesVariable p a b → label a ≡ label b)
    → IsOutside p master r → IsChain p master r c s → label r ≡ label s
chain_keeps p master label r s [] step o h = ap label h
chain_keeps p master label r s (t ∷ c) step o h = step r t o h.1 h.0 ∙ chain_keeps p master label t s c step h.1 h.2

pub joined_keeps : (p : Program) (master : List ℕ) (label : ℕ → Option ℕ) (r s : ℕ)
    → ((a b : ℕ) → IsOutside p master a → IsOutside p master b → SharesVariable p a b → label a ≡ label b)
    → Joined p master r s → label r ≡ label s
joined_keeps p master label r s step j = chain_keeps p master label r s j.chain step j.outside j.steps

-- ---- coefficients and terms

no_term : (ts : List Term) (v : ℕ) → list_any (λ (t : Term). t.var == v) ts ≡ false → coefficient ts v ≡ pos 0
no_term ts v none = coefficient_none ts v (λ k d l same.
    both_ways (list_any (λ (t : Term). t.var == v) ts) none (any_at ts v k d l same))
  where
    any_at : (us : List Term) (v k : ℕ) (d : Term) → k < length us → (get_or us k d).var ≡ v → list_any (λ (t : Term). t.var == v) us ≡ true
    any_at [] v k d l e = absurd (omega arith)
    any_at (u ∷ us) v zero d l e = or_left (u.var == v) (list_any (λ (t : Term). t.var == v) us)
        (⊎_elim (λ same. same.0) (λ other. absurd (other.1 e)) (eqb_tells u.var v))
    any_at (u ∷ us) v (suc k) d l e = or_right (u.var == v) (list_any (λ (t : Term). t.var == v) us) (any_at us v k d (omega (arith, l)) e)

-- a variable with a coefficient stands in a row
pub has_stands : (p : Program) (r v : ℕ) (d : Row) → HasVariable p r v → stands_in v (get_or p.rows r d) ≡ true
has_stands p r v d h = by (stands_in v (get_or p.rows r d)) refl
  where
    by : (b : Bool) → stands_in v (get_or p.rows r d) ≡ b → b ≡ true
    by true e = refl
    by false e = absurd (h.coefficient d (no_term (get_or p.rows r d).terms v e))

-- ---- terms and coefficients of tidy rows

nonzero_at : (n : ℕ) (ts : List Term) (i : ℕ) (d : Term) → IsTidyFrom n ts → i < length ts → (get_or ts i d).coef ≢ pos 0
nonzero_at n [] i d h l = absurd (omega arith)
nonzero_at n (t ∷ ts) zero d h l = h.1
nonzero_at n (t ∷ ts) (suc i) d h l = nonzero_at (suc t.var) ts i d h.2 (omega (arith, l))

-- a term of a tidy row gives its variable a coefficient
pub term_has : (p : Program) (r i : ℕ) (d : Term) (row : Row) → ((e : Row) → get_or p.rows r e ≡ row) → r < length p.rows → IsTidyFrom 0 row.terms → i < length row.terms
    → HasVariable p r (get_or row.terms i d).var
term_has p r i d row is l tidy low = record {
  there = l;
  coefficient = λ e zero'. nonzero_at 0 row.terms i d tidy low (sym (coefficient_at 0 row.terms i d tidy low)
      ∙ ap (λ (x : Row). coefficient x.terms (get_or row.terms i d).var) (sym (is e)) ∙ zero');
}

-- the place of a term of a variable that stands
stands_place : (ts : List Term) (v : ℕ) → list_any (λ (t : Term). t.var == v) ts ≡ true → (i : ℕ) × (i < length ts) × ((d : Term) → (get_or ts i d).var ≡ v)
stands_place [] v e = absurd (both_ways false refl e)
stands_place (t ∷ ts) v e = ⊎_elim
    (λ same. (0, omega arith, λ d. same.1))
    (λ other.
    let rest = stands_place ts v (sym (ap (λ b. b || list_any (λ (u : Term). u.var == v) ts) other.0) ∙ e) in
    (suc rest.0, omega (arith, rest.1), rest.2))
    (eqb_tells t.var v)

-- a variable stands in a tidy row with a coefficient
pub stands_has : (m : NamedProgram) (r v : ℕ) → IsKept m → r < length m.program.rows → ((d : Row) → stands_in v (get_or m.program.rows r d) ≡ true) → HasVariable m.program r v
stands_has m r v kept l stands = record {
  there = l;
  coefficient = λ d zero'.
      let row : Row = get_or m.program.rows r d in
      let at = stands_place (get_or m.program.rows r d).terms v (stands d) in
      let none : Term = record { var = 0; coef = pos 0 } in
      let tidy : IsTidyFrom 0 (get_or m.program.rows r d).terms = kept.tidy_rows r d l in
      nonzero_at 0 (get_or m.program.rows r d).terms at.0 none tidy at.1
      (sym (coefficient_at 0 (get_or m.program.rows r d).terms at.0 none tidy at.1)
      ∙ ap (λ (x : ℕ). coefficient (get_or m.program.rows r d).terms x) (at.2 none) ∙ zero');
}

-- the place of a term of a variable with a coefficient
pub has_place : (p : Program) (r v : ℕ) (row : Row) → HasVariable p r v → (i : ℕ) × (i < length (get_or p.rows r row).terms) × ((d : Term) → (get_or (get_or p.rows r row).terms i d).var ≡ v)
has_place p r v row h = stands_place (get_or p.rows r row).terms v (has_stands p r v row h)
