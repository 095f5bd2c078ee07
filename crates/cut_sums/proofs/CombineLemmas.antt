-- Sums of rows by variable, term by term.
use Rattle.std.proofs.Common.{◌≡◌, ◌≢◌, ℕ, ◌+◌, ◌<◌, ◌==◌, true, false, cond, if◌then◌else◌, List, [], ◌∷◌, take, length, get_or, Option, Some, refl, sym, ap, subst, ◌∙◌, ⊎_elim, arith}
use Rattle.std.specs.Prelude.{ℤ, pos, ◌+ℤ◌, ◌*ℤ◌, unwrap_or}
use Rattle.std.specs.BTreeMap.{is_at}
use Rattle.std.specs.Ordering.{nat_cmp, is_eq}
use Rattle.std.specs.Cmp.{nat_cmp_is}
use Rattle.std.specs.declared.cmp.Ordering.TheVariants.{Less, Equal, Greater}
use Rattle.std.proofs.lemmas.Int.{ints}
use Rattle.std.proofs.Math.IntN.{*ℤ-zero}
use Rattle.std.proofs.lemmas.Bool.{cases_lt}
use Rattle.std.proofs.lemmas.Bool.Decides.{eqb_tells}
use Rattle.bp_theory.specs.Program.{coefficient}
use Rattle.bp_theory.specs.Cuts.{row_coefficient}
use Rattle.bp_theory.specs.Decomposition.{ProofRow, whole_row, no_row}
use Rattle.bp_theory.specs.declared.Row.{Row}
use Rattle.bp_theory.specs.declared.Term.{Term}
use Rattle.cut_sums.specs.Rows.{sum_in}
use Rattle.bp_theory.proofs.SumLaws.{sum_of_more}
use Rattle.bp_theory.proofs.Whole.{mul-add}
use Rattle.bp_theory.proofs.KeyLaws.{if_same, if_other}

-- a number compares equal to itself alone
at_same : (v : ℕ) → is_at (nat_cmp v) v ≡ true
at_same v = ap is_eq (sym (nat_cmp_is v v Equal refl))

at_other : (v k : ℕ) → v ≢ k → is_at (nat_cmp v) k ≡ false
at_other v k apart = ⊎_elim
    (λ l. ap is_eq (sym (nat_cmp_is v k Less l)))
    (λ l. ap is_eq (sym (nat_cmp_is v k Greater (let more : k < v = omega arith in more))))
    (cases_lt v k)

-- a term times a multiplier more in a map of sums
pub term_added : (terms : List Term) (i : ℕ) (d : Term) (first old new : ℕ → Option ℤ) (mult had sum : ℤ) → i < length terms
    → ((v : ℕ) → unwrap_or (old v) (pos 0) ≡ unwrap_or (first v) (pos 0) +ℤ mult *ℤ coefficient (take i terms) v)
    → had ≡ unwrap_or (old (get_or terms i d).var) (pos 0) → sum ≡ had +ℤ mult *ℤ (get_or terms i d).coef
    → ((v : ℕ) → new v ≡ cond (is_at (nat_cmp (get_or terms i d).var) v) (Some sum) (old v)) → (v : ℕ)
    → unwrap_or (new v) (pos 0) ≡ unwrap_or (first v) (pos 0) +ℤ mult *ℤ coefficient (take (i + 1) terms) v
term_added terms i d first old new mult had sum l sums had_is sum_is updates v =
    let t : Term = get_or terms i d in
    let more : coefficient (take (i + 1) terms) v ≡ coefficient (take i terms) v +ℤ (if t.var == v then t.coef else pos 0) =
    sum_of_more (λ (t : Term). if t.var == v then t.coef else pos 0) terms i d l in
    let times : mult *ℤ coefficient (take (i + 1) terms) v ≡ mult *ℤ coefficient (take i terms) v +ℤ mult *ℤ (if t.var == v then t.coef else pos 0) =
    ap (λ z. mult *ℤ z) more ∙ mul-add mult (coefficient (take i terms) v) (if t.var == v then t.coef else pos 0) in ⊎_elim
    (λ same.
    let here : new v ≡ Some sum = updates v ∙ ap (λ b. cond b (Some sum) (old v)) (subst (λ k. is_at (nat_cmp t.var) k ≡ true) same.1 (at_same t.var)) in
    let value : unwrap_or (new v) (pos 0) ≡ sum = ap (λ o. unwrap_or o (pos 0)) here in
    let before : had ≡ unwrap_or (first v) (pos 0) +ℤ mult *ℤ coefficient (take i terms) v = had_is ∙ ap (λ k. unwrap_or (old k) (pos 0)) same.1 ∙ sums v in
    omega (arith, ints, value, before, sum_is, times, ap (λ z. mult *ℤ z) (if_same t.var v t.coef (pos 0) same.1)))
    (λ other.
    let here : new v ≡ old v = updates v ∙ ap (λ b. cond b (Some sum) (old v)) (at_other t.var v other.1) in
    let value : unwrap_or (new v) (pos 0) ≡ unwrap_or (old v) (pos 0) = ap (λ o. unwrap_or o (pos 0)) here in
    omega (arith, ints, value, sums v, times, ap (λ z. mult *ℤ z) (if_other t.var v t.coef (pos 0) other.1), *ℤ-zero mult))
    (eqb_tells t.var v)

-- no term yet
pub none_added : (z mult : ℤ) (v : ℕ) (ts : List Term) → z ≡ z +ℤ mult *ℤ coefficient (take 0 ts) v
none_added z mult v [] = omega (arith, ints, *ℤ-zero mult)
none_added z mult v (t ∷ ts) = omega (arith, ints, *ℤ-zero mult)

-- a row times its multiplier more
pub entry_added : (rows : List ProofRow) (ms : List (ℕ × ℤ)) (i : ℕ) (row : Row) (old new : ℤ) (v : ℕ) → i < length ms
    → old ≡ sum_in rows (take i ms) v → get_or rows (get_or ms i (0, pos 0)).0 no_row ≡ whole_row row
    → new ≡ old +ℤ (get_or ms i (0, pos 0)).1 *ℤ coefficient row.terms v → new ≡ sum_in rows (take (i + 1) ms) v
entry_added rows ms i row old new v l old_is row_is new_is =
    let m : ℕ × ℤ = get_or ms i (0, pos 0) in
    let more = sum_of_more (λ (m : ℕ × ℤ). m.1 *ℤ row_coefficient (get_or rows m.0 no_row) v) ms i (0, pos 0) l in
    omega (arith, ints, more, old_is, new_is, ap (λ (r : ProofRow). m.1 *ℤ row_coefficient r v) row_is)
