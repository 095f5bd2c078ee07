-- A text means one program.
use Rattle.std.proofs.Common.{◌≡◌, refl, sym, ap, subst, ◌∙◌, ℕ, Bool, suc, ◌<◌, List, [], ◌∷◌, arith, inl, inr, ◌⊎◌}
use Rattle.std.proofs.Math.IntN.{ℤ, pos}
use Rattle.std.specs.Prelude.{◌==◌, if◌then◌else◌}
use Rattle.std.specs.List.{AllZip}
use Rattle.std.proofs.lemmas.Bool.{cases_order}
use Rattle.std.proofs.lemmas.Int.{ints}
use Rattle.bp_theory.specs.declared.Limits.{Limits}
use Rattle.bp_theory.specs.Program.{coefficient}
use Rattle.bp_theory.specs.Decomposition.{IsTidyFrom}
use Rattle.bp_theory.specs.declared.Term.{Term}
use Rattle.bp_theory.specs.declared.Span.{Span}
use Rattle.bp_theory.specs.declared.Sense.{Sense}
use Rattle.bp_theory.specs.declared.Row.{Row}
use Rattle.bp_theory.proofs.KeyLaws.{if_same, if_other}
use Rattle.bp_model.specs.Named.{NamedProgram}
use Rattle.lp_semantics.specs.Meaning.{TextModel, ModelRow}
use Rattle.lp_semantics.specs.Model.{HasCoefficients, IsRowOf, IsProgramOf, Means}
use Rattle.lp_read.proofs.Readings.{one_model}

-- tidy terms from a number on give no coefficient before it
before : (v n : ℕ) (terms : List Term) → IsTidyFrom n terms → v < n → coefficient terms v ≡ pos 0
before v n [] tidy l = refl
before v n (t ∷ ts) tidy l =
    let rest = before v (suc t.var) ts tidy.2 (omega (arith, tidy.0)) in
    let apart : t.var ≡ v → ⊥ = λ e. omega (arith, tidy.0, e) in
    omega (arith, ints, if_other t.var v t.coef (pos 0) apart, rest)

-- the first of tidy terms has its coefficient
first : (t : Term) (ts : List Term) → IsTidyFrom (suc t.var) ts → coefficient (t ∷ ts) t.var ≡ t.coef
first t ts tidy = omega (arith, ints, if_same t.var t.var t.coef (pos 0) refl, before t.var (suc t.var) ts tidy (omega arith))

-- the coefficients behind the first of tidy terms
behind : (t u : Term) (ts us : List Term) → t.var ≡ u.var → t.coef ≡ u.coef
    → ((v : ℕ) → coefficient (t ∷ ts) v ≡ coefficient (u ∷ us) v) → (v : ℕ) → coefficient ts v ≡ coefficient us v
behind t u ts us var coef same v =
    let heads : (if t.var == v then t.coef else pos 0) ≡ (if u.var == v then u.coef else pos 0) = ap (λ (n : ℕ). if n == v then t.coef else pos 0) var ∙ ap (λ (z : ℤ). if u.var == v then z else pos 0) coef in
    omega (arith, ints, heads, same v)

same_term : (t u : Term) → t.var ≡ u.var → t.coef ≡ u.coef → t ≡ u
same_term t u var coef = ap (λ (n : ℕ). let x : Term = record { var = n; coef = t.coef } in x) var ∙ ap (λ (z : ℤ). let x : Term = record { var = u.var; coef = z } in x) coef

same_list : {A : Type 0} (x y : A) (xs ys : List A) → x ≡ y → xs ≡ ys → x ∷ xs ≡ y ∷ ys
same_list x y xs ys first' rest = cc

-- tidy terms are told by their coefficients
same_terms : (n : ℕ) (ts us : List Term) → IsTidyFrom n ts → IsTidyFrom n us
    → ((v : ℕ) → coefficient ts v ≡ coefficient us v) → ts ≡ us
same_terms n [] [] tidy tidy' same = refl
same_terms n [] (u ∷ us) tidy tidy' same = absurd (tidy'.1 (sym (first u us tidy'.2) ∙ sym (same u.var)))
same_terms n (t ∷ ts) [] tidy tidy' same = absurd (tidy.1 (sym (first t ts tidy.2) ∙ same t.var))
same_terms n (t ∷ ts) (u ∷ us) tidy tidy' same = by (cases_order t.var u.var) (λ more. same_terms (suc t.var) ts us tidy.2 more)
  where
    by : (t.var ≡ u.var) ⊎ ((t.var < u.var) ⊎ (u.var < t.var))
        → (IsTidyFrom (suc t.var) us → ((v : ℕ) → coefficient ts v ≡ coefficient us v) → ts ≡ us) → t ∷ ts ≡ u ∷ us
    by (inl var) rest =
        let coef : t.coef ≡ u.coef = sym (first t ts tidy.2) ∙ same t.var ∙ ap (λ (v : ℕ). coefficient (u ∷ us) v) var ∙ first u us tidy'.2 in
        same_list t u ts us (same_term t u var coef)
        (rest (subst (λ (v : ℕ). IsTidyFrom (suc v) us) (sym var) tidy'.2) (behind t u ts us var coef same))
    by (inr (inl less)) rest =
        let none : coefficient (u ∷ us) t.var ≡ pos 0 = before t.var u.var (u ∷ us) (omega arith, tidy'.1, tidy'.2) less in
        absurd (tidy.1 (sym (first t ts tidy.2) ∙ same t.var ∙ none))
    by (inr (inr more)) rest =
        let none : coefficient (t ∷ ts) u.var ≡ pos 0 = before u.var t.var (t ∷ ts) (omega arith, tidy.1, tidy.2) more in
        absurd (tidy'.1 (sym (first u us tidy'.2) ∙ sym (same u.var) ∙ none))

-- terms that give the coefficients of one list are the same
one_terms : (coefficients : List ℤ) (ts us : List Term) → HasCoefficients coefficients ts → HasCoefficients coefficients us → ts ≡ us
one_terms coefficients ts us a b = same_terms 0 ts us a.tidy b.tidy (λ v. a.each v ∙ sym (b.each v))

-- a row of a program is told by the row that it means
same_row : (m : ModelRow) (r s : Row) → IsRowOf m r → IsRowOf m s → r ≡ s
same_row m r s a b = row_parts r.sense s.sense r.low s.low r.rhs s.rhs r.terms s.terms
    (a.sense ∙ sym b.sense) (a.low ∙ sym b.low) (a.rhs ∙ sym b.rhs) (one_terms m.coefficients r.terms s.terms a.terms b.terms)
  where
    row_parts : (a b : Sense) (c d e f : ℤ) (g h : List Term) → a ≡ b → c ≡ d → e ≡ f → g ≡ h
        → (let x : Row = record { sense = a; low = c; rhs = e; terms = g } in x) ≡ (let x : Row = record { sense = b; low = d; rhs = f; terms = h } in x)
    row_parts a b c d e f g h p q r s = rw (p, q, r, s) refl

-- rows of a program are told by the rows that they mean
same_rows : (meant : List ModelRow) (rs ss : List Row) → AllZip IsRowOf meant rs → AllZip IsRowOf meant ss → rs ≡ ss
same_rows [] [] [] a b = refl
same_rows [] [] (s ∷ ss) a b = absurd b
same_rows [] (r ∷ rs) ss a b = absurd a
same_rows (m ∷ ms) [] ss a b = absurd a
same_rows (m ∷ ms) (r ∷ rs) [] a b = absurd b
same_rows (m ∷ ms) (r ∷ rs) (s ∷ ss) a b = same_list r s rs ss (same_row m r s a.0 b.0) (same_rows ms rs ss a.1 b.1)

-- a meaning has one program under limits
same_program : (meant : TextModel) (m n : NamedProgram) → IsProgramOf meant m → IsProgramOf meant n → m.program.limits ≡ n.program.limits → m ≡ n
same_program meant m n a b under = program_parts
    m.program.spans n.program.spans m.program.rows n.program.rows m.program.costs n.program.costs
    m.program.constant n.program.constant m.program.maximises n.program.maximises m.names n.names m.row_names n.row_names
    m.program.limits n.program.limits
    (a.spans ∙ sym b.spans)
    (same_rows meant.rows m.program.rows n.program.rows a.rows b.rows)
    (one_terms meant.costs m.program.costs n.program.costs a.costs b.costs)
    (a.constant ∙ sym b.constant) (a.maximises ∙ sym b.maximises) (a.names ∙ sym b.names) (a.row_names ∙ sym b.row_names) under
  where
    program_parts : (a b : List Span) (c d : List Row) (e f : List Term) (g h : ℤ) (i j : Bool) (k l o p : List (List ℕ)) (x y : Limits)
        → a ≡ b → c ≡ d → e ≡ f → g ≡ h → i ≡ j → k ≡ l → o ≡ p → x ≡ y
        → (let m : NamedProgram = record { program = record { spans = a; rows = c; costs = e; constant = g; maximises = i; limits = x }; names = k; row_names = o } in m)
        ≡ (let m : NamedProgram = record { program = record { spans = b; rows = d; costs = f; constant = h; maximises = j; limits = y }; names = l; row_names = p } in m)
    program_parts a b c d e f g h i j k l o p x y q r s t u v w z = rw (q, r, s, t, u, v, w, z) refl

-- a text means one program
pub one_program : (limits : Limits) (text : List ℕ) (m n : NamedProgram) → Means limits text m → Means limits text n → m ≡ n
one_program limits text m n a b =
    same_program a.0 m n a.2 (subst (λ (meant : TextModel). IsProgramOf meant n) (one_model limits text b.0 a.0 b.1 a.1) b.2) (a.3 ∙ sym b.3)
