-- What is wrong with a point, as the fault of its line.
use Rattle.std.proofs.Common.{◌≡◌, ◌≢◌, refl, sym, subst, ℕ, zero, suc, ◌<◌, List, [], ◌∷◌, length, Option, Some, arith}
use Rattle.std.proofs.Math.IntN.{ℤ, pos}
use Rattle.bp_theory.specs.Program.{Program, IsInside, IsWithin, span_at, value_at, IsFeasible, value}
use Rattle.bp_theory.specs.Blocking.{Blocking}
use Rattle.bp_theory.specs.Judgement.{HasFault, point_line, point_lines, named_value, outside, missed, other_value}
use Rattle.bp_theory.specs.declared.Span.{Span}
use Rattle.bp_theory.specs.declared.Row.{Row}
use Rattle.bp_theory.specs.declared.Sense.TheVariants.{Le}
use Rattle.bp_theory.specs.declared.Claim.{Claim}
use Rattle.bp_theory.specs.declared.CheckKind.{CheckKind}
use Rattle.bp_theory.specs.declared.CheckKind.TheVariants.{PointBound, PointRow, Value}
use Rattle.bp_model.specs.Miss.{IsFirstOutside, IsFirstMissed, IsFirstMiss}
use Rattle.bp_model.specs.declared.points.Miss.{Miss}
use Rattle.bp_model.specs.declared.points.Miss.TheVariants.{Length, Bound, Row as RowMiss}
use Rattle.cert_line_check.specs.Judging.{kind_of, IsFirstBad}

same_length : (spans : List Span) (x : List ℤ) → IsInside spans x → length x ≡ length spans
same_length [] [] h = refl
same_length [] (v ∷ vs) h = absurd h
same_length (s ∷ ss) [] h = absurd h
same_length (s ∷ ss) (v ∷ vs) h = let rest = same_length ss vs h.1 in omega (arith, rest)

within_at : (spans : List Span) (x : List ℤ) (k : ℕ) → IsInside spans x → k < length spans → IsWithin (span_at spans k) (value_at x k)
within_at [] x k h l = absurd (let none : ⊥ = omega arith in none)
within_at (s ∷ ss) [] k h l = absurd h
within_at (s ∷ ss) (v ∷ vs) zero h l = h.0
within_at (s ∷ ss) (v ∷ vs) (suc k) h l = within_at ss vs k h.1 (omega (arith, l))

wrong_length : (p : Program) (v : ℤ) (x : List ℤ) → length x ≢ length p.spans → (b : Blocking) (claim : Claim) → HasFault p b claim (point_line v x) PointBound
wrong_length p v x other b claim = outside v x (λ h. other (same_length p.spans x h))

out_of_span : (p : Program) (v : ℤ) (x : List ℤ) (k : ℕ) → IsFirstOutside p.spans x k → (b : Blocking) (claim : Claim) → HasFault p b claim (point_line v x) PointBound
out_of_span p v x k first b claim = outside v x (λ h. first.outside (within_at p.spans x k h first.there))

row_missed : (p : Program) (v : ℤ) (x : List ℤ) (row : ℕ) → IsInside p.spans x → IsFirstMissed p.rows x row → (b : Blocking) (claim : Claim)
    → HasFault p b claim (point_line v x) PointRow
row_missed p v x row inside first b claim = missed v x inside (λ h. first.missed none (h row none first.there))
  where
    none : Row
    none = record { sense = Le; low = pos 0; rhs = pos 0; terms = [] }

pub miss_fault : (p : Program) (v : ℤ) (x : List ℤ) (miss : Miss) (kind : CheckKind) → kind ≡ kind_of miss → IsFirstMiss p x miss → (b : Blocking) (claim : Claim)
    → HasFault p b claim (point_line v x) kind
miss_fault p v x Length kind is h b claim = subst (λ (k : CheckKind). HasFault p b claim (point_line v x) k) (sym is) (wrong_length p v x h b claim)
miss_fault p v x (Bound k) kind is h b claim = subst (λ (k : CheckKind). HasFault p b claim (point_line v x) k) (sym is) (out_of_span p v x k h.1 b claim)
miss_fault p v x (RowMiss row) kind is h b claim = subst (λ (k : CheckKind). HasFault p b claim (point_line v x) k) (sym is) (row_missed p v x row h.0 h.1 b claim)

pub value_differs : (p : Program) (v : ℤ) (x : List ℤ) → IsFeasible p x → (value p x ≡ v → ⊥) → (b : Blocking) (claim : Claim) → HasFault p b claim (point_line v x) Value
value_differs p v x feasible other b claim = other_value v x feasible other

-- one line is judged
one_bad : (p : Program) (b : Blocking) (claim : Claim) (v : ℤ) (x : List ℤ) (kind : CheckKind) → HasFault p b claim (point_line v x) kind
    → IsFirstBad p b claim (point_line v x ∷ []) 3 3 kind
one_bad p b claim v x kind fault = record { before = []; line = point_line v x; after = []; parts = refl; passed = tt; has_fault = fault; numbered = refl }

pub point_bad : (p : Program) (b : Blocking) (claim : Claim) (point : Option (List ℤ)) (v : ℤ) (x : List ℤ) (kind : CheckKind) → named_value claim ≡ Some v → point ≡ Some x
    → HasFault p b claim (point_line v x) kind → IsFirstBad p b claim (point_lines (named_value claim) point) 3 3 kind
point_bad p b claim point v x kind named there fault =
    subst (λ (y : Option (List ℤ)). IsFirstBad p b claim (point_lines (named_value claim) y) 3 3 kind) (sym there)
    (subst (λ (o : Option ℤ). IsFirstBad p b claim (point_lines o (Some x)) 3 3 kind) (sym named) (one_bad p b claim v x kind fault))
