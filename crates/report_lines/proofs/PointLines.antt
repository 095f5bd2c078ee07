-- The lines of a point, one more at a time.
use Rattle.std.proofs.Common.{◌≡◌, refl, ap, ◌∙◌, sym, ℕ, zero, suc, ◌+◌, ◌<◌, ◌≤◌, ℤ, pos, List, [], ◌∷◌, ◌++◌, length, get_or, take, add-one, append-nil, append_assoc, arith}
use Rattle.std.proofs.lemmas.List.{take_all}
use Rattle.report_lines.specs.Searches.{variable_line, variable_lines}

-- the lines so far, and those of one variable more
pub variable_lines-more : (names : List (List ℕ)) (x : List ℤ) (i : ℕ) → i < length names → i < length x
    → variable_lines names (take (i + 1) x) ≡ variable_lines names (take i x) ++ variable_line (get_or names i []) (get_or x i (pos 0))
variable_lines-more names x i named there = rw add-one (more names x i named there) where
  more : (names : List (List ℕ)) (x : List ℤ) (i : ℕ) → i < length names → i < length x
      → variable_lines names (take (suc i) x) ≡ variable_lines names (take i x) ++ variable_line (get_or names i []) (get_or x i (pos 0))
  more [] x i named there = absurd (omega arith)
  more (name ∷ names) [] i named there = absurd (omega arith)
  more (name ∷ []) (v ∷ x) zero named there = simp append-nil
  more (name ∷ n ∷ names) (v ∷ x) zero named there = simp append-nil
  more (name ∷ names) (v ∷ x) (suc i) named there =
      ap (λ (l : List ℕ). variable_line name v ++ l) (more names x i (omega arith) (omega arith)) ∙ sym (append_assoc (variable_line name v) _ _)

-- the text so far, and the line of one variable more
pub text-more : (names : List (List ℕ)) (x : List ℤ) (i : ℕ) (before text longer name : List ℕ) (v : ℤ)
    → i < length names → i < length x → text ≡ before ++ variable_lines names (take i x) → longer ≡ text ++ variable_line name v
    → name ≡ get_or names i [] → v ≡ get_or x i (pos 0) → longer ≡ before ++ variable_lines names (take (i + 1) x)
text-more names x i before text longer name v named there was more is_name is_v =
    rw (more, was, is_name, is_v, append_assoc, variable_lines-more names x i named there) refl

-- before the first variable
pub text-none : (names : List (List ℕ)) (before : List ℕ) → before ≡ before ++ variable_lines names []
text-none [] before = sym (append-nil before)
text-none (name ∷ names) before = sym (append-nil before)

-- behind the last variable
pub text-all : (names : List (List ℕ)) (x : List ℤ) (i : ℕ) (before text : List ℕ) → length x ≤ i
    → text ≡ before ++ variable_lines names (take i x) → text ≡ before ++ variable_lines names x
text-all names x i before text all was = was ∙ ap (λ (y : List ℤ). before ++ variable_lines names y) (take_all i x all)
