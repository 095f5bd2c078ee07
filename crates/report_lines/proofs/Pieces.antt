-- A text that grows by a piece for each number.
use Rattle.std.proofs.Common.{◌≡◌, ℕ, ◌+◌, List, [], ◌∷◌, ◌++◌, refl, sym, ◌∙◌, ap, arith, append_assoc}
use Rattle.std.proofs.lemmas.List.{append-nil}
use Rattle.std.proofs.lemmas.List.Concat.{flat_map-append}
use Rattle.std.proofs.lemmas.List.FromFn.{map-range_with_len_more}
use Rattle.std.specs.Prelude.{map, Result, Ok, Err, OnOk, is_ok, if◌then◌else◌}
use Rattle.std.specs.List.{range_with_len, flat_map}
use Rattle.report_lines.specs.Blocks.{class_line}

map_same : (xs : List ℕ) → map (λ x. x) xs ≡ xs
map_same [] = refl
map_same (x ∷ xs) = ap (λ ys. x ∷ ys) (map_same xs)

-- one number more
range_more : (n : ℕ) → range_with_len 0 (n + 1) ≡ range_with_len 0 n ++ n ∷ []
range_more n =
    let zero_plus : 0 + n ≡ n = omega arith in
    sym (map_same (range_with_len 0 (n + 1))) ∙ map-range_with_len_more (λ x. x) 0 n (0 + n) refl
    ∙ ap (λ xs. xs ++ (0 + n) ∷ []) (map_same (range_with_len 0 n)) ∙ ap (λ k. range_with_len 0 n ++ k ∷ []) zero_plus

-- the piece of one number more
pub piece_more : (f : ℕ → List ℕ) (n : ℕ) (start text more : List ℕ) → text ≡ start ++ flat_map f (range_with_len 0 n) → more ≡ text ++ f n
    → more ≡ start ++ flat_map f (range_with_len 0 (n + 1))
piece_more f n start text more was is =
    is ∙ ap (λ (xs : List ℕ). xs ++ f n) was ∙ append_assoc start (flat_map f (range_with_len 0 n)) (f n)
    ∙ ap (λ (xs : List ℕ). start ++ xs) (sym (ap (flat_map f) (range_more n) ∙ flat_map-append f (range_with_len 0 n) (n ∷ [])
    ∙ ap (λ (xs : List ℕ). flat_map f (range_with_len 0 n) ++ xs) (append-nil (f n))))

-- lines of classes with the same numbers
pub class_line_same : (class f g s t v w r q : ℕ) → f ≡ g → s ≡ t → v ≡ w → r ≡ q → class_line class f s v r ≡ class_line class g t w q
class_line_same class f g s t v w r q first size variables rows = rw (first, size, variables, rows) refl

-- words, each with a number behind it, and an end
pub five_named : (start a b c d e f g h i j end t u v w x : List ℕ) → t ≡ start ++ a ++ b → u ≡ t ++ c ++ d → v ≡ u ++ e ++ f → w ≡ v ++ g ++ h
    → x ≡ w ++ i ++ j → x ++ end ≡ start ++ (a ++ b ++ c ++ d ++ e ++ f ++ g ++ h ++ i ++ j ++ end)
five_named start a b c d e f g h i j end t u v w x first second third fourth fifth =
    rw (fifth, fourth, third, second, first) (simp append_assoc)

pub three_named : (start a b c d e f end t u v : List ℕ) → t ≡ start ++ a ++ b → u ≡ t ++ c ++ d → v ≡ u ++ e ++ f
    → v ++ end ≡ start ++ (a ++ b ++ c ++ d ++ e ++ f ++ end)
three_named start a b c d e f end t u v first second third = rw (third, second, first) (simp append_assoc)

-- what is pushed where there is room, is there at `Ok`
pub pushed_if_ok : {T E : Type 0} (r : Result T E) (new longer old : List ℕ) → new ≡ (if is_ok r then longer else old) → OnOk r (new ≡ longer)
pushed_if_ok (Ok x) new longer old e = e
pushed_if_ok (Err x) new longer old e = tt
