-- A text that grows by a piece for each number.
use Rattle.std.proofs.Common.{◌≡◌, ℕ, ◌+◌, List, [], ◌∷◌, ◌++◌, refl, sym, ◌∙◌, ap, arith, append_assoc}
use Rattle.std.proofs.lemmas.List.{append-nil}
use Rattle.std.proofs.lemmas.List.Concat.{flat_map-append}
use Rattle.std.proofs.lemmas.List.FromFn.{map-range_with_len_more}
use Rattle.std.specs.Prelude.{map, codes}
use Rattle.std.specs.List.{range_with_len, flat_map}

-- one number more
range_more : (a n : ℕ) → range_with_len a (n + 1) ≡ range_with_len a n ++ (a + n) ∷ []
range_more a n = sym (same a (n + 1)) ∙ map-range_with_len_more (λ x. x) a n (a + n) refl ∙ ap (λ xs. xs ++ (a + n) ∷ []) (same a n)
  where
    same : (a n : ℕ) → map (λ x. x) (range_with_len a n) ≡ range_with_len a n
    same a n = kept (range_with_len a n)
      where
        kept : (xs : List ℕ) → map (λ x. x) xs ≡ xs
        kept [] = refl
        kept (x ∷ xs) = ap (λ ys. x ∷ ys) (kept xs)

-- the pieces of one number more
pub pieces_more : (f : ℕ → List ℕ) (n : ℕ) → flat_map f (range_with_len 0 (n + 1)) ≡ flat_map f (range_with_len 0 n) ++ f n
pieces_more f n =
    ap (flat_map f) (range_more 0 n) ∙ flat_map-append f (range_with_len 0 n) ((0 + n) ∷ [])
    ∙ ap (λ ys. flat_map f (range_with_len 0 n) ++ ys) (append-nil (f (0 + n))) ∙ ap (λ k. flat_map f (range_with_len 0 n) ++ f k) (same n)
  where
    same : (n : ℕ) → 0 + n ≡ n
    same n = omega arith

-- what a step of a loop adds
pub pushed : (f : ℕ → List ℕ) (n : ℕ) (start text more piece : List ℕ) → text ≡ start ++ flat_map f (range_with_len 0 n) → more ≡ text ++ piece
    → piece ≡ f n → more ≡ start ++ flat_map f (range_with_len 0 (n + 1))
pushed f n start text more piece t m p =
    m ∙ ap (λ (xs : List ℕ). xs ++ piece) t ∙ append_assoc start (flat_map f (range_with_len 0 n)) piece
    ∙ ap (λ (xs : List ℕ). start ++ (flat_map f (range_with_len 0 n) ++ xs)) p ∙ ap (λ (xs : List ℕ). start ++ xs) (sym (pieces_more f n))

-- where the loop has come to its end: stated for a variable, since over a numeral all pieces would be unfolded
pub all_pushed : (f : ℕ → List ℕ) (n m : ℕ) (start text : List ℕ) → n ≡ m → text ≡ start ++ flat_map f (range_with_len 0 n)
    → text ≡ start ++ flat_map f (range_with_len 0 m)
all_pushed f n m start text e h = h ∙ ap (λ (k : ℕ). start ++ flat_map f (range_with_len 0 k)) e

-- the same for a piece of two parts, and of three
pub pushed_two : (f : ℕ → List ℕ) (n : ℕ) (start text next more a b : List ℕ) → text ≡ start ++ flat_map f (range_with_len 0 n) → next ≡ text ++ a
    → more ≡ next ++ b → a ++ b ≡ f n → more ≡ start ++ flat_map f (range_with_len 0 (n + 1))
pushed_two f n start text next more a b t e m p =
    pushed f n start text more (a ++ b) t (m ∙ ap (λ (xs : List ℕ). xs ++ b) e ∙ append_assoc text a b) p

pub pushed_three : (f : ℕ → List ℕ) (n : ℕ) (start text next then more a b c : List ℕ) → text ≡ start ++ flat_map f (range_with_len 0 n) → next ≡ text ++ a
    → then ≡ next ++ b → more ≡ then ++ c → (a ++ b) ++ c ≡ f n → more ≡ start ++ flat_map f (range_with_len 0 (n + 1))
pushed_three f n start text next then more a b c t e g m p =
    pushed f n start text more ((a ++ b) ++ c) t
    (m ∙ ap (λ (xs : List ℕ). xs ++ c) (g ∙ ap (λ (xs : List ℕ). xs ++ b) e ∙ append_assoc text a b) ∙ append_assoc text (a ++ b) c) p

-- the parts of the LP text in order
pub joined : (o j k n t0 t1 t2 t3 t4 t5 t6 t7 : List ℕ) → t0 ≡ codes "Minimize\n obj: " → t1 ≡ t0 ++ o → t2 ≡ t1 ++ codes "\nSubject To\n" → t3 ≡ t2 ++ j
    → t4 ≡ t3 ++ k → t5 ≡ t4 ++ codes "Binaries\n" → t6 ≡ t5 ++ n → t7 ≡ t6 ++ codes "End\n"
    → t7 ≡ codes "Minimize\n" ++ (codes " obj: " ++ o ++ codes "\n") ++ codes "Subject To\n" ++ j ++ k ++ codes "Binaries\n" ++ n ++ codes "End\n"
joined o j k n t0 t1 t2 t3 t4 t5 t6 t7 e0 e1 e2 e3 e4 e5 e6 e7 = rw (e7, e6, e5, e4, e3, e2, e1, e0) (simp append_assoc)
