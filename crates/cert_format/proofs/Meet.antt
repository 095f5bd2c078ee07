-- Where the texts of two certificates meet.
use Rattle.std.proofs.Common.{◌≡◌, ℕ, List, [], ◌∷◌, ◌++◌, Some, None, ℤ, pos, negsuc, refl, sym, ap, ◌∙◌, subst, ⊎_elim, append_assoc, append-nil}
use Rattle.std.proofs.lemmas.List.{append_cancel_left}
use Rattle.std.proofs.lemmas.Grind.{flat_map-append}
use Rattle.cert_format.specs.Text.{Kind, Token, Words, Figure, LineEnd, token_text, text_of, fault_of, numeral, signed_numeral}
use Rattle.cert_format.proofs.Numerals.{BeginsWithDigit, numeral-begins}
use Rattle.cert_format.specs.Fault.{EndsNumber, EndsToken, AreClean}
use Rattle.cert_format.proofs.Coherent.{AreApart, AreCoherent}
use Rattle.cert_format.proofs.Spaced.{AreSpaced}

-- whole texts that are one text
pub whole_meet : (E : Type 0) (u v : List Token) → AreCoherent E u v → AreSpaced u → AreSpaced v → text_of u ≡ text_of v → E
unfolding AreCoherent AreApart AreSpaced
whole_meet E [] [] coherent spaced_u spaced_v same = coherent
whole_meet E [] (y ∷ ys) coherent spaced_u spaced_v same = absurd coherent
whole_meet E (x ∷ xs) [] coherent spaced_u spaced_v same = absurd coherent
whole_meet E (x ∷ xs) (y ∷ ys) coherent spaced_u spaced_v same =
    ⊎_elim
    (λ far. absurd (far.0 (text_of xs) (text_of ys) spaced_u.0 spaced_v.0 same))
    (λ near. whole_meet E xs ys near.1 spaced_u.1 spaced_v.1 (append_cancel_left (token_text x) (text_of xs) (text_of ys) (subst (λ (t : Token). token_text x ++ text_of xs ≡ token_text t ++ text_of ys) (sym near.0) same)))
    coherent

-- what ends a number goes on ending it, where something of it stays
ends_more : (front r s : List ℕ) → (front ≡ [] → ⊥) → EndsNumber (front ++ r) → EndsNumber (front ++ s)
ends_more [] r s some ends = absurd (some refl)
ends_more (b ∷ front) r s some ends = ends

ends_token_more : (token : Token) (front r s : List ℕ) → (front ≡ [] → ⊥) → EndsToken token (front ++ r) → EndsToken token (front ++ s)
ends_token_more (Words bytes) front r s some ends = tt
ends_token_more (Figure z f) front r s some ends = ends_more front r s some ends
ends_token_more (LineEnd f) front r s some ends = tt

-- two parts of nothing
append_nil_right : (xs ys : List ℕ) → xs ++ ys ≡ [] → ys ≡ []
append_nil_right [] ys none = none
append_nil_right (x ∷ xs) ys none = cc

-- a number has bytes
digit_some : (xs : List ℕ) → BeginsWithDigit xs → xs ≡ [] → ⊥
digit_some [] begins none = begins
digit_some (x ∷ xs) begins none = cc

figure_some : (z : ℤ) (rest : List ℕ) → signed_numeral z ++ rest ≡ [] → ⊥
figure_some (pos n) rest none = digit_some (numeral n ++ rest) (numeral-begins n rest) none
figure_some (negsuc n) rest none = cc

-- the text up to a token, and what follows it
pub text_split : (c : List Token) (t : Token) (d : List Token) → text_of (c ++ t ∷ d) ≡ text_of (c ++ t ∷ []) ++ text_of d
text_split c t d =
    let cut : (c ++ t ∷ []) ++ d ≡ c ++ t ∷ d = append_assoc c (t ∷ []) d in
    ap text_of (sym cut) ∙ flat_map-append token_text (c ++ t ∷ []) d

-- a token with a fault has bytes, and so has the text up to it
text_some : (c : List Token) (t : Token) (k : Kind) → fault_of t ≡ Some k → text_of (c ++ t ∷ []) ≡ [] → ⊥
text_some [] (Words bytes) k fault none = cc
text_some [] (Figure z f) k fault none = figure_some z [] none
text_some [] (LineEnd f) k fault none = cc
text_some (x ∷ c) t k fault none = text_some c t k fault (append_nil_right (token_text x) (text_of (c ++ t ∷ [])) none)

-- the token at the front ends, before the faulty token, where the spaced tokens say so
pub ends_before : (y : Token) (c : List Token) (t : Token) (d : List Token) (q : List ℕ) (k : Kind) → fault_of t ≡ Some k → EndsToken y (text_of (c ++ t ∷ d)) → EndsToken y (text_of (c ++ t ∷ []) ++ q)
ends_before y c t d q k fault ends =
    let P : List ℕ → Type 0 = λ text. EndsToken y text in
    ends_token_more y (text_of (c ++ t ∷ [])) (text_of d) q (text_some c t k fault) (subst P (text_split c t d) ends)

-- no token has a fault and none
pub no_fault_twice : (s t : Token) (k : Kind) → s ≡ t → fault_of s ≡ Some k → fault_of t ≡ None → ⊥
no_fault_twice s t k same fault none = let e : Some k ≡ None = sym fault ∙ ap fault_of same ∙ none in cc

-- the tokens up to the first faulty one are those of any certificate that the text begins
pub faulty_meet : (E : Type 0) (b c : List Token) (s t : Token) (a d : List Token) (r q : List ℕ) (k l : Kind)
    → AreCoherent E (b ++ s ∷ a) (c ++ t ∷ d) → AreSpaced (b ++ s ∷ a) → AreSpaced (c ++ t ∷ d) → AreClean b → AreClean c
    → fault_of s ≡ Some k → fault_of t ≡ Some l → EndsToken s r → EndsToken t q → text_of (b ++ s ∷ []) ++ r ≡ text_of (c ++ t ∷ []) ++ q → (b ≡ c) × (s ≡ t)
unfolding AreCoherent AreApart AreSpaced
faulty_meet E [] [] s t a d r q k l coherent spaced_u spaced_v clean_b clean_c fault_s fault_t ends_s ends_t same =
    ⊎_elim
    (λ far. absurd (far.0 r q ends_s ends_t (simp append-nil at same)))
    (λ near. (refl, near.0))
    coherent
faulty_meet E [] (y ∷ c) s t a d r q k l coherent spaced_u spaced_v clean_b clean_c fault_s fault_t ends_s ends_t same =
    ⊎_elim
    (λ far. absurd (far.0 r (text_of (c ++ t ∷ []) ++ q) ends_s (ends_before y c t d q l fault_t spaced_v.0) (simp (append-nil, append_assoc) at same)))
    (λ near. absurd (no_fault_twice s y k near.0 fault_s clean_c.0))
    coherent
faulty_meet E (x ∷ b) [] s t a d r q k l coherent spaced_u spaced_v clean_b clean_c fault_s fault_t ends_s ends_t same =
    ⊎_elim
    (λ far. absurd (far.0 (text_of (b ++ s ∷ []) ++ r) q (ends_before x b s a r k fault_s spaced_u.0) ends_t (simp (append-nil, append_assoc) at same)))
    (λ near. absurd (no_fault_twice t x l (sym near.0) fault_t clean_b.0))
    coherent
faulty_meet E (x ∷ b) (y ∷ c) s t a d r q k l coherent spaced_u spaced_v clean_b clean_c fault_s fault_t ends_s ends_t same =
    let regrouped : token_text x ++ (text_of (b ++ s ∷ []) ++ r) ≡ token_text y ++ (text_of (c ++ t ∷ []) ++ q) = simp append_assoc at same in
    ⊎_elim
    (λ far. absurd (far.0 (text_of (b ++ s ∷ []) ++ r) (text_of (c ++ t ∷ []) ++ q) (ends_before x b s a r k fault_s spaced_u.0) (ends_before y c t d q l fault_t spaced_v.0) regrouped))
    (λ near.
    let rest = append_cancel_left (token_text x) (text_of (b ++ s ∷ []) ++ r) (text_of (c ++ t ∷ []) ++ q) (subst (λ (w : Token). token_text x ++ (text_of (b ++ s ∷ []) ++ r) ≡ token_text w ++ (text_of (c ++ t ∷ []) ++ q)) (sym near.0) regrouped) in
    let more = faulty_meet E b c s t a d r q k l near.1 spaced_u.1 spaced_v.1 clean_b.1 clean_c.1 fault_s fault_t ends_s ends_t rest in
    let all : x ∷ b ≡ y ∷ c = ap (λ (w : Token). w ∷ b) near.0 ∙ ap (λ (ws : List Token). y ∷ ws) more.0 in
    (all, more.1))
    coherent

-- a faultless text meets no faulty token
pub clean_meet : (E : Type 0) (u c : List Token) (t : Token) (d : List Token) (q : List ℕ) (l : Kind)
    → AreCoherent E u (c ++ t ∷ d) → AreSpaced u → AreSpaced (c ++ t ∷ d) → AreClean u → fault_of t ≡ Some l → EndsToken t q → text_of u ≡ text_of (c ++ t ∷ []) ++ q → ⊥
unfolding AreCoherent AreApart AreSpaced
clean_meet E [] [] t d q l coherent spaced_u spaced_v clean fault ends same = coherent
clean_meet E [] (y ∷ c) t d q l coherent spaced_u spaced_v clean fault ends same = coherent
clean_meet E (x ∷ u) [] t d q l coherent spaced_u spaced_v clean fault ends same =
    ⊎_elim
    (λ far. far.0 (text_of u) q spaced_u.0 ends (simp append-nil at same))
    (λ near. no_fault_twice t x l (sym near.0) fault clean.0)
    coherent
clean_meet E (x ∷ u) (y ∷ c) t d q l coherent spaced_u spaced_v clean fault ends same =
    let regrouped : token_text x ++ text_of u ≡ token_text y ++ (text_of (c ++ t ∷ []) ++ q) = simp append_assoc at same in
    ⊎_elim
    (λ far. far.0 (text_of u) (text_of (c ++ t ∷ []) ++ q) spaced_u.0 (ends_before y c t d q l fault spaced_v.0) regrouped)
    (λ near.
    let rest = append_cancel_left (token_text x) (text_of u) (text_of (c ++ t ∷ []) ++ q) (subst (λ (w : Token). token_text x ++ text_of u ≡ token_text w ++ (text_of (c ++ t ∷ []) ++ q)) (sym near.0) regrouped) in
    clean_meet E u c t d q l near.1 spaced_u.1 spaced_v.1 clean.1 fault ends rest)
    coherent
