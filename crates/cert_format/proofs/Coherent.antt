-- Two certificates' tokens agree as long as their texts do.
use Rattle.std.proofs.Common.{◌≡◌, ◌≢◌, ◌⊎◌, ℕ, ◌+◌, ◌^◌, ◌≤◌, Bool, List, [], ◌∷◌, ◌++◌, length, codes, Option, None, ℤ, pos, Some, true, false, nat_lt, nat_le, nat_eq, not, ◌&&◌, refl, sym, ap, ◌∙◌, subst, inl, inr, arith, append_assoc, ⊎_elim}
use Rattle.std.proofs.lemmas.Bool.{cases_eq, cases_Bool, true≢false}
use Rattle.std.specs.Cmp.{signed_Decides}
use Rattle.std.specs.Ordering.{int_eq}
use Rattle.cert_format.specs.Cert.{Picked, Every, These, Proof, Tree, Shut, Open, Split, Claim, Optimal, Infeasible, Bound, BoundValue, Cut, Cert, Frame}
use Rattle.cert_format.specs.declared.fault.CertKind.TheVariants.{TooLarge, Number, Length, Depth, Limit}
use Rattle.cert_format.specs.Text.{Kind, first_kind, is_deep, fault_of, end_fault, value_fault, coordinate_fault, row_fault, multiplier_fault, block_fault, scale_fault, variable_fault, divisor_fault, Token, Words, Figure, LineEnd, token_text, Version, One, Two, Three, point_values, claim_lines, may_name, may_combine, pairs_behind, blocks_behind, picked_words, version_word, leaf_line, tree_lines, cut_lines, tokens_of, kept_behind}
use Rattle.cert_format.specs.Fault.{EndsToken, IsExcess}
use Rattle.cert_format.proofs.Numerals.{digit_apart, numeral-begins, signed_numeral-one}

-- two numbers are one or two
int_cases : (y z : ℤ) → (y ≡ z) ⊎ (y ≡ z → ⊥)
int_cases y z = ⊎_elim (λ e. inl ((signed_Decides y z).0 e)) (λ e. inr (λ same. true≢false (sym ((signed_Decides y z).1 same) ∙ e))) (cases_Bool (int_eq y z))

-- pairs of the same parts
pub pair_one : (p q : ℕ × ℤ) → p.0 ≡ q.0 → p.1 ≡ q.1 → p ≡ q
pair_one p q e f = let first : (p.0, p.1) ≡ (q.0, p.1) = ap (λ a. (a, p.1)) e in first ∙ ap (λ b. (q.0, b)) f

-- proofs of the same parts
pub proof_one : (p q : Proof) → p.scale ≡ q.scale → p.pairs ≡ q.pairs → p.picked ≡ q.picked → p ≡ q
proof_one p q e f g =
    let first : p ≡ record p { scale = q.scale } = ap (λ (a : ℕ). record p { scale = a }) e in
    let second : record p { scale = q.scale } ≡ record p { scale = q.scale; pairs = q.pairs } = ap (λ (a : List (ℕ × ℤ)). record p { scale = q.scale; pairs = a }) f in
    let third : record p { scale = q.scale; pairs = q.pairs } ≡ q = ap (λ (a : Picked). record p { scale = q.scale; pairs = q.pairs; picked = a }) g in
    first ∙ second ∙ third

-- cuts of the same parts
pub cut_one : (p q : Cut) → p.divisor ≡ q.divisor → p.pairs ≡ q.pairs → p ≡ q
cut_one p q e f =
    let first : p ≡ record p { divisor = q.divisor } = ap (λ (a : ℕ). record p { divisor = a }) e in
    first ∙ ap (λ (a : List (ℕ × ℤ)). record p { divisor = q.divisor; pairs = a }) f

-- certificates of the same parts
pub cert_one : (c d : Cert) → c.claim ≡ d.claim → c.cuts ≡ d.cuts → c.tree ≡ d.tree → c ≡ d
cert_one c d e f g =
    let first : c ≡ record c { claim = d.claim } = ap (λ (a : Claim). record c { claim = a }) e in
    let second : record c { claim = d.claim } ≡ record c { claim = d.claim; cuts = d.cuts } = ap (λ (a : List Cut). record c { claim = d.claim; cuts = a }) f in
    first ∙ second ∙ ap (λ (a : Tree). record c { claim = d.claim; cuts = d.cuts; tree = a }) g

-- the last line
abbrev last : List Token
last = Words (codes "end") ∷ LineEnd None ∷ []

-- no text begins with both tokens
unfoldable pub AreApart : Token → Token → Type 0
AreApart x y = (r s : List ℕ) → EndsToken x r → EndsToken y s → token_text x ++ r ≡ token_text y ++ s → ⊥

-- a token is the number of a node that is too deep, or of a cut that is one too many
abbrev pub IsDeep : Kind → Token → Type 0
IsDeep k x = fault_of x ≡ Some k

-- two tokens are apart, and both are such numbers, or neither
abbrev pub AreFar : Token → Token → Type 0
AreFar x y = AreApart x y × ((k : Kind) → IsExcess k → IsDeep k x → IsDeep k y) × ((k : Kind) → IsExcess k → IsDeep k y → IsDeep k x)

-- the tokens agree up to two that are apart, or else to their end, and then E holds
unfoldable pub AreCoherent : Type 0 → List Token → List Token → Type 0
AreCoherent E [] [] = E
AreCoherent E (x ∷ xs) (y ∷ ys) = AreFar x y ⊎ ((x ≡ y) × AreCoherent E xs ys)
AreCoherent E _ _ = ⊥

-- a fault that a number has for what it is itself
abbrev pub IsOther : Option Kind → Type 0
IsOther f = (k : Kind) → IsExcess k → f ≡ Some k → ⊥

pub none_other : IsOther None
none_other k x e = absurd (cc)

pub one_other : (b : Bool) (l : Kind) → (IsExcess l → ⊥) → IsOther (first_kind ((b, l) ∷ []))
one_other true l apart k x e = let same : k ≡ l = cc in apart (subst IsExcess same x)
one_other false l apart k x e = absurd (cc)

pub two_other : (b c : Bool) (l m : Kind) → (IsExcess l → ⊥) → (IsExcess m → ⊥) → IsOther (first_kind ((b, l) ∷ (c, m) ∷ []))
two_other true c l m apart far k x e = let same : k ≡ l = cc in apart (subst IsExcess same x)
two_other false c l m apart far k x e = one_other c m far k x e

pub large_other : IsExcess TooLarge → ⊥
large_other x = ⊎_elim (λ e. absurd (cc)) (λ e. absurd (cc)) x

pub number_other : IsExcess Number → ⊥
number_other x = ⊎_elim (λ e. absurd (cc)) (λ e. absurd (cc)) x

pub length_other : IsExcess Length → ⊥
length_other x = ⊎_elim (λ e. absurd (cc)) (λ e. absurd (cc)) x

-- a fault of numbers that has such a kind for none of them, or for each
abbrev IsEven : (ℕ → Option Kind) → Type 0
IsEven f = (m n : ℕ) (k : Kind) → IsExcess k → f m ≡ Some k → f n ≡ Some k

abbrev IsEvenWhole : (ℤ → Option Kind) → Type 0
IsEvenWhole f = (y z : ℤ) (k : Kind) → IsExcess k → f y ≡ Some k → f z ≡ Some k

count_even : IsEven (λ _. None)
count_even m n k x e = absurd (none_other k x e)

row_even : (named : ℕ → Bool) (last : ℕ) → IsEven (row_fault named last)
row_even named above m n k x e = absurd (one_other _ Number number_other k x e)

block_even : (frame : Frame) (last : ℕ) → IsEven (block_fault frame last)
block_even frame above m n k x e = absurd (one_other _ Number number_other k x e)

scale_even : (frame : Frame) (depth : ℕ) → IsEven (scale_fault frame depth)
scale_even frame depth m n k x e = by (is_deep frame.limits depth) e
  where
    by : (b : Bool) → first_kind ((b, Depth) ∷ (nat_lt (2 ^ 20) m, TooLarge) ∷ []) ≡ Some k → first_kind ((b, Depth) ∷ (nat_lt (2 ^ 20) n, TooLarge) ∷ []) ≡ Some k
    by true e = e
    by false e = absurd (one_other _ TooLarge large_other k x e)

variable_even : (frame : Frame) (depth : ℕ) → IsEven (variable_fault frame depth)
variable_even frame depth m n k x e = by (is_deep frame.limits depth) e
  where
    by : (b : Bool) → first_kind ((b, Depth) ∷ (not (nat_lt 0 m && nat_le m frame.variables), Number) ∷ []) ≡ Some k
        → first_kind ((b, Depth) ∷ (not (nat_lt 0 n && nat_le n frame.variables), Number) ∷ []) ≡ Some k
    by true e = e
    by false e = absurd (one_other _ Number number_other k x e)

divisor_even : (earlier : ℕ) → IsEven (divisor_fault earlier)
divisor_even earlier m n k x e = by (nat_le 256 earlier) e
  where
    by : (b : Bool) → first_kind ((b, Limit) ∷ (nat_lt (2 ^ 20) m, TooLarge) ∷ (nat_eq m 0, Number) ∷ []) ≡ Some k
        → first_kind ((b, Limit) ∷ (nat_lt (2 ^ 20) n, TooLarge) ∷ (nat_eq n 0, Number) ∷ []) ≡ Some k
    by true e = e
    by false e = absurd (two_other _ _ TooLarge Number large_other number_other k x e)

value_even : IsEvenWhole value_fault
value_even y z k x e = absurd (one_other _ TooLarge large_other k x e)

coordinate_even : (frame : Frame) (number : ℕ) → IsEvenWhole (coordinate_fault frame number)
coordinate_even frame number y z k x e = absurd (two_other _ _ TooLarge Length large_other length_other k x e)

multiplier_even : (limit : ℕ) (had : List (ℕ × ℤ)) (row : ℕ) → IsEvenWhole (multiplier_fault limit had row)
multiplier_even limit had row y z k x e = absurd (two_other _ _ TooLarge Number large_other number_other k x e)

end_other : (frame : Frame) (number : ℕ) → IsOther (end_fault frame number)
end_other frame number = one_other _ Length length_other

apart_sym : (x y : Token) → AreFar x y → AreFar y x
unfolding AreApart
apart_sym x y far = (λ r s ends_r ends_s same. far.0 s r ends_s ends_r (sym same), far.2, far.1)

-- words with two first bytes
words_apart : (a b : ℕ) (xs ys : List ℕ) → a ≢ b → AreFar (Words (a ∷ xs)) (Words (b ∷ ys))
unfolding AreApart
words_apart a b xs ys other = (λ r s _ _ same. let e : a ≡ b = cc in other e, λ k x e. absurd (none_other k x e), λ k x e. absurd (none_other k x e))

-- words against a line's end
end_apart : (b : ℕ) (ys : List ℕ) (f : Option Kind) → IsOther f → 10 ≢ b → AreFar (LineEnd f) (Words (b ∷ ys))
unfolding AreApart
end_apart b ys f shallow other = (λ r s _ _ same. let e : 10 ≡ b = cc in other e, λ k x e. absurd (shallow k x e), λ k x e. absurd (none_other k x e))

-- words against a number that isn't negative
figure_apart : (b : ℕ) (ys : List ℕ) (n : ℕ) → (48 ≤ b → b ≤ 57 → ⊥) → AreFar (Figure (pos n) None) (Words (b ∷ ys))
unfolding AreApart
figure_apart b ys n other = (λ r s _ _ same. digit_apart _ (ys ++ s) b (numeral-begins n r) other same, λ k x e. absurd (none_other k x e), λ k x e. absurd (none_other k x e))

module _ (E : Type 0) where
  -- one token on both sides
  both : (x : Token) (u v : List Token) → AreCoherent E u v → AreCoherent E (x ∷ u) (x ∷ v)
  unfolding AreCoherent
  both x u v more = inr (refl, more)

  -- two tokens that are apart
  apart : (x y : Token) (u v : List Token) → AreFar x y → AreCoherent E (x ∷ u) (y ∷ v)
  unfolding AreCoherent
  apart x y u v far = inl far

  -- numbers that are judged alike
  figure : (y z : ℤ) (f : ℤ → Option Kind) → IsEvenWhole f → (u v : List Token) → (y ≡ z → AreCoherent E u v) → AreCoherent E (Figure y (f y) ∷ u) (Figure z (f z) ∷ v)
  unfolding AreCoherent AreApart
  figure y z f even u v more = ⊎_elim
      (λ e. inr (ap (λ w. Figure w (f w)) e, more e))
      (λ other. inl (λ r s ends_r ends_s same. other (signed_numeral-one y z r s ends_r ends_s same), even y z, even z y))
      (int_cases y z)

  natural : (m n : ℕ) (f : ℕ → Option Kind) → IsEven f → (u v : List Token) → (m ≡ n → AreCoherent E u v) → AreCoherent E (Figure (pos m) (f m) ∷ u) (Figure (pos n) (f n) ∷ v)
  unfolding AreCoherent AreApart
  natural m n f even u v more = ⊎_elim
      (λ e. inr (ap (λ w. Figure (pos w) (f w)) e, more e))
      (λ other. inl (λ r s ends_r ends_s same. other (let e : pos m ≡ pos n = signed_numeral-one (pos m) (pos n) r s ends_r ends_s same in cc), even m n, even n m))
      (cases_eq m n)

  -- the values of two points
  points : (frame : Frame) (number : ℕ) (ys zs : List ℤ) (u v : List Token) → (ys ≡ zs → AreCoherent E u v) → AreCoherent E (point_values frame number ys ++ u) (point_values frame number zs ++ v)
  points frame number [] [] u v more = both _ u v (more refl)
  points frame number [] (z ∷ zs) u v more = apart _ _ _ _ (end_apart 32 [] _ (end_other frame number) (λ e. omega arith))
  points frame number (y ∷ ys) [] u v more = apart _ _ _ _ (apart_sym _ _ (end_apart 32 [] _ (end_other frame number) (λ e. omega arith)))
  points frame number (y ∷ ys) (z ∷ zs) u v more =
      both _ _ _ (figure y z (coordinate_fault frame number) (coordinate_even frame number) _ _ (λ e. points frame (number + 1) ys zs u v (λ es. let all : y ∷ ys ≡ z ∷ zs = cc in more all)))

  -- a row and its multiplier
  pair_step : (m n : ℕ) (y z : ℤ) (f : ℕ → Option Kind) (g : ℕ → ℤ → Option Kind) → IsEven f → ((k : ℕ) → IsEvenWhole (g k)) → (u v : List Token) → (m ≡ n → y ≡ z → AreCoherent E u v)
      → AreCoherent E (Words (codes " ") ∷ Figure (pos m) (f m) ∷ Words (codes " ") ∷ Figure y (g m y) ∷ u) (Words (codes " ") ∷ Figure (pos n) (f n) ∷ Words (codes " ") ∷ Figure z (g n z) ∷ v)
  pair_step m n y z f g even even_whole u v more =
      both _ _ _ (natural m n f even _ _ (λ e. both _ _ _
      (let P : ℕ → Type 0 = λ k. AreCoherent E (Figure y (g m y) ∷ u) (Figure z (g k z) ∷ v) in subst P e (figure y z (g m) (even_whole m) u v (more e)))))

  -- two lists of pairs, as long as each other
  pairs_step : (named : ℕ → Bool) (limit : ℕ) (had : List (ℕ × ℤ)) (last : ℕ) (ps qs : List (ℕ × ℤ)) (u v : List Token) → length ps ≡ length qs → (ps ≡ qs → AreCoherent E u v)
      → AreCoherent E (pairs_behind named limit had last ps ++ u) (pairs_behind named limit had last qs ++ v)
  pairs_step named limit had last [] [] u v long more = more refl
  pairs_step named limit had last [] (q ∷ qs) u v long more = absurd (omega arith)
  pairs_step named limit had last (p ∷ ps) [] u v long more = absurd (omega arith)
  pairs_step named limit had last (p ∷ ps) (q ∷ qs) u v long more =
      pair_step p.0 q.0 p.1 q.1 (row_fault named last) (multiplier_fault limit had) (row_even named last) (multiplier_even limit had) _ _ (λ e f.
      let P : ℕ → Type 0 = λ k. AreCoherent E (pairs_behind named limit had p.0 ps ++ u) (pairs_behind named limit had k qs ++ v) in
      let rest : length ps ≡ length qs = omega arith in
      let one : p ≡ q = pair_one p q e f in
      subst P e (pairs_step named limit had p.0 ps qs u v rest (λ es. let all : p ∷ ps ≡ q ∷ qs = cc in more all)))

  -- two lists of blocks, as long as each other
  blocks_step : (frame : Frame) (last : ℕ) (ks ls : List ℕ) (u v : List Token) → length ks ≡ length ls → (ks ≡ ls → AreCoherent E u v)
      → AreCoherent E (blocks_behind frame last ks ++ u) (blocks_behind frame last ls ++ v)
  blocks_step frame last [] [] u v long more = more refl
  blocks_step frame last [] (l ∷ ls) u v long more = absurd (omega arith)
  blocks_step frame last (k ∷ ks) [] u v long more = absurd (omega arith)
  blocks_step frame last (k ∷ ks) (l ∷ ls) u v long more =
      both _ _ _ (natural k l (block_fault frame last) (block_even frame last) _ _ (λ e.
      let P : ℕ → Type 0 = λ n. AreCoherent E (blocks_behind frame k ks ++ u) (blocks_behind frame n ls ++ v) in
      let rest : length ks ≡ length ls = omega arith in
      subst P e (blocks_step frame k ks ls u v rest (λ es. let all : k ∷ ks ≡ l ∷ ls = cc in more all))))

  -- the priced blocks
  picked_step : (frame : Frame) (p q : Picked) (u v : List Token) → (p ≡ q → AreCoherent E u v) → AreCoherent E (picked_words frame p ++ u) (picked_words frame q ++ v)
  picked_step frame Every Every u v more = both _ _ _ (more refl)
  picked_step frame Every (These ls) u v more = apart _ _ _ _ (apart_sym _ _ (figure_apart 97 (codes "ll") (length ls) (λ low high. omega arith)))
  picked_step frame (These ks) Every u v more = apart _ _ _ _ (figure_apart 97 (codes "ll") (length ks) (λ low high. omega arith))
  picked_step frame (These ks) (These ls) u v more =
      natural (length ks) (length ls) (λ _. None) count_even _ _ (λ long. blocks_step frame 0 ks ls u v long (λ es. more (ap These es)))

  -- a leaf's line behind its first word
  leaf_step : (frame : Frame) (version : Version) (cuts depth : ℕ) (had : List (ℕ × ℤ)) (p q : Proof) (u v : List Token) → (p ≡ q → AreCoherent E u v)
      → AreCoherent E (leaf_line frame version cuts depth had p ++ u) (leaf_line frame version cuts depth had q ++ v)
  leaf_step frame version cuts depth had p q u v more =
      simp append_assoc (natural p.scale q.scale (scale_fault frame depth) (scale_even frame depth) _ _ (λ e. both _ _ _
      (natural (length p.pairs) (length q.pairs) (λ _. None) count_even _ _ (λ long.
      pairs_step (may_name frame cuts) (2 ^ 40) had 0 p.pairs q.pairs _ _ long (λ f. both _ _ _
      (picked_step frame p.picked q.picked _ _ (λ g. both _ _ _ (more (proof_one p q e f g)))))))))

  -- two trees at one depth, behind the same multipliers
  tree_step : (frame : Frame) (version : Version) (cuts depth : ℕ) (had : List (ℕ × ℤ)) (s t : Tree) (u v : List Token) → (s ≡ t → AreCoherent E u v)
      → AreCoherent E (tree_lines frame version cuts depth had s ++ u) (tree_lines frame version cuts depth had t ++ v)
  tree_step frame version cuts depth had (Shut p) (Shut q) u v more = both _ _ _ (leaf_step frame version cuts depth had p q u v (λ e. more (ap Shut e)))
  tree_step frame version cuts depth had (Open p) (Open q) u v more = both _ _ _ (leaf_step frame version cuts depth had p q u v (λ e. more (ap Open e)))
  tree_step frame version cuts depth had (Split i y low high) (Split j z low' high') u v more =
      simp append_assoc (both _ _ _ (natural i j (variable_fault frame depth) (variable_even frame depth) _ _ (λ e. both _ _ _
      (figure y z value_fault value_even _ _ (λ f. both _ _ _
      (tree_step frame version cuts (depth + 1) had low low' _ _ (λ g.
      let P : Tree → Type 0 = λ t. AreCoherent E (tree_lines frame version cuts (depth + 1) (kept_behind version had low) high ++ u) (tree_lines frame version cuts (depth + 1) (kept_behind version had t) high' ++ v) in
      subst P g (tree_step frame version cuts (depth + 1) (kept_behind version had low) high high' u v (λ h. let all : Split i y low high ≡ Split j z low' high' = cc in more all)))))))))
  tree_step frame version cuts depth had (Shut p) (Open q) u v more = apart _ _ _ _ (words_apart 108 111 _ _ (λ e. omega arith))
  tree_step frame version cuts depth had (Shut p) (Split j z low' high') u v more = apart _ _ _ _ (words_apart 108 115 _ _ (λ e. omega arith))
  tree_step frame version cuts depth had (Open p) (Shut q) u v more = apart _ _ _ _ (words_apart 111 108 _ _ (λ e. omega arith))
  tree_step frame version cuts depth had (Open p) (Split j z low' high') u v more = apart _ _ _ _ (words_apart 111 115 _ _ (λ e. omega arith))
  tree_step frame version cuts depth had (Split i y low high) (Shut q) u v more = apart _ _ _ _ (words_apart 115 108 _ _ (λ e. omega arith))
  tree_step frame version cuts depth had (Split i y low high) (Open q) u v more = apart _ _ _ _ (words_apart 115 111 _ _ (λ e. omega arith))

  -- no tree begins as a cut does
  tree_cut_apart : (frame : Frame) (version : Version) (cuts : ℕ) (t : Tree) (w v : List Token) → AreCoherent E (Words (codes "cut ") ∷ w) (tree_lines frame version cuts 0 [] t ++ v)
  tree_cut_apart frame version cuts (Shut p) w v = apart _ _ _ _ (words_apart 99 108 _ _ (λ e. omega arith))
  tree_cut_apart frame version cuts (Open p) w v = apart _ _ _ _ (words_apart 99 111 _ _ (λ e. omega arith))
  tree_cut_apart frame version cuts (Split i y low high) w v = apart _ _ _ _ (words_apart 99 115 _ _ (λ e. omega arith))

  cut_tree_apart : (frame : Frame) (version : Version) (cuts : ℕ) (t : Tree) (w v : List Token) → AreCoherent E (tree_lines frame version cuts 0 [] t ++ v) (Words (codes "cut ") ∷ w)
  cut_tree_apart frame version cuts (Shut p) w v = apart _ _ _ _ (words_apart 108 99 _ _ (λ e. omega arith))
  cut_tree_apart frame version cuts (Open p) w v = apart _ _ _ _ (words_apart 111 99 _ _ (λ e. omega arith))
  cut_tree_apart frame version cuts (Split i y low high) w v = apart _ _ _ _ (words_apart 115 99 _ _ (λ e. omega arith))

  -- two lists of cuts, in front of what doesn't begin as a cut does
  cuts_step : (frame : Frame) (earlier : ℕ) (bs cs : List Cut) (u v : List Token) → ((w : List Token) → AreCoherent E u (Words (codes "cut ") ∷ w)) → ((w : List Token) → AreCoherent E (Words (codes "cut ") ∷ w) v)
      → (bs ≡ cs → AreCoherent E u v) → AreCoherent E (cut_lines frame earlier bs ++ u) (cut_lines frame earlier cs ++ v)
  cuts_step frame earlier [] [] u v left right more = more refl
  cuts_step frame earlier [] (c ∷ cs) u v left right more = simp append_assoc (left _)
  cuts_step frame earlier (b ∷ bs) [] u v left right more = simp append_assoc (right _)
  cuts_step frame earlier (b ∷ bs) (c ∷ cs) u v left right more =
      simp append_assoc (both _ _ _ (natural b.divisor c.divisor (divisor_fault earlier) (divisor_even earlier) _ _ (λ e. both _ _ _
      (natural (length b.pairs) (length c.pairs) (λ _. None) count_even _ _ (λ long.
      pairs_step (may_combine frame earlier) (2 ^ 20) [] 0 b.pairs c.pairs _ _ long (λ f. both _ _ _
      (cuts_step frame (earlier + 1) bs cs u v left right (λ g.
      let one : b ≡ c = cut_one b c e f in
      let all : b ∷ bs ≡ c ∷ cs = cc in more all))))))))

  -- two claims with their points
  claims_step : (frame : Frame) (a b : Claim) (u v : List Token) → (a ≡ b → AreCoherent E u v) → AreCoherent E (claim_lines frame a ++ u) (claim_lines frame b ++ v)
  claims_step frame (Optimal y ys) (Optimal z zs) u v more =
      both _ _ _ (both _ _ _ (figure y z value_fault value_even _ _ (λ e. both _ _ _ (both _ _ _
      (points frame 1 ys zs u v (λ es. let all : Optimal y ys ≡ Optimal z zs = cc in more all))))))
  claims_step frame Infeasible Infeasible u v more = both _ _ _ (both _ _ _ (both _ _ _ (more refl)))
  claims_step frame (Bound y) (Bound z) u v more = both _ _ _ (both _ _ _ (figure y z value_fault value_even _ _ (λ e. both _ _ _ (more (ap Bound e)))))
  claims_step frame (BoundValue x y ys) (BoundValue w z zs) u v more =
      both _ _ _ (both _ _ _ (figure x w value_fault value_even _ _ (λ d. both _ _ _ (figure y z value_fault value_even _ _ (λ e. both _ _ _ (both _ _ _
      (points frame 1 ys zs u v (λ es. let all : BoundValue x y ys ≡ BoundValue w z zs = cc in more all))))))))
  claims_step frame (Bound x) (BoundValue w z zs) u v more = both _ _ _ (both _ _ _ (figure x w value_fault value_even _ _ (λ d. apart _ _ _ _ (end_apart 32 _ _ none_other (λ e. omega arith)))))
  claims_step frame (BoundValue x y ys) (Bound w) u v more = both _ _ _ (both _ _ _ (figure x w value_fault value_even _ _ (λ d. apart _ _ _ _ (apart_sym _ _ (end_apart 32 _ _ none_other (λ e. omega arith))))))
  claims_step frame (Optimal y ys) Infeasible u v more = both _ _ _ (apart _ _ _ _ (words_apart 111 105 _ _ (λ e. omega arith)))
  claims_step frame (Optimal y ys) (Bound z) u v more = both _ _ _ (apart _ _ _ _ (words_apart 111 98 _ _ (λ e. omega arith)))
  claims_step frame (Optimal y ys) (BoundValue w z zs) u v more = both _ _ _ (apart _ _ _ _ (words_apart 111 98 _ _ (λ e. omega arith)))
  claims_step frame Infeasible (Optimal z zs) u v more = both _ _ _ (apart _ _ _ _ (words_apart 105 111 _ _ (λ e. omega arith)))
  claims_step frame Infeasible (Bound z) u v more = both _ _ _ (apart _ _ _ _ (words_apart 105 98 _ _ (λ e. omega arith)))
  claims_step frame Infeasible (BoundValue w z zs) u v more = both _ _ _ (apart _ _ _ _ (words_apart 105 98 _ _ (λ e. omega arith)))
  claims_step frame (Bound y) (Optimal z zs) u v more = both _ _ _ (apart _ _ _ _ (words_apart 98 111 _ _ (λ e. omega arith)))
  claims_step frame (Bound y) Infeasible u v more = both _ _ _ (apart _ _ _ _ (words_apart 98 105 _ _ (λ e. omega arith)))
  claims_step frame (BoundValue x y ys) (Optimal z zs) u v more = both _ _ _ (apart _ _ _ _ (words_apart 98 111 _ _ (λ e. omega arith)))
  claims_step frame (BoundValue x y ys) Infeasible u v more = both _ _ _ (apart _ _ _ _ (words_apart 98 105 _ _ (λ e. omega arith)))

  -- the two versions
  version_step : (a b : Version) (u v : List Token) → (a ≡ b → AreCoherent E u v) → AreCoherent E (Words (version_word a) ∷ u) (Words (version_word b) ∷ v)
  version_step One One u v more = both _ _ _ (more refl)
  version_step Two Two u v more = both _ _ _ (more refl)
  version_step Three Three u v more = both _ _ _ (more refl)
  version_step One Two u v more = apart _ _ _ _ (words_apart 49 50 _ _ (λ e. omega arith))
  version_step One Three u v more = apart _ _ _ _ (words_apart 49 51 _ _ (λ e. omega arith))
  version_step Two One u v more = apart _ _ _ _ (words_apart 50 49 _ _ (λ e. omega arith))
  version_step Two Three u v more = apart _ _ _ _ (words_apart 50 51 _ _ (λ e. omega arith))
  version_step Three One u v more = apart _ _ _ _ (words_apart 51 49 _ _ (λ e. omega arith))
  version_step Three Two u v more = apart _ _ _ _ (words_apart 51 50 _ _ (λ e. omega arith))

  done : E → AreCoherent E [] []
  unfolding AreCoherent
  done e = e

  -- two certificates of one version
  certs_step : (frame : Frame) (version : Version) (c d : Cert) (u v : List Token) → (c ≡ d → AreCoherent E u v)
      → AreCoherent E (claim_lines frame c.claim ++ (cut_lines frame 0 c.cuts ++ (tree_lines frame version (length c.cuts) 0 [] c.tree ++ u))) (claim_lines frame d.claim ++ (cut_lines frame 0 d.cuts ++ (tree_lines frame version (length d.cuts) 0 [] d.tree ++ v)))
  certs_step frame version c d u v more =
      claims_step frame c.claim d.claim _ _ (λ e.
      cuts_step frame 0 c.cuts d.cuts _ _ (λ w. cut_tree_apart frame version (length c.cuts) c.tree w u) (λ w. tree_cut_apart frame version (length d.cuts) d.tree w v) (λ f.
      let P : List Cut → Type 0 = λ cuts. AreCoherent E (tree_lines frame version (length c.cuts) 0 [] c.tree ++ u) (tree_lines frame version (length cuts) 0 [] d.tree ++ v) in
      subst P f (tree_step frame version (length c.cuts) 0 [] c.tree d.tree u v (λ g. more (cert_one c d e f g)))))

  -- two certificates
  pub tokens_coherent : (frame : Frame) (a b : Version) (c d : Cert) → (a ≡ b → c ≡ d → E) → AreCoherent E (tokens_of frame a c) (tokens_of frame b d)
  tokens_coherent frame a b c d more =
      simp append_assoc (both _ _ _ (version_step a b _ _ (λ e. both _ _ _
      (let P : Version → Type 0 = λ w. AreCoherent E (claim_lines frame c.claim ++ (cut_lines frame 0 c.cuts ++ (tree_lines frame a (length c.cuts) 0 [] c.tree ++ last))) (claim_lines frame d.claim ++ (cut_lines frame 0 d.cuts ++ (tree_lines frame w (length d.cuts) 0 [] d.tree ++ last))) in
      subst P e (certs_step frame a c d _ _ (λ f. both _ _ _ (both _ _ _ (done (more e f)))))))))
