-- Cuts, claims and whole certificates are read, or have a first fault.
use Rattle.std.proofs.Common.{◌≡◌, ◌⊎◌, ℕ, zero, suc, ◌+◌, ◌^◌, ◌<◌, ◌≤◌, List, [], ◌∷◌, ◌++◌, length, codes, None, ℤ, pos, refl, sym, ap, ◌∙◌, subst, inl, inr, ⊎_elim, arith, append_assoc, append-nil}
use Rattle.cert_format.specs.Cert.{Every, Tree, Shut, Claim, Optimal, Infeasible, Bound, BoundValue, Cut, Cert, Frame}
use Rattle.cert_format.specs.Text.{value_fault, divisor_fault, Token, Words, Figure, LineEnd, token_text, text_of, Version, One, Two, Three, value, count, point_values, claim_lines, may_combine, pairs_behind, version_word, tree_lines, cut_lines, tokens_of, HasForm}
use Rattle.cert_format.proofs.Verdicts.{Verdict, whole, faulty, stuck, relabel, IsOff, NotFirst, IsBarred, begins_with, off_words, off_end, other_first, Shorter, fixed_step, end_step}
use Rattle.cert_format.specs.Grammar.{Points, Pairs, Prefixed, Numbered, Valued, Cuts, Trees}
use Rattle.cert_format.specs.Stages.{cut_of}
use Rattle.cert_format.proofs.Productions.{off_by, points_read, pairs_read, filler, prefixed_read, numbered_read, valued_read}
use Rattle.cert_format.proofs.Trees.{tree_read, tree_first, tree_over, tree_by, words_differ}

-- a set with more members, each of which begins with a token that is off
abbrev Beyond : (List Token → Type 0) → List ℕ → List Token → Type 0
Beyond M t ts = M ts ⊎ ((x : Token) × (us : List Token) × IsOff x t × (ts ≡ x ∷ us))

-- a token that is off isn't the first one read
off_not_read : (x y : Token) (t r : List ℕ) → IsOff x t → y ≡ x → t ≡ token_text y ++ r → ⊥
off_not_read x y t r off same bytes =
    off r t [] [] (sym (append-nil t)) tt (sym (ap (λ (w : Token). token_text w ++ r) same) ∙ sym bytes ∙ sym (append-nil t))

widen : (L M : List Token → Type 0) (t : List ℕ) → ((ts : List Token) → M ts → L ts) → ((ts : List Token) → L ts → Beyond M t ts) → Verdict M t → Verdict L t
widen L M t to from (whole w) = whole (record { tokens = w.tokens; member = to w.tokens w.member; clean = w.clean; bytes = w.bytes })
widen L M t to from (faulty f) = faulty (record { before = f.before; token = f.token; after = f.after; rest = f.rest; kind = f.kind; member = to (f.before ++ f.token ∷ f.after) f.member; clean = f.clean; fault = f.fault; bytes = f.bytes; ends = f.ends })
widen L M t to from (stuck s) = stuck (record {
  before = s.before;
  after = s.after;
  partial = s.partial;
  rest = s.rest;
  more = s.more;
  member = to (s.before ++ s.after) s.member;
  clean = s.clean;
  bytes = s.bytes;
  begins = s.begins;
  read = s.read;
  cannot = λ y ys m. ⊎_elim (λ inside. s.cannot y ys inside) (λ o. barred s.before s.partial s.rest y ys o.0 o.1 s.bytes o.2 o.3) (from (s.before ++ y ∷ ys) m);
  over = λ m none. ⊎_elim (λ inside. s.over inside none) (λ o. begun s.before (s.partial ++ s.rest) o.0 o.1 s.bytes o.2 o.3) (from s.before m);
}) where
  begun : (before : List Token) (r : List ℕ) (x : Token) (us : List Token) → t ≡ text_of before ++ r → IsOff x t → before ≡ x ∷ us → ⊥
  begun [] r x us bytes off is = cc
  begun (y ∷ before) r x us bytes off is = let same : y ≡ x = cc in off_not_read x y t (text_of before ++ r) off same (bytes ∙ append_assoc (token_text y) (text_of before) r)

  barred : (before : List Token) (partial rest : List ℕ) (y : Token) (ys : List Token) (x : Token) (us : List Token) → t ≡ text_of before ++ (partial ++ rest) → IsOff x t → before ++ y ∷ ys ≡ x ∷ us → IsBarred y partial rest
  barred [] partial rest y ys x us bytes off is = λ r q ends goes same. let e : y ≡ x = cc in off r partial rest q bytes goes (sym (ap (λ (w : Token). token_text w ++ r) e) ∙ same)
  barred (z ∷ before) partial rest y ys x us bytes off is = let same : z ≡ x = cc in absurd (off_not_read x z t (text_of before ++ (partial ++ rest)) off same (bytes ∙ append_assoc (token_text z) (text_of before) (partial ++ rest)))

-- one of three words, with three first bytes
abbrev pub OneOfThree : Token → Token → Token → (List Token → Type 0) → (List Token → Type 0) → (List Token → Type 0) → List Token → Type 0
OneOfThree x y z M N O ts = Prefixed x M ts ⊎ (Prefixed y N ts ⊎ Prefixed z O ts)

three_read : (a b c : ℕ) (u v w : List ℕ) (M N O : List Token → Type 0) (t : List ℕ) → (a ≡ b → ⊥) → (a ≡ c → ⊥) → (b ≡ c → ⊥)
    → ((us : List Token) × M us) → ((us : List Token) × N us) → ((us : List Token) × O us)
    → ((rest : List ℕ) → Shorter rest t → Verdict M rest) → ((rest : List ℕ) → Shorter rest t → Verdict N rest) → ((rest : List ℕ) → Shorter rest t → Verdict O rest)
    → Verdict (OneOfThree (Words (a ∷ u)) (Words (b ∷ v)) (Words (c ∷ w)) M N O) t
three_read a b c u v w M N O t ab ac bc some_m some_n some_o next_m next_n next_o =
    let L : List Token → Type 0 = OneOfThree (Words (a ∷ u)) (Words (b ∷ v)) (Words (c ∷ w)) M N O in
    ⊎_elim
    (λ first. widen L (Prefixed (Words (a ∷ u)) M) t (λ ts m. inl m)
    (λ ts m. ⊎_elim (λ i. inl i) (⊎_elim
    (λ i. inr (Words (b ∷ v), i.0, off_words b v t (other_first b a first.0 t first.1 ab), i.1))
    (λ i. inr (Words (c ∷ w), i.0, off_words c w t (other_first c a first.0 t first.1 ac), i.1))) m)
    (prefixed_read (Words (a ∷ u)) a u M t refl (λ r. tt) some_m.0 some_m.1 next_m))
    (λ not_a. ⊎_elim
    (λ first. widen L (Prefixed (Words (b ∷ v)) N) t (λ ts m. inr (inl m))
    (λ ts m. ⊎_elim (λ i. inr (Words (a ∷ u), i.0, off_words a u t not_a, i.1)) (⊎_elim
    (λ i. inl i)
    (λ i. inr (Words (c ∷ w), i.0, off_words c w t (other_first c b first.0 t first.1 bc), i.1))) m)
    (prefixed_read (Words (b ∷ v)) b v N t refl (λ r. tt) some_n.0 some_n.1 next_n))
    (λ not_b. widen L (Prefixed (Words (c ∷ w)) O) t (λ ts m. inr (inr m))
    (λ ts m. ⊎_elim (λ i. inr (Words (a ∷ u), i.0, off_words a u t not_a, i.1)) (⊎_elim
    (λ i. inr (Words (b ∷ v), i.0, off_words b v t not_b, i.1))
    (λ i. inl i)) m)
    (prefixed_read (Words (c ∷ w)) c w O t refl (λ r. tt) some_o.0 some_o.1 next_o))
    (begins_with b t))
    (begins_with a t)

-- a line's end or a word behind a space
abbrev pub EndOrWord : List ℕ → (List Token → Type 0) → (List Token → Type 0) → List Token → Type 0
EndOrWord w M N ts = Prefixed (LineEnd None) M ts ⊎ Prefixed (Words (32 ∷ w)) N ts

end_or_word_read : (w : List ℕ) (M N : List Token → Type 0) (t : List ℕ) → ((us : List Token) × M us) → ((us : List Token) × N us)
    → ((rest : List ℕ) → Shorter rest t → Verdict M rest) → ((rest : List ℕ) → Shorter rest t → Verdict N rest) → Verdict (EndOrWord w M N) t
end_or_word_read w M N t some_m some_n next_m next_n =
    ⊎_elim
    (λ first. widen (EndOrWord w M N) (Prefixed (LineEnd None) M) t (λ ts m. inl m)
    (λ ts m. ⊎_elim (λ i. inl i) (λ i. inr (Words (32 ∷ w), i.0, off_words 32 w t (other_first 32 10 first.0 t first.1 (λ e. omega arith)), i.1)) m)
    (prefixed_read (LineEnd None) 10 [] M t refl (λ r. tt) some_m.0 some_m.1 next_m))
    (λ other. widen (EndOrWord w M N) (Prefixed (Words (32 ∷ w)) N) t (λ ts m. inr m)
    (λ ts m. ⊎_elim (λ i. inr (LineEnd None, i.0, off_end None t other, i.1)) (λ i. inl i) m)
    (prefixed_read (Words (32 ∷ w)) 32 w N t refl (λ r. tt) some_n.0 some_n.1 next_n))
    (begins_with 10 t)

-- a claim with its point, in front of what may follow them
abbrev pub Claims : Frame → (Claim → List Token → Type 0) → List Token → Type 0
Claims frame G ts = (a : Claim) × (us : List Token) × G a us × (ts ≡ claim_lines frame a ++ us)

module _ (frame : Frame) (G : Claim → List Token → Type 0) where
  -- the line's end and a point's line
  abbrev pub PointPart : (List ℤ → Claim) → List Token → Type 0
  PointPart f = Prefixed (LineEnd None) (Prefixed (Words (codes "point")) (Points frame 1 (λ zs. G (f zs))))

  abbrev pub OptimalPart : List Token → Type 0
  OptimalPart = Valued value_fault (λ v. PointPart (λ zs. Optimal v zs))

  abbrev pub InfeasiblePart : List Token → Type 0
  InfeasiblePart = Prefixed (LineEnd None) (G Infeasible)

  abbrev pub AfterBound : ℤ → List Token → Type 0
  AfterBound b = EndOrWord (codes "value ") (G (Bound b)) (Valued value_fault (λ v. PointPart (λ zs. BoundValue b v zs)))

  abbrev pub BoundPart : List Token → Type 0
  BoundPart = Valued value_fault AfterBound

  abbrev pub ClaimParts : List Token → Type 0
  ClaimParts = Prefixed (Words (codes "claim ")) (OneOfThree (Words (codes "optimal ")) (Words (codes "infeasible")) (Words (codes "bound ")) OptimalPart InfeasiblePart BoundPart)

  point_to : (f : List ℤ → Claim) (ts : List Token) → PointPart f ts → (zs : List ℤ) × (us : List Token) × G (f zs) us × (ts ≡ LineEnd None ∷ Words (codes "point") ∷ (point_values frame 1 zs ++ us))
  point_to f ts m =
      let m2 = m.2 in let m3 = m2.2 in
      let a : ts ≡ LineEnd None ∷ m.0 = m.1 in
      let b : m.0 ≡ Words (codes "point") ∷ m2.0 = m2.1 in
      let c : m2.0 ≡ point_values frame 1 m3.0 ++ m3.1 = m3.3 in
      (m3.0, m3.1, m3.2, a ∙ ap (λ (xs : List Token). LineEnd None ∷ xs) (b ∙ ap (λ (xs : List Token). Words (codes "point") ∷ xs) c))

  point_from : (f : List ℤ → Claim) (zs : List ℤ) (us : List Token) → G (f zs) us → PointPart f (LineEnd None ∷ Words (codes "point") ∷ (point_values frame 1 zs ++ us))
  point_from f zs us g = (Words (codes "point") ∷ (point_values frame 1 zs ++ us), refl, (point_values frame 1 zs ++ us, refl, (zs, us, g, refl)))

  pub claim_to : (ts : List Token) → ClaimParts ts → Claims frame G ts
  claim_to ts m =
      let a : ts ≡ Words (codes "claim ") ∷ m.0 = m.1 in
      ⊎_elim
      (λ o.
      let b : m.0 ≡ Words (codes "optimal ") ∷ o.0 = o.1 in
      let v = o.2 in
      let c : o.0 ≡ value v.0 ∷ v.1 = v.2 in
      let p = point_to (λ zs. Optimal v.0 zs) v.1 v.3 in
      (Optimal v.0 p.0, p.1, p.2, a ∙ ap (λ (xs : List Token). Words (codes "claim ") ∷ xs) (b ∙ ap (λ (xs : List Token). Words (codes "optimal ") ∷ xs) (c ∙ ap (λ (xs : List Token). value v.0 ∷ xs) p.3))))
      (⊎_elim
      (λ i.
      let b : m.0 ≡ Words (codes "infeasible") ∷ i.0 = i.1 in
      let l = i.2 in
      let c : i.0 ≡ LineEnd None ∷ l.0 = l.1 in
      (Infeasible, l.0, l.2, a ∙ ap (λ (xs : List Token). Words (codes "claim ") ∷ xs) (b ∙ ap (λ (xs : List Token). Words (codes "infeasible") ∷ xs) c)))
      (λ n.
      let b : m.0 ≡ Words (codes "bound ") ∷ n.0 = n.1 in
      let v = n.2 in
      let c : n.0 ≡ value v.0 ∷ v.1 = v.2 in
      let whole_line : (xs : List Token) → v.1 ≡ xs → ts ≡ Words (codes "claim ") ∷ Words (codes "bound ") ∷ value v.0 ∷ xs = λ xs e. a ∙ ap (λ (xs : List Token). Words (codes "claim ") ∷ xs) (b ∙ ap (λ (xs : List Token). Words (codes "bound ") ∷ xs) (c ∙ ap (λ (xs : List Token). value v.0 ∷ xs) e)) in
      ⊎_elim
      (λ l. (Bound v.0, l.0, l.2, whole_line _ l.1))
      (λ w.
      let d : v.1 ≡ Words (codes " value ") ∷ w.0 = w.1 in
      let x = w.2 in
      let e : w.0 ≡ value x.0 ∷ x.1 = x.2 in
      let p = point_to (λ zs. BoundValue v.0 x.0 zs) x.1 x.3 in
      (BoundValue v.0 x.0 p.0, p.1, p.2, whole_line _ (d ∙ ap (λ (xs : List Token). Words (codes " value ") ∷ xs) (e ∙ ap (λ (xs : List Token). value x.0 ∷ xs) p.3))))
      v.3))
      m.2

  pub claim_from : (a : Claim) (us ts : List Token) → G a us → ts ≡ claim_lines frame a ++ us → ClaimParts ts
  claim_from (Optimal v zs) us ts g is = (_, is, inl (_, refl, (v, _, refl, point_from (λ zs. Optimal v zs) zs us g)))
  claim_from Infeasible us ts g is = (_, is, inr (inl (_, refl, (us, refl, g))))
  claim_from (Bound b) us ts g is = (_, is, inr (inr (_, refl, (b, _, refl, inl (us, refl, g)))))
  claim_from (BoundValue b v zs) us ts g is = (_, is, inr (inr (_, refl, (b, _, refl, inr (_, refl, (v, _, refl, point_from (λ zs. BoundValue b v zs) zs us g))))))

  point_read : (f : List ℤ → Claim) → ((zs : List ℤ) → (us : List Token) × G (f zs) us) → (t : List ℕ) → ((zs : List ℤ) (rest : List ℕ) → Shorter rest t → Verdict (G (f zs)) rest) → Verdict (PointPart f) t
  point_read f some t next =
      let w = some [] in
      prefixed_read (LineEnd None) 10 [] (Prefixed (Words (codes "point")) (Points frame 1 (λ zs. G (f zs)))) t refl (λ r. tt)
      (Words (codes "point") ∷ (point_values frame 1 [] ++ w.0)) (point_values frame 1 [] ++ w.0, refl, ([], w.0, w.1, refl)) (λ r1 l1.
      prefixed_read (Words (codes "point")) 112 (codes "oint") (Points frame 1 (λ zs. G (f zs))) r1 refl (λ r. tt) (point_values frame 1 [] ++ w.0) ([], w.0, w.1, refl) (λ r2 l2.
      points_read (length r2) frame 1 (λ zs. G (f zs)) some r2 (λ zs r3 l3. next zs r3 (let a : length r1 < length t = l1 in let b : length r2 < length r1 = l2 in let c : length r3 < length r2 = l3 in omega arith)) (omega arith)))

  pub claim_read : ((a : Claim) → (us : List Token) × G a us) → (t : List ℕ) → ((a : Claim) (rest : List ℕ) → Shorter rest t → Verdict (G a) rest) → Verdict (Claims frame G) t
  claim_read some t next =
      let some_point : (f : List ℤ → Claim) → (us : List Token) × PointPart f us = λ f. let w = some (f []) in (_, point_from f [] w.0 w.1) in
      let some_optimal : (v : ℤ) → (us : List Token) × PointPart (λ zs. Optimal v zs) us = λ v. some_point (λ zs. Optimal v zs) in
      let some_value : (b v : ℤ) → (us : List Token) × PointPart (λ zs. BoundValue b v zs) us = λ b v. some_point (λ zs. BoundValue b v zs) in
      let some_after : (b : ℤ) → (us : List Token) × AfterBound b us = λ b. let w = some (Bound b) in (_, inl (w.0, refl, w.1)) in
      let w_optimal : (us : List Token) × OptimalPart us = (_, (pos 0, (some_optimal (pos 0)).0, refl, (some_optimal (pos 0)).1)) in
      let w_infeasible : (us : List Token) × InfeasiblePart us = (_, ((some Infeasible).0, refl, (some Infeasible).1)) in
      let w_bound : (us : List Token) × BoundPart us = (_, (pos 0, (some_after (pos 0)).0, refl, (some_after (pos 0)).1)) in
      relabel ClaimParts (Claims frame G) t claim_to (λ ts m. claim_from m.0 m.1 ts m.2 m.3)
      (prefixed_read (Words (codes "claim ")) 99 (codes "laim ") (OneOfThree (Words (codes "optimal ")) (Words (codes "infeasible")) (Words (codes "bound ")) OptimalPart InfeasiblePart BoundPart) t refl (λ r. tt)
      (Words (codes "optimal ") ∷ w_optimal.0) (inl (w_optimal.0, refl, w_optimal.1)) (λ r1 l1.
      three_read 111 105 98 (codes "ptimal ") (codes "nfeasible") (codes "ound ") OptimalPart InfeasiblePart BoundPart r1 (λ e. omega arith) (λ e. omega arith) (λ e. omega arith) w_optimal w_infeasible w_bound
      (λ r2 l2. valued_read value_fault (λ v. PointPart (λ zs. Optimal v zs)) r2 some_optimal (λ v r3 l3. point_read (λ zs. Optimal v zs) (λ zs. some (Optimal v zs)) r3 (λ zs r4 l4. next (Optimal v zs) r4
      (let a : length r1 < length t = l1 in let b : length r2 < length r1 = l2 in let c : length r3 < length r2 = l3 in let d : length r4 < length r3 = l4 in omega arith))))
      (λ r2 l2. prefixed_read (LineEnd None) 10 [] (G Infeasible) r2 refl (λ r. tt) (some Infeasible).0 (some Infeasible).1 (λ r3 l3. next Infeasible r3
      (let a : length r1 < length t = l1 in let b : length r2 < length r1 = l2 in let c : length r3 < length r2 = l3 in omega arith)))
      (λ r2 l2. valued_read value_fault AfterBound r2 some_after (λ b r3 l3. end_or_word_read (codes "value ") (G (Bound b)) (Valued value_fault (λ v. PointPart (λ zs. BoundValue b v zs))) r3
      (some (Bound b)) (_, (pos 0, (some_value b (pos 0)).0, refl, (some_value b (pos 0)).1))
      (λ r4 l4. next (Bound b) r4 (let a : length r1 < length t = l1 in let b : length r2 < length r1 = l2 in let c : length r3 < length r2 = l3 in let d : length r4 < length r3 = l4 in omega arith))
      (λ r4 l4. valued_read value_fault (λ v. PointPart (λ zs. BoundValue b v zs)) r4 (some_value b) (λ v r5 l5. point_read (λ zs. BoundValue b v zs) (λ zs. some (BoundValue b v zs)) r5 (λ zs r6 l6. next (BoundValue b v zs) r6
      (let a : length r1 < length t = l1 in let b : length r2 < length r1 = l2 in let c : length r3 < length r2 = l3 in let d : length r4 < length r3 = l4 in let e : length r5 < length r4 = l5 in let f : length r6 < length r5 = l6 in omega arith))))))))

-- what doesn't begin as a cut does
pub record NoCut (G : List Cut → List Token → Type 0) : Type 0 where
  pub apart : (cs : List Cut) (us : List Token) → G cs (Words (codes "cut ") ∷ us) → ⊥
  pub off : (cs : List Cut) (y : Token) (ys : List Token) → G cs (y ∷ ys) → (s t : List ℕ) → t ≡ 99 ∷ s → IsOff y t
  pub some : (cs : List Cut) → G cs [] → ⊥

module _ (frame : Frame) (earlier : ℕ) (G : List Cut → List Token → Type 0) where
  abbrev pub AfterCutPairs : ℕ → List (ℕ × ℤ) → List Token → Type 0
  AfterCutPairs d ps = Prefixed (LineEnd None) (Cuts frame (earlier + 1) (λ cs. G (cut_of d ps ∷ cs)))

  abbrev pub AfterCutCount : ℕ → ℕ → List Token → Type 0
  AfterCutCount d n = Pairs (may_combine frame earlier) (2 ^ 20) [] 0 n (AfterCutPairs d)

  abbrev pub AfterDivisor : ℕ → List Token → Type 0
  AfterDivisor d = Prefixed (Words (codes " rows ")) (Numbered (λ _. None) (AfterCutCount d))

  abbrev pub CutParts : List Token → Type 0
  CutParts = Numbered (divisor_fault earlier) AfterDivisor

  pub cut_split : (c : Cut) (cs : List Cut) (us : List Token) → cut_lines frame earlier (c ∷ cs) ++ us
      ≡ Words (codes "cut ") ∷ Figure (pos c.divisor) (divisor_fault earlier c.divisor) ∷ Words (codes " rows ") ∷ count (length c.pairs) ∷ (pairs_behind (may_combine frame earlier) (2 ^ 20) [] 0 c.pairs ++ (LineEnd None ∷ (cut_lines frame (earlier + 1) cs ++ us)))
  cut_split c cs us = simp append_assoc

  abbrev pub cut_to : (ts : List Token) → CutParts ts → Cuts frame earlier G (Words (codes "cut ") ∷ ts)
  cut_to ts m =
      let d = m.0 in
      let a : ts ≡ Figure (pos d) (divisor_fault earlier d) ∷ m.1 = m.2 in
      let m2 = m.3 in
      let b : m.1 ≡ Words (codes " rows ") ∷ m2.0 = m2.1 in
      let m3 = m2.2 in
      let c : m2.0 ≡ count m3.0 ∷ m3.1 = m3.2 in
      let m4 = m3.3 in
      let ps = m4.0 in
      let long : length ps ≡ m3.0 = m4.2 in
      let e : m3.1 ≡ pairs_behind (may_combine frame earlier) (2 ^ 20) [] 0 ps ++ m4.1 = m4.4 in
      let m5 = m4.3 in
      let f : m4.1 ≡ LineEnd None ∷ m5.0 = m5.1 in
      let m6 = m5.2 in
      let g : m5.0 ≡ cut_lines frame (earlier + 1) m6.0 ++ m6.1 = m6.3 in (
        cut_of d ps ∷ m6.0,
        m6.1,
        m6.2,
        ap (λ (xs : List Token). Words (codes "cut ") ∷ xs)
            (a ∙ ap (λ (xs : List Token). Figure (pos d) (divisor_fault earlier d) ∷ xs)
            (b ∙ ap (λ (xs : List Token). Words (codes " rows ") ∷ xs)
            (c ∙ ap (λ (n : ℕ). count n ∷ m3.1) (sym long) ∙ ap (λ (xs : List Token). count (length ps) ∷ xs)
            (e ∙ ap (λ (xs : List Token). pairs_behind (may_combine frame earlier) (2 ^ 20) [] 0 ps ++ xs)
            (f ∙ ap (λ (xs : List Token). LineEnd None ∷ xs) g)))))
            ∙ sym (cut_split (cut_of d ps) m6.0 m6.1),
      )

  pub cut_from : ((cs : List Cut) (us : List Token) → G cs (Words (codes "cut ") ∷ us) → ⊥) → (cs : List Cut) (us ts : List Token) → G cs us → Words (codes "cut ") ∷ ts ≡ cut_lines frame earlier cs ++ us → CutParts ts
  cut_from apart [] us ts g is = absurd (apart [] ts (let P : List Token → Type 0 = G [] in subst P (sym is) g))
  cut_from apart (c ∷ cs) us ts g is =
      let tail = cut_lines frame (earlier + 1) cs ++ us in
      let pairs = pairs_behind (may_combine frame earlier) (2 ^ 20) [] 0 c.pairs ++ (LineEnd None ∷ tail) in
      let joined = is ∙ cut_split c cs us in
      let tails : ts ≡ Figure (pos c.divisor) (divisor_fault earlier c.divisor) ∷ Words (codes " rows ") ∷ count (length c.pairs) ∷ pairs = same_tail _ _ _ _ joined in
      (c.divisor, _, tails, (_, refl, (length c.pairs, _, refl, (c.pairs, LineEnd None ∷ tail, refl, (tail, refl, (cs, us, g, refl)), refl)))) where
        same_tail : (x y : Token) (u v : List Token) → x ∷ u ≡ y ∷ v → u ≡ v
        same_tail x y u v same = cc

  cut_first : NoCut G → (cs : List Cut) (us : List Token) (y : Token) (ys : List Token) (s t : List ℕ) → t ≡ 99 ∷ s → G cs us → y ∷ ys ≡ cut_lines frame earlier cs ++ us → (y ≡ Words (codes "cut ")) ⊎ IsOff y t
  cut_first none [] us y ys s t begins g is = inr (none.off [] y ys (let P : List Token → Type 0 = G [] in subst P (sym is) g) s t begins)
  cut_first none (c ∷ cs) us y ys s t begins g is = let joined : y ∷ ys ≡ Words (codes "cut ") ∷ _ = is ∙ cut_split c cs us in inl (same_head _ _ _ _ joined) where
    same_head : (x y : Token) (u v : List Token) → x ∷ u ≡ y ∷ v → x ≡ y
    same_head x y u v same = cc

  cut_over : NoCut G → (cs : List Cut) (us : List Token) → G cs us → [] ≡ cut_lines frame earlier cs ++ us → ⊥
  cut_over none [] us g is = none.some [] (let P : List Token → Type 0 = G [] in subst P (sym is) g)
  cut_over none (c ∷ cs) us g is = let joined : [] ≡ Words (codes "cut ") ∷ _ = is ∙ cut_split c cs us in cc

  cuts_beyond : (cs : List Cut) (us ts : List Token) (t : List ℕ) → NotFirst 99 t → G cs us → ts ≡ cut_lines frame earlier cs ++ us → Beyond (G []) t ts
  cuts_beyond [] us ts t other g is = inl (let P : List Token → Type 0 = G [] in subst P (sym is) g)
  cuts_beyond (c ∷ cs) us ts t other g is = inr (Words (codes "cut "), _, off_words 99 (codes "ut ") t other, is ∙ cut_split c cs us)

  some_body : ((cs : List Cut) → (us : List Token) × G cs us) → (us : List Token) × CutParts us
  some_body some =
      let w = some (cut_of 0 [] ∷ []) in
      (_, (0, _, refl, (_, refl, (0, _, refl, ([], LineEnd None ∷ w.0, refl, (w.0, refl, ([], w.0, w.1, refl)), refl)))))

  body_read : ((cs : List Cut) → (us : List Token) × G cs us) → (t : List ℕ) → ((d : ℕ) (ps : List (ℕ × ℤ)) (rest : List ℕ) → Shorter rest t → Verdict (Cuts frame (earlier + 1) (λ cs. G (cut_of d ps ∷ cs))) rest) → Verdict CutParts t
  body_read some t next =
      let some_pairs : (d : ℕ) (ps : List (ℕ × ℤ)) → (us : List Token) × AfterCutPairs d ps us = λ d ps. let w = some (cut_of d ps ∷ []) in (LineEnd None ∷ w.0, (w.0, refl, ([], w.0, w.1, refl))) in
      let some_count : (d n : ℕ) → (us : List Token) × AfterCutCount d n us = λ d n. let fill = filler n in let w = some_pairs d fill.0 in (_, (fill.0, w.0, fill.1, w.1, refl)) in
      let some_divisor : (d : ℕ) → (us : List Token) × AfterDivisor d us = λ d. let w = some_count d 0 in (_, (_, refl, (0, w.0, refl, w.1))) in
      numbered_read (divisor_fault earlier) AfterDivisor t some_divisor (λ d r1 l1.
      prefixed_read (Words (codes " rows ")) 32 (codes "rows ") (Numbered (λ _. None) (AfterCutCount d)) r1 refl (λ r. tt) (count 0 ∷ (some_count d 0).0) (0, (some_count d 0).0, refl, (some_count d 0).1) (λ r2 l2.
      numbered_read (λ _. None) (AfterCutCount d) r2 (some_count d) (λ n r3 l3.
      pairs_read n (may_combine frame earlier) (2 ^ 20) [] 0 (AfterCutPairs d) (λ ps e. some_pairs d ps) r3 (λ ps e r4 l4.
      prefixed_read (LineEnd None) 10 [] (Cuts frame (earlier + 1) (λ cs. G (cut_of d ps ∷ cs))) r4 refl (λ r. tt) (some (cut_of d ps ∷ [])).0 ([], (some (cut_of d ps ∷ [])).0, (some (cut_of d ps ∷ [])).1, refl) (λ r5 l5.
      next d ps r5 (let a : length r1 < length t = l1 in let b : length r2 < length r1 = l2 in let c : length r3 < length r2 = l3 in let f : length r4 ≤ length r3 = l4 in let g : length r5 < length r4 = l5 in omega arith))))))

  cuts_step : NoCut G → ((cs : List Cut) → (us : List Token) × G cs us) → (t : List ℕ)
      → ((d : ℕ) (ps : List (ℕ × ℤ)) (rest : List ℕ) → Shorter rest t → Verdict (Cuts frame (earlier + 1) (λ cs. G (cut_of d ps ∷ cs))) rest)
      → Verdict (G []) t → Verdict (Cuts frame earlier G) t
  cuts_step none some t again stop =
      let body = some_body some in
      ⊎_elim
      (λ word. fixed_step (Cuts frame earlier G) (Words (codes "cut ")) 99 (codes "ut ") t refl (λ r. tt)
      (λ y ys m. cut_first none m.0 m.1 y ys word.0 t word.1 m.2 m.3)
      body.0 (cut_to body.0 body.1) (λ m. cut_over none m.0 m.1 m.2 m.3)
      (λ r1 l1. relabel CutParts (λ us. Cuts frame earlier G (Words (codes "cut ") ∷ us)) r1 cut_to (λ ts m. cut_from none.apart m.0 m.1 ts m.2 m.3)
      (body_read some r1 (λ d ps r2 l2. again d ps r2 (let a : length r1 < length t = l1 in let b : length r2 < length r1 = l2 in omega arith)))))
      (λ other. widen (Cuts frame earlier G) (G []) t (λ ts g. ([], ts, g, refl)) (λ ts m. cuts_beyond m.0 m.1 ts t other m.2 m.3) stop)
      (begins_with 99 t)

cuts_read : (fuel : ℕ) (frame : Frame) (earlier : ℕ) (G : List Cut → List Token → Type 0) → NoCut G → ((cs : List Cut) → (us : List Token) × G cs us) → (t : List ℕ) → length t ≤ fuel
    → ((cs : List Cut) (rest : List ℕ) → Verdict (G cs) rest) → Verdict (Cuts frame earlier G) t
cuts_read zero frame earlier G none some t small next = cuts_step frame earlier G none some t (λ d ps rest less. let a : length rest < length t = less in absurd (omega arith)) (next [] t)
cuts_read (suc fuel) frame earlier G none some t small next =
    cuts_step frame earlier G none some t (λ d ps rest less. let a : length rest < length t = less in
    cuts_read fuel frame (earlier + 1) (λ cs. G (cut_of d ps ∷ cs)) (record { apart = λ cs us g. none.apart (cut_of d ps ∷ cs) us g; off = λ cs y ys g s t e. none.off (cut_of d ps ∷ cs) y ys g s t e; some = λ cs g. none.some (cut_of d ps ∷ cs) g }) (λ cs. some (cut_of d ps ∷ cs)) rest (omega arith) (λ cs rest. next (cut_of d ps ∷ cs) rest)) (next [] t)

-- the cuts of a version, in front of what may follow them
abbrev FormedCuts : Frame → Version → (List Cut → List Token → Type 0) → List Token → Type 0
FormedCuts frame Three G ts = (cs : List Cut) × (us : List Token) × (0 < length cs) × G cs us × (ts ≡ cut_lines frame 0 cs ++ us)
FormedCuts frame _ G ts = G [] ts

formed_read : (frame : Frame) (version : Version) (G : List Cut → List Token → Type 0) → NoCut G → ((cs : List Cut) → (us : List Token) × G cs us) → (t : List ℕ) → ((cs : List Cut) (rest : List ℕ) → Verdict (G cs) rest) → Verdict (FormedCuts frame version G) t
formed_read frame One G none some t next = next [] t
formed_read frame Two G none some t next = next [] t
formed_read frame Three G none some t next =
    let body = some_body frame 0 G some in
    relabel (Prefixed (Words (codes "cut ")) (CutParts frame 0 G)) (FormedCuts frame Three G) t
    (λ ts m. let i = cut_to frame 0 G m.0 m.2 in let j = m.2 in formed ts m.0 m.1 m.2)
    (λ ts m. from m.0 m.1 ts m.2 m.3 m.4)
    (prefixed_read (Words (codes "cut ")) 99 (codes "ut ") (CutParts frame 0 G) t refl (λ r. tt) body.0 body.1 (λ r1 l1.
    body_read frame 0 G some r1 (λ d ps r2 l2.
    cuts_read (length r2) frame 1 (λ cs. G (cut_of d ps ∷ cs)) (record { apart = λ cs us g. none.apart (cut_of d ps ∷ cs) us g; off = λ cs y ys g s t e. none.off (cut_of d ps ∷ cs) y ys g s t e; some = λ cs g. none.some (cut_of d ps ∷ cs) g }) (λ cs. some (cut_of d ps ∷ cs)) r2 (omega arith) (λ cs rest. next (cut_of d ps ∷ cs) rest)))) where
      formed : (ts us : List Token) → ts ≡ Words (codes "cut ") ∷ us → CutParts frame 0 G us → FormedCuts frame Three G ts
      formed ts us is m =
          let i = cut_to frame 0 G us m in
          let some : 0 < length i.0 = omega arith in
          (i.0, i.1, some, i.2, is ∙ i.3)

      from : (cs : List Cut) (us ts : List Token) → 0 < length cs → G cs us → ts ≡ cut_lines frame 0 cs ++ us → Prefixed (Words (codes "cut ")) (CutParts frame 0 G) ts
      from [] us ts long g is = absurd (omega arith)
      from (c ∷ cs) us ts long g is =
          let joined = cut_split frame 0 G c cs us in
          (_, is ∙ joined, cut_from frame 0 G none.apart (c ∷ cs) us _ g (sym joined))

-- a certificate of these parts
abbrev cert_of : Claim → List Cut → Tree → Cert
cert_of claim cuts tree = record { claim = claim; cuts = cuts; tree = tree }

-- the last line
abbrev pub last_line : List Token
last_line = Words (codes "end") ∷ LineEnd None ∷ []

-- the last line, and nothing behind it
abbrev pub Last : List Token → Type 0
Last = Prefixed (Words (codes "end")) (Prefixed (LineEnd None) (λ ts. ts ≡ []))

pub last_to : (ts : List Token) → Last ts → ts ≡ last_line
last_to ts m =
    let m2 = m.2 in
    let a : ts ≡ Words (codes "end") ∷ m.0 = m.1 in
    let b : m.0 ≡ LineEnd None ∷ m2.0 = m2.1 in
    let c : m2.0 ≡ [] = m2.2 in
    a ∙ ap (λ (xs : List Token). Words (codes "end") ∷ xs) (b ∙ ap (λ (xs : List Token). LineEnd None ∷ xs) c)

pub last_from : Last last_line
last_from = (LineEnd None ∷ [], refl, ([], refl, refl))

last_read : (t : List ℕ) → Verdict Last t
last_read t =
    prefixed_read (Words (codes "end")) 101 (codes "nd") (Prefixed (LineEnd None) (λ ts. ts ≡ [])) t refl (λ r. tt) (LineEnd None ∷ []) ([], refl, refl) (λ r1 l1.
    prefixed_read (LineEnd None) 10 [] (λ ts. ts ≡ []) r1 refl (λ r. tt) [] refl (λ r2 l2.
    end_step (λ ts. ts ≡ []) r2 refl (λ y ys is. cc)))

-- a tree and the last line, behind so many cuts
abbrev TreeAndEnd : Frame → Version → List Cut → List Token → Type 0
TreeAndEnd frame version cs = Trees frame version (length cs) 0 [] (λ _. Last)

tree_no_cut : (frame : Frame) (version : Version) → NoCut (TreeAndEnd frame version)
tree_no_cut frame version = record { apart = apart; off = off; some = some } where
  apart : (cs : List Cut) (us : List Token) → TreeAndEnd frame version cs (Words (codes "cut ") ∷ us) → ⊥
  apart cs us m = ⊎_elim
      (λ e. words_differ 99 108 (codes "ut ") (codes "eaf ") [] [] (λ e. omega arith) (ap (λ (w : Token). w ∷ []) e))
      (⊎_elim (λ e. words_differ 99 111 (codes "ut ") (codes "pen ") [] [] (λ e. omega arith) (ap (λ (w : Token). w ∷ []) e))
      (λ e. words_differ 99 115 (codes "ut ") (codes "plit ") [] [] (λ e. omega arith) (ap (λ (w : Token). w ∷ []) e)))
      (tree_first frame version (length cs) 0 [] (λ _. Last) (Words (codes "cut ")) us (tree_by frame version (length cs) 0 [] (λ _. Last) m.0 m.1 (Words (codes "cut ") ∷ us) m.2 m.3))

  off : (cs : List Cut) (y : Token) (ys : List Token) → TreeAndEnd frame version cs (y ∷ ys) → (s t : List ℕ) → t ≡ 99 ∷ s → IsOff y t
  off cs y ys m s t begins = ⊎_elim
      (λ e. off_by y (Words (codes "leaf ")) t e (off_words 108 (codes "eaf ") t (other_first 108 99 s t begins (λ e. omega arith))))
      (⊎_elim (λ e. off_by y (Words (codes "open ")) t e (off_words 111 (codes "pen ") t (other_first 111 99 s t begins (λ e. omega arith))))
      (λ e. off_by y (Words (codes "split ")) t e (off_words 115 (codes "plit ") t (other_first 115 99 s t begins (λ e. omega arith)))))
      (tree_first frame version (length cs) 0 [] (λ _. Last) y ys (tree_by frame version (length cs) 0 [] (λ _. Last) m.0 m.1 (y ∷ ys) m.2 m.3))

  some : (cs : List Cut) → TreeAndEnd frame version cs [] → ⊥
  some cs m = tree_over frame version (length cs) 0 [] (λ _. Last) (tree_by frame version (length cs) 0 [] (λ _. Last) m.0 m.1 [] m.2 m.3)

-- the tokens behind the first line
abbrev Bodies : Frame → Version → List Token → Type 0
Bodies frame version = Claims frame (λ _. FormedCuts frame version (TreeAndEnd frame version))

bodies_read : (frame : Frame) (version : Version) (t : List ℕ) → Verdict (Bodies frame version) t
bodies_read frame version t =
    let plain : Tree = Shut (record { scale = 0; pairs = []; picked = Every }) in
    let some_tree : (cs : List Cut) → (us : List Token) × TreeAndEnd frame version cs us = λ cs. (_, (plain, last_line, last_from, refl)) in
    claim_read frame (λ _. FormedCuts frame version (TreeAndEnd frame version)) (λ _. some_cuts version (some_tree []) (some_tree (cut_of 0 [] ∷ []))) t (λ a r1 l1.
    formed_read frame version (TreeAndEnd frame version) (tree_no_cut frame version) some_tree r1 (λ cs r2.
    tree_read (length r2) frame version (length cs) 0 [] (λ _. Last) (λ _. (last_line, last_from)) r2 (omega arith) (λ x r3 l3. last_read r3))) where
      some_cuts : (v : Version) → ((us : List Token) × TreeAndEnd frame version [] us) → ((us : List Token) × TreeAndEnd frame version (cut_of 0 [] ∷ []) us) → (us : List Token) × FormedCuts frame v (TreeAndEnd frame version) us
      some_cuts One a b = a
      some_cuts Two a b = a
      some_cuts Three a b = let long : 0 < length (cut_of 0 [] ∷ []) = omega arith in (_, (cut_of 0 [] ∷ [], b.0, long, b.1, refl))

-- the first line
abbrev Texts : Frame → List Token → Type 0
Texts frame = Prefixed (Words (codes "bpcert "))
    (OneOfThree (Words (codes "1")) (Words (codes "2")) (Words (codes "3")) (Prefixed (LineEnd None) (Bodies frame One)) (Prefixed (LineEnd None) (Bodies frame Two)) (Prefixed (LineEnd None) (Bodies frame Three)))

-- the tokens of certificates
abbrev pub Certificates : Frame → List Token → Type 0
Certificates frame ts = (version : Version) × (cert : Cert) × HasForm version cert × (ts ≡ tokens_of frame version cert)

pub tokens_split : (frame : Frame) (version : Version) (c : Cert) → tokens_of frame version c
    ≡ Words (codes "bpcert ") ∷ Words (version_word version) ∷ LineEnd None ∷ (claim_lines frame c.claim ++ (cut_lines frame 0 c.cuts ++ (tree_lines frame version (length c.cuts) 0 [] c.tree ++ last_line)))
tokens_split frame version c = simp append_assoc

body_to : (frame : Frame) (version : Version) (ts : List Token) → Bodies frame version ts
    → (c : Cert) × HasForm version c × (ts ≡ claim_lines frame c.claim ++ (cut_lines frame 0 c.cuts ++ (tree_lines frame version (length c.cuts) 0 [] c.tree ++ last_line)))
body_to frame One ts m =
    let t = m.2 in let e : t.1 ≡ last_line = last_to t.1 t.2 in
    (cert_of m.0 [] t.0, refl, m.3 ∙ ap (λ (xs : List Token). claim_lines frame m.0 ++ xs) (t.3 ∙ ap (λ (xs : List Token). tree_lines frame One 0 0 [] t.0 ++ xs) e))
body_to frame Two ts m =
    let t = m.2 in let e : t.1 ≡ last_line = last_to t.1 t.2 in
    (cert_of m.0 [] t.0, refl, m.3 ∙ ap (λ (xs : List Token). claim_lines frame m.0 ++ xs) (t.3 ∙ ap (λ (xs : List Token). tree_lines frame Two 0 0 [] t.0 ++ xs) e))
body_to frame Three ts m =
    let k = m.2 in
    let t = k.3 in
    let e : t.1 ≡ last_line = last_to t.1 t.2 in (
      cert_of m.0 k.0 t.0,
      k.2,
      m.3 ∙ ap (λ (xs : List Token). claim_lines frame m.0 ++ xs)
          (k.4 ∙ ap (λ (xs : List Token). cut_lines frame 0 k.0 ++ xs) (t.3 ∙ ap (λ (xs : List Token). tree_lines frame Three (length k.0) 0 [] t.0 ++ xs) e)),
    )

body_from : (frame : Frame) (version : Version) (c : Cert) → HasForm version c → Bodies frame version (claim_lines frame c.claim ++ (cut_lines frame 0 c.cuts ++ (tree_lines frame version (length c.cuts) 0 [] c.tree ++ last_line)))
body_from frame One c form =
    let P : List Cut → Type 0 = λ cs. Bodies frame One (claim_lines frame c.claim ++ (cut_lines frame 0 cs ++ (tree_lines frame One (length cs) 0 [] c.tree ++ last_line))) in
    subst P (sym form) (c.claim, tree_lines frame One 0 0 [] c.tree ++ last_line, (c.tree, last_line, last_from, refl), refl)
body_from frame Two c form =
    let P : List Cut → Type 0 = λ cs. Bodies frame Two (claim_lines frame c.claim ++ (cut_lines frame 0 cs ++ (tree_lines frame Two (length cs) 0 [] c.tree ++ last_line))) in
    subst P (sym form) (c.claim, tree_lines frame Two 0 0 [] c.tree ++ last_line, (c.tree, last_line, last_from, refl), refl)
body_from frame Three c form =
    let tree : List Token = tree_lines frame Three (length c.cuts) 0 [] c.tree ++ last_line in
    (c.claim, cut_lines frame 0 c.cuts ++ tree, (c.cuts, tree, form, (c.tree, last_line, last_from, refl), refl), refl)

texts_to : (frame : Frame) (ts : List Token) → Texts frame ts → Certificates frame ts
texts_to frame ts m = ⊎_elim (λ i. one One i) (λ n. ⊎_elim (λ i. one Two i) (λ i. one Three i) n) m.2 where
  one : (version : Version) → Prefixed (Words (version_word version)) (Prefixed (LineEnd None) (Bodies frame version)) m.0 → Certificates frame ts
  one version i =
      let a : ts ≡ Words (codes "bpcert ") ∷ m.0 = m.1 in
      let b : m.0 ≡ Words (version_word version) ∷ i.0 = i.1 in
      let j = i.2 in
      let c : i.0 ≡ LineEnd None ∷ j.0 = j.1 in
      let body = body_to frame version j.0 j.2 in
      (version, body.0, body.1, a ∙ ap (λ (xs : List Token). Words (codes "bpcert ") ∷ xs) (b ∙ ap (λ (xs : List Token). Words (version_word version) ∷ xs) (c ∙ ap (λ (xs : List Token). LineEnd None ∷ xs) body.2)) ∙ sym (tokens_split frame version body.0))

texts_from : (frame : Frame) (version : Version) (c : Cert) (ts : List Token) → HasForm version c → ts ≡ tokens_of frame version c → Texts frame ts
texts_from frame One c ts form is = (_, is ∙ tokens_split frame One c, inl (_, refl, (_, refl, body_from frame One c form)))
texts_from frame Two c ts form is = (_, is ∙ tokens_split frame Two c, inr (inl (_, refl, (_, refl, body_from frame Two c form))))
texts_from frame Three c ts form is = (_, is ∙ tokens_split frame Three c, inr (inr (_, refl, (_, refl, body_from frame Three c form))))

-- some certificate of a version
some_cut : Version → List Cut
some_cut Three = cut_of 0 [] ∷ []
some_cut _ = []

abbrev plain : Version → Cert
plain v = cert_of Infeasible (some_cut v) (Shut (record { scale = 0; pairs = []; picked = Every }))

plain_form : (v : Version) → HasForm v (plain v)
unfolding some_cut
plain_form One = refl
plain_form Two = refl
plain_form Three = omega arith

-- each text is a certificate's, or has a first fault
pub text_read : (frame : Frame) (t : List ℕ) → Verdict (Certificates frame) t
text_read frame t =
    relabel (Texts frame) (Certificates frame) t (λ ts m. texts_to frame ts m) (λ ts m. texts_from frame m.0 m.1 ts m.2 m.3)
    (prefixed_read (Words (codes "bpcert ")) 98 (codes "pcert ") _ t refl (λ r. tt) _ (inl (_, refl, (body_some One).1)) (λ r1 l1.
    three_read 49 50 51 [] [] [] (Prefixed (LineEnd None) (Bodies frame One)) (Prefixed (LineEnd None) (Bodies frame Two)) (Prefixed (LineEnd None) (Bodies frame Three)) r1
    (λ e. omega arith) (λ e. omega arith) (λ e. omega arith) (body_some One) (body_some Two) (body_some Three) (λ r2 l2. line One r2) (λ r2 l2. line Two r2) (λ r2 l2. line Three r2))) where
      body_some : (v : Version) → (us : List Token) × Prefixed (LineEnd None) (Bodies frame v) us
      body_some v = (_, (_, refl, body_from frame v (plain v) (plain_form v)))

      line : (v : Version) → (r : List ℕ) → Verdict (Prefixed (LineEnd None) (Bodies frame v)) r
      line v r = let b = body_from frame v (plain v) (plain_form v) in prefixed_read (LineEnd None) 10 [] (Bodies frame v) r refl (λ x. tt) _ b (λ q l. bodies_read frame v q)
