-- Leaves, trees, cuts and claims are read, or have a first fault.
use Rattle.std.proofs.Common.{◌≡◌, ◌⊎◌, ℕ, zero, suc, ◌+◌, ◌^◌, ◌<◌, ◌≤◌, List, [], ◌∷◌, ◌++◌, length, codes, None, ℤ, pos, refl, sym, ap, ◌∙◌, subst, inl, inr, ⊎_elim, arith, append_assoc}
use Rattle.cert_format.specs.Cert.{Picked, Every, Proof, Tree, Shut, Open, Split, Frame}
use Rattle.cert_format.specs.Text.{value_fault, scale_fault, variable_fault, Token, Words, Figure, LineEnd, Version, One, Two, Three, value, count, may_name, pairs_behind, picked_words, pairs_word, leaf_line, tree_lines, kept_behind}
use Rattle.cert_format.proofs.Verdicts.{Verdict, relabel, begins_with, off_words, other_first, Shorter, fixed_step}
use Rattle.cert_format.specs.Grammar.{Pairs, Priced, Prefixed, Numbered, Valued, Trees}
use Rattle.cert_format.proofs.Productions.{off_by, pairs_read, filler, priced_read, prefixed_read, numbered_read, valued_read}

-- two words with two first bytes
pub words_differ : (a b : ℕ) (xs ys : List ℕ) (us vs : List Token) → (a ≡ b → ⊥) → Words (a ∷ xs) ∷ us ≡ Words (b ∷ ys) ∷ vs → ⊥
words_differ a b xs ys us vs other same = let e : a ≡ b = cc in other e

-- a proof of these parts
abbrev pub proof_of : ℕ → List (ℕ × ℤ) → Picked → Proof
proof_of scale pairs picked = record { scale = scale; pairs = pairs; picked = picked }

module _ (frame : Frame) (version : Version) (cuts depth : ℕ) (had : List (ℕ × ℤ)) (G : Proof → List Token → Type 0) where
  -- a leaf's line behind its first word, part by part
  abbrev pub AfterPicked : ℕ → List (ℕ × ℤ) → Picked → List Token → Type 0
  AfterPicked s ps q = Prefixed (LineEnd None) (G (proof_of s ps q))

  abbrev pub AfterPairs : ℕ → List (ℕ × ℤ) → List Token → Type 0
  AfterPairs s ps = Prefixed (Words (codes " priced ")) (Priced frame (AfterPicked s ps))

  abbrev pub AfterCount : ℕ → ℕ → List Token → Type 0
  AfterCount s n = Pairs (may_name frame cuts) (2 ^ 40) had 0 n (AfterPairs s)

  abbrev pub AfterScale : ℕ → List Token → Type 0
  AfterScale s = Prefixed (Words (pairs_word version)) (Numbered (λ _. None) (AfterCount s))

  abbrev pub LeafParts : List Token → Type 0
  LeafParts = Numbered (scale_fault frame depth) AfterScale

  -- the same as a whole
  abbrev pub Leaves : List Token → Type 0
  Leaves ts = (p : Proof) × (us : List Token) × G p us × (ts ≡ leaf_line frame version cuts depth had p ++ us)

  leaf_split : (p : Proof) (us : List Token) → leaf_line frame version cuts depth had p ++ us
      ≡ Figure (pos p.scale) (scale_fault frame depth p.scale) ∷ Words (pairs_word version) ∷ count (length p.pairs) ∷ (pairs_behind (may_name frame cuts) (2 ^ 40) had 0 p.pairs ++ (Words (codes " priced ") ∷ (picked_words frame p.picked ++ (LineEnd None ∷ us))))
  leaf_split p us = simp append_assoc

  pub leaf_to : (ts : List Token) → LeafParts ts → Leaves ts
  leaf_to ts m =
      let s = m.0 in
      let a : ts ≡ Figure (pos s) (scale_fault frame depth s) ∷ m.1 = m.2 in
      let m2 = m.3 in
      let b : m.1 ≡ Words (pairs_word version) ∷ m2.0 = m2.1 in
      let m3 = m2.2 in
      let c : m2.0 ≡ count m3.0 ∷ m3.1 = m3.2 in
      let m4 = m3.3 in
      let ps = m4.0 in
      let long : length ps ≡ m3.0 = m4.2 in
      let d : m3.1 ≡ pairs_behind (may_name frame cuts) (2 ^ 40) had 0 ps ++ m4.1 = m4.4 in
      let m5 = m4.3 in
      let e : m4.1 ≡ Words (codes " priced ") ∷ m5.0 = m5.1 in
      let m6 = m5.2 in
      let q = m6.0 in
      let f : m5.0 ≡ picked_words frame q ++ m6.1 = m6.3 in
      let m7 = m6.2 in
      let g : m6.1 ≡ LineEnd None ∷ m7.0 = m7.1 in (
        proof_of s ps q,
        m7.0,
        m7.2,
        a ∙ ap (λ (xs : List Token). Figure (pos s) (scale_fault frame depth s) ∷ xs)
            (b ∙ ap (λ (xs : List Token). Words (pairs_word version) ∷ xs)
            (c ∙ ap (λ (n : ℕ). count n ∷ m3.1) (sym long) ∙ ap (λ (xs : List Token). count (length ps) ∷ xs)
            (d ∙ ap (λ (xs : List Token). pairs_behind (may_name frame cuts) (2 ^ 40) had 0 ps ++ xs)
            (e ∙ ap (λ (xs : List Token). Words (codes " priced ") ∷ xs)
            (f ∙ ap (λ (xs : List Token). picked_words frame q ++ xs) g)))))
            ∙ sym (leaf_split (proof_of s ps q) m7.0),
      )

  pub leaf_from : (ts : List Token) → Leaves ts → LeafParts ts
  leaf_from ts m =
      let p = m.0 in (
        p.scale,
        Words (pairs_word version) ∷ count (length p.pairs) ∷ (pairs_behind (may_name frame cuts) (2 ^ 40) had 0 p.pairs ++ (Words (codes " priced ") ∷ (picked_words frame p.picked ++ (LineEnd None ∷ m.1)))),
        m.3 ∙ leaf_split p m.1,
        (
          count (length p.pairs) ∷ (pairs_behind (may_name frame cuts) (2 ^ 40) had 0 p.pairs ++ (Words (codes " priced ") ∷ (picked_words frame p.picked ++ (LineEnd None ∷ m.1)))),
          refl,
          (
            length p.pairs,
            pairs_behind (may_name frame cuts) (2 ^ 40) had 0 p.pairs ++ (Words (codes " priced ") ∷ (picked_words frame p.picked ++ (LineEnd None ∷ m.1))),
            refl,
            (
              p.pairs,
              Words (codes " priced ") ∷ (picked_words frame p.picked ++ (LineEnd None ∷ m.1)),
              refl,
              (picked_words frame p.picked ++ (LineEnd None ∷ m.1), refl, (p.picked, LineEnd None ∷ m.1, (m.1, refl, m.2), refl)),
              refl,
            ),
          ),
        ),
      )

  word_tail : Version → List ℕ
  word_tail One = codes "rows "
  word_tail Two = codes "change "
  word_tail Three = codes "change "

  word_is : (v : Version) → pairs_word v ≡ 32 ∷ word_tail v
  unfolding word_tail
  word_is One = refl
  word_is Two = refl
  word_is Three = refl

  pub leaf_read : ((p : Proof) → (us : List Token) × G p us) → (t : List ℕ) → ((p : Proof) (rest : List ℕ) → Shorter rest t → Verdict (G p) rest) → Verdict Leaves t
  leaf_read some t next =
      let some_picked : (s : ℕ) (ps : List (ℕ × ℤ)) (q : Picked) → (us : List Token) × AfterPicked s ps q us = λ s ps q. let w = some (proof_of s ps q) in (LineEnd None ∷ w.0, (w.0, refl, w.1)) in
      let some_pairs : (s : ℕ) (ps : List (ℕ × ℤ)) → (us : List Token) × AfterPairs s ps us = λ s ps. let w = some_picked s ps Every in
      (Words (codes " priced ") ∷ (picked_words frame Every ++ w.0), (picked_words frame Every ++ w.0, refl, (Every, w.0, w.1, refl))) in
      let some_count : (s n : ℕ) → (us : List Token) × AfterCount s n us = λ s n. let fill = filler n in let w = some_pairs s fill.0 in
      (pairs_behind (may_name frame cuts) (2 ^ 40) had 0 fill.0 ++ w.0, (fill.0, w.0, fill.1, w.1, refl)) in
      let some_scale : (s : ℕ) → (us : List Token) × AfterScale s us = λ s. let w = some_count s 0 in
      (Words (pairs_word version) ∷ count 0 ∷ w.0, (count 0 ∷ w.0, refl, (0, w.0, refl, w.1))) in
      relabel LeafParts Leaves t leaf_to leaf_from
      (numbered_read (scale_fault frame depth) AfterScale t some_scale (λ s r1 l1.
      prefixed_read (Words (pairs_word version)) 32 (word_tail version) (Numbered (λ _. None) (AfterCount s)) r1 (word_is version) (λ r. tt) (count 0 ∷ (some_count s 0).0) (0, (some_count s 0).0, refl, (some_count s 0).1) (λ r2 l2.
      numbered_read (λ _. None) (AfterCount s) r2 (some_count s) (λ n r3 l3.
      pairs_read n (may_name frame cuts) (2 ^ 40) had 0 (AfterPairs s) (λ ps e. some_pairs s ps) r3 (λ ps e r4 l4.
      prefixed_read (Words (codes " priced ")) 32 (codes "priced ") (Priced frame (AfterPicked s ps)) r4 refl (λ r. tt) (picked_words frame Every ++ (some_picked s ps Every).0) (Every, (some_picked s ps Every).0, (some_picked s ps Every).1, refl) (λ r5 l5.
      priced_read frame (AfterPicked s ps) (some_picked s ps) r5 (λ q r6 l6.
      prefixed_read (LineEnd None) 10 [] (G (proof_of s ps q)) r6 refl (λ r. tt) (some (proof_of s ps q)).0 (some (proof_of s ps q)).1 (λ r7 l7.
      next (proof_of s ps q) r7
      (let a : length r1 < length t = l1 in let b : length r2 < length r1 = l2 in let c : length r3 < length r2 = l3 in let d : length r4 ≤ length r3 = l4 in
      let e : length r5 < length r4 = l5 in let f : length r6 < length r5 = l6 in let g : length r7 < length r6 = l7 in omega arith)))))))))

module _ (frame : Frame) (version : Version) (cuts depth : ℕ) (had : List (ℕ × ℤ)) (G : Tree → List Token → Type 0) where
  -- what follows the first word of a split
  abbrev pub HighPart : ℕ → ℤ → Tree → List Token → Type 0
  HighPart i z low = Trees frame version cuts (depth + 1) (kept_behind version had low) (λ high. G (Split i z low high))

  abbrev pub LowPart : ℕ → ℤ → List Token → Type 0
  LowPart i z = Trees frame version cuts (depth + 1) had (HighPart i z)

  abbrev pub AfterVariable : ℕ → List Token → Type 0
  AfterVariable i = Prefixed (Words (codes " ")) (Valued value_fault (λ z. Prefixed (LineEnd None) (LowPart i z)))

  abbrev pub SplitParts : List Token → Type 0
  SplitParts = Numbered (variable_fault frame depth) AfterVariable

  -- what a tree's tokens begin with
  pub data TreeBy (ts : List Token) : Type 0 where
    by_leaf : (us : List Token) → ts ≡ Words (codes "leaf ") ∷ us → Leaves frame version cuts depth had (λ p. G (Shut p)) us → TreeBy ts
    by_open : (us : List Token) → ts ≡ Words (codes "open ") ∷ us → Leaves frame version cuts depth had (λ p. G (Open p)) us → TreeBy ts
    by_split : (us : List Token) → ts ≡ Words (codes "split ") ∷ us → SplitParts us → TreeBy ts

  split_lines : (i : ℕ) (z : ℤ) (low high : Tree) (us : List Token) → tree_lines frame version cuts depth had (Split i z low high) ++ us
      ≡ Words (codes "split ") ∷ Figure (pos i) (variable_fault frame depth i) ∷ Words (codes " ") ∷ value z ∷ LineEnd None ∷ (tree_lines frame version cuts (depth + 1) had low ++ (tree_lines frame version cuts (depth + 1) (kept_behind version had low) high ++ us))
  split_lines i z low high us = simp append_assoc

  pub tree_by : (t : Tree) (us ts : List Token) → G t us → ts ≡ tree_lines frame version cuts depth had t ++ us → TreeBy ts
  tree_by (Shut p) us ts g is = by_leaf (leaf_line frame version cuts depth had p ++ us) is (p, us, g, refl)
  tree_by (Open p) us ts g is = by_open (leaf_line frame version cuts depth had p ++ us) is (p, us, g, refl)
  tree_by (Split i z low high) us ts g is =
      let right = tree_lines frame version cuts (depth + 1) (kept_behind version had low) high ++ us in
      let left = tree_lines frame version cuts (depth + 1) had low ++ right in
      by_split _ (is ∙ split_lines i z low high us)
      (i, Words (codes " ") ∷ value z ∷ LineEnd None ∷ left, refl, (value z ∷ LineEnd None ∷ left, refl, (z, LineEnd None ∷ left, refl, (left, refl, (low, right, (high, us, g, refl), refl)))))

  pub split_to : (ts : List Token) → SplitParts ts → Trees frame version cuts depth had G (Words (codes "split ") ∷ ts)
  split_to ts m =
      let i = m.0 in
      let a : ts ≡ Figure (pos i) (variable_fault frame depth i) ∷ m.1 = m.2 in
      let m2 = m.3 in
      let b : m.1 ≡ Words (codes " ") ∷ m2.0 = m2.1 in
      let m3 = m2.2 in
      let z = m3.0 in
      let c : m2.0 ≡ value z ∷ m3.1 = m3.2 in
      let m4 = m3.3 in
      let d : m3.1 ≡ LineEnd None ∷ m4.0 = m4.1 in
      let m5 = m4.2 in
      let low = m5.0 in
      let e : m4.0 ≡ tree_lines frame version cuts (depth + 1) had low ++ m5.1 = m5.3 in
      let m6 = m5.2 in
      let high = m6.0 in
      let f : m5.1 ≡ tree_lines frame version cuts (depth + 1) (kept_behind version had low) high ++ m6.1 = m6.3 in (
        Split i z low high,
        m6.1,
        m6.2,
        ap (λ (xs : List Token). Words (codes "split ") ∷ xs)
            (a ∙ ap (λ (xs : List Token). Figure (pos i) (variable_fault frame depth i) ∷ xs)
            (b ∙ ap (λ (xs : List Token). Words (codes " ") ∷ xs)
            (c ∙ ap (λ (xs : List Token). value z ∷ xs)
            (d ∙ ap (λ (xs : List Token). LineEnd None ∷ xs)
            (e ∙ ap (λ (xs : List Token). tree_lines frame version cuts (depth + 1) had low ++ xs) f)))))
            ∙ sym (split_lines i z low high m6.1),
      )

  pub tree_first : (y : Token) (ys : List Token) → TreeBy (y ∷ ys) → (y ≡ Words (codes "leaf ")) ⊎ ((y ≡ Words (codes "open ")) ⊎ (y ≡ Words (codes "split ")))
  tree_first y ys (by_leaf us is m) = inl cc
  tree_first y ys (by_open us is m) = inr (inl cc)
  tree_first y ys (by_split us is m) = inr (inr cc)

  pub tree_over : TreeBy [] → ⊥
  tree_over (by_leaf us is m) = cc
  tree_over (by_open us is m) = cc
  tree_over (by_split us is m) = cc

  pub under_leaf : (ts : List Token) → TreeBy (Words (codes "leaf ") ∷ ts) → Leaves frame version cuts depth had (λ p. G (Shut p)) ts
  under_leaf ts (by_leaf us is m) = let e : us ≡ ts = cc in subst (Leaves frame version cuts depth had (λ p. G (Shut p))) e m
  under_leaf ts (by_open us is m) = absurd (words_differ 108 111 _ _ _ _ (λ e. omega arith) is)
  under_leaf ts (by_split us is m) = absurd (words_differ 108 115 _ _ _ _ (λ e. omega arith) is)

  pub under_open : (ts : List Token) → TreeBy (Words (codes "open ") ∷ ts) → Leaves frame version cuts depth had (λ p. G (Open p)) ts
  under_open ts (by_open us is m) = let e : us ≡ ts = cc in subst (Leaves frame version cuts depth had (λ p. G (Open p))) e m
  under_open ts (by_leaf us is m) = absurd (words_differ 111 108 _ _ _ _ (λ e. omega arith) is)
  under_open ts (by_split us is m) = absurd (words_differ 111 115 _ _ _ _ (λ e. omega arith) is)

  pub under_split : (ts : List Token) → TreeBy (Words (codes "split ") ∷ ts) → SplitParts ts
  under_split ts (by_split us is m) = let e : us ≡ ts = cc in subst SplitParts e m
  under_split ts (by_leaf us is m) = absurd (words_differ 115 108 _ _ _ _ (λ e. omega arith) is)
  under_split ts (by_open us is m) = absurd (words_differ 115 111 _ _ _ _ (λ e. omega arith) is)

-- a tree, where each tree of a shorter text is read
tree_step : (frame : Frame) (version : Version) (cuts depth : ℕ) (had : List (ℕ × ℤ)) (G : Tree → List Token → Type 0) → ((t : Tree) → (us : List Token) × G t us) → (t : List ℕ)
    → ((depth : ℕ) (had : List (ℕ × ℤ)) (H : Tree → List Token → Type 0) → ((t : Tree) → (us : List Token) × H t us) → (rest : List ℕ) → Shorter rest t → ((t : Tree) (tail : List ℕ) → Shorter tail rest → Verdict (H t) tail) → Verdict (Trees frame version cuts depth had H) rest)
    → ((x : Tree) (rest : List ℕ) → Shorter rest t → Verdict (G x) rest) → Verdict (Trees frame version cuts depth had G) t
tree_step frame version cuts depth had G some t again next =
    let L : List Token → Type 0 = Trees frame version cuts depth had G in
    let by : (ts : List Token) → L ts → TreeBy frame version cuts depth had G ts = λ ts m. tree_by frame version cuts depth had G m.0 m.1 ts m.2 m.3 in
    let over : L [] → ⊥ = λ m. tree_over frame version cuts depth had G (by [] m) in
    let plain : Proof = proof_of 0 [] Every in
    let first : (y : Token) (ys : List Token) → L (y ∷ ys) → (y ≡ Words (codes "leaf ")) ⊎ ((y ≡ Words (codes "open ")) ⊎ (y ≡ Words (codes "split "))) = λ y ys m. tree_first frame version cuts depth had G y ys (by (y ∷ ys) m) in
    let with_leaf = some (Shut plain) in
    let with_open = some (Open plain) in
    ⊎_elim
    (λ word. fixed_step L (Words (codes "leaf ")) 108 (codes "eaf ") t refl (λ r. tt)
    (λ y ys m. ⊎_elim (λ e. inl e) (⊎_elim
    (λ e. inr (off_by y (Words (codes "open ")) t e (off_words 111 (codes "pen ") t (other_first 111 108 word.0 t word.1 (λ wrong. omega arith)))))
    (λ e. inr (off_by y (Words (codes "split ")) t e (off_words 115 (codes "plit ") t (other_first 115 108 word.0 t word.1 (λ wrong. omega arith))))))
    (first y ys m))
    (leaf_line frame version cuts depth had plain ++ with_leaf.0) (Shut plain, with_leaf.0, with_leaf.1, refl) over
    (λ rest less. relabel (Leaves frame version cuts depth had (λ p. G (Shut p))) (λ us. L (Words (codes "leaf ") ∷ us)) rest
    (λ ts m. (Shut m.0, m.1, m.2, ap (λ (xs : List Token). Words (codes "leaf ") ∷ xs) m.3))
    (λ ts m. under_leaf frame version cuts depth had G ts (by (Words (codes "leaf ") ∷ ts) m))
    (leaf_read frame version cuts depth had (λ p. G (Shut p)) (λ p. some (Shut p)) rest (λ p tail low. next (Shut p) tail (let a : length rest < length t = less in let b : length tail < length rest = low in omega arith)))))
    (λ not_leaf. ⊎_elim
    (λ word. fixed_step L (Words (codes "open ")) 111 (codes "pen ") t refl (λ r. tt)
    (λ y ys m. ⊎_elim (λ e. inr (off_by y (Words (codes "leaf ")) t e (off_words 108 (codes "eaf ") t not_leaf))) (⊎_elim
    (λ e. inl e)
    (λ e. inr (off_by y (Words (codes "split ")) t e (off_words 115 (codes "plit ") t (other_first 115 111 word.0 t word.1 (λ wrong. omega arith))))))
    (first y ys m))
    (leaf_line frame version cuts depth had plain ++ with_open.0) (Open plain, with_open.0, with_open.1, refl) over
    (λ rest less. relabel (Leaves frame version cuts depth had (λ p. G (Open p))) (λ us. L (Words (codes "open ") ∷ us)) rest
    (λ ts m. (Open m.0, m.1, m.2, ap (λ (xs : List Token). Words (codes "open ") ∷ xs) m.3))
    (λ ts m. under_open frame version cuts depth had G ts (by (Words (codes "open ") ∷ ts) m))
    (leaf_read frame version cuts depth had (λ p. G (Open p)) (λ p. some (Open p)) rest (λ p tail low. next (Open p) tail (let a : length rest < length t = less in let b : length tail < length rest = low in omega arith)))))
    (λ not_open.
    let shut = Shut plain in
    let some_high : (i : ℕ) (z : ℤ) (low : Tree) → (us : List Token) × HighPart frame version cuts depth had G i z low us = λ i z low. let w = some (Split i z low shut) in
    (tree_lines frame version cuts (depth + 1) (kept_behind version had low) shut ++ w.0, (shut, w.0, w.1, refl)) in
    let some_low : (i : ℕ) (z : ℤ) → (us : List Token) × LowPart frame version cuts depth had G i z us = λ i z. let w = some_high i z shut in
    (tree_lines frame version cuts (depth + 1) had shut ++ w.0, (shut, w.0, w.1, refl)) in
    let some_value : (i : ℕ) (z : ℤ) → (us : List Token) × Prefixed (LineEnd None) (LowPart frame version cuts depth had G i z) us = λ i z. let w = some_low i z in (LineEnd None ∷ w.0, (w.0, refl, w.1)) in
    let some_variable : (i : ℕ) → (us : List Token) × AfterVariable frame version cuts depth had G i us = λ i. let w = some_value i (pos 0) in (Words (codes " ") ∷ value (pos 0) ∷ w.0, (value (pos 0) ∷ w.0, refl, (pos 0, w.0, refl, w.1))) in
    let some_split = some_variable 0 in
    fixed_step L (Words (codes "split ")) 115 (codes "plit ") t refl (λ r. tt)
    (λ y ys m. ⊎_elim (λ e. inr (off_by y (Words (codes "leaf ")) t e (off_words 108 (codes "eaf ") t not_leaf))) (⊎_elim
    (λ e. inr (off_by y (Words (codes "open ")) t e (off_words 111 (codes "pen ") t not_open)))
    (λ e. inl e))
    (first y ys m))
    (Figure (pos 0) (variable_fault frame depth 0) ∷ some_split.0) (split_to frame version cuts depth had G _ (0, some_split.0, refl, some_split.1)) over
    (λ r0 l0. relabel (SplitParts frame version cuts depth had G) (λ us. L (Words (codes "split ") ∷ us)) r0
    (λ ts m. split_to frame version cuts depth had G ts m)
    (λ ts m. under_split frame version cuts depth had G ts (by (Words (codes "split ") ∷ ts) m))
    (numbered_read (variable_fault frame depth) (AfterVariable frame version cuts depth had G) r0 some_variable (λ i r1 l1.
    prefixed_read (Words (codes " ")) 32 [] (Valued value_fault (λ z. Prefixed (LineEnd None) (LowPart frame version cuts depth had G i z))) r1 refl (λ r. tt) (value (pos 0) ∷ (some_value i (pos 0)).0) (pos 0, (some_value i (pos 0)).0, refl, (some_value i (pos 0)).1) (λ r2 l2.
    valued_read value_fault (λ z. Prefixed (LineEnd None) (LowPart frame version cuts depth had G i z)) r2 (some_value i) (λ z r3 l3.
    prefixed_read (LineEnd None) 10 [] (LowPart frame version cuts depth had G i z) r3 refl (λ r. tt) (some_low i z).0 (some_low i z).1 (λ r4 l4.
    let a : length r0 < length t = l0 in let b : length r1 < length r0 = l1 in let c : length r2 < length r1 = l2 in let d : length r3 < length r2 = l3 in let e : length r4 < length r3 = l4 in
    again (depth + 1) had (HighPart frame version cuts depth had G i z) (some_high i z) r4 (omega arith) (λ low r5 l5.
    let f : length r5 < length r4 = l5 in
    again (depth + 1) (kept_behind version had low) (λ high. G (Split i z low high)) (λ high. some (Split i z low high)) r5 (omega arith) (λ high r6 l6.
    let g : length r6 < length r5 = l6 in
    next (Split i z low high) r6 (omega arith))))))))))
    (begins_with 111 t))
    (begins_with 108 t)

pub tree_read : (fuel : ℕ) (frame : Frame) (version : Version) (cuts depth : ℕ) (had : List (ℕ × ℤ)) (G : Tree → List Token → Type 0) → ((t : Tree) → (us : List Token) × G t us) → (t : List ℕ) → length t ≤ fuel
    → ((x : Tree) (rest : List ℕ) → Shorter rest t → Verdict (G x) rest) → Verdict (Trees frame version cuts depth had G) t
tree_read zero frame version cuts depth had G some t small next = tree_step frame version cuts depth had G some t (λ depth had H some rest less next. let a : length rest < length t = less in absurd (omega arith)) next
tree_read (suc fuel) frame version cuts depth had G some t small next =
    tree_step frame version cuts depth had G some t (λ depth had H some rest less next. let a : length rest < length t = less in tree_read fuel frame version cuts depth had H some rest (omega arith) next) next
