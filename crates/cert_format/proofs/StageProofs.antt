-- Each place of a reader: what follows each token that may come, which tokens may come, and that a certificate goes on from there.
use Rattle.std.proofs.Common.{◌≡◌, ◌⊎◌, ℕ, zero, suc, ◌+◌, ◌-◌, ◌^◌, Bool, true, false, List, [], ◌∷◌, ◌++◌, length, codes, Option, None, ℤ, pos, nat_abs, refl, sym, ap, ◌∙◌, subst, inl, inr, ⊎_elim, ◌<◌, arith, append_assoc, append-nil, length-append, nat_eq}
use Rattle.std.proofs.lemmas.Bool.Decides.{nat_tests}
use Rattle.cert_format.specs.Cert.{Picked, Every, These, Proof, Tree, Shut, Open, Split, Claim, Cut, Cert, Frame}
use Rattle.cert_format.specs.Text.{Kind, Token, Words, Figure, LineEnd, Version, One, Two, Three, pairs_word, value_fault, coordinate_fault, end_fault, row_fault, multiplier_fault, block_fault, variable_fault, divisor_fault, may_combine, count, cut_lines, kept_behind, meant_proof}
use Rattle.cert_format.specs.Grammar.{Prefixed, Numbered, Valued, Points, Pairs, Blocks, Cuts, Trees}
use Rattle.cert_format.specs.Words.{word_token, change_word}
use Rattle.cert_format.specs.declared.words.Word.{Word}
use Rattle.cert_format.specs.Stages.{Wait, low_of, high_of, Known, claim_with, leaf_of, proof_of, cut_of, Told, with_cuts, with_cut, past, Owner, of_leaf, of_cut, may_have, most_of, had_by, rows_word, rows_text, behind_leaf, Stage, behind, begin, line_fault, Behind, BehindLeaf, BehindTree, AtNode, AtCuts, AtFirstCut, Begin, LeafEnd, AtBlocks, AtPriced, BehindRows, AtPairs, AtRow, AtBlock, AtScale, SplitEnd, AtPlace, VariableGap, AtVariable, AtValues, AtCoordinate, Follows}
use Rattle.cert_format.proofs.Productions.{prefixed_under, numbered_under, valued_under, points_end, points_more, points_short, first_pair, no_pairs, first_block, no_blocks, priced_by, priced_all, priced_list}
use Rattle.cert_format.proofs.Claims.{CutParts, cut_split, cut_to, cut_from}
use Rattle.cert_format.proofs.Trees.{Leaves, leaf_to, leaf_from, TreeBy, tree_by, tree_first, tree_over, under_leaf, under_open, under_split, split_to, SplitParts, words_differ}

-- both directions
abbrev pub Alike : Type 0 → Type 0 → Type 0
Alike P Q = (P → Q) × (Q → P)

pub prefixed_alike : (x : Token) (M : List Token → Type 0) (ts : List Token) → Alike (Prefixed x M (x ∷ ts)) (M ts)
prefixed_alike x M ts = (prefixed_under x M ts, λ m. (ts, refl, m))

pub natural_alike : (f : ℕ → Option Kind) (M : ℕ → List Token → Type 0) (z : ℤ) (ts : List Token) → z ≡ pos (nat_abs z) → Alike (Numbered f M (Figure z (f (nat_abs z)) ∷ ts)) (M (nat_abs z) ts)
natural_alike f M z ts is =
    let P : ℤ → Type 0 = λ y. Alike (Numbered f M (Figure y (f (nat_abs z)) ∷ ts)) (M (nat_abs z) ts) in
    subst P (sym is) (numbered_under f M (nat_abs z) ts, λ m. (nat_abs z, ts, refl, m))

pub valued_alike : (f : ℤ → Option Kind) (M : ℤ → List Token → Type 0) (z : ℤ) (ts : List Token) → Alike (Valued f M (Figure z (f z) ∷ ts)) (M z ts)
valued_alike f M z ts = (valued_under f M z ts, λ m. (z, ts, refl, m))

-- two tokens that are heads of equal lists
pub same_head : (x y : Token) (u v : List Token) → x ∷ u ≡ y ∷ v → x ≡ y
same_head x y u v same = cc

same_tail : (x y : Token) (u v : List Token) → x ∷ u ≡ y ∷ v → u ≡ v
same_tail x y u v same = cc

pub no_tokens : (y : Token) (v : List Token) → [] ≡ y ∷ v → ⊥
no_tokens y v same = cc

-- a fact for each entry of a list of words and places
abbrev pub ForEach : (Word → Stage → Type 0) → List (Word × Stage) → Type 0
ForEach P [] = Unit {0}
ForEach P (e ∷ es) = P e.0 e.1 × ForEach P es

-- a fact for one of them
abbrev pub ForSomeOf : (Word → Stage → Type 0) → List (Word × Stage) → Type 0
ForSomeOf P [] = ⊥
ForSomeOf P (e ∷ es) = P e.0 e.1 ⊎ ForSomeOf P es

-- a choice by whether a number is 0
pub by_zero : (P : Bool → Type 0) (n : ℕ) → (n ≡ 0 → P true) → ((m : ℕ) → n ≡ suc m → P false) → P (nat_eq n 0)
by_zero P n none some = chosen (nat_eq n 0) refl where
  chosen : (t : Bool) → nat_eq n 0 ≡ t → P t
  chosen true is = let e : n ≡ 0 = grind (arith, nat_tests) in none e
  chosen false is = positive n (grind (arith, nat_tests)) some where
    positive : (k : ℕ) → (k ≡ 0 → ⊥) → ((m : ℕ) → k ≡ suc m → P false) → P false
    positive zero other some = absurd (other refl)
    positive (suc k) other some = some k refl

module _ (frame : Frame) (c : Cert) where
  -- what a word in front leads to
  abbrev pub Leads : Stage → Word → Stage → Type 0
  Leads stage word next = (ts : List Token) → Alike (Follows frame c stage (word_token (line_fault frame stage) word ∷ ts)) (Follows frame c next ts)

  -- behind a whole tree
  behind_follows : (a : Told) (ws : List Wait) (t : Tree) (ts : List Token) → Alike (Behind frame c a ws t ts) (Follows frame c (behind a ws t) ts)
  behind_follows a [] t ts = (λ m. m, λ m. m)
  behind_follows a (low_of i z ∷ ws) t ts = (λ m. m, λ m. m)
  behind_follows a (high_of i z low ∷ ws) t ts = behind_follows a ws (Split i z low t) ts

  pub leaf_end_alike : (a : Told) (ws : List Wait) (o : Bool) (p : Proof) (ts : List Token) → Alike (LeafEnd frame c a ws o p (LineEnd None ∷ ts)) (Follows frame c (behind_leaf a ws o p) ts)
  leaf_end_alike a ws o p ts =
      let e = prefixed_alike (LineEnd None) (BehindLeaf frame c a ws o p) ts in
      let b = behind_follows (past a p) ws (leaf_of o (meant_proof a.had p)) ts in
      (λ m. b.0 (e.0 m), λ m. e.1 (b.1 m))

  -- the parts of a leaf's line behind its first word
  scale_alike : (a : Told) (ws : List Wait) (o : Bool) (ts : List Token) → Alike (Leaves frame a.version (length a.cuts) (length ws) a.had (BehindLeaf frame c a ws o) ts) (AtScale frame c a ws (of_leaf o) ts)
  scale_alike a ws o ts = (leaf_from frame a.version (length a.cuts) (length ws) a.had (BehindLeaf frame c a ws o) ts, leaf_to frame a.version (length a.cuts) (length ws) a.had (BehindLeaf frame c a ws o) ts)

prefixed_map : (x : Token) (M N : List Token → Type 0) → ((ts : List Token) → M ts → N ts) → (ts : List Token) → Prefixed x M ts → Prefixed x N ts
prefixed_map x M N f ts m = (m.0, m.1, f m.0 m.2)

numbered_map : (g : ℕ → Option Kind) (M N : ℕ → List Token → Type 0) → ((n : ℕ) (ts : List Token) → M n ts → N n ts) → (ts : List Token) → Numbered g M ts → Numbered g N ts
numbered_map g M N f ts m = (m.0, m.1, m.2, f m.0 m.1 m.3)

valued_map : (g : ℤ → Option Kind) (M N : ℤ → List Token → Type 0) → ((z : ℤ) (ts : List Token) → M z ts → N z ts) → (ts : List Token) → Valued g M ts → Valued g N ts
valued_map g M N f ts m = (m.0, m.1, m.2, f m.0 m.1 m.3)

pairs_map : (named : ℕ → Bool) (limit : ℕ) (had : List (ℕ × ℤ)) (last n : ℕ) (G H : List (ℕ × ℤ) → List Token → Type 0) → ((ps : List (ℕ × ℤ)) (us : List Token) → G ps us → H ps us) → (ts : List Token) → Pairs named limit had last n G ts → Pairs named limit had last n H ts
pairs_map named limit had last n G H f ts m = (m.0, m.1, m.2, f m.0 m.1 m.3, m.4)

blocks_map : (frame : Frame) (last n : ℕ) (G H : List ℕ → List Token → Type 0) → ((ks : List ℕ) (us : List Token) → G ks us → H ks us) → (ts : List Token) → Blocks frame last n G ts → Blocks frame last n H ts
blocks_map frame last n G H f ts m = (m.0, m.1, m.2, f m.0 m.1 m.3, m.4)

trees_map : (frame : Frame) (v : Version) (cuts depth : ℕ) (had : List (ℕ × ℤ)) (G H : Tree → List Token → Type 0) → ((t : Tree) (us : List Token) → G t us → H t us) → (ts : List Token) → Trees frame v cuts depth had G ts → Trees frame v cuts depth had H ts
trees_map frame v cuts depth had G H f ts m = (m.0, m.1, f m.0 m.1 m.2, m.3)

points_map : (frame : Frame) (number : ℕ) (G H : List ℤ → List Token → Type 0) → ((zs : List ℤ) (us : List Token) → G zs us → H zs us) → (ts : List Token) → Points frame number G ts → Points frame number H ts
points_map frame number G H f ts m = (m.0, m.1, f m.0 m.1 m.2, m.3)

-- the word before a leaf's multipliers
change_token : (f : Option Kind) (v : Version) → Words (pairs_word v) ≡ word_token f (change_word v)
change_token f One = refl
change_token f Two = refl
change_token f Three = refl

-- the word before the rows
pub rows_token : (f : Option Kind) (a : Told) (o : Owner) → Words (rows_text a o) ≡ word_token f (rows_word a o)
rows_token f a (of_leaf o) = change_token f a.version
rows_token f a of_cut = refl

cuts_map : (frame : Frame) (earlier : ℕ) (G H : List Cut → List Token → Type 0) → ((cuts : List Cut) (us : List Token) → G cuts us → H cuts us) → (ts : List Token) → Cuts frame earlier G ts → Cuts frame earlier H ts
cuts_map frame earlier G H f ts m = (m.0, m.1, f m.0 m.1 m.2, m.3)

module _ (frame : Frame) (c : Cert) where
  -- a tree behind a low part
  abbrev HighTree : Told → List Wait → ℕ → ℤ → Tree → List Token → Type 0
  HighTree a ws i z low = Trees frame a.version (length a.cuts) (length ws + 1) (kept_behind a.version a.had low) (λ high. BehindTree frame c a ws (Split i z low high))

  -- the same in two spellings
  high_to : (a : Told) (ws : List Wait) (i : ℕ) (z : ℤ) (low : Tree) (us : List Token) → HighTree a ws i z low us → BehindTree frame c a (low_of i z ∷ ws) low us
  high_to a ws i z low us m =
      let deep : length ws + 1 ≡ length (low_of i z ∷ ws) = omega arith in
      let P : ℕ → Type 0 = λ d. Trees frame a.version (length a.cuts) d (kept_behind a.version a.had low) (λ high. BehindTree frame c a ws (Split i z low high)) us in
      subst P deep m

  high_from : (a : Told) (ws : List Wait) (i : ℕ) (z : ℤ) (low : Tree) (us : List Token) → BehindTree frame c a (low_of i z ∷ ws) low us → HighTree a ws i z low us
  high_from a ws i z low us m =
      let deep : length ws + 1 ≡ length (low_of i z ∷ ws) = omega arith in
      let P : ℕ → Type 0 = λ d. Trees frame a.version (length a.cuts) d (kept_behind a.version a.had low) (λ high. BehindTree frame c a ws (Split i z low high)) us in
      subst P (sym deep) m

  abbrev LowTree : Told → List Wait → ℕ → ℤ → List Token → Type 0
  LowTree a ws i z = Trees frame a.version (length a.cuts) (length ws + 1) a.had (HighTree a ws i z)

  low_to : (a : Told) (ws : List Wait) (i : ℕ) (z : ℤ) (ts : List Token) → LowTree a ws i z ts → AtNode frame c a (low_of i z ∷ ws) ts
  low_to a ws i z ts m =
      let deep : length ws + 1 ≡ length (low_of i z ∷ ws) = omega arith in
      let P : ℕ → Type 0 = λ d. Trees frame a.version (length a.cuts) d a.had (BehindTree frame c a (low_of i z ∷ ws)) ts in
      subst P deep (trees_map frame a.version (length a.cuts) (length ws + 1) a.had (HighTree a ws i z) (BehindTree frame c a (low_of i z ∷ ws)) (high_to a ws i z) ts m)

  low_from : (a : Told) (ws : List Wait) (i : ℕ) (z : ℤ) (ts : List Token) → AtNode frame c a (low_of i z ∷ ws) ts → LowTree a ws i z ts
  low_from a ws i z ts m =
      let deep : length ws + 1 ≡ length (low_of i z ∷ ws) = omega arith in
      let P : ℕ → Type 0 = λ d. Trees frame a.version (length a.cuts) d a.had (BehindTree frame c a (low_of i z ∷ ws)) ts in
      trees_map frame a.version (length a.cuts) (length ws + 1) a.had (BehindTree frame c a (low_of i z ∷ ws)) (HighTree a ws i z) (high_from a ws i z) ts (subst P (sym deep) m)

  -- a split's line behind its first word
  abbrev AfterPlace : Told → List Wait → ℕ → ℤ → List Token → Type 0
  AfterPlace a ws i z = Prefixed (LineEnd None) (LowTree a ws i z)

  place_to : (a : Told) (ws : List Wait) (i : ℕ) (z : ℤ) (ts : List Token) → AfterPlace a ws i z ts → SplitEnd frame c a ws i z ts
  place_to a ws i z ts m = prefixed_map (LineEnd None) (LowTree a ws i z) (AtNode frame c a (low_of i z ∷ ws)) (low_to a ws i z) ts m

  place_from : (a : Told) (ws : List Wait) (i : ℕ) (z : ℤ) (ts : List Token) → SplitEnd frame c a ws i z ts → AfterPlace a ws i z ts
  place_from a ws i z ts m = prefixed_map (LineEnd None) (AtNode frame c a (low_of i z ∷ ws)) (LowTree a ws i z) (low_from a ws i z) ts m

  variable_to : (a : Told) (ws : List Wait) (i : ℕ) (ts : List Token) → Prefixed (Words (codes " ")) (Valued value_fault (AfterPlace a ws i)) ts → VariableGap frame c a ws i ts
  variable_to a ws i ts m = prefixed_map (Words (codes " ")) (Valued value_fault (AfterPlace a ws i)) (AtPlace frame c a ws i) (valued_map value_fault (AfterPlace a ws i) (SplitEnd frame c a ws i) (place_to a ws i)) ts m

  variable_from : (a : Told) (ws : List Wait) (i : ℕ) (ts : List Token) → VariableGap frame c a ws i ts → Prefixed (Words (codes " ")) (Valued value_fault (AfterPlace a ws i)) ts
  variable_from a ws i ts m = prefixed_map (Words (codes " ")) (AtPlace frame c a ws i) (Valued value_fault (AfterPlace a ws i)) (valued_map value_fault (SplitEnd frame c a ws i) (AfterPlace a ws i) (place_from a ws i)) ts m

  split_alike : (a : Told) (ws : List Wait) (ts : List Token) → Alike (SplitParts frame a.version (length a.cuts) (length ws) a.had (BehindTree frame c a ws) ts) (AtVariable frame c a ws ts)
  split_alike a ws ts = (
    λ m. numbered_map (variable_fault frame (length ws)) (λ i. Prefixed (Words (codes " ")) (Valued value_fault (AfterPlace a ws i))) (VariableGap frame c a ws) (variable_to a ws) ts m,
    λ m. numbered_map (variable_fault frame (length ws)) (VariableGap frame c a ws) (λ i. Prefixed (Words (codes " ")) (Valued value_fault (AfterPlace a ws i))) (variable_from a ws) ts m,
  )

  -- what a tree begins with
  pub node_by : (a : Told) (ws : List Wait) (ts : List Token) → AtNode frame c a ws ts → TreeBy frame a.version (length a.cuts) (length ws) a.had (BehindTree frame c a ws) ts
  node_by a ws ts m = tree_by frame a.version (length a.cuts) (length ws) a.had (BehindTree frame c a ws) m.0 m.1 ts m.2 m.3

  pub node_leaf : (a : Told) (ws : List Wait) (ts : List Token) → Alike (AtNode frame c a ws (Words (codes "leaf ") ∷ ts)) (AtScale frame c a ws (of_leaf false) ts)
  node_leaf a ws ts =
      let s = scale_alike frame c a ws false ts in (
        λ m. s.0 (under_leaf frame a.version (length a.cuts) (length ws) a.had (BehindTree frame c a ws) ts (node_by a ws (Words (codes "leaf ") ∷ ts) m)),
        λ m. let l = s.1 m in (Shut l.0, l.1, l.2, ap (λ (xs : List Token). Words (codes "leaf ") ∷ xs) l.3),
      )

  pub node_open : (a : Told) (ws : List Wait) (ts : List Token) → Alike (AtNode frame c a ws (Words (codes "open ") ∷ ts)) (AtScale frame c a ws (of_leaf true) ts)
  node_open a ws ts =
      let s = scale_alike frame c a ws true ts in (
        λ m. s.0 (under_open frame a.version (length a.cuts) (length ws) a.had (BehindTree frame c a ws) ts (node_by a ws (Words (codes "open ") ∷ ts) m)),
        λ m. let l = s.1 m in (Open l.0, l.1, l.2, ap (λ (xs : List Token). Words (codes "open ") ∷ xs) l.3),
      )

  pub node_split : (a : Told) (ws : List Wait) (ts : List Token) → Alike (AtNode frame c a ws (Words (codes "split ") ∷ ts)) (AtVariable frame c a ws ts)
  node_split a ws ts =
      let s = split_alike a ws ts in (
        λ m. s.0 (under_split frame a.version (length a.cuts) (length ws) a.had (BehindTree frame c a ws) ts (node_by a ws (Words (codes "split ") ∷ ts) m)),
        λ m. split_to frame a.version (length a.cuts) (length ws) a.had (BehindTree frame c a ws) ts (s.1 m),
      )

  -- the values of a point
  abbrev ValuesG : Version → Known → List ℤ → List ℤ → List Token → Type 0
  ValuesG v k zs ys = Begin frame c v (claim_with k (zs ++ ys)) []

  pub values_end : (v : Version) (k : Known) (zs : List ℤ) (ts : List Token) → Alike (AtValues frame c v k zs (LineEnd (end_fault frame (length zs + 1)) ∷ ts)) (Begin frame c v (claim_with k zs) [] ts)
  values_end v k zs ts =
      let P : List ℤ → Type 0 = λ ys. Begin frame c v (claim_with k ys) [] ts in (
        λ m. subst P (append-nil zs) (points_end frame (length zs + 1) (ValuesG v k zs) m.0 m.1 ts m.2 m.3),
        λ m. ([], ts, subst P (sym (append-nil zs)) m, refl),
      )

  more_to : (v : Version) (k : Known) (zs : List ℤ) (z : ℤ) (ts : List Token) → Points frame (length zs + 1 + 1) (λ ys. ValuesG v k zs (z ∷ ys)) ts → AtValues frame c v k (zs ++ z ∷ []) ts
  more_to v k zs z ts m =
      let long : length zs + 1 + 1 ≡ length (zs ++ z ∷ []) + 1 = omega (arith, length-append zs (z ∷ [])) in
      let P : ℕ → Type 0 = λ n. Points frame n (ValuesG v k (zs ++ z ∷ [])) ts in
      subst P long (points_map frame (length zs + 1 + 1) (λ ys. ValuesG v k zs (z ∷ ys)) (ValuesG v k (zs ++ z ∷ []))
      (λ ys us g. let Q : List ℤ → Type 0 = λ xs. Begin frame c v (claim_with k xs) [] us in subst Q (sym (append_assoc zs (z ∷ []) ys)) g) ts m)

  more_from : (v : Version) (k : Known) (zs : List ℤ) (z : ℤ) (ts : List Token) → AtValues frame c v k (zs ++ z ∷ []) ts → Points frame (length zs + 1 + 1) (λ ys. ValuesG v k zs (z ∷ ys)) ts
  more_from v k zs z ts m =
      let long : length zs + 1 + 1 ≡ length (zs ++ z ∷ []) + 1 = omega (arith, length-append zs (z ∷ [])) in
      let P : ℕ → Type 0 = λ n. Points frame n (ValuesG v k (zs ++ z ∷ [])) ts in
      points_map frame (length zs + 1 + 1) (ValuesG v k (zs ++ z ∷ [])) (λ ys. ValuesG v k zs (z ∷ ys))
      (λ ys us g. let Q : List ℤ → Type 0 = λ xs. Begin frame c v (claim_with k xs) [] us in subst Q (append_assoc zs (z ∷ []) ys) g) ts (subst P (sym long) m)

  pub values_more : (v : Version) (k : Known) (zs : List ℤ) (ts : List Token) → Alike (AtValues frame c v k zs (Words (codes " ") ∷ ts)) (AtCoordinate frame c v k zs ts)
  values_more v k zs ts = (λ m. forward ts m, λ m. back m) where
    forward : (ts : List Token) → AtValues frame c v k zs (Words (codes " ") ∷ ts) → AtCoordinate frame c v k zs ts
    forward [] m = absurd (points_short frame (length zs + 1) (ValuesG v k zs) m.0 m.1 m.3)
    forward (y ∷ ys) m =
        let i = points_more frame (length zs + 1) (ValuesG v k zs) m.0 m.1 y ys m.2 m.3 in
        (i.0, ys, ap (λ (x : Token). x ∷ ys) i.1, more_to v k zs i.0 ys i.2)

    back : AtCoordinate frame c v k zs ts → AtValues frame c v k zs (Words (codes " ") ∷ ts)
    back m = let i = more_from v k zs m.0 m.1 m.3 in (m.0 ∷ i.0, i.1, i.2, ap (λ (xs : List Token). Words (codes " ") ∷ xs) (m.2 ∙ ap (λ (xs : List Token). Figure m.0 (coordinate_fault frame (length zs + 1) m.0) ∷ xs) i.3))

  -- the rows of a line
  abbrev pub PairsG : Told → List Wait → Owner → ℕ → List (ℕ × ℤ) → List (ℕ × ℤ) → List Token → Type 0
  PairsG a ws o s ps qs = BehindRows frame c a ws o s (ps ++ qs)

  pub pairs_end : (a : Told) (ws : List Wait) (o : Owner) (s : ℕ) (ps : List (ℕ × ℤ)) (last : ℕ) (ts : List Token) → Alike (AtPairs frame c a ws o s ps last 0 ts) (BehindRows frame c a ws o s ps ts)
  pairs_end a ws o s ps last ts =
      let P : List (ℕ × ℤ) → Type 0 = λ qs. BehindRows frame c a ws o s qs ts in (
        λ m. subst P (append-nil ps) (no_pairs (may_have frame a o) (most_of o) (had_by a o) last (PairsG a ws o s ps) m.0 m.1 ts m.2 m.3 m.4),
        λ m. ([], ts, refl, subst P (sym (append-nil ps)) m, refl),
      )

  pair_to : (a : Told) (ws : List Wait) (o : Owner) (s : ℕ) (ps : List (ℕ × ℤ)) (r : ℕ) (z : ℤ) (n m : ℕ) → n ≡ suc m → (ts : List Token) → Pairs (may_have frame a o) (most_of o) (had_by a o) r m (λ qs. PairsG a ws o s ps ((r, z) ∷ qs)) ts → AtPairs frame c a ws o s (ps ++ (r, z) ∷ []) r (n - 1) ts
  pair_to a ws o s ps r z n m is ts x =
      let less : m ≡ n - 1 = omega arith in
      let P : ℕ → Type 0 = λ k. AtPairs frame c a ws o s (ps ++ (r, z) ∷ []) r k ts in
      subst P less (pairs_map (may_have frame a o) (most_of o) (had_by a o) r m (λ qs. PairsG a ws o s ps ((r, z) ∷ qs)) (PairsG a ws o s (ps ++ (r, z) ∷ []))
      (λ qs us g. let Q : List (ℕ × ℤ) → Type 0 = λ xs. BehindRows frame c a ws o s xs us in subst Q (sym (append_assoc ps ((r, z) ∷ []) qs)) g) ts x)

  pair_from : (a : Told) (ws : List Wait) (o : Owner) (s : ℕ) (ps : List (ℕ × ℤ)) (r : ℕ) (z : ℤ) (n m : ℕ) → n ≡ suc m → (ts : List Token) → AtPairs frame c a ws o s (ps ++ (r, z) ∷ []) r (n - 1) ts → Pairs (may_have frame a o) (most_of o) (had_by a o) r m (λ qs. PairsG a ws o s ps ((r, z) ∷ qs)) ts
  pair_from a ws o s ps r z n m is ts x =
      let less : m ≡ n - 1 = omega arith in
      let P : ℕ → Type 0 = λ k. AtPairs frame c a ws o s (ps ++ (r, z) ∷ []) r k ts in
      pairs_map (may_have frame a o) (most_of o) (had_by a o) r m (PairsG a ws o s (ps ++ (r, z) ∷ [])) (λ qs. PairsG a ws o s ps ((r, z) ∷ qs))
      (λ qs us g. let Q : List (ℕ × ℤ) → Type 0 = λ xs. BehindRows frame c a ws o s xs us in subst Q (append_assoc ps ((r, z) ∷ []) qs) g) ts (subst P (sym less) x)

  pub pairs_more : (a : Told) (ws : List Wait) (o : Owner) (s : ℕ) (ps : List (ℕ × ℤ)) (last n m : ℕ) → n ≡ suc m → (ts : List Token) → Alike (AtPairs frame c a ws o s ps last n (Words (codes " ") ∷ ts)) (AtRow frame c a ws o s ps last n ts)
  pairs_more a ws o s ps last n m is ts = (λ x. forward x, λ x. back x) where
    forward : AtPairs frame c a ws o s ps last n (Words (codes " ") ∷ ts) → AtRow frame c a ws o s ps last n ts
    forward x =
        let i = first_pair (may_have frame a o) (most_of o) (had_by a o) last m (PairsG a ws o s ps) x.0 x.1 (Words (codes " ") ∷ ts) (x.2 ∙ is) x.3 x.4 in
        let tails : ts ≡ Figure (pos i.row) (row_fault (may_have frame a o) last i.row) ∷ Words (codes " ") ∷ Figure i.by (multiplier_fault (most_of o) (had_by a o) i.row i.by) ∷ i.tail = same_tail _ _ _ _ i.is in
        (i.row, _, tails, (_, refl, (i.by, i.tail, refl, pair_to a ws o s ps i.row i.by n m is i.tail i.rest)))

    back : AtRow frame c a ws o s ps last n ts → AtPairs frame c a ws o s ps last n (Words (codes " ") ∷ ts)
    back x =
        let g = x.3 in
        let v = g.2 in
        let i = pair_from a ws o s ps x.0 v.0 n m is v.1 v.3 in
        let long : length ((x.0, v.0) ∷ i.0) ≡ n = longer (x.0, v.0) i.0 i.2 in
        let e : ts ≡ Figure (pos x.0) (row_fault (may_have frame a o) last x.0) ∷ x.1 = x.2 in
        let f : x.1 ≡ Words (codes " ") ∷ g.0 = g.1 in
        let h : g.0 ≡ Figure v.0 (multiplier_fault (most_of o) (had_by a o) x.0 v.0) ∷ v.1 = v.2 in (
          (x.0, v.0) ∷ i.0,
          i.1,
          long,
          i.3,
          ap (λ (xs : List Token). Words (codes " ") ∷ xs) (e ∙ ap (λ (xs : List Token). Figure (pos x.0) (row_fault (may_have frame a o) last x.0) ∷ xs) (f ∙ ap (λ (xs : List Token). Words (codes " ") ∷ xs) (h ∙ ap (λ (xs : List Token). Figure v.0 (multiplier_fault (most_of o) (had_by a o) x.0 v.0) ∷ xs) i.4))),
        ) where
          longer : (p : ℕ × ℤ) (ps : List (ℕ × ℤ)) → length ps ≡ m → length (p ∷ ps) ≡ n
          longer p ps e = omega arith

  -- the priced blocks
  abbrev pub BlocksG : Told → List Wait → Bool → ℕ → List (ℕ × ℤ) → List ℕ → List ℕ → List Token → Type 0
  BlocksG a ws o s ps ks ls = LeafEnd frame c a ws o (proof_of s ps (These (ks ++ ls)))

  pub blocks_end : (a : Told) (ws : List Wait) (o : Bool) (s : ℕ) (ps : List (ℕ × ℤ)) (ks : List ℕ) (last : ℕ) (ts : List Token) → Alike (AtBlocks frame c a ws o s ps ks last 0 (LineEnd None ∷ ts)) (Follows frame c (behind_leaf a ws o (proof_of s ps (These ks))) ts)
  blocks_end a ws o s ps ks last ts =
      let P : List ℕ → Type 0 = λ ls. LeafEnd frame c a ws o (proof_of s ps (These ls)) (LineEnd None ∷ ts) in
      let e = leaf_end_alike frame c a ws o (proof_of s ps (These ks)) ts in (
        λ m. e.0 (subst P (append-nil ks) (no_blocks frame last (BlocksG a ws o s ps ks) m.0 m.1 (LineEnd None ∷ ts) m.2 m.3 m.4)),
        λ m. ([], LineEnd None ∷ ts, refl, subst P (sym (append-nil ks)) (e.1 m), refl),
      )

  block_to : (a : Told) (ws : List Wait) (o : Bool) (s : ℕ) (ps : List (ℕ × ℤ)) (ks : List ℕ) (k n m : ℕ) → n ≡ suc m → (ts : List Token) → Blocks frame k m (λ ls. BlocksG a ws o s ps ks (k ∷ ls)) ts → AtBlocks frame c a ws o s ps (ks ++ k ∷ []) k (n - 1) ts
  block_to a ws o s ps ks k n m is ts x =
      let less : m ≡ n - 1 = omega arith in
      let P : ℕ → Type 0 = λ j. AtBlocks frame c a ws o s ps (ks ++ k ∷ []) k j ts in
      subst P less (blocks_map frame k m (λ ls. BlocksG a ws o s ps ks (k ∷ ls)) (BlocksG a ws o s ps (ks ++ k ∷ []))
      (λ ls us g. let Q : List ℕ → Type 0 = λ xs. LeafEnd frame c a ws o (proof_of s ps (These xs)) us in subst Q (sym (append_assoc ks (k ∷ []) ls)) g) ts x)

  block_from : (a : Told) (ws : List Wait) (o : Bool) (s : ℕ) (ps : List (ℕ × ℤ)) (ks : List ℕ) (k n m : ℕ) → n ≡ suc m → (ts : List Token) → AtBlocks frame c a ws o s ps (ks ++ k ∷ []) k (n - 1) ts → Blocks frame k m (λ ls. BlocksG a ws o s ps ks (k ∷ ls)) ts
  block_from a ws o s ps ks k n m is ts x =
      let less : m ≡ n - 1 = omega arith in
      let P : ℕ → Type 0 = λ j. AtBlocks frame c a ws o s ps (ks ++ k ∷ []) k j ts in
      blocks_map frame k m (BlocksG a ws o s ps (ks ++ k ∷ [])) (λ ls. BlocksG a ws o s ps ks (k ∷ ls))
      (λ ls us g. let Q : List ℕ → Type 0 = λ xs. LeafEnd frame c a ws o (proof_of s ps (These xs)) us in subst Q (append_assoc ks (k ∷ []) ls) g) ts (subst P (sym less) x)

  pub blocks_more : (a : Told) (ws : List Wait) (o : Bool) (s : ℕ) (ps : List (ℕ × ℤ)) (ks : List ℕ) (last n m : ℕ) → n ≡ suc m → (ts : List Token) → Alike (AtBlocks frame c a ws o s ps ks last n (Words (codes " ") ∷ ts)) (AtBlock frame c a ws o s ps ks last n ts)
  blocks_more a ws o s ps ks last n m is ts = (λ x. forward x, λ x. back x) where
    forward : AtBlocks frame c a ws o s ps ks last n (Words (codes " ") ∷ ts) → AtBlock frame c a ws o s ps ks last n ts
    forward x =
        let i = first_block frame last m (BlocksG a ws o s ps ks) x.0 x.1 (Words (codes " ") ∷ ts) (x.2 ∙ is) x.3 x.4 in
        let tails : ts ≡ Figure (pos i.block) (block_fault frame last i.block) ∷ i.tail = same_tail _ _ _ _ i.is in
        (i.block, i.tail, tails, block_to a ws o s ps ks i.block n m is i.tail i.rest)

    back : AtBlock frame c a ws o s ps ks last n ts → AtBlocks frame c a ws o s ps ks last n (Words (codes " ") ∷ ts)
    back x =
        let i = block_from a ws o s ps ks x.0 n m is x.1 x.3 in
        let long : length (x.0 ∷ i.0) ≡ n = longer x.0 i.0 i.2 in
        let e : ts ≡ Figure (pos x.0) (block_fault frame last x.0) ∷ x.1 = x.2 in
        (x.0 ∷ i.0, i.1, long, i.3, ap (λ (xs : List Token). Words (codes " ") ∷ xs) (e ∙ ap (λ (xs : List Token). Figure (pos x.0) (block_fault frame last x.0) ∷ xs) i.4)) where
          longer : (k : ℕ) (ks : List ℕ) → length ks ≡ m → length (k ∷ ks) ≡ n
          longer k ks e = omega arith

  -- which way the priced blocks are written
  abbrev pub PricedG : Told → List Wait → Bool → ℕ → List (ℕ × ℤ) → Picked → List Token → Type 0
  PricedG a ws o s ps q = LeafEnd frame c a ws o (proof_of s ps q)

  pub priced_every : (a : Told) (ws : List Wait) (o : Bool) (s : ℕ) (ps : List (ℕ × ℤ)) (ts : List Token) → Alike (AtPriced frame c a ws o s ps (Words (codes "all") ∷ ts)) (LeafEnd frame c a ws o (proof_of s ps Every) ts)
  priced_every a ws o s ps ts = (
    λ m. priced_all frame (PricedG a ws o s ps) ts (priced_by frame (PricedG a ws o s ps) m.0 m.1 (Words (codes "all") ∷ ts) m.2 m.3),
    λ m. (Every, ts, m, refl),
  )

  pub priced_these : (a : Told) (ws : List Wait) (o : Bool) (s : ℕ) (ps : List (ℕ × ℤ)) (n : ℕ) (ts : List Token) → Alike (AtPriced frame c a ws o s ps (count n ∷ ts)) (AtBlocks frame c a ws o s ps [] 0 n ts)
  priced_these a ws o s ps n ts = (
    λ m. priced_list frame (PricedG a ws o s ps) n ts (priced_by frame (PricedG a ws o s ps) m.0 m.1 (count n ∷ ts) m.2 m.3),
    λ m. let P : ℕ → Type 0 = λ k. count n ∷ ts ≡ count k ∷ ts in
        (These m.0, m.1, m.3, subst P (sym m.2) refl ∙ ap (λ (xs : List Token). count (length m.0) ∷ xs) m.4),
  )

  -- the place behind a claim
  pub begin_alike : (v : Version) (claim : Claim) (ws : List Wait) (ts : List Token) → Alike (Begin frame c v claim ws ts) (Follows frame c (begin v claim ws) ts)
  begin_alike One claim ws ts = (λ m. m, λ m. m)
  begin_alike Two claim ws ts = (λ m. m, λ m. m)
  begin_alike Three claim ws ts = (λ m. m, λ m. m)

  -- a tree behind these cuts
  abbrev NodeWith : Told → List Wait → List Token → List Cut → Type 0
  NodeWith a ws us cuts = AtNode frame c (record { version = a.version; claim = a.claim; cuts = cuts; had = a.had }) ws us

  -- cuts in front of a tree
  abbrev CutsG : Told → List Wait → List Cut → List Token → Type 0
  CutsG a ws cuts = AtNode frame c (with_cuts a cuts) ws

  -- no tree begins as a cut does
  no_cut : (a : Told) (ws : List Wait) (us : List Token) → AtNode frame c a ws (Words (codes "cut ") ∷ us) → ⊥
  no_cut a ws us m = ⊎_elim
      (λ e. words_differ 99 108 (codes "ut ") (codes "eaf ") [] [] (λ e. omega arith) (ap (λ (w : Token). w ∷ []) e))
      (λ n. ⊎_elim (λ e. words_differ 99 111 (codes "ut ") (codes "pen ") [] [] (λ e. omega arith) (ap (λ (w : Token). w ∷ []) e))
      (λ e. words_differ 99 115 (codes "ut ") (codes "plit ") [] [] (λ e. omega arith) (ap (λ (w : Token). w ∷ []) e)) n)
      (tree_first frame a.version (length a.cuts) (length ws) a.had (BehindTree frame c a ws) (Words (codes "cut ")) us (node_by a ws (Words (codes "cut ") ∷ us) m))

  -- the place behind a cut
  cut_behind : (a : Told) (ws : List Wait) (d : ℕ) (ps : List (ℕ × ℤ)) (ts : List Token) → Alike (Cuts frame (length a.cuts + 1) (λ cuts. CutsG a ws (cut_of d ps ∷ cuts)) ts) (AtCuts frame c (with_cut a d ps) ws ts)
  cut_behind a ws d ps ts =
      let long : length a.cuts + 1 ≡ length (a.cuts ++ cut_of d ps ∷ []) = omega (arith, length-append a.cuts (cut_of d ps ∷ [])) in
      let P : ℕ → Type 0 = λ n. Cuts frame n (CutsG (with_cut a d ps) ws) ts in
      let R : List Token → List Cut → Type 0 = NodeWith a ws in (
        λ m. subst P long (cuts_map frame (length a.cuts + 1) (λ cuts. CutsG a ws (cut_of d ps ∷ cuts)) (CutsG (with_cut a d ps) ws) (λ cuts us g. subst (R us) (sym (append_assoc a.cuts (cut_of d ps ∷ []) cuts)) g) ts m),
        λ m. cuts_map frame (length a.cuts + 1) (CutsG (with_cut a d ps) ws) (λ cuts. CutsG a ws (cut_of d ps ∷ cuts)) (λ cuts us g. subst (R us) (append_assoc a.cuts (cut_of d ps ∷ []) cuts) g) ts (subst P (sym long) m),
      )

  -- the parts of a cut's line in front of what may follow
  abbrev LineParts : ℕ → (ℕ → List (ℕ × ℤ) → List Token → Type 0) → List Token → Type 0
  LineParts earlier M =
      Numbered (divisor_fault earlier) (λ d. Prefixed (Words (codes " rows ")) (Numbered (λ _. None) (λ n. Pairs (may_combine frame earlier) (2 ^ 20) [] 0 n (λ ps. Prefixed (LineEnd None) (M d ps)))))

  -- a cut's line behind its first word
  cut_alike : (a : Told) (ws : List Wait) (ts : List Token) → Alike (CutParts frame (length a.cuts) (CutsG a ws) ts) (AtScale frame c a ws of_cut ts)
  cut_alike a ws ts = (
    λ m. parts_map (λ d ps. Cuts frame (length a.cuts + 1) (λ cuts. CutsG a ws (cut_of d ps ∷ cuts))) (λ d ps. AtCuts frame c (with_cut a d ps) ws) (λ d ps us. (cut_behind a ws d ps us).0) m,
    λ m. parts_map (λ d ps. AtCuts frame c (with_cut a d ps) ws) (λ d ps. Cuts frame (length a.cuts + 1) (λ cuts. CutsG a ws (cut_of d ps ∷ cuts))) (λ d ps us. (cut_behind a ws d ps us).1) m,
  ) where
    parts_map : (M N : ℕ → List (ℕ × ℤ) → List Token → Type 0) → ((d : ℕ) (ps : List (ℕ × ℤ)) (us : List Token) → M d ps us → N d ps us) → LineParts (length a.cuts) M ts → LineParts (length a.cuts) N ts
    parts_map M N f m = (m.0, m.1, m.2, let r = m.3 in (r.0, r.1, let n = r.2 in (n.0, n.1, n.2, let p = n.3 in (p.0, p.1, p.2, (let l = p.3 in (l.0, l.1, f m.0 p.0 l.0 l.2)), p.4))))

  -- a further cut
  pub cuts_cut : (a : Told) (ws : List Wait) (ts : List Token) → Alike (AtCuts frame c a ws (Words (codes "cut ") ∷ ts)) (AtScale frame c a ws of_cut ts)
  cuts_cut a ws ts = (
    λ m. (cut_alike a ws ts).0 (cut_from frame (length a.cuts) (CutsG a ws) (λ cuts us g. no_cut (with_cuts a cuts) ws us g) m.0 m.1 ts m.2 m.3),
    λ m. cut_to frame (length a.cuts) (CutsG a ws) ts ((cut_alike a ws ts).1 m),
  )

  -- the first cut
  pub first_cut : (a : Told) (ws : List Wait) (ts : List Token) → Alike (AtFirstCut frame c a ws (Words (codes "cut ") ∷ ts)) (AtScale frame c a ws of_cut ts)
  first_cut a ws ts = (
    λ m. (cuts_cut a ws ts).0 (m.0, m.1, m.2.1, m.3),
    λ m. let k = (cuts_cut a ws ts).1 m in at_least k.0 k.1 k.2 k.3,
  ) where
    at_least : (cuts : List Cut) (us : List Token) → CutsG a ws cuts us → Words (codes "cut ") ∷ ts ≡ cut_lines frame (length a.cuts) cuts ++ us → AtFirstCut frame c a ws (Words (codes "cut ") ∷ ts)
    at_least [] us g is = absurd (no_cut (with_cuts a []) ws ts (let P : List Token → Type 0 = CutsG a ws [] in subst P (sym is) g))
    at_least (cut ∷ cuts) us g is = (cut ∷ cuts, us, (omega arith, g), is)

  -- another word than a cut's begins the tree
  pub cuts_node : (a : Told) (ws : List Wait) (y : Token) (ts : List Token) → (y ≡ Words (codes "cut ") → ⊥) → Alike (AtCuts frame c a ws (y ∷ ts)) (AtNode frame c a ws (y ∷ ts))
  cuts_node a ws y ts other = (λ m. forward m.0 m.1 m.2 m.3, λ m. ([], y ∷ ts, subst (NodeWith a ws (y ∷ ts)) (sym (append-nil a.cuts)) m, refl)) where
    forward : (cuts : List Cut) (us : List Token) → CutsG a ws cuts us → y ∷ ts ≡ cut_lines frame (length a.cuts) cuts ++ us → AtNode frame c a ws (y ∷ ts)
    forward [] us g is = subst (NodeWith a ws (y ∷ ts)) (append-nil a.cuts) (let P : List Token → Type 0 = CutsG a ws [] in subst P (sym is) g)
    forward (cut ∷ cuts) us g is = absurd (other (same_head y (Words (codes "cut ")) ts _ (is ∙ cut_split frame (length a.cuts) (CutsG a ws) cut cuts us)))

  -- what begins cuts
  pub cuts_first : (a : Told) (ws : List Wait) (y : Token) (ys : List Token) → AtCuts frame c a ws (y ∷ ys)
      → (y ≡ Words (codes "cut ")) ⊎ ((y ≡ Words (codes "leaf ")) ⊎ ((y ≡ Words (codes "open ")) ⊎ (y ≡ Words (codes "split "))))
  cuts_first a ws y ys m = by m.0 m.1 m.2 m.3 where
    by : (cuts : List Cut) (us : List Token) → CutsG a ws cuts us → y ∷ ys ≡ cut_lines frame (length a.cuts) cuts ++ us
        → (y ≡ Words (codes "cut ")) ⊎ ((y ≡ Words (codes "leaf ")) ⊎ ((y ≡ Words (codes "open ")) ⊎ (y ≡ Words (codes "split "))))
    by [] us g is =
        let P : List Token → Type 0 = CutsG a ws [] in
        inr (tree_first frame a.version (length (with_cuts a []).cuts) (length ws) a.had (BehindTree frame c (with_cuts a []) ws) y ys (node_by (with_cuts a []) ws (y ∷ ys) (subst P (sym is) g)))
    by (cut ∷ cuts) us g is = inl (same_head y (Words (codes "cut ")) ys _ (is ∙ cut_split frame (length a.cuts) (CutsG a ws) cut cuts us))

  pub first_cut_first : (a : Told) (ws : List Wait) (y : Token) (ys : List Token) → AtFirstCut frame c a ws (y ∷ ys) → y ≡ Words (codes "cut ")
  first_cut_first a ws y ys m = by m.0 m.1 m.2 m.3 where
    by : (cuts : List Cut) (us : List Token) → (0 < length cuts) × CutsG a ws cuts us → y ∷ ys ≡ cut_lines frame (length a.cuts) cuts ++ us → y ≡ Words (codes "cut ")
    by [] us g is = absurd (let none : 0 < length {A = Cut} [] = g.0 in omega (arith, none))
    by (cut ∷ cuts) us g is = same_head y (Words (codes "cut ")) ys _ (is ∙ cut_split frame (length a.cuts) (CutsG a ws) cut cuts us)

  pub cuts_over : (a : Told) (ws : List Wait) → AtCuts frame c a ws [] → ⊥
  cuts_over a ws m = by m.0 m.1 m.2 m.3 where
    by : (cuts : List Cut) (us : List Token) → CutsG a ws cuts us → [] ≡ cut_lines frame (length a.cuts) cuts ++ us → ⊥
    by [] us g is =
        let P : List Token → Type 0 = CutsG a ws [] in
        tree_over frame a.version (length (with_cuts a []).cuts) (length ws) a.had (BehindTree frame c (with_cuts a []) ws) (node_by (with_cuts a []) ws [] (subst P (sym is) g))
    by (cut ∷ cuts) us g is = no_tokens (Words (codes "cut ")) _ (is ∙ cut_split frame (length a.cuts) (CutsG a ws) cut cuts us)

  pub first_cut_over : (a : Told) (ws : List Wait) → AtFirstCut frame c a ws [] → ⊥
  first_cut_over a ws m = cuts_over a ws (m.0, m.1, m.2.1, m.3)
