-- Every place of a reader: the tokens that may come there, and what is left behind each.
use Rattle.std.proofs.Common.{◌≡◌, ◌⊎◌, ℕ, zero, suc, ◌+◌, ◌-◌, Bool, List, [], ◌∷◌, ◌++◌, length, codes, ◌<◌, true, false, Option, None, ℤ, pos, nat_abs, refl, sym, ◌∙◌, subst, inl, inr, ⊎_elim, arith, if◌then◌else◌}
use Rattle.cert_format.specs.Cert.{Every, These, Proof, Tree, Shut, Split, Claim, Infeasible, Bound, Cut, Cert, Frame}
use Rattle.cert_format.specs.Text.{Kind, Token, Words, Figure, LineEnd, Version, One, Two, Three, cut_lines, tree_lines, meant_proof}
use Rattle.cert_format.specs.Grammar.{Prefixed, Numbered, Valued}
use Rattle.cert_format.specs.Words.{word_token}
use Rattle.cert_format.specs.declared.words.Word.TheVariants as w
use Rattle.cert_format.specs.Stages.{Wait, low_of, high_of, Known, optimal_of, bound_of, claim_with, leaf_of, proof_of, cut_of, whole_of, Told, told, with_cuts, with_cut, Owner, of_leaf, of_cut, may_have, most_of, had_by, rows_word, begin, behind_rows, past, passed, meaning, behind_leaf, Stage, at_bpcert, at_version, at_first_end, at_claim, at_kind, at_optimal, infeasible_end, at_bound, after_bound, at_value, claim_end, at_point, at_values, at_coordinate, at_first_cut, at_cuts, at_node, at_scale, at_rows, at_count, at_pairs, at_row, row_gap, at_multiplier, at_priced, at_blocks, at_block, leaf_end, at_variable, variable_gap, at_place, split_end, at_end, last_end, over, words, line_fault, sort, IsOfSort, number_fault, behind_number, AfterTree, Behind, BehindLeaf, BehindTree, AtNode, AtCuts, AtFirstCut, Begin, BehindRows, LeafEnd, AtBlocks, AtPriced, AtPairs, AtMultiplier, RowGap, AtCount, AtRows, SplitEnd, AtPlace, VariableGap, AtValues, AtPoint, ClaimEnd, AtValue, AfterBound, AtBound, InfeasibleEnd, AtOptimal, AtKind, AtClaim, AtFirstEnd, AtVersion, Follows}
use Rattle.cert_format.proofs.Productions.{points_first, points_over, first_pair, no_pairs, filler, first_block, no_blocks, block_filler, priced_by, priced_first, priced_over}
use Rattle.cert_format.proofs.Trees.{tree_first, tree_over}
use Rattle.cert_format.proofs.StageProofs.{Alike, prefixed_alike, natural_alike, valued_alike, same_head, no_tokens, ForEach, ForSomeOf, by_zero, Leads, rows_token, begin_alike, cuts_cut, first_cut, cuts_node, cuts_first, first_cut_first, cuts_over, first_cut_over, leaf_end_alike, node_by, node_leaf, node_open, node_split, values_end, values_more, PairsG, pairs_end, pairs_more, BlocksG, blocks_end, blocks_more, PricedG, priced_every, priced_these}

module _ (frame : Frame) (c : Cert) where
  -- one of several words in front
  under_first : (x : Token) (M : List Token → Type 0) (N : List Token → Type 0) (ts : List Token) → (N (x ∷ ts) → ⊥) → Alike (Prefixed x M (x ∷ ts) ⊎ N (x ∷ ts)) (M ts)
  under_first x M N ts other = (λ m. ⊎_elim (prefixed_alike x M ts).0 (λ n. absurd (other n)) m, λ m. inl ((prefixed_alike x M ts).1 m))

  under_second : (x : Token) (M : List Token → Type 0) (N : List Token → Type 0) (ts : List Token) → (N (x ∷ ts) → ⊥) → Alike (N (x ∷ ts) ⊎ Prefixed x M (x ∷ ts)) (M ts)
  under_second x M N ts other = (λ m. ⊎_elim (λ n. absurd (other n)) (prefixed_alike x M ts).0 m, λ m. inr ((prefixed_alike x M ts).1 m))

  -- another token in front
  not_prefixed : (x y : Token) (M : List Token → Type 0) (ts : List Token) → (y ≡ x → ⊥) → Prefixed x M (y ∷ ts) → ⊥
  not_prefixed x y M ts other m = other (same_head y x ts m.0 m.1)

  -- two words with two first bytes
  words_apart : (a b : ℕ) (xs ys : List ℕ) → (a ≡ b → ⊥) → Words (a ∷ xs) ≡ Words (b ∷ ys) → ⊥
  words_apart a b xs ys other same = let e : a ≡ b = cc in other e

  line_apart : (f : Option Kind) (xs : List ℕ) → LineEnd f ≡ Words xs → ⊥
  line_apart f xs same = cc

  kind_optimal : (v : Version) (ts : List Token) → Alike (AtKind frame c v (Words (codes "optimal ") ∷ ts)) (AtOptimal frame c v ts)
  kind_optimal v ts = under_first (Words (codes "optimal ")) (AtOptimal frame c v) (λ us. Prefixed (Words (codes "infeasible")) (InfeasibleEnd frame c v) us ⊎ Prefixed (Words (codes "bound ")) (AtBound frame c v) us) ts
      (λ m. ⊎_elim (not_prefixed _ _ _ _ (words_apart 111 105 _ _ (λ e. omega arith))) (not_prefixed _ _ _ _ (words_apart 111 98 _ _ (λ e. omega arith))) m)

  kind_infeasible : (v : Version) (ts : List Token) → Alike (AtKind frame c v (Words (codes "infeasible") ∷ ts)) (InfeasibleEnd frame c v ts)
  kind_infeasible v ts =
      let inner = under_first (Words (codes "infeasible")) (InfeasibleEnd frame c v) (λ us. Prefixed (Words (codes "bound ")) (AtBound frame c v) us) ts (not_prefixed _ _ _ _ (words_apart 105 98 _ _ (λ e. omega arith))) in (
        λ m. ⊎_elim (λ n. absurd (not_prefixed (Words (codes "optimal ")) _ _ _ (words_apart 105 111 _ _ (λ e. omega arith)) n)) inner.0 m,
        λ m. inr (inner.1 m),
      )

  kind_bound : (v : Version) (ts : List Token) → Alike (AtKind frame c v (Words (codes "bound ") ∷ ts)) (AtBound frame c v ts)
  kind_bound v ts =
      let inner = under_second (Words (codes "bound ")) (AtBound frame c v) (λ us. Prefixed (Words (codes "infeasible")) (InfeasibleEnd frame c v) us) ts (not_prefixed _ _ _ _ (words_apart 98 105 _ _ (λ e. omega arith))) in (
        λ m. ⊎_elim (λ n. absurd (not_prefixed (Words (codes "optimal ")) _ _ _ (words_apart 98 111 _ _ (λ e. omega arith)) n)) inner.0 m,
        λ m. inr (inner.1 m),
      )

  -- a set that is alike another
  along : (P Q R : Type 0) → Alike P Q → Alike Q R → Alike P R
  along P Q R a b = (λ m. b.0 (a.0 m), λ m. a.1 (b.1 m))

  bound_ends : (v : Version) (b : ℤ) (ts : List Token) → Alike (AfterBound frame c v b (LineEnd None ∷ ts)) (Follows frame c (begin v (Bound b) []) ts)
  bound_ends v b ts = along _ _ _
      (under_first (LineEnd None) (Begin frame c v (Bound b) []) (λ us. Prefixed (Words (codes " value ")) (AtValue frame c v b) us) ts (not_prefixed _ _ _ _ (line_apart None _)))
      (begin_alike frame c v (Bound b) [] ts)

  infeasible_ends : (v : Version) (ts : List Token) → Alike (InfeasibleEnd frame c v (LineEnd None ∷ ts)) (Follows frame c (begin v Infeasible []) ts)
  infeasible_ends v ts = along _ _ _ (prefixed_alike (LineEnd None) (Begin frame c v Infeasible []) ts) (begin_alike frame c v Infeasible [] ts)

  point_ends : (v : Version) (k : Known) (zs : List ℤ) (ts : List Token) → Alike (AtValues frame c v k zs (LineEnd (line_fault frame (at_values v k zs)) ∷ ts)) (Follows frame c (begin v (claim_with k zs) []) ts)
  point_ends v k zs ts = along _ _ _ (values_end frame c v k zs ts) (begin_alike frame c v (claim_with k zs) [] ts)

  bound_goes_on : (v : Version) (b : ℤ) (ts : List Token) → Alike (AfterBound frame c v b (Words (codes " value ") ∷ ts)) (AtValue frame c v b ts)
  bound_goes_on v b ts = under_second (Words (codes " value ")) (AtValue frame c v b) (λ us. Prefixed (LineEnd None) (Begin frame c v (Bound b) []) us) ts (not_prefixed _ _ _ _ (λ e. line_apart None _ (sym e)))

  version_one : (ts : List Token) → Alike (AtVersion frame c (Words (codes "1") ∷ ts)) (AtFirstEnd frame c One ts)
  version_one ts = under_first (Words (codes "1")) (AtFirstEnd frame c One) (λ us. Prefixed (Words (codes "2")) (AtFirstEnd frame c Two) us ⊎ Prefixed (Words (codes "3")) (AtFirstEnd frame c Three) us) ts
      (λ m. ⊎_elim (not_prefixed _ _ _ _ (words_apart 49 50 _ _ (λ e. omega arith))) (not_prefixed _ _ _ _ (words_apart 49 51 _ _ (λ e. omega arith))) m)

  version_two : (ts : List Token) → Alike (AtVersion frame c (Words (codes "2") ∷ ts)) (AtFirstEnd frame c Two ts)
  version_two ts =
      let inner = under_first (Words (codes "2")) (AtFirstEnd frame c Two) (λ us. Prefixed (Words (codes "3")) (AtFirstEnd frame c Three) us) ts (not_prefixed _ _ _ _ (words_apart 50 51 _ _ (λ e. omega arith))) in (
        λ m. ⊎_elim (λ n. absurd (not_prefixed (Words (codes "1")) _ _ _ (words_apart 50 49 _ _ (λ e. omega arith)) n)) inner.0 m,
        λ m. inr (inner.1 m),
      )

  version_three : (ts : List Token) → Alike (AtVersion frame c (Words (codes "3") ∷ ts)) (AtFirstEnd frame c Three ts)
  version_three ts =
      let inner = under_second (Words (codes "3")) (AtFirstEnd frame c Three) (λ us. Prefixed (Words (codes "2")) (AtFirstEnd frame c Two) us) ts (not_prefixed _ _ _ _ (words_apart 51 50 _ _ (λ e. omega arith))) in (
        λ m. ⊎_elim (λ n. absurd (not_prefixed (Words (codes "1")) _ _ _ (words_apart 51 49 _ _ (λ e. omega arith)) n)) inner.0 m,
        λ m. inr (inner.1 m),
      )

  -- the word before the rows
  rows_begin : (a : Told) (ws : List Wait) (o : Owner) (s : ℕ) → Leads frame c (at_rows a ws o s) (rows_word a o) (at_count a ws o s)
  rows_begin a ws o s =
      let P : Token → Type 0 = λ x. (ts : List Token) → Alike (AtRows frame c a ws o s (x ∷ ts)) (AtCount frame c a ws o s ts) in
      subst P (rows_token None a o) (λ ts. prefixed_alike _ _ ts)

  -- the word behind the last of the rows
  rows_end : (a : Told) (ws : List Wait) (o : Owner) (s : ℕ) (ps : List (ℕ × ℤ)) (last : ℕ) → Leads frame c (at_pairs a ws o s ps last 0) (behind_rows a ws o s ps).0 (behind_rows a ws o s ps).1
  rows_end a ws (of_leaf o) s ps last ts = along _ _ _ (pairs_end frame c a ws (of_leaf o) s ps last (Words (codes " priced ") ∷ ts)) (prefixed_alike (Words (codes " priced ")) (AtPriced frame c a ws o s ps) ts)
  rows_end a ws of_cut s ps last ts = along _ _ _ (pairs_end frame c a ws of_cut s ps last (LineEnd None ∷ ts)) (prefixed_alike (LineEnd None) (AtCuts frame c (with_cut a s ps) ws) ts)

  -- a node's word behind cuts
  cuts_leaf : (a : Told) (ws : List Wait) (ts : List Token) → Alike (AtCuts frame c a ws (Words (codes "leaf ") ∷ ts)) (Follows frame c (at_scale a ws (of_leaf false)) ts)
  cuts_leaf a ws ts = along _ _ _ (cuts_node frame c a ws (Words (codes "leaf ")) ts (words_apart 108 99 _ _ (λ e. omega arith))) (node_leaf frame c a ws ts)

  cuts_open : (a : Told) (ws : List Wait) (ts : List Token) → Alike (AtCuts frame c a ws (Words (codes "open ") ∷ ts)) (Follows frame c (at_scale a ws (of_leaf true)) ts)
  cuts_open a ws ts = along _ _ _ (cuts_node frame c a ws (Words (codes "open ")) ts (words_apart 111 99 _ _ (λ e. omega arith))) (node_open frame c a ws ts)

  cuts_split : (a : Told) (ws : List Wait) (ts : List Token) → Alike (AtCuts frame c a ws (Words (codes "split ") ∷ ts)) (Follows frame c (at_variable a ws) ts)
  cuts_split a ws ts = along _ _ _ (cuts_node frame c a ws (Words (codes "split ")) ts (words_apart 115 99 _ _ (λ e. omega arith))) (node_split frame c a ws ts)

  -- each word that may come leads on
  pub word_leads : (stage : Stage) → ForEach (Leads frame c stage) (words stage)
  word_leads at_bpcert = (λ ts. prefixed_alike _ _ ts, tt)
  word_leads at_version = (version_one, (version_two, (version_three, tt)))
  word_leads (at_first_end v) = (λ ts. prefixed_alike _ _ ts, tt)
  word_leads (at_claim v) = (λ ts. prefixed_alike _ _ ts, tt)
  word_leads (at_kind v) = (kind_optimal v, (kind_infeasible v, (kind_bound v, tt)))
  word_leads (at_optimal v) = tt
  word_leads (infeasible_end v) = (infeasible_ends v, tt)
  word_leads (at_bound v) = tt
  word_leads (after_bound v b) = (bound_ends v b, (bound_goes_on v b, tt))
  word_leads (at_value v b) = tt
  word_leads (claim_end v k) = (λ ts. prefixed_alike _ _ ts, tt)
  word_leads (at_point v k) = (λ ts. prefixed_alike _ _ ts, tt)
  word_leads (at_values v k zs) = (point_ends v k zs, (values_more frame c v k zs, tt))
  word_leads (at_coordinate v k zs) = tt
  word_leads (at_first_cut a ws) = (first_cut frame c a ws, tt)
  word_leads (at_cuts a ws) = (cuts_cut frame c a ws, (cuts_leaf a ws, (cuts_open a ws, (cuts_split a ws, tt))))
  word_leads (at_node a ws) = (node_leaf frame c a ws, (node_open frame c a ws, (node_split frame c a ws, tt)))
  word_leads (at_scale a ws o) = tt
  word_leads (at_rows a ws o s) = (rows_begin a ws o s, tt)
  word_leads (at_count a ws o s) = tt
  word_leads (at_pairs a ws o s ps last n) =
      by_zero (λ t. ForEach (Leads frame c (at_pairs a ws o s ps last n)) (if t then behind_rows a ws o s ps ∷ [] else (w.Space, at_row a ws o s ps last n) ∷ [])) n
      (λ none. (let P : ℕ → Type 0 = λ k. Leads frame c (at_pairs a ws o s ps last k) (behind_rows a ws o s ps).0 (behind_rows a ws o s ps).1 in subst P (sym none) (rows_end a ws o s ps last), tt))
      (λ m some. (pairs_more frame c a ws o s ps last n m some, tt))
  word_leads (at_row a ws o s ps last n) = tt
  word_leads (row_gap a ws o s ps r n) = (λ ts. prefixed_alike _ _ ts, tt)
  word_leads (at_multiplier a ws o s ps r n) = tt
  word_leads (at_priced a ws o s ps) = (priced_every frame c a ws o s ps, tt)
  word_leads (at_blocks a ws o s ps ks last n) =
      by_zero (λ t. ForEach (Leads frame c (at_blocks a ws o s ps ks last n)) (if t then (w.LineEnd, behind_leaf a ws o (proof_of s ps (These ks))) ∷ [] else (w.Space, at_block a ws o s ps ks last n) ∷ [])) n
      (λ none. (let P : ℕ → Type 0 = λ k. Leads frame c (at_blocks a ws o s ps ks last k) w.LineEnd (behind_leaf a ws o (proof_of s ps (These ks))) in subst P (sym none) (blocks_end frame c a ws o s ps ks last), tt))
      (λ m some. (blocks_more frame c a ws o s ps ks last n m some, tt))
  word_leads (at_block a ws o s ps ks last n) = tt
  word_leads (leaf_end a ws o p) = (leaf_end_alike frame c a ws o p, tt)
  word_leads (at_variable a ws) = tt
  word_leads (variable_gap a ws i) = (λ ts. prefixed_alike _ _ ts, tt)
  word_leads (at_place a ws i) = tt
  word_leads (split_end a ws i z) = (λ ts. prefixed_alike _ _ ts, tt)
  word_leads (at_end a t) = (λ ts. prefixed_alike _ _ ts, tt)
  word_leads (last_end a t) = (λ ts. prefixed_alike _ _ ts, tt)
  word_leads (over a t) = tt

  -- each number that may come leads on
  pub number_leads : (stage : Stage) (z : ℤ) → IsOfSort (sort stage) z → (ts : List Token) → Alike (Follows frame c stage (Figure z (number_fault frame stage z) ∷ ts)) (Follows frame c (behind_number stage z) ts)
  number_leads (at_optimal v) z is ts = valued_alike _ _ z ts
  number_leads (at_bound v) z is ts = valued_alike _ _ z ts
  number_leads (at_value v b) z is ts = valued_alike _ _ z ts
  number_leads (at_coordinate v k zs) z is ts = valued_alike _ _ z ts
  number_leads (at_scale a ws o) z is ts = natural_alike _ _ z ts is
  number_leads (at_count a ws o s) z is ts = natural_alike _ _ z ts is
  number_leads (at_row a ws o s ps last n) z is ts = natural_alike _ _ z ts is
  number_leads (at_multiplier a ws o s ps r n) z is ts = valued_alike _ _ z ts
  number_leads (at_priced a ws o s ps) z is ts =
      let P : ℤ → Type 0 = λ y. Alike (AtPriced frame c a ws o s ps (Figure y None ∷ ts)) (AtBlocks frame c a ws o s ps [] 0 (nat_abs z) ts) in
      subst P (sym is) (priced_these frame c a ws o s ps (nat_abs z) ts)
  number_leads (at_block a ws o s ps ks last n) z is ts = natural_alike _ _ z ts is
  number_leads (at_variable a ws) z is ts = natural_alike _ _ z ts is
  number_leads (at_place a ws i) z is ts = valued_alike _ _ z ts
  number_leads at_bpcert z is ts = absurd is
  number_leads at_version z is ts = absurd is
  number_leads (at_first_end v) z is ts = absurd is
  number_leads (at_claim v) z is ts = absurd is
  number_leads (at_kind v) z is ts = absurd is
  number_leads (infeasible_end v) z is ts = absurd is
  number_leads (after_bound v b) z is ts = absurd is
  number_leads (claim_end v k) z is ts = absurd is
  number_leads (at_point v k) z is ts = absurd is
  number_leads (at_values v k zs) z is ts = absurd is
  number_leads (at_first_cut a ws) z is ts = absurd is
  number_leads (at_cuts a ws) z is ts = absurd is
  number_leads (at_node a ws) z is ts = absurd is
  number_leads (at_rows a ws o s) z is ts = absurd is
  number_leads (at_pairs a ws o s ps last n) z is ts = absurd is
  number_leads (row_gap a ws o s ps r n) z is ts = absurd is
  number_leads (at_blocks a ws o s ps ks last n) z is ts = absurd is
  number_leads (leaf_end a ws o p) z is ts = absurd is
  number_leads (variable_gap a ws i) z is ts = absurd is
  number_leads (split_end a ws i z') z is ts = absurd is
  number_leads (at_end a t) z is ts = absurd is
  number_leads (last_end a t) z is ts = absurd is
  number_leads (over a t) z is ts = absurd is

-- a token that may come at a place: one of its words, or a number of its sort
abbrev pub IsFirst : Frame → Stage → Token → Type 0
IsFirst frame stage y = ForSomeOf (λ word next. y ≡ word_token (line_fault frame stage) word) (words stage) ⊎ ((z : ℤ) × IsOfSort (sort stage) z × (y ≡ Figure z (number_fault frame stage z)))

module _ (frame : Frame) (c : Cert) where
  -- the first token of a set
  first_word : (x : Token) (M : List Token → Type 0) (y : Token) (ys : List Token) → Prefixed x M (y ∷ ys) → y ≡ x
  first_word x M y ys m = same_head y x ys m.0 m.1

  first_natural : (f : ℕ → Option Kind) (M : ℕ → List Token → Type 0) (y : Token) (ys : List Token) → Numbered f M (y ∷ ys) → (z : ℤ) × (z ≡ pos (nat_abs z)) × (y ≡ Figure z (f (nat_abs z)))
  first_natural f M y ys m = (pos m.0, refl, same_head y (Figure (pos m.0) (f m.0)) ys m.1 m.2)

  first_whole : (f : ℤ → Option Kind) (M : ℤ → List Token → Type 0) (y : Token) (ys : List Token) → Valued f M (y ∷ ys) → (z : ℤ) × Unit {0} × (y ≡ Figure z (f z))
  first_whole f M y ys m = (m.0, tt, same_head y (Figure m.0 (f m.0)) ys m.1 m.2)

  -- the word behind the last of the rows
  behind_first : (a : Told) (ws : List Wait) (o : Owner) (s : ℕ) (ps : List (ℕ × ℤ)) (y : Token) (ys : List Token) → BehindRows frame c a ws o s ps (y ∷ ys) → y ≡ word_token None (behind_rows a ws o s ps).0
  behind_first a ws (of_leaf o) s ps y ys m = first_word _ _ y ys m
  behind_first a ws of_cut s ps y ys m = first_word _ _ y ys m

  behind_same : (a : Told) (ws : List Wait) (o : Owner) (s : ℕ) (ps qs : List (ℕ × ℤ)) → word_token None (behind_rows a ws o s ps).0 ≡ word_token None (behind_rows a ws o s qs).0
  behind_same a ws (of_leaf o) s ps qs = refl
  behind_same a ws of_cut s ps qs = refl

  pub first_token : (stage : Stage) (y : Token) (ys : List Token) → Follows frame c stage (y ∷ ys) → IsFirst frame stage y
  first_token at_bpcert y ys m = inl (inl (first_word _ _ y ys m))
  first_token at_version y ys m = inl (⊎_elim (λ n. inl (first_word _ _ y ys n)) (λ n. inr (⊎_elim (λ o. inl (first_word _ _ y ys o)) (λ o. inr (inl (first_word _ _ y ys o))) n)) m)
  first_token (at_first_end v) y ys m = inl (inl (first_word _ _ y ys m))
  first_token (at_claim v) y ys m = inl (inl (first_word _ _ y ys m))
  first_token (at_kind v) y ys m = inl (⊎_elim (λ n. inl (first_word _ _ y ys n)) (λ n. inr (⊎_elim (λ o. inl (first_word _ _ y ys o)) (λ o. inr (inl (first_word _ _ y ys o))) n)) m)
  first_token (at_optimal v) y ys m = inr (first_whole _ _ y ys m)
  first_token (infeasible_end v) y ys m = inl (inl (first_word _ _ y ys m))
  first_token (at_bound v) y ys m = inr (first_whole _ _ y ys m)
  first_token (after_bound v b) y ys m = inl (⊎_elim (λ n. inl (first_word _ _ y ys n)) (λ n. inr (inl (first_word _ _ y ys n))) m)
  first_token (at_value v b) y ys m = inr (first_whole _ _ y ys m)
  first_token (claim_end v k) y ys m = inl (inl (first_word _ _ y ys m))
  first_token (at_point v k) y ys m = inl (inl (first_word _ _ y ys m))
  first_token (at_values v k zs) y ys m = inl (⊎_elim (λ e. inl e) (λ e. inr (inl e)) (points_first frame (length zs + 1) m.0 m.1 y ys m.3))
  first_token (at_coordinate v k zs) y ys m = inr (first_whole _ _ y ys m)
  first_token (at_first_cut a ws) y ys m = inl (inl (first_cut_first frame c a ws y ys m))
  first_token (at_cuts a ws) y ys m = inl (⊎_elim (λ e. inl e) (λ k. inr (⊎_elim (λ e. inl e) (λ n. inr (⊎_elim (λ e. inl e) (λ e. inr (inl e)) n)) k)) (cuts_first frame c a ws y ys m))
  first_token (at_node a ws) y ys m = inl (⊎_elim (λ e. inl e) (λ n. inr (⊎_elim (λ e. inl e) (λ e. inr (inl e)) n)) (tree_first frame a.version (length a.cuts) (length ws) a.had (BehindTree frame c a ws) y ys (node_by frame c a ws (y ∷ ys) m)))
  first_token (at_scale a ws o) y ys m = inr (first_natural _ _ y ys m)
  first_token (at_rows a ws o s) y ys m = inl (inl (first_word _ _ y ys m ∙ rows_token None a o))
  first_token (at_count a ws o s) y ys m = inr (first_natural _ _ y ys m)
  first_token (at_pairs a ws o s ps last n) y ys m =
      inl (by_zero (λ t. ForSomeOf (λ word next. y ≡ word_token None word) (if t then behind_rows a ws o s ps ∷ [] else (w.Space, at_row a ws o s ps last n) ∷ [])) n
      (λ none. inl (behind_first a ws o s (ps ++ []) y ys (no_pairs (may_have frame a o) (most_of o) (had_by a o) last (PairsG frame c a ws o s ps) m.0 m.1 (y ∷ ys) (m.2 ∙ none) m.3 m.4) ∙ behind_same a ws o s (ps ++ []) ps))
      (λ k some. let i = first_pair (may_have frame a o) (most_of o) (had_by a o) last k (PairsG frame c a ws o s ps) m.0 m.1 (y ∷ ys) (m.2 ∙ some) m.3 m.4 in inl (same_head _ _ _ _ i.is)))
  first_token (at_row a ws o s ps last n) y ys m = inr (first_natural _ _ y ys m)
  first_token (row_gap a ws o s ps r n) y ys m = inl (inl (first_word _ _ y ys m))
  first_token (at_multiplier a ws o s ps r n) y ys m = inr (first_whole _ _ y ys m)
  first_token (at_priced a ws o s ps) y ys m =
      ⊎_elim (λ e. inl (inl e)) (λ n. inr (pos n.0, refl, n.1)) (priced_first frame (PricedG frame c a ws o s ps) y ys (priced_by frame (PricedG frame c a ws o s ps) m.0 m.1 (y ∷ ys) m.2 m.3))
  first_token (at_blocks a ws o s ps ks last n) y ys m =
      inl (by_zero (λ t. ForSomeOf (λ word next. y ≡ word_token None word) (if t then (w.LineEnd, behind_leaf a ws o (proof_of s ps (These ks))) ∷ [] else (w.Space, at_block a ws o s ps ks last n) ∷ [])) n
      (λ none. inl (first_word _ _ y ys (no_blocks frame last (BlocksG frame c a ws o s ps ks) m.0 m.1 (y ∷ ys) (m.2 ∙ none) m.3 m.4)))
      (λ k some. let i = first_block frame last k (BlocksG frame c a ws o s ps ks) m.0 m.1 (y ∷ ys) (m.2 ∙ some) m.3 m.4 in inl (same_head _ _ _ _ i.is)))
  first_token (at_block a ws o s ps ks last n) y ys m = inr (first_natural _ _ y ys m)
  first_token (leaf_end a ws o p) y ys m = inl (inl (first_word _ _ y ys m))
  first_token (at_variable a ws) y ys m = inr (first_natural _ _ y ys m)
  first_token (variable_gap a ws i) y ys m = inl (inl (first_word _ _ y ys m))
  first_token (at_place a ws i) y ys m = inr (first_whole _ _ y ys m)
  first_token (split_end a ws i z) y ys m = inl (inl (first_word _ _ y ys m))
  first_token (at_end a t) y ys m = inl (inl (first_word _ _ y ys m))
  first_token (last_end a t) y ys m = inl (inl (first_word _ _ y ys m))
  first_token (over a t) y ys m = absurd (no_tokens y ys (sym m.0))

  no_prefixed : (x : Token) (M : List Token → Type 0) → Prefixed x M [] → ⊥
  no_prefixed x M m = no_tokens x m.0 m.1

  no_numbered : (f : ℕ → Option Kind) (M : ℕ → List Token → Type 0) → Numbered f M [] → ⊥
  no_numbered f M m = no_tokens _ m.1 m.2

  no_valued : (f : ℤ → Option Kind) (M : ℤ → List Token → Type 0) → Valued f M [] → ⊥
  no_valued f M m = no_tokens _ m.1 m.2

  no_behind : (a : Told) (ws : List Wait) (o : Owner) (s : ℕ) (ps : List (ℕ × ℤ)) → BehindRows frame c a ws o s ps [] → ⊥
  no_behind a ws (of_leaf o) s ps m = no_prefixed _ _ m
  no_behind a ws of_cut s ps m = no_prefixed _ _ m

  -- only behind the last token may nothing follow
  abbrev pub IsOver : Stage → Type 0
  IsOver (over a t) = c ≡ whole_of a t
  IsOver _ = ⊥

  pub only_over : (stage : Stage) → Follows frame c stage [] → IsOver stage
  only_over at_bpcert m = no_prefixed _ _ m
  only_over at_version m = ⊎_elim (no_prefixed _ _) (λ n. ⊎_elim (no_prefixed _ _) (no_prefixed _ _) n) m
  only_over (at_first_end v) m = no_prefixed _ _ m
  only_over (at_claim v) m = no_prefixed _ _ m
  only_over (at_kind v) m = ⊎_elim (no_prefixed _ _) (λ n. ⊎_elim (no_prefixed _ _) (no_prefixed _ _) n) m
  only_over (at_optimal v) m = no_valued _ _ m
  only_over (infeasible_end v) m = no_prefixed _ _ m
  only_over (at_bound v) m = no_valued _ _ m
  only_over (after_bound v b) m = ⊎_elim (no_prefixed _ _) (no_prefixed _ _) m
  only_over (at_value v b) m = no_valued _ _ m
  only_over (claim_end v k) m = no_prefixed _ _ m
  only_over (at_point v k) m = no_prefixed _ _ m
  only_over (at_values v k zs) m = points_over frame (length zs + 1) m.0 m.1 m.3
  only_over (at_coordinate v k zs) m = no_valued _ _ m
  only_over (at_first_cut a ws) m = first_cut_over frame c a ws m
  only_over (at_cuts a ws) m = cuts_over frame c a ws m
  only_over (at_node a ws) m = tree_over frame a.version (length a.cuts) (length ws) a.had (BehindTree frame c a ws) (node_by frame c a ws [] m)
  only_over (at_scale a ws o) m = no_numbered _ _ m
  only_over (at_rows a ws o s) m = no_prefixed _ _ m
  only_over (at_count a ws o s) m = no_numbered _ _ m
  only_over (at_pairs a ws o s ps last zero) m = no_behind a ws o s (ps ++ []) (no_pairs (may_have frame a o) (most_of o) (had_by a o) last (PairsG frame c a ws o s ps) m.0 m.1 [] m.2 m.3 m.4)
  only_over (at_pairs a ws o s ps last (suc n)) m = let i = first_pair (may_have frame a o) (most_of o) (had_by a o) last n (PairsG frame c a ws o s ps) m.0 m.1 [] m.2 m.3 m.4 in no_tokens _ _ i.is
  only_over (at_row a ws o s ps last n) m = no_numbered _ _ m
  only_over (row_gap a ws o s ps r n) m = no_prefixed _ _ m
  only_over (at_multiplier a ws o s ps r n) m = no_valued _ _ m
  only_over (at_priced a ws o s ps) m = priced_over frame (PricedG frame c a ws o s ps) (priced_by frame (PricedG frame c a ws o s ps) m.0 m.1 [] m.2 m.3)
  only_over (at_blocks a ws o s ps ks last zero) m = no_prefixed _ _ (no_blocks frame last (BlocksG frame c a ws o s ps ks) m.0 m.1 [] m.2 m.3 m.4)
  only_over (at_blocks a ws o s ps ks last (suc n)) m = let i = first_block frame last n (BlocksG frame c a ws o s ps ks) m.0 m.1 [] m.2 m.3 m.4 in no_tokens _ _ i.is
  only_over (at_block a ws o s ps ks last n) m = no_numbered _ _ m
  only_over (leaf_end a ws o p) m = no_prefixed _ _ m
  only_over (at_variable a ws) m = no_numbered _ _ m
  only_over (variable_gap a ws i) m = no_prefixed _ _ m
  only_over (at_place a ws i) m = no_valued _ _ m
  only_over (split_end a ws i z) m = no_prefixed _ _ m
  only_over (at_end a t) m = no_prefixed _ _ m
  only_over (last_end a t) m = no_prefixed _ _ m
  only_over (over a t) m = m.1

-- some tokens of a set that depends on the certificate
abbrev pub Some' : (Cert → List Token → Type 0) → Type 0
Some' M = (c : Cert) × (ts : List Token) × M c ts

module _ (frame : Frame) where
  abbrev simple : Tree
  simple = Shut (proof_of 0 [] Every)

  prefixed_some : (x : Token) (M : Cert → List Token → Type 0) → Some' M → Some' (λ c. Prefixed x (M c))
  prefixed_some x M m = (m.0, x ∷ m.1, (m.1, refl, m.2))

  numbered_some : (f : ℕ → Option Kind) (M : ℕ → Cert → List Token → Type 0) → Some' (M 0) → Some' (λ c. Numbered f (λ n. M n c))
  numbered_some f M m = (m.0, Figure (pos 0) (f 0) ∷ m.1, (0, m.1, refl, m.2))

  valued_some : (f : ℤ → Option Kind) (M : ℤ → Cert → List Token → Type 0) → Some' (M (pos 0)) → Some' (λ c. Valued f (λ z. M z c))
  valued_some f M m = (m.0, Figure (pos 0) (f (pos 0)) ∷ m.1, (pos 0, m.1, refl, m.2))

  after_tree_some : (a : Told) (t : Tree) → Some' (λ c. AfterTree frame c a t)
  after_tree_some a t = (whole_of a t, _, (_, refl, (_, refl, (refl, refl))))

  behind_some : (a : Told) (ws : List Wait) (t : Tree) → Some' (λ c. Behind frame c a ws t)
  behind_some a [] t = after_tree_some a t
  behind_some a (low_of i z ∷ ws) t = let m = behind_some (passed a simple) ws (Split i z t (meaning a simple)) in (m.0, tree_lines frame a.version (length a.cuts) (length (low_of i z ∷ ws)) a.had simple ++ m.1, (simple, m.1, m.2, refl))
  behind_some a (high_of i z low ∷ ws) t = behind_some a ws (Split i z low t)

  node_some : (a : Told) (ws : List Wait) → Some' (λ c. AtNode frame c a ws)
  node_some a ws = let m = behind_some (passed a simple) ws (meaning a simple) in (m.0, tree_lines frame a.version (length a.cuts) (length ws) a.had simple ++ m.1, (simple, m.1, m.2, refl))

  cuts_some : (a : Told) (ws : List Wait) → Some' (λ c. AtCuts frame c a ws)
  cuts_some a ws = let m = node_some (with_cuts a []) ws in (m.0, m.1, ([], m.1, m.2, refl))

  first_cut_some : (a : Told) (ws : List Wait) → Some' (λ c. AtFirstCut frame c a ws)
  first_cut_some a ws =
      let cuts : List Cut = cut_of 0 [] ∷ [] in
      let m = node_some (with_cuts a cuts) ws in
      let long : 0 < length cuts = omega arith in
      (m.0, cut_lines frame (length a.cuts) cuts ++ m.1, (cuts, m.1, (long, m.2), refl))

  begin_some : (v : Version) (claim : Claim) (ws : List Wait) → Some' (λ c. Begin frame c v claim ws)
  begin_some One claim ws = node_some (told One claim) ws
  begin_some Two claim ws = node_some (told Two claim) ws
  begin_some Three claim ws = first_cut_some (told Three claim) ws

  leaf_end_some : (a : Told) (ws : List Wait) (o : Bool) (p : Proof) → Some' (λ c. LeafEnd frame c a ws o p)
  leaf_end_some a ws o p = prefixed_some (LineEnd None) (λ c. BehindLeaf frame c a ws o p) (behind_some (past a p) ws (leaf_of o (meant_proof a.had p)))

  blocks_some : (a : Told) (ws : List Wait) (o : Bool) (s : ℕ) (ps : List (ℕ × ℤ)) (ks : List ℕ) (last n : ℕ) → Some' (λ c. AtBlocks frame c a ws o s ps ks last n)
  blocks_some a ws o s ps ks last n = let fill = block_filler n in let m = leaf_end_some a ws o (proof_of s ps (These (ks ++ fill.0))) in (m.0, _, (fill.0, m.1, fill.1, m.2, refl))

  priced_some : (a : Told) (ws : List Wait) (o : Bool) (s : ℕ) (ps : List (ℕ × ℤ)) → Some' (λ c. AtPriced frame c a ws o s ps)
  priced_some a ws o s ps = let m = leaf_end_some a ws o (proof_of s ps Every) in (m.0, _, (Every, m.1, m.2, refl))

  behind_rows_some : (a : Told) (ws : List Wait) (o : Owner) (s : ℕ) (ps : List (ℕ × ℤ)) → Some' (λ c. BehindRows frame c a ws o s ps)
  behind_rows_some a ws (of_leaf o) s ps = prefixed_some (Words (codes " priced ")) (λ c. AtPriced frame c a ws o s ps) (priced_some a ws o s ps)
  behind_rows_some a ws of_cut s ps = prefixed_some (LineEnd None) (λ c. AtCuts frame c (with_cut a s ps) ws) (cuts_some (with_cut a s ps) ws)

  pairs_some : (a : Told) (ws : List Wait) (o : Owner) (s : ℕ) (ps : List (ℕ × ℤ)) (last n : ℕ) → Some' (λ c. AtPairs frame c a ws o s ps last n)
  pairs_some a ws o s ps last n =
      let fill = filler n in
      let m = behind_rows_some a ws o s (ps ++ fill.0) in
      (m.0, _, (fill.0, m.1, fill.1, m.2, refl))

  values_some : (v : Version) (k : Known) (zs : List ℤ) → Some' (λ c. AtValues frame c v k zs)
  values_some v k zs = let m = begin_some v (claim_with k (zs ++ [])) [] in (m.0, _, ([], m.1, m.2, refl))

  point_some : (v : Version) (k : Known) → Some' (λ c. AtPoint frame c v k)
  point_some v k = prefixed_some _ (λ c. AtValues frame c v k []) (values_some v k [])

  claim_end_some : (v : Version) (k : Known) → Some' (λ c. ClaimEnd frame c v k)
  claim_end_some v k = prefixed_some _ (λ c. AtPoint frame c v k) (point_some v k)

  value_some : (v : Version) (b : ℤ) → Some' (λ c. AtValue frame c v b)
  value_some v b = valued_some _ (λ z c. ClaimEnd frame c v (bound_of b z)) (claim_end_some v (bound_of b (pos 0)))

  after_bound_some : (v : Version) (b : ℤ) → Some' (λ c. AfterBound frame c v b)
  after_bound_some v b = let m = prefixed_some (LineEnd None) (λ c. Begin frame c v (Bound b) []) (begin_some v (Bound b) []) in (m.0, m.1, inl m.2)

  optimal_some : (v : Version) → Some' (λ c. AtOptimal frame c v)
  optimal_some v = valued_some _ (λ z c. ClaimEnd frame c v (optimal_of z)) (claim_end_some v (optimal_of (pos 0)))

  kind_some : (v : Version) → Some' (λ c. AtKind frame c v)
  kind_some v = let m = prefixed_some (Words (codes "optimal ")) (λ c. AtOptimal frame c v) (optimal_some v) in (m.0, m.1, inl m.2)

  multiplier_some : (a : Told) (ws : List Wait) (o : Owner) (s : ℕ) (ps : List (ℕ × ℤ)) (r n : ℕ) → Some' (λ c. AtMultiplier frame c a ws o s ps r n)
  multiplier_some a ws o s ps r n = valued_some _ (λ z c. AtPairs frame c a ws o s (ps ++ (r, z) ∷ []) r (n - 1)) (pairs_some a ws o s (ps ++ (r, pos 0) ∷ []) r (n - 1))

  row_gap_some : (a : Told) (ws : List Wait) (o : Owner) (s : ℕ) (ps : List (ℕ × ℤ)) (r n : ℕ) → Some' (λ c. RowGap frame c a ws o s ps r n)
  row_gap_some a ws o s ps r n = prefixed_some _ (λ c. AtMultiplier frame c a ws o s ps r n) (multiplier_some a ws o s ps r n)

  count_some : (a : Told) (ws : List Wait) (o : Owner) (s : ℕ) → Some' (λ c. AtCount frame c a ws o s)
  count_some a ws o s = numbered_some (λ _. None) (λ n c. AtPairs frame c a ws o s [] 0 n) (pairs_some a ws o s [] 0 0)

  rows_some : (a : Told) (ws : List Wait) (o : Owner) (s : ℕ) → Some' (λ c. AtRows frame c a ws o s)
  rows_some a ws o s = prefixed_some _ (λ c. AtCount frame c a ws o s) (count_some a ws o s)

  split_end_some : (a : Told) (ws : List Wait) (i : ℕ) (z : ℤ) → Some' (λ c. SplitEnd frame c a ws i z)
  split_end_some a ws i z = prefixed_some _ (λ c. AtNode frame c a (low_of i z ∷ ws)) (node_some a (low_of i z ∷ ws))

  place_some : (a : Told) (ws : List Wait) (i : ℕ) → Some' (λ c. AtPlace frame c a ws i)
  place_some a ws i = valued_some _ (λ z c. SplitEnd frame c a ws i z) (split_end_some a ws i (pos 0))

  gap_some : (a : Told) (ws : List Wait) (i : ℕ) → Some' (λ c. VariableGap frame c a ws i)
  gap_some a ws i = prefixed_some _ (λ c. AtPlace frame c a ws i) (place_some a ws i)

  claim_some : (v : Version) → Some' (λ c. AtClaim frame c v)
  claim_some v = prefixed_some _ (λ c. AtKind frame c v) (kind_some v)

  first_end_some : (v : Version) → Some' (λ c. AtFirstEnd frame c v)
  first_end_some v = prefixed_some _ (λ c. AtClaim frame c v) (claim_some v)

  version_some : Some' (λ c. AtVersion frame c)
  version_some = let m = prefixed_some (Words (codes "1")) (λ c. AtFirstEnd frame c One) (first_end_some One) in (m.0, m.1, inl m.2)

  -- from each place a certificate goes on
  pub goes_on_from : (stage : Stage) → Some' (λ c. Follows frame c stage)
  goes_on_from at_bpcert = prefixed_some _ (λ c. AtVersion frame c) version_some
  goes_on_from at_version = version_some
  goes_on_from (at_first_end v) = first_end_some v
  goes_on_from (at_claim v) = claim_some v
  goes_on_from (at_kind v) = kind_some v
  goes_on_from (at_optimal v) = optimal_some v
  goes_on_from (infeasible_end v) = prefixed_some _ (λ c. Begin frame c v Infeasible []) (begin_some v Infeasible [])
  goes_on_from (at_bound v) = valued_some _ (λ b c. AfterBound frame c v b) (after_bound_some v (pos 0))
  goes_on_from (after_bound v b) = after_bound_some v b
  goes_on_from (at_value v b) = value_some v b
  goes_on_from (claim_end v k) = claim_end_some v k
  goes_on_from (at_point v k) = point_some v k
  goes_on_from (at_values v k zs) = values_some v k zs
  goes_on_from (at_coordinate v k zs) = valued_some _ (λ z c. AtValues frame c v k (zs ++ z ∷ [])) (values_some v k (zs ++ pos 0 ∷ []))
  goes_on_from (at_first_cut a ws) = first_cut_some a ws
  goes_on_from (at_cuts a ws) = cuts_some a ws
  goes_on_from (at_node a ws) = node_some a ws
  goes_on_from (at_scale a ws o) = numbered_some _ (λ s c. AtRows frame c a ws o s) (rows_some a ws o 0)
  goes_on_from (at_rows a ws o s) = rows_some a ws o s
  goes_on_from (at_count a ws o s) = count_some a ws o s
  goes_on_from (at_pairs a ws o s ps last n) = pairs_some a ws o s ps last n
  goes_on_from (at_row a ws o s ps last n) = numbered_some _ (λ r c. RowGap frame c a ws o s ps r n) (row_gap_some a ws o s ps 0 n)
  goes_on_from (row_gap a ws o s ps r n) = row_gap_some a ws o s ps r n
  goes_on_from (at_multiplier a ws o s ps r n) = multiplier_some a ws o s ps r n
  goes_on_from (at_priced a ws o s ps) = priced_some a ws o s ps
  goes_on_from (at_blocks a ws o s ps ks last n) = blocks_some a ws o s ps ks last n
  goes_on_from (at_block a ws o s ps ks last n) = numbered_some _ (λ k c. AtBlocks frame c a ws o s ps (ks ++ k ∷ []) k (n - 1)) (blocks_some a ws o s ps (ks ++ 0 ∷ []) 0 (n - 1))
  goes_on_from (leaf_end a ws o p) = leaf_end_some a ws o p
  goes_on_from (at_variable a ws) = numbered_some _ (λ i c. VariableGap frame c a ws i) (gap_some a ws 0)
  goes_on_from (variable_gap a ws i) = gap_some a ws i
  goes_on_from (at_place a ws i) = place_some a ws i
  goes_on_from (split_end a ws i z) = split_end_some a ws i z
  goes_on_from (at_end a t) = after_tree_some a t
  goes_on_from (last_end a t) = (whole_of a t, _, (_, refl, (refl, refl)))
  goes_on_from (over a t) = (whole_of a t, [], (refl, refl))
