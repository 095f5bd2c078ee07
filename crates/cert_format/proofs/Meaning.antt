-- What is meant is written in one way.
use Rattle.std.proofs.Common.{◌≡◌, ◌≢◌, ℕ, ◌+◌, ◌^◌, ◌<◌, Bool, true, false, not, ◌&&◌, List, [], ◌∷◌, ◌++◌, length, None, codes, ℤ, refl, sym, ap, ◌∙◌, subst, nat_lt}
use Rattle.std.proofs.lemmas.Bool.{ltb-true, true≢false}
use Rattle.std.specs.Cmp.{signed_Decides}
use Rattle.std.specs.Ordering.{int_eq}
use Rattle.cert_format.specs.Cert.{Proof, Tree, Shut, Open, Split, Cut, Cert, Frame, multiplier}
use Rattle.cert_format.specs.declared.fault.CertKind.TheVariants.{TooLarge, Number}
use Rattle.cert_format.specs.Text.{Kind, Token, Words, LineEnd, fault_of, row_fault, multiplier_fault, is_past, may_name, pairs_behind, picked_words, Version, One, Two, Three, leaf_line, tree_lines, claim_lines, cut_lines, tokens_of, kept, kept_behind, meant, meant_proof, meant_tree}
use Rattle.cert_format.specs.Fault.{AreClean}
use Rattle.cert_format.proofs.Coherent.{proof_one, cert_one}
use Rattle.cert_format.proofs.Changes.{AscendAbove, Differ, change_one, changed-up}

-- both parts of faultless tokens are faultless
pub clean_front : (u v : List Token) → AreClean (u ++ v) → AreClean u
clean_front [] v clean = tt
clean_front (x ∷ u) v clean = (clean.0, clean_front u v clean.1)

pub clean_back : (u v : List Token) → AreClean (u ++ v) → AreClean v
clean_back [] v clean = clean
clean_back (x ∷ u) v clean = clean_back u v clean.1

-- a row without a fault is above the last one
row_above : (named : ℕ → Bool) (last row : ℕ) → row_fault named last row ≡ None → last < row
row_above named last row none = ltb-true last row (tested (nat_lt last row) (named row) none) where
  tested : (a b : Bool) → Rattle.cert_format.specs.Text.first_kind ((not (a && b), Number) ∷ []) ≡ None → a ≡ true
  tested true b none = refl
  tested false b none = cc

-- a multiplier without a fault isn't what the row had
multiplier_differs : (limit : ℕ) (had : List (ℕ × ℤ)) (row : ℕ) (p : ℤ) → multiplier_fault limit had row p ≡ None → p ≢ multiplier had row
multiplier_differs limit had row p none = λ same. true≢false (sym ((signed_Decides p (multiplier had row)).1 same) ∙ tested (is_past limit p) (int_eq p (multiplier had row)) none) where
  tested : (a b : Bool) → Rattle.cert_format.specs.Text.first_kind ((a, TooLarge) ∷ (b, Number) ∷ []) ≡ None → b ≡ false
  tested true b none = cc
  tested false true none = cc
  tested false false none = refl

pub pairs_ascend : (named : ℕ → Bool) (limit : ℕ) (had : List (ℕ × ℤ)) (last : ℕ) (ps : List (ℕ × ℤ)) → AreClean (pairs_behind named limit had last ps) → AscendAbove last ps
pairs_ascend named limit had last [] clean = tt
pairs_ascend named limit had last (p ∷ ps) clean = (row_above named last p.0 clean.1.0, pairs_ascend named limit had p.0 ps clean.1.1.1.1)

pub pairs_differ : (named : ℕ → Bool) (limit : ℕ) (had : List (ℕ × ℤ)) (last : ℕ) (ps : List (ℕ × ℤ)) → AreClean (pairs_behind named limit had last ps) → Differ had ps
pairs_differ named limit had last [] clean = tt
pairs_differ named limit had last (p ∷ ps) clean = (multiplier_differs limit had p.0 p.1 clean.1.1.1.0, pairs_differ named limit had p.0 ps clean.1.1.1.1)

-- the pairs of a faultless leaf line
pub leaf_pairs : (frame : Frame) (version : Version) (cuts depth : ℕ) (had : List (ℕ × ℤ)) (p : Proof) → AreClean (leaf_line frame version cuts depth had p) → AreClean (pairs_behind (may_name frame cuts) (2 ^ 40) had 0 p.pairs)
leaf_pairs frame version cuts depth had p clean =
    let pairs = pairs_behind (may_name frame cuts) (2 ^ 40) had 0 p.pairs in
    let picked : List Token = Words (codes " priced ") ∷ picked_words frame p.picked in
    clean_front pairs picked (clean_front (pairs ++ picked) (LineEnd None ∷ []) clean.1.1.1)

-- two faultless leaf lines with one meaning
leaf_one : (frame : Frame) (version : Version) (cuts depth : ℕ) (had : List (ℕ × ℤ)) (p q : Proof) → AscendAbove 0 had → AreClean (leaf_line frame version cuts depth had p) → AreClean (leaf_line frame version cuts depth had q) → meant_proof had p ≡ meant_proof had q → p ≡ q
leaf_one frame version cuts depth had p q up clean_p clean_q same =
    let left = leaf_pairs frame version cuts depth had p clean_p in
    let right = leaf_pairs frame version cuts depth had q clean_q in
    let named = may_name frame cuts in
    let pairs = change_one 0 had p.pairs q.pairs up (pairs_ascend named (2 ^ 40) had 0 p.pairs left) (pairs_ascend named (2 ^ 40) had 0 q.pairs right)
    (pairs_differ named (2 ^ 40) had 0 p.pairs left) (pairs_differ named (2 ^ 40) had 0 q.pairs right) (ap (λ (r : Proof). r.pairs) same) in
    proof_one p q (ap (λ (r : Proof). r.scale) same) pairs (ap (λ (r : Proof). r.picked) same)

-- the multipliers behind a faultless leaf ascend
kept-up : (frame : Frame) (version : Version) (cuts depth : ℕ) (had : List (ℕ × ℤ)) (p : Proof) → AscendAbove 0 had → AreClean (leaf_line frame version cuts depth had p) → AscendAbove 0 (kept version had p)
kept-up frame One cuts depth had p up clean = tt
kept-up frame Two cuts depth had p up clean = changed-up 0 had p.pairs up (pairs_ascend (may_name frame cuts) (2 ^ 40) had 0 p.pairs (leaf_pairs frame Two cuts depth had p clean))
kept-up frame Three cuts depth had p up clean = changed-up 0 had p.pairs up (pairs_ascend (may_name frame cuts) (2 ^ 40) had 0 p.pairs (leaf_pairs frame Three cuts depth had p clean))

kept_behind-up : (frame : Frame) (version : Version) (cuts depth : ℕ) (had : List (ℕ × ℤ)) (t : Tree) → AscendAbove 0 had → AreClean (tree_lines frame version cuts depth had t) → AscendAbove 0 (kept_behind version had t)
kept_behind-up frame version cuts depth had (Shut p) up clean = kept-up frame version cuts depth had p up clean.1
kept_behind-up frame version cuts depth had (Open p) up clean = kept-up frame version cuts depth had p up clean.1
kept_behind-up frame version cuts depth had (Split i z low high) up clean =
    let left = tree_lines frame version cuts (depth + 1) had low in
    let right = tree_lines frame version cuts (depth + 1) (kept_behind version had low) high in
    kept_behind-up frame version cuts (depth + 1) (kept_behind version had low) high
    (kept_behind-up frame version cuts (depth + 1) had low up (clean_front left right clean.1.1.1.1.1)) (clean_back left right clean.1.1.1.1.1)

-- two faultless trees with one meaning
tree_one : (frame : Frame) (version : Version) (cuts depth : ℕ) (had : List (ℕ × ℤ)) (s t : Tree) → AscendAbove 0 had → AreClean (tree_lines frame version cuts depth had s) → AreClean (tree_lines frame version cuts depth had t) → meant_tree version had s ≡ meant_tree version had t → s ≡ t
tree_one frame version cuts depth had (Shut p) (Shut q) up clean_s clean_t same =
    let e : meant_proof had p ≡ meant_proof had q = cc in ap Shut (leaf_one frame version cuts depth had p q up clean_s.1 clean_t.1 e)
tree_one frame version cuts depth had (Open p) (Open q) up clean_s clean_t same =
    let e : meant_proof had p ≡ meant_proof had q = cc in ap Open (leaf_one frame version cuts depth had p q up clean_s.1 clean_t.1 e)
tree_one frame version cuts depth had (Split i y low high) (Split j z low' high') up clean_s clean_t same =
    let left = tree_lines frame version cuts (depth + 1) had low in
    let right = tree_lines frame version cuts (depth + 1) (kept_behind version had low) high in
    let left' = tree_lines frame version cuts (depth + 1) had low' in
    let right' = tree_lines frame version cuts (depth + 1) (kept_behind version had low') high' in
    let same_low : meant_tree version had low ≡ meant_tree version had low' = cc in
    let same_high : meant_tree version (kept_behind version had low) high ≡ meant_tree version (kept_behind version had low') high' = cc in
    let e : i ≡ j = cc in
    let f : y ≡ z = cc in
    let g = tree_one frame version cuts (depth + 1) had low low' up (clean_front left right clean_s.1.1.1.1.1) (clean_front left' right' clean_t.1.1.1.1.1) same_low in
    let P : Tree → Type 0 = λ t. AreClean (tree_lines frame version cuts (depth + 1) (kept_behind version had t) high') in
    let Q : Tree → Type 0 = λ t. meant_tree version (kept_behind version had low) high ≡ meant_tree version (kept_behind version had t) high' in
    let h = tree_one frame version cuts (depth + 1) (kept_behind version had low) high high'
    (kept_behind-up frame version cuts (depth + 1) had low up (clean_front left right clean_s.1.1.1.1.1))
    (clean_back left right clean_s.1.1.1.1.1) (subst P (sym g) (clean_back left' right' clean_t.1.1.1.1.1)) (subst Q (sym g) same_high) in
    cc
tree_one frame version cuts depth had (Shut p) (Open q) up clean_s clean_t same = cc
tree_one frame version cuts depth had (Shut p) (Split j z low' high') up clean_s clean_t same = cc
tree_one frame version cuts depth had (Open p) (Shut q) up clean_s clean_t same = cc
tree_one frame version cuts depth had (Open p) (Split j z low' high') up clean_s clean_t same = cc
tree_one frame version cuts depth had (Split i y low high) (Shut q) up clean_s clean_t same = cc
tree_one frame version cuts depth had (Split i y low high) (Open q) up clean_s clean_t same = cc

-- the tree of a faultless certificate
pub tree_clean : (frame : Frame) (version : Version) (c : Cert) → AreClean (tokens_of frame version c) → AreClean (tree_lines frame version (length c.cuts) 0 [] c.tree)
tree_clean frame version c clean =
    let claim = claim_lines frame c.claim in
    let cuts = cut_lines frame 0 c.cuts in
    let tree = tree_lines frame version (length c.cuts) 0 [] c.tree in
    let end : List Token = Words (codes "end") ∷ LineEnd None ∷ [] in
    clean_back (claim ++ cuts) tree (clean_front ((claim ++ cuts) ++ tree) end clean.1.1.1)

-- version 1 keeps nothing between leaves
pub kept_none : (t : Tree) → kept_behind One [] t ≡ []
kept_none (Shut p) = refl
kept_none (Open p) = refl
kept_none (Split i z low high) = ap (λ (had : List (ℕ × ℤ)). kept_behind One had high) (kept_none low) ∙ kept_none high

-- two faultless certificates with one meaning
pub meant_one : (frame : Frame) (version : Version) (c d : Cert) → AreClean (tokens_of frame version c) → AreClean (tokens_of frame version d) → meant version c ≡ meant version d → c ≡ d
meant_one frame version c d clean_c clean_d same =
    let claims : c.claim ≡ d.claim = ap (λ (x : Cert). x.claim) same in
    let cuts : c.cuts ≡ d.cuts = ap (λ (x : Cert). x.cuts) same in
    let trees : meant_tree version [] c.tree ≡ meant_tree version [] d.tree = ap (λ (x : Cert). x.tree) same in
    let P : List Cut → Type 0 = λ xs. AreClean (tree_lines frame version (length xs) 0 [] d.tree) in
    cert_one c d claims cuts (tree_one frame version (length c.cuts) 0 [] c.tree d.tree tt (tree_clean frame version c clean_c) (subst P (sym cuts) (tree_clean frame version d clean_d)) trees)
