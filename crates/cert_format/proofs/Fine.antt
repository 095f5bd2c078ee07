-- What is known of the cuts and the tree that a faultless text means: multipliers ascend and keep their limits.
use Rattle.std.proofs.Common.{◌≡◌, ◌≢◌, ℕ, zero, suc, ◌+◌, ◌*◌, ◌^◌, ◌<◌, ◌≤◌, Bool, true, false, not, ◌&&◌, List, [], ◌∷◌, ◌++◌, length, codes, None, ℤ, pos, refl, sym, ap, ◌∙◌, arith, nat_lt, nat_le, nat_eq, length-append, if◌then◌else◌}
use Rattle.std.specs.Prelude.{unsigned_abs}
use Rattle.std.specs.List.{AllByRecursion}
use Rattle.std.specs.Cmp.{signed_Decides}
use Rattle.std.specs.Ordering.{int_eq}
use Rattle.std.proofs.lemmas.Bool.{ltb-true, ltb-false, leb-true, leb-false, true≢false}
use Rattle.std.proofs.lemmas.Grind.{flat_map-append}
use Rattle.bp_theory.specs.Limits.{greatest_depth}
use Rattle.cert_format.specs.Cert.{Proof, Tree, Shut, Open, Split, Cut, Cert, Frame, multiplier, with_pair, put, changed}
use Rattle.cert_format.specs.Text.{Kind, Token, Words, LineEnd, token_text, text_of, first_kind, scale_fault, divisor_fault, variable_fault, value_fault, is_deep, is_past, row_fault, multiplier_fault, block_fault, may_name, may_combine, pairs_behind, picked_words, pairs_word, claim_lines, cut_lines, leaf_line, tree_lines, tokens_of, version_word, Version, One, Two, Three, kept, kept_behind, meant_proof, meant_tree, signed_numeral}
use Rattle.cert_format.specs.Nodes.{nodes}
use Rattle.cert_format.specs.Fault.{AreClean, IsText}
use Rattle.cert_format.specs.declared.fault.CertKind.TheVariants.{TooLarge, Number, Depth, Limit}
use Rattle.cert_format.proofs.Changes.{AscendAbove, changed-up}
use Rattle.cert_format.proofs.Claims.{last_line, tokens_split}
use Rattle.cert_format.proofs.Meaning.{clean_front, clean_back, pairs_ascend, leaf_pairs}

-- ---- numbers without a fault

none_of_two : (a b : Bool) (k l : Kind) → first_kind ((a, k) ∷ (b, l) ∷ []) ≡ None → (a ≡ false) × (b ≡ false)
none_of_two true b k l none = absurd (cc)
none_of_two false true k l none = absurd (cc)
none_of_two false false k l none = (refl, refl)

both_true : (a b : Bool) (k : Kind) → first_kind ((not (a && b), k) ∷ []) ≡ None → (a ≡ true) × (b ≡ true)
both_true true true k none = (refl, refl)
both_true true false k none = absurd (cc)
both_true false b k none = absurd (cc)

pub scale_small : (frame : Frame) (depth s : ℕ) → scale_fault frame depth s ≡ None → (depth ≤ greatest_depth frame.limits) × (s ≤ 2 ^ 20)
scale_small frame depth s none =
    let tests = none_of_two (is_deep frame.limits depth) (nat_lt (2 ^ 20) s) Depth TooLarge none in
    (ltb-false (greatest_depth frame.limits) depth tests.0, ltb-false (2 ^ 20) s tests.1)

row_tested : (named : ℕ → Bool) (last row : ℕ) → row_fault named last row ≡ None → (last < row) × (named row ≡ true)
row_tested named last row none =
    let tests = both_true (nat_lt last row) (named row) Number none in
    (ltb-true last row tests.0, tests.1)

multiplier_small : (had : List (ℕ × ℤ)) (row : ℕ) (p : ℤ) → multiplier_fault (2 ^ 40) had row p ≡ None → unsigned_abs p ≤ 2 ^ 40
multiplier_small had row p none =
    let tests = none_of_two (is_past (2 ^ 40) p) (int_eq p (multiplier had row)) TooLarge Number none in
    ltb-false (2 ^ 40) (unsigned_abs p) tests.0

pub block_tested : (frame : Frame) (last k : ℕ) → block_fault frame last k ≡ None → (last < k) × (k ≤ frame.blocks)
block_tested frame last k none =
    let tests = both_true (nat_lt last k) (nat_le k frame.blocks) Number none in
    (ltb-true last k tests.0, leb-true k frame.blocks tests.1)

-- ---- multipliers

-- what holds of each multiplier of a leaf
abbrev pub IsKept : Frame → ℕ → ℕ × ℤ → Type 0
IsKept frame cuts pair = (unsigned_abs pair.1 ≤ 2 ^ 40) × (pair.1 ≢ pos 0) × (may_name frame cuts pair.0 ≡ true)

-- what holds of the multipliers of a leaf
pub record AreKept (frame : Frame) (cuts : ℕ) (pairs : List (ℕ × ℤ)) : Type 0 where
  pub up : AscendAbove 0 pairs
  pub each : AllByRecursion (IsKept frame cuts) pairs

pub none_kept : (frame : Frame) (cuts : ℕ) → AreKept frame cuts []
none_kept frame cuts = record { up = tt; each = tt }

with_pair_kept : (frame : Frame) (cuts row : ℕ) (p : ℤ) (ps : List (ℕ × ℤ)) → unsigned_abs p ≤ 2 ^ 40 → may_name frame cuts row ≡ true → AllByRecursion (IsKept frame cuts) ps → AllByRecursion (IsKept frame cuts) (with_pair row p ps)
with_pair_kept frame cuts row p ps small named all = by (int_eq p (pos 0)) refl where
  by : (t : Bool) → int_eq p (pos 0) ≡ t → AllByRecursion (IsKept frame cuts) (if◌then◌else◌ {A = List (ℕ × ℤ)} t ps ((row, p) ∷ ps))
  by true is = all
  by false is = ((small, (λ same. true≢false (sym ((signed_Decides p (pos 0)).1 same) ∙ is)), named), all)

put_kept : (frame : Frame) (cuts row : ℕ) (p : ℤ) (ps : List (ℕ × ℤ)) → unsigned_abs p ≤ 2 ^ 40 → may_name frame cuts row ≡ true → AllByRecursion (IsKept frame cuts) ps → AllByRecursion (IsKept frame cuts) (put row p ps)
put_kept frame cuts row p [] small named all = with_pair_kept frame cuts row p [] small named tt
put_kept frame cuts row p (q ∷ ps) small named all = by (nat_lt q.0 row) (nat_eq q.0 row) (put_kept frame cuts row p ps small named all.1) where
  by : (s t : Bool) → AllByRecursion (IsKept frame cuts) (put row p ps) → AllByRecursion (IsKept frame cuts) (if s then q ∷ put row p ps else (if t then with_pair row p ps else with_pair row p (q ∷ ps)))
  by true t rest = (all.0, rest)
  by false true rest = with_pair_kept frame cuts row p ps small named all.1
  by false false rest = with_pair_kept frame cuts row p (q ∷ ps) small named all

changed_kept : (frame : Frame) (cuts : ℕ) (before : List (ℕ × ℤ)) (last : ℕ) (had ps : List (ℕ × ℤ)) → AreClean (pairs_behind (may_name frame cuts) (2 ^ 40) before last ps) → AllByRecursion (IsKept frame cuts) had → AllByRecursion (IsKept frame cuts) (changed had ps)
changed_kept frame cuts before last had [] clean all = all
changed_kept frame cuts before last had (p ∷ ps) clean all =
    changed_kept frame cuts before p.0 (put p.0 p.1 had) ps clean.1.1.1.1
    (put_kept frame cuts p.0 p.1 had (multiplier_small before p.0 p.1 clean.1.1.1.0) (row_tested (may_name frame cuts) last p.0 clean.1.0).1 all)

-- ---- leaves and trees

-- a leaf's proof without a fault
pub record IsFineLeaf (frame : Frame) (cuts depth : ℕ) (p : Proof) : Type 0 where
  pub scale : scale_fault frame depth p.scale ≡ None
  pub pairs : AreKept frame cuts p.pairs
  pub picked : AreClean (picked_words frame p.picked)

-- a tree without a fault, at a depth
abbrev pub IsFine : Frame → (cuts depth : ℕ) → Tree → Type 0
IsFine frame cuts depth (Shut p) = IsFineLeaf frame cuts depth p
IsFine frame cuts depth (Open p) = IsFineLeaf frame cuts depth p
IsFine frame cuts depth (Split i z low high) = (variable_fault frame depth i ≡ None) × (value_fault z ≡ None) × IsFine frame cuts (depth + 1) low × IsFine frame cuts (depth + 1) high

leaf_picked : (frame : Frame) (version : Version) (cuts depth : ℕ) (had : List (ℕ × ℤ)) (p : Proof) → AreClean (leaf_line frame version cuts depth had p) → AreClean (picked_words frame p.picked)
leaf_picked frame version cuts depth had p clean =
    let pairs = pairs_behind (may_name frame cuts) (2 ^ 40) had 0 p.pairs in
    let picked : List Token = Words (codes " priced ") ∷ picked_words frame p.picked in
    (clean_back pairs picked (clean_front (pairs ++ picked) (LineEnd None ∷ []) clean.1.1.1)).1

leaf_kept : (frame : Frame) (version : Version) (cuts depth : ℕ) (had : List (ℕ × ℤ)) (p : Proof) → AreKept frame cuts had → AreClean (leaf_line frame version cuts depth had p) → AreKept frame cuts (changed had p.pairs)
leaf_kept frame version cuts depth had p before clean =
    let lines = leaf_pairs frame version cuts depth had p clean in
    record {
      up = changed-up 0 had p.pairs before.up (pairs_ascend (may_name frame cuts) (2 ^ 40) had 0 p.pairs lines);
      each = changed_kept frame cuts had 0 had p.pairs lines before.each;
    }

fine_leaf : (frame : Frame) (version : Version) (cuts depth : ℕ) (had : List (ℕ × ℤ)) (p : Proof) → AreKept frame cuts had → AreClean (leaf_line frame version cuts depth had p) → IsFineLeaf frame cuts depth (meant_proof had p)
fine_leaf frame version cuts depth had p before clean = record { scale = clean.0; pairs = leaf_kept frame version cuts depth had p before clean; picked = leaf_picked frame version cuts depth had p clean }

behind_leaf_kept : (frame : Frame) (version : Version) (cuts depth : ℕ) (had : List (ℕ × ℤ)) (p : Proof) → AreKept frame cuts had → AreClean (leaf_line frame version cuts depth had p) → AreKept frame cuts (kept version had p)
behind_leaf_kept frame One cuts depth had p before clean = none_kept frame cuts
behind_leaf_kept frame Two cuts depth had p before clean = leaf_kept frame Two cuts depth had p before clean
behind_leaf_kept frame Three cuts depth had p before clean = leaf_kept frame Three cuts depth had p before clean

behind_kept : (frame : Frame) (version : Version) (cuts depth : ℕ) (had : List (ℕ × ℤ)) (t : Tree) → AreKept frame cuts had → AreClean (tree_lines frame version cuts depth had t) → AreKept frame cuts (kept_behind version had t)
behind_kept frame version cuts depth had (Shut p) before clean = behind_leaf_kept frame version cuts depth had p before clean.1
behind_kept frame version cuts depth had (Open p) before clean = behind_leaf_kept frame version cuts depth had p before clean.1
behind_kept frame version cuts depth had (Split i z low high) before clean =
    let left = tree_lines frame version cuts (depth + 1) had low in
    let right = tree_lines frame version cuts (depth + 1) (kept_behind version had low) high in
    let both = clean.1.1.1.1.1 in
    behind_kept frame version cuts (depth + 1) (kept_behind version had low) high (behind_kept frame version cuts (depth + 1) had low before (clean_front left right both)) (clean_back left right both)

-- the tree that faultless lines mean is without a fault
pub fine_tree : (frame : Frame) (version : Version) (cuts depth : ℕ) (had : List (ℕ × ℤ)) (t : Tree) → AreKept frame cuts had → AreClean (tree_lines frame version cuts depth had t) → IsFine frame cuts depth (meant_tree version had t)
fine_tree frame version cuts depth had (Shut p) before clean = fine_leaf frame version cuts depth had p before clean.1
fine_tree frame version cuts depth had (Open p) before clean = fine_leaf frame version cuts depth had p before clean.1
fine_tree frame version cuts depth had (Split i z low high) before clean =
    let left = tree_lines frame version cuts (depth + 1) had low in
    let right = tree_lines frame version cuts (depth + 1) (kept_behind version had low) high in
    let both = clean.1.1.1.1.1 in
    let front = clean_front left right both in (
      clean.1.0,
      clean.1.1.1.0,
      fine_tree frame version cuts (depth + 1) had low before front,
      fine_tree frame version cuts (depth + 1) (kept_behind version had low) high (behind_kept frame version cuts (depth + 1) had low before front) (clean_back left right both),
    )

-- ---- lines

pub nodes_meant : (version : Version) (had : List (ℕ × ℤ)) (t : Tree) → nodes (meant_tree version had t) ≡ nodes t
nodes_meant version had (Shut p) = refl
nodes_meant version had (Open p) = refl
nodes_meant version had (Split i z low high) =
    let a : nodes (meant_tree version had low) ≡ nodes low = nodes_meant version had low in
    let b : nodes (meant_tree version (kept_behind version had low) high) ≡ nodes high = nodes_meant version (kept_behind version had low) high in
    omega arith

text_length : (u v : List Token) → length (text_of (u ++ v)) ≡ length (text_of u) + length (text_of v)
text_length u v = ap (λ (s : List ℕ). length s) (flat_map-append token_text u v) ∙ length-append (text_of u) (text_of v)

five : (a b c d e : List ℕ) → length (a ++ (b ++ (c ++ (d ++ e)))) ≡ length a + length b + length c + length d + length e
five a b c d e = omega (arith, length-append a (b ++ (c ++ (d ++ e))), length-append b (c ++ (d ++ e)), length-append c (d ++ e), length-append d e)

word_long : (version : Version) → 6 ≤ length (pairs_word version)
word_long One = let size : length (codes " rows ") ≡ 6 = refl in omega arith
word_long Two = let size : length (codes " change ") ≡ 8 = refl in omega arith
word_long Three = let size : length (codes " change ") ≡ 8 = refl in omega arith

long_line : (a w rest : List ℕ) → 6 ≤ length w → 6 ≤ length (a ++ (w ++ rest))
long_line a w rest long = omega (arith, long, length-append a (w ++ rest), length-append w rest)

leaf_long : (frame : Frame) (version : Version) (cuts depth : ℕ) (had : List (ℕ × ℤ)) (p : Proof) → 6 ≤ length (text_of (leaf_line frame version cuts depth had p))
leaf_long frame version cuts depth had p = long_line (signed_numeral (pos p.scale)) (pairs_word version) _ (word_long version)

-- each line of a tree takes some bytes
pub nodes_counted : (frame : Frame) (version : Version) (cuts depth : ℕ) (had : List (ℕ × ℤ)) (t : Tree) → 8 * nodes t ≤ length (text_of (tree_lines frame version cuts depth had t))
nodes_counted frame version cuts depth had (Shut p) = let size : length (codes "leaf ") ≡ 5 = refl in omega (arith, size, leaf_long frame version cuts depth had p, length-append (codes "leaf ") (text_of (leaf_line frame version cuts depth had p)))
nodes_counted frame version cuts depth had (Open p) = let size : length (codes "open ") ≡ 5 = refl in omega (arith, size, leaf_long frame version cuts depth had p, length-append (codes "open ") (text_of (leaf_line frame version cuts depth had p)))
nodes_counted frame version cuts depth had (Split i z low high) =
    let left = tree_lines frame version cuts (depth + 1) had low in
    let right = tree_lines frame version cuts (depth + 1) (kept_behind version had low) high in
    let size : length (codes "split ") ≡ 6 = refl in
    let space : length (codes " ") ≡ 1 = refl in
    let a : 8 * nodes low ≤ length (text_of left) = nodes_counted frame version cuts (depth + 1) had low in
    let b : 8 * nodes high ≤ length (text_of right) = nodes_counted frame version cuts (depth + 1) (kept_behind version had low) high in
    let whole : length (text_of (tree_lines frame version cuts depth had (Split i z low high))) ≡ length (codes "split ") + length (signed_numeral (pos i)) + length (codes " ") + length (signed_numeral z) + length (10 ∷ text_of (left ++ right)) = five (codes "split ") (signed_numeral (pos i)) (codes " ") (signed_numeral z) (10 ∷ text_of (left ++ right)) in
    let more : length (10 ∷ text_of (left ++ right)) ≡ 1 + length (text_of (left ++ right)) = omega arith in
    omega (arith, size, space, a, b, whole, more, text_length left right)

-- a certificate's text is longer than its tree's
pub tree_counted : (frame : Frame) (version : Version) (c : Cert) → 12 + length (text_of (tree_lines frame version (length c.cuts) 0 [] c.tree)) ≤ length (text_of (tokens_of frame version c))
tree_counted frame version c =
    let claims = claim_lines frame c.claim in
    let cuts = cut_lines frame 0 c.cuts in
    let tree = tree_lines frame version (length c.cuts) 0 [] c.tree in
    let rest : List ℕ = text_of (claims ++ (cuts ++ (tree ++ last_line))) in
    let whole : length (text_of (tokens_of frame version c)) ≡ length (codes "bpcert " ++ (version_word version ++ (10 ∷ rest))) = ap (λ (ts : List Token). length (text_of ts)) (tokens_split frame version c) in
    let size : length (codes "bpcert ") ≡ 7 = refl in
    let last : length (text_of last_line) ≡ 4 = refl in
    let more : length (10 ∷ rest) ≡ 1 + length rest = omega arith in
    omega (arith, whole, size, last, more, length-append (codes "bpcert ") (version_word version ++ (10 ∷ rest)), length-append (version_word version) (10 ∷ rest), text_length claims (cuts ++ (tree ++ last_line)), text_length cuts (tree ++ last_line), text_length tree last_line)

-- a text has some bytes for each node of what it means
pub text_nodes : (frame : Frame) (version : Version) (c : Cert) (text : List ℕ) → IsText frame version c text → 12 + 8 * nodes c.tree ≤ length text
text_nodes frame version c text is =
    let w = is.written in
    let size = tree_counted frame version w in
    let few : 8 * nodes w.tree ≤ length (text_of (tree_lines frame version (length w.cuts) 0 [] w.tree)) = nodes_counted frame version (length w.cuts) 0 [] w.tree in
    let each : nodes c.tree ≡ nodes w.tree = ap nodes (sym (ap (λ (x : Cert). x.tree) is.means)) ∙ nodes_meant version [] w.tree in
    omega (arith, size, few, each, ap (λ (s : List ℕ). length s) is.bytes)

-- ---- cuts

none_of_three : (a b c : Bool) (k l m : Kind) → first_kind ((a, k) ∷ (b, l) ∷ (c, m) ∷ []) ≡ None → (a ≡ false) × (b ≡ false) × (c ≡ false)
none_of_three true b c k l m none = absurd (cc)
none_of_three false b c k l m none = let rest = none_of_two b c l m none in (refl, rest.0, rest.1)

-- a divisor without a fault
pub divisor_small : (earlier d : ℕ) → divisor_fault earlier d ≡ None → (earlier < 256) × (d ≤ 2 ^ 20) × (0 < d)
divisor_small earlier d none =
    let tests = none_of_three (nat_le 256 earlier) (nat_lt (2 ^ 20) d) (nat_eq d 0) Limit TooLarge Number none in
    (leb-false 256 earlier tests.0, ltb-false (2 ^ 20) d tests.1, some d tests.2)
  where
    some : (d : ℕ) → nat_eq d 0 ≡ false → 0 < d
    some zero apart = absurd (true≢false apart)
    some (suc d) apart = omega arith

-- what holds of each multiplier of a cut behind so many others
abbrev pub IsCombined : Frame → ℕ → ℕ × ℤ → Type 0
IsCombined frame earlier pair = (unsigned_abs pair.1 ≤ 2 ^ 20) × (pair.1 ≢ pos 0) × (may_combine frame earlier pair.0 ≡ true)

-- a cut without a fault behind so many others
pub record IsFineCut (frame : Frame) (earlier : ℕ) (cut : Cut) : Type 0 where
  pub few : earlier < 256
  pub divisor : cut.divisor ≤ 2 ^ 20
  pub divides : 0 < cut.divisor
  pub up : AscendAbove 0 cut.pairs
  pub each : AllByRecursion (IsCombined frame earlier) cut.pairs

combined_each : (frame : Frame) (earlier last : ℕ) (ps : List (ℕ × ℤ)) → AreClean (pairs_behind (may_combine frame earlier) (2 ^ 20) [] last ps) → AllByRecursion (IsCombined frame earlier) ps
combined_each frame earlier last [] clean = tt
combined_each frame earlier last (p ∷ ps) clean =
    let small = none_of_two (is_past (2 ^ 20) p.1) (int_eq p.1 (pos 0)) TooLarge Number clean.1.1.1.0 in (
      (
        ltb-false (2 ^ 20) (unsigned_abs p.1) small.0,
        (λ same. true≢false (sym ((signed_Decides p.1 (pos 0)).1 same) ∙ small.1)),
        (row_tested (may_combine frame earlier) last p.0 clean.1.0).1,
      ),
      combined_each frame earlier p.0 ps clean.1.1.1.1,
    )

-- each cut without a fault
abbrev pub AreFineCuts : Frame → ℕ → List Cut → Type 0
AreFineCuts frame earlier [] = Unit {0}
AreFineCuts frame earlier (cut ∷ cuts) = IsFineCut frame earlier cut × AreFineCuts frame (earlier + 1) cuts

-- the cuts of faultless lines
pub fine_cuts : (frame : Frame) (earlier : ℕ) (cuts : List Cut) → AreClean (cut_lines frame earlier cuts) → AreFineCuts frame earlier cuts
fine_cuts frame earlier [] clean = tt
fine_cuts frame earlier (cut ∷ cuts) clean =
    let pairs = pairs_behind (may_combine frame earlier) (2 ^ 20) [] 0 cut.pairs in
    let rest : List Token = LineEnd None ∷ cut_lines frame (earlier + 1) cuts in
    let first = divisor_small earlier cut.divisor clean.1.0 in
    let both = clean.1.1.1.1 in
    let rows = clean_front pairs rest both in (
      record { few = first.0; divisor = first.1; divides = first.2; up = pairs_ascend (may_combine frame earlier) (2 ^ 20) [] 0 cut.pairs rows; each = combined_each frame earlier 0 cut.pairs rows },
      fine_cuts frame (earlier + 1) cuts (clean_back pairs rest both).1,
    )

-- they are few
pub cuts_few : (frame : Frame) (earlier : ℕ) (cuts : List Cut) → earlier ≤ 256 → AreFineCuts frame earlier cuts → earlier + length cuts ≤ 256
cuts_few frame earlier [] few fine = omega (arith, few)
cuts_few frame earlier (cut ∷ cuts) few fine = omega (arith, cuts_few frame (earlier + 1) cuts (omega (arith, fine.0.few)) fine.1)

-- the cuts of a faultless certificate
pub cuts_clean : (frame : Frame) (version : Version) (c : Cert) → AreClean (tokens_of frame version c) → AreClean (cut_lines frame 0 c.cuts)
cuts_clean frame version c clean =
    let claim = claim_lines frame c.claim in
    let cuts = cut_lines frame 0 c.cuts in
    let tree = tree_lines frame version (length c.cuts) 0 [] c.tree in
    let end : List Token = Words (codes "end") ∷ LineEnd None ∷ [] in
    clean_back claim cuts (clean_front (claim ++ cuts) tree (clean_front ((claim ++ cuts) ++ tree) end clean.1.1.1))
