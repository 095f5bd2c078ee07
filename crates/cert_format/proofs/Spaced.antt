-- No number of a certificate's text has a digit behind it.
use Rattle.std.proofs.Common.{ℕ, ◌+◌, ◌^◌, ◌≤◌, List, [], ◌∷◌, ◌++◌, length, codes, Option, None, ℤ, arith, append_assoc, Bool}
use Rattle.cert_format.specs.Cert.{Picked, Every, These, Proof, Tree, Shut, Open, Split, Claim, Optimal, Infeasible, Bound, BoundValue, Cut, Cert, Frame}
use Rattle.cert_format.specs.Text.{Kind, value_fault, Token, Words, Figure, LineEnd, text_of, Version, One, Two, Three, point_values, claim_lines, may_name, may_combine, pairs_behind, blocks_behind, picked_words, pairs_word, leaf_line, tree_lines, cut_lines, tokens_of, kept_behind}
use Rattle.cert_format.specs.Fault.{EndsNumber, EndsToken}

-- each token ends where the next one begins
unfoldable pub AreSpaced : List Token → Type 0
AreSpaced [] = Unit {0}
AreSpaced (token ∷ tokens) = EndsToken token (text_of tokens) × AreSpaced tokens

-- the same, and a number may stand before them
abbrev pub MayFollowNumber : List Token → Type 0
MayFollowNumber tokens = AreSpaced tokens × EndsNumber (text_of tokens)

put_words : (bytes : List ℕ) (u : List Token) → AreSpaced u → AreSpaced (Words bytes ∷ u)
unfolding AreSpaced
put_words bytes u more = (tt, more)

put_end : (f : Option Kind) (u : List Token) → AreSpaced u → AreSpaced (LineEnd f ∷ u)
unfolding AreSpaced
put_end f u more = (tt, more)

put_figure : (z : ℤ) (f : Option Kind) (u : List Token) → MayFollowNumber u → AreSpaced (Figure z f ∷ u)
unfolding AreSpaced
put_figure z f u more = (more.1, more.0)

put_nothing : AreSpaced []
unfolding AreSpaced
put_nothing = tt

-- a space or a line's end goes on with no number
after_space : 48 ≤ 32 → 32 ≤ 57 → ⊥
after_space low high = omega arith

after_line : 48 ≤ 10 → 10 ≤ 57 → ⊥
after_line low high = omega arith

points_spaced : (frame : Frame) (number : ℕ) (zs : List ℤ) (u : List Token) → AreSpaced u → MayFollowNumber (point_values frame number zs ++ u)
points_spaced frame number [] u more = (put_end _ u more, after_line)
points_spaced frame number (z ∷ zs) u more = (put_words _ _ (put_figure _ _ _ (points_spaced frame (number + 1) zs u more)), after_space)

pairs_spaced : (named : ℕ → Bool) (limit : ℕ) (had : List (ℕ × ℤ)) (last : ℕ) (ps : List (ℕ × ℤ)) (u : List Token) → MayFollowNumber u → MayFollowNumber (pairs_behind named limit had last ps ++ u)
pairs_spaced named limit had last [] u more = more
pairs_spaced named limit had last (p ∷ ps) u more =
    let second : MayFollowNumber (Words (codes " ") ∷ Figure p.1 _ ∷ (pairs_behind named limit had p.0 ps ++ u)) = (put_words _ _ (put_figure _ _ _ (pairs_spaced named limit had p.0 ps u more)), after_space) in
    (put_words _ _ (put_figure _ _ _ second), after_space)

blocks_spaced : (frame : Frame) (last : ℕ) (ks : List ℕ) (u : List Token) → MayFollowNumber u → MayFollowNumber (blocks_behind frame last ks ++ u)
blocks_spaced frame last [] u more = more
blocks_spaced frame last (k ∷ ks) u more = (put_words _ _ (put_figure _ _ _ (blocks_spaced frame k ks u more)), after_space)

picked_spaced : (frame : Frame) (picked : Picked) (u : List Token) → MayFollowNumber u → AreSpaced (picked_words frame picked ++ u)
picked_spaced frame Every u more = put_words _ u more.0
picked_spaced frame (These ks) u more = put_figure _ _ _ (blocks_spaced frame 0 ks u more)

word_spaced : (version : Version) (rest : List ℕ) → EndsNumber (pairs_word version ++ rest)
word_spaced One rest = after_space
word_spaced Two rest = after_space
word_spaced Three rest = after_space

leaf_spaced : (frame : Frame) (version : Version) (cuts depth : ℕ) (had : List (ℕ × ℤ)) (p : Proof) (u : List Token) → AreSpaced u → AreSpaced (leaf_line frame version cuts depth had p ++ u)
leaf_spaced frame version cuts depth had p u more =
    let end : MayFollowNumber (LineEnd None ∷ u) = (put_end None u more, after_line) in
    let picked : MayFollowNumber (Words (codes " priced ") ∷ (picked_words frame p.picked ++ LineEnd None ∷ u)) = (put_words _ _ (picked_spaced frame p.picked (LineEnd None ∷ u) end), after_space) in
    let pairs = pairs_spaced (may_name frame cuts) (2 ^ 40) had 0 p.pairs _ picked in
    simp append_assoc (put_figure _ _ _ (put_words _ _ (put_figure _ _ _ pairs), word_spaced version _))

tree_spaced : (frame : Frame) (version : Version) (cuts depth : ℕ) (had : List (ℕ × ℤ)) (t : Tree) (u : List Token) → AreSpaced u → AreSpaced (tree_lines frame version cuts depth had t ++ u)
tree_spaced frame version cuts depth had (Shut p) u more = put_words _ _ (leaf_spaced frame version cuts depth had p u more)
tree_spaced frame version cuts depth had (Open p) u more = put_words _ _ (leaf_spaced frame version cuts depth had p u more)
tree_spaced frame version cuts depth had (Split i z low high) u more =
    let right = tree_spaced frame version cuts (depth + 1) (kept_behind version had low) high u more in
    let left = tree_spaced frame version cuts (depth + 1) had low _ right in
    simp append_assoc (put_words _ _ (put_figure _ _ _ (put_words _ _ (put_figure _ _ _ (put_end _ _ left, after_line)), after_space)))

cuts_spaced : (frame : Frame) (earlier : ℕ) (cs : List Cut) (u : List Token) → AreSpaced u → AreSpaced (cut_lines frame earlier cs ++ u)
cuts_spaced frame earlier [] u more = more
cuts_spaced frame earlier (c ∷ cs) u more =
    let end : MayFollowNumber (LineEnd None ∷ (cut_lines frame (earlier + 1) cs ++ u)) = (put_end _ _ (cuts_spaced frame (earlier + 1) cs u more), after_line) in
    let pairs = pairs_spaced (may_combine frame earlier) (2 ^ 20) [] 0 c.pairs _ end in
    simp append_assoc (put_words _ _ (put_figure _ _ _ (put_words _ _ (put_figure _ _ _ pairs), after_space)))

claim_spaced : (frame : Frame) (a : Claim) (u : List Token) → AreSpaced u → AreSpaced (claim_lines frame a ++ u)
claim_spaced frame (Optimal z zs) u more = let rest = points_spaced frame 1 zs u more in put_words _ _ (put_words _ _ (put_figure _ _ _ (put_end _ _ (put_words _ _ rest.0), after_line)))
claim_spaced frame Infeasible u more = put_words _ _ (put_words _ _ (put_end _ _ more))
claim_spaced frame (Bound z) u more = put_words _ _ (put_words _ _ (put_figure _ _ _ (put_end _ _ more, after_line)))
claim_spaced frame (BoundValue y z zs) u more =
    let rest = points_spaced frame 1 zs u more in
    let second : AreSpaced (Figure z (value_fault z) ∷ LineEnd None ∷ Words (codes "point") ∷ (point_values frame 1 zs ++ u)) = put_figure _ _ _ (put_end _ _ (put_words _ _ rest.0), after_line) in
    put_words _ _ (put_words _ _ (put_figure _ _ _ (put_words _ _ second, after_space)))

pub tokens_spaced : (frame : Frame) (version : Version) (c : Cert) → AreSpaced (tokens_of frame version c)
tokens_spaced frame version c =
    let end : AreSpaced (Words (codes "end") ∷ LineEnd None ∷ []) = put_words _ _ (put_end _ _ put_nothing) in
    let tree = tree_spaced frame version (length c.cuts) 0 [] c.tree _ end in
    let cuts = cuts_spaced frame 0 c.cuts _ tree in
    let claim = claim_spaced frame c.claim _ cuts in
    simp append_assoc (put_words _ _ (put_words _ _ (put_end _ _ claim)))
