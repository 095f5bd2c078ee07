-- The text of a tree's lines, one by one.
use Rattle.std.proofs.Common.{◌≡◌, ◌∙◌, refl, sym, ap, ℕ, ℤ, List, [], ◌∷◌, ◌++◌, drop, Some, append_assoc, append-nil}
use Rattle.std.proofs.lemmas.Grind.{flat_map-append}
use Rattle.bp_theory.specs.Trees.{Tree, shut_leaf, open_leaf, split}
use Rattle.cert_format.specs.Text.{Version, Two}
use Rattle.cert_format.specs.Plain.{tree_text}
use Rattle.cert_format.specs.Preorder.{Line, split_line, line_of, node_lines, IsFirst}
use Rattle.cert_format.specs.declared.lines.NodeLine.{NodeLine}
use Rattle.cert_write.specs.Changes.{changing_nodes, last_mults}
use Rattle.cert_write.specs.LineTexts.{split_text, line_text, lines_text, changing_line, mults_behind, changing_lines, mults_after}

-- ---- all lines of a tree

-- they are its text
pub tree_lines : (version : Version) (t : Tree) → lines_text version (node_lines t) ≡ tree_text version t
tree_lines version (shut_leaf proof) = append-nil (tree_text version (shut_leaf proof))
tree_lines version (open_leaf proof) = append-nil (tree_text version (open_leaf proof))
tree_lines version (split v at low high) =
    let l : List ℕ = lines_text version (node_lines low) in
    let h : List ℕ = lines_text version (node_lines high) in
    ap (λ (xs : List ℕ). split_text v at ++ xs) (flat_map-append (line_text version) (node_lines low) (node_lines high)) ∙ sym (append_assoc (split_text v at) l h)
    ∙ ap (λ (xs : List ℕ). (split_text v at ++ xs) ++ h) (tree_lines version low) ∙ ap (λ (xs : List ℕ). (split_text v at ++ tree_text version low) ++ xs) (tree_lines version high)

-- the multipliers behind them are those of its last leaf
after_tree : (had : List (ℕ × ℤ)) (t : Tree) (rest : List Line) → mults_after had (node_lines t ++ rest) ≡ mults_after (last_mults t) rest
after_tree had (shut_leaf proof) rest = refl
after_tree had (open_leaf proof) rest = refl
after_tree had (split v at low high) rest =
    ap (mults_after had) (append_assoc (node_lines low) (node_lines high) rest) ∙ after_tree had low (node_lines high ++ rest) ∙ after_tree (last_mults low) high rest

pub last_after : (had : List (ℕ × ℤ)) (t : Tree) → mults_after had (node_lines t) ≡ last_mults t
last_after had t = ap (mults_after had) (sym (append-nil (node_lines t))) ∙ after_tree had t []

-- with their changes they are those of the tree with its changes
changes_behind : (had : List (ℕ × ℤ)) (t : Tree) (rest : List Line) → changing_lines had (node_lines t ++ rest) ≡ node_lines (changing_nodes had t) ++ changing_lines (last_mults t) rest
changes_behind had (shut_leaf proof) rest = refl
changes_behind had (open_leaf proof) rest = refl
changes_behind had (split v at low high) rest =
    let first : Line = changing_line had (split_line v at) in
    let l : List Line = node_lines (changing_nodes had low) in
    let h : List Line = node_lines (changing_nodes (last_mults low) high) in
    let end : List Line = changing_lines (last_mults high) rest in
    ap (λ (ls : List Line). first ∷ changing_lines had ls) (append_assoc (node_lines low) (node_lines high) rest)
    ∙ ap (λ (ls : List Line). first ∷ ls) (changes_behind had low (node_lines high ++ rest))
    ∙ ap (λ (ls : List Line). first ∷ (l ++ ls)) (changes_behind (last_mults low) high rest)
    ∙ ap (λ (ls : List Line). first ∷ ls) (sym (append_assoc l h end))

changes_of : (had : List (ℕ × ℤ)) (t : Tree) → changing_lines had (node_lines t) ≡ node_lines (changing_nodes had t)
changes_of had t = ap (changing_lines had) (sym (append-nil (node_lines t))) ∙ changes_behind had t [] ∙ append-nil (node_lines (changing_nodes had t))

-- and they are the text of the tree with its changes
pub tree_changes : (had : List (ℕ × ℤ)) (t : Tree) → lines_text Two (changing_lines had (node_lines t)) ≡ tree_text Two (changing_nodes had t)
tree_changes had t = ap (lines_text Two) (changes_of had t) ∙ tree_lines Two (changing_nodes had t)

-- ---- one line more

-- the line at hand in front of those behind it
pub one_more : (version : Version) (line : NodeLine) (lines next : List Line) (out more : List ℕ) → IsFirst (Some line) lines → next ≡ drop 1 lines → more ≡ out ++ line_text version (line_of line)
    → more ++ lines_text version next ≡ out ++ lines_text version lines
one_more version line lines next out more first behind put =
    let l : List ℕ = line_text version (line_of line) in
    ap (λ (ls : List Line). more ++ lines_text version ls) behind ∙ ap (λ (xs : List ℕ). xs ++ lines_text version (drop 1 lines)) put
    ∙ append_assoc out l (lines_text version (drop 1 lines)) ∙ ap (λ (ls : List Line). out ++ lines_text version ls) (sym first)

pub one_change : (line : NodeLine) (lines next : List Line) (had last : List (ℕ × ℤ)) (out more : List ℕ) → IsFirst (Some line) lines → next ≡ drop 1 lines → last ≡ mults_behind had (line_of line)
    → more ≡ out ++ line_text Two (changing_line had (line_of line)) → more ++ lines_text Two (changing_lines last next) ≡ out ++ lines_text Two (changing_lines had lines)
one_change line lines next had last out more first behind now put =
    let l : List ℕ = line_text Two (changing_line had (line_of line)) in
    let rest : List ℕ = lines_text Two (changing_lines (mults_behind had (line_of line)) (drop 1 lines)) in
    ap (λ (ls : List Line). more ++ lines_text Two (changing_lines last ls)) behind
    ∙ ap (λ (ms : List (ℕ × ℤ)). more ++ lines_text Two (changing_lines ms (drop 1 lines))) now
    ∙ ap (λ (xs : List ℕ). xs ++ rest) put ∙ append_assoc out l rest ∙ ap (λ (ls : List Line). out ++ lines_text Two (changing_lines had ls)) (sym first)

pub one_after : (line : NodeLine) (lines next : List Line) (had last : List (ℕ × ℤ)) → IsFirst (Some line) lines → next ≡ drop 1 lines → last ≡ mults_behind had (line_of line)
    → mults_after last next ≡ mults_after had lines
one_after line lines next had last first behind now =
    ap (mults_after last) behind ∙ ap (λ (ms : List (ℕ × ℤ)). mults_after ms (drop 1 lines)) now ∙ ap (mults_after had) (sym first)

-- ---- no line is left

pub all_lines : (version : Version) (lines left : List Line) (tree : Tree) (first out : List ℕ) → left ≡ [] → lines ≡ node_lines tree → out ++ lines_text version left ≡ first ++ lines_text version lines
    → out ≡ first ++ tree_text version tree
all_lines version lines left tree first out none is all =
    sym (append-nil out) ∙ ap (λ (ls : List Line). out ++ lines_text version ls) (sym none) ∙ all ∙ ap (λ (ls : List Line). first ++ lines_text version ls) is
    ∙ ap (λ (xs : List ℕ). first ++ xs) (tree_lines version tree)

pub all_changes : (lines left : List Line) (had last : List (ℕ × ℤ)) (tree : Tree) (first out : List ℕ) → left ≡ [] → lines ≡ node_lines tree
    → out ++ lines_text Two (changing_lines last left) ≡ first ++ lines_text Two (changing_lines had lines) → out ≡ first ++ tree_text Two (changing_nodes had tree)
all_changes lines left had last tree first out none is all =
    sym (append-nil out) ∙ ap (λ (ls : List Line). out ++ lines_text Two (changing_lines last ls)) (sym none) ∙ all
    ∙ ap (λ (ls : List Line). first ++ lines_text Two (changing_lines had ls)) is ∙ ap (λ (xs : List ℕ). first ++ xs) (tree_changes had tree)

pub all_after : (lines left : List Line) (had last : List (ℕ × ℤ)) (tree : Tree) → left ≡ [] → lines ≡ node_lines tree → mults_after last left ≡ mults_after had lines → last ≡ last_mults tree
all_after lines left had last tree none is all = ap (mults_after last) (sym none) ∙ all ∙ ap (mults_after had) is ∙ last_after had tree
