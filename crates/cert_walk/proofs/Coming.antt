-- Lines of a tree, one behind another.
use Rattle.std.proofs.Common.{◌≡◌, List, [], ◌∷◌, ◌++◌, map, Some, None, refl, sym, ap, ◌∙◌, append_assoc}
use Rattle.bp_theory.specs.Trees.{Tree, split, low_part, high_part}
use Rattle.bp_theory.specs.Judgement.{split_line, tree_lines}
use Rattle.bp_theory.specs.declared.Span.{Span}
use Rattle.cert_format.specs.Cert as texts
use Rattle.cert_format.specs.Written.{written_tree}
use Rattle.cert_parser.specs.Readers as readers
use Rattle.cert_walk.specs.Turns.{Turn, to_low, to_high, zone_of, lines_before, turns_behind, root_behind, wait_of}

pub lines_come : (spans : List Span) (ts : List Turn) (t : Tree) → root_behind ts t ≡ None → lines_before spans (turns_behind ts t) ≡ lines_before spans ts ++ tree_lines t (zone_of spans ts)
lines_come spans [] t none = absurd (cc)
lines_come spans (to_low v at ∷ ts) t none =
    let zone = zone_of spans ts in
    sym (append_assoc (lines_before spans ts) (split_line zone v at ∷ []) (tree_lines t (low_part zone v at)))
lines_come spans (to_high v at low ∷ ts) t none =
    let zone = zone_of spans ts in
    lines_come spans ts (split v at low t) none
    ∙ sym (append_assoc (lines_before spans ts) (split_line zone v at ∷ tree_lines low (low_part zone v at)) (tree_lines t (high_part zone v at)))

pub roots_come : (spans : List Span) (ts : List Turn) (t root : Tree) → root_behind ts t ≡ Some root → lines_before spans ts ++ tree_lines t (zone_of spans ts) ≡ tree_lines root spans
roots_come spans [] t root is = let same : t ≡ root = cc in ap (λ (x : Tree). tree_lines x spans) same
roots_come spans (to_low v at ∷ ts) t root is = absurd (cc)
roots_come spans (to_high v at low ∷ ts) t root is =
    let zone = zone_of spans ts in
    append_assoc (lines_before spans ts) (split_line zone v at ∷ tree_lines low (low_part zone v at)) (tree_lines t (high_part zone v at))
    ∙ roots_come spans ts (split v at low t) root is

pub waits_are_turns : (ts : List Turn) (t : Tree) → readers.waits_behind (map wait_of ts) (written_tree t) ≡ map wait_of (turns_behind ts t)
waits_are_turns [] t = refl
waits_are_turns (to_low v at ∷ ts) t = refl
waits_are_turns (to_high v at low ∷ ts) t = waits_are_turns ts (split v at low t)

pub root_stays : (ts : List Turn) (t : Tree) (root : texts.Tree) → root_behind ts t ≡ None → readers.root_behind (map wait_of ts) root (written_tree t) ≡ root
root_stays [] t root none = absurd (cc)
root_stays (to_low v at ∷ ts) t root none = refl
root_stays (to_high v at low ∷ ts) t root none = root_stays ts (split v at low t) root none

pub root_is_read : (ts : List Turn) (t whole : Tree) (root : texts.Tree) → root_behind ts t ≡ Some whole → readers.root_behind (map wait_of ts) root (written_tree t) ≡ written_tree whole
root_is_read [] t whole root is = let same : t ≡ whole = cc in ap written_tree same
root_is_read (to_low v at ∷ ts) t whole root is = absurd (cc)
root_is_read (to_high v at low ∷ ts) t whole root is = root_is_read ts (split v at low t) whole root is
