-- A walk over a certificate's tree, step by step.
use Rattle.std.proofs.Common.{◌≡◌, refl, sym, ap, subst, ◌∙◌, ℕ, zero, suc, ◌+◌, ◌<◌, ◌^◌, List, [], ◌∷◌, ◌++◌, length, set, map, Option, Some, Result, Ok, Err, arith, append_assoc, append-nil, length-append}
use Rattle.std.proofs.Math.IntN.{ℤ, pos, ◌+ℤ◌}
use Rattle.std.proofs.Math.ListN.{length-set}
use Rattle.std.proofs.lemmas.Int.{ints}
use Rattle.std.specs.Prelude.{◌<ℤ◌, ◌≤ℤ◌}
use Rattle.std.specs.List.{AllByRecursion}
use Rattle.bp_theory.specs.Program.{Program, span_at}
use Rattle.bp_theory.specs.Blocking.{Blocking}
use Rattle.bp_theory.specs.Trees.{Tree, shut_leaf, open_leaf, split, low_part, high_part, IsSoundSplit, IsZone}
use Rattle.bp_theory.specs.Judgement.{Line, split_line, tree_lines, Passes}
use Rattle.bp_theory.specs.declared.Span.{Span}
use Rattle.bp_theory.specs.declared.Claim.{Claim}
use Rattle.bp_theory.specs.declared.CheckKind.{CheckKind}
use Rattle.bp_theory.specs.declared.CheckKind.TheVariants.{Split}
use Rattle.open_nodes.proofs.Ahead.{next_ahead, first_ahead}
use Rattle.cert_line_check.specs.Judging.{ProofsFit, IsLeft, IsEnd, JudgesLines}
use Rattle.cert_line_check.specs.Steps.{Step, node, to_high, back, step_of, steps_of, moves, turned, lines_ahead, zone_behind, MayJudge, IsJudging, JudgesNode}
use Rattle.cert_line_check.specs.declared.ahead.Ahead.{Ahead}
use Rattle.cert_line_check.specs.declared.place.NodePlace.{NodePlace}
use Rattle.cert_line_check.specs.declared.place.Stop.{Stop}
use Rattle.cert_line_check.proofs.LineVisits.{nothing_spent, split_left, both_left}
use Rattle.cert_line_check.proofs.Lines.{both_all, high_is, back_is, low_zone, high_zone, split_end}

-- ---- the list of steps

pub next_step : (all rest : List Ahead) (here : Ahead) → all ≡ rest ++ here ∷ [] → steps_of all ≡ step_of here ∷ steps_of rest
next_step all rest here is = ap (map step_of) (next_ahead all rest here is)

pub first_step : (none all : List Ahead) (here : Ahead) → none ≡ [] → all ≡ none ++ here ∷ [] → steps_of all ≡ step_of here ∷ []
first_step none all here none_is is = ap (map step_of) (first_ahead none all here none_is is)

pub no_step : (all : List Ahead) → all ≡ [] → steps_of all ≡ []
no_step all is = ap steps_of is

-- ---- a sound split

-- its variable is there, since the span of none is 0 to 0
pub split_there : (zone : List Span) (v : ℕ) (at : ℤ) → IsSoundSplit zone v at → v < length zone
split_there [] v at sound = let above = sound.above in let below = sound.below in absurd (omega (arith, ints, above, below))
split_there (s ∷ zone) zero at sound = omega arith
split_there (s ∷ zone) (suc v) at sound = omega (arith, split_there zone v at (record { above = sound.above; below = sound.below }))

-- and its span is proper
pub split_proper : (zone : List Span) (v : ℕ) (at : ℤ) (span : Span) → IsSoundSplit zone v at → span ≡ span_at zone v → (at <ℤ span.hi) × (span.lo ≤ℤ span.hi)
split_proper zone v at span sound is = subst (λ (s : Span). (at <ℤ s.hi) × (s.lo ≤ℤ s.hi)) (sym is) (sound.below, through (span_at zone v).lo at (span_at zone v).hi sound.above sound.below)
  where
    through : (x y z : ℤ) → x ≤ℤ y → y <ℤ z → x ≤ℤ z
    through x y z l m = omega (arith, ints, l, m)

-- a node takes some moves
pub fewer_moves : (t : Tree) (rest : List Step) → moves rest < moves (node t ∷ rest)
fewer_moves (shut_leaf proof) rest = omega arith
fewer_moves (open_leaf proof) rest = omega arith
fewer_moves (split v at low high) rest = omega arith

-- ---- what has been judged

module _ (p : Program) (b : Blocking) (claim : Claim) where
  pub begins_judging : (t : Tree) (first : NodePlace) (ahead : List Step) → ahead ≡ node t ∷ [] → IsZone p.spans first.zone → ProofsFit b t
      → IsJudging p b claim (tree_lines t first.zone) first.zone first ahead first
  begins_judging t first ahead is zone fits = subst (λ (s : List Step). IsJudging p b claim (tree_lines t first.zone) first.zone first s first) (sym is) (record {
    passed = [];
    parts = sym (append-nil (tree_lines t first.zone));
    all_pass = tt;
    line = omega arith;
    is_left = nothing_spent p.spans b first.left;
    zone = refl;
    may = (zone, fits, tt);
  })

  pub judged_on : (lines : List Line) (last : List Span) (first at now : NodePlace) (ahead left : List Step) → IsJudging p b claim lines last first ahead at
      → IsJudging p b claim (lines_ahead ahead at.zone) (zone_behind ahead at.zone) at left now → IsJudging p b claim lines last first left now
  judged_on lines last first at now ahead left one two = record {
    passed = one.passed ++ two.passed;
    parts = one.parts ∙ ap (λ (l : List Line). one.passed ++ l) two.parts ∙ sym (append_assoc one.passed two.passed (lines_ahead left now.zone));
    all_pass = both_all (Passes p b claim) one.passed two.passed one.all_pass two.all_pass;
    line = omega (arith, one.line, two.line, length-append one.passed two.passed);
    is_left = both_left p.spans b one.passed two.passed first.left at.left now.left one.is_left two.is_left;
    zone = two.zone ∙ one.zone;
    may = two.may;
  }

  pub judged_end : (lines : List Line) (last : List Span) (first at : NodePlace) (ahead : List Step) (number : ℕ) (fault : Option CheckKind)
      → IsJudging p b claim lines last first ahead at → IsEnd p b claim (lines_ahead ahead at.zone) at.left at.line number fault
      → IsEnd p b claim lines first.left first.line number fault
  judged_end lines last first at ahead number fault one found = record {
    before = one.passed ++ found.before;
    line = found.line;
    after = found.after;
    parts = one.parts ∙ ap (λ (l : List Line). one.passed ++ l) found.parts ∙ sym (append_assoc one.passed found.before (found.line ∷ found.after));
    passed = both_all (Passes p b claim) one.passed found.before one.all_pass found.passed;
    now = found.now;
    is_left = both_left p.spans b one.passed found.before first.left at.left found.now one.is_left found.is_left;
    ends = found.ends;
    numbered = omega (arith, one.line, found.numbered, length-append one.passed found.before);
  }

  pub all_judged : (lines : List Line) (first at : NodePlace) (ahead : List Step) → ahead ≡ [] → IsJudging p b claim lines first.zone first ahead at
      → JudgesLines p b claim lines first (Ok at)
  all_judged lines first at ahead none h = by (subst (λ (s : List Step). IsJudging p b claim lines first.zone first s at) none h)
    where
      by : IsJudging p b claim lines first.zone first [] at → JudgesLines p b claim lines first (Ok at)
      by k =
          let all : k.passed ≡ lines = sym (append-nil k.passed) ∙ sym k.parts in (
            k.zone,
            k.line ∙ ap (λ (l : List Line). first.line + length l) all,
            subst (λ (l : List Line). AllByRecursion (Passes p b claim) l) all k.all_pass,
            subst (λ (l : List Line). IsLeft p.spans b l first.left at.left) all k.is_left,
          )

  -- the lines that are left are few where all are
  pub few_left : (lines : List Line) (last : List Span) (first at : NodePlace) (ahead : List Step) → IsJudging p b claim lines last first ahead at
      → first.line + length lines < 2 ^ 64 → at.line + length (lines_ahead ahead at.zone) < 2 ^ 64
  few_left lines last first at ahead h few =
      omega (arith, h.line, few, ap length h.parts, length-append h.passed (lines_ahead ahead at.zone))

  -- the zone alone is changed
  moved_judging : (lines : List Line) (last zone : List Span) (first at now : NodePlace) (left : List Step) (passed : List Line)
      → lines ≡ passed ++ lines_ahead left zone → AllByRecursion (Passes p b claim) passed → at.line ≡ first.line + length passed
      → IsLeft p.spans b passed first.left at.left → zone_behind left zone ≡ last → MayJudge p.spans b left zone
      → now.zone ≡ zone → now.line ≡ at.line → now.left ≡ at.left → IsJudging p b claim lines last first left now
  moved_judging lines last zone first at now left passed parts all_pass line is_left behind may zone_is line_is left_is = record {
    passed = passed;
    parts = parts ∙ ap (λ (z : List Span). passed ++ lines_ahead left z) (sym zone_is);
    all_pass = all_pass;
    line = line_is ∙ line;
    is_left = subst (λ (o : Option ℕ). IsLeft p.spans b passed first.left o) (sym left_is) is_left;
    zone = ap (λ (z : List Span). zone_behind left z) zone_is ∙ behind;
    may = subst (λ (z : List Span). MayJudge p.spans b left z) (sym zone_is) may;
  }

  pub turns_high : (lines : List Line) (last : List Span) (first at now : NodePlace) (ahead left : List Step) (v : ℕ) (s : ℤ) (span : Span)
      → IsJudging p b claim lines last first ahead at → ahead ≡ to_high v s span ∷ left
      → now.zone ≡ turned at.zone v s span → now.line ≡ at.line → now.left ≡ at.left → IsJudging p b claim lines last first left now
  turns_high lines last first at now ahead left v s span h is zone_is line_is left_is = by (subst (λ (l : List Step). IsJudging p b claim lines last first l at) is h)
    where
      by : IsJudging p b claim lines last first (to_high v s span ∷ left) at → IsJudging p b claim lines last first left now
      by k = moved_judging lines last (turned at.zone v s span) first at now left k.passed k.parts k.all_pass k.line k.is_left k.zone k.may.2 zone_is line_is left_is

  pub goes_back : (lines : List Line) (last : List Span) (first at now : NodePlace) (ahead left : List Step) (v : ℕ) (span : Span)
      → IsJudging p b claim lines last first ahead at → ahead ≡ back v span ∷ left
      → now.zone ≡ set at.zone v span → now.line ≡ at.line → now.left ≡ at.left → IsJudging p b claim lines last first left now
  goes_back lines last first at now ahead left v span h is zone_is line_is left_is = by (subst (λ (l : List Step). IsJudging p b claim lines last first l at) is h)
    where
      by : IsJudging p b claim lines last first (back v span ∷ left) at → IsJudging p b claim lines last first left now
      by k = moved_judging lines last (set at.zone v span) first at now left k.passed k.parts k.all_pass k.line k.is_left k.zone k.may.2 zone_is line_is left_is

  -- what the steps that come next ask
  pub may_turn : (ahead left : List Step) (zone : List Span) (v : ℕ) (s : ℤ) (span : Span) → MayJudge p.spans b ahead zone → ahead ≡ to_high v s span ∷ left
      → (v < length zone) × (s <ℤ span.hi)
  may_turn ahead left zone v s span may is = by (subst (λ (l : List Step). MayJudge p.spans b l zone) is may)
    where
      by : MayJudge p.spans b (to_high v s span ∷ left) zone → (v < length zone) × (s <ℤ span.hi)
      by k = (k.0, k.1)

  pub may_go_back : (ahead left : List Step) (zone : List Span) (v : ℕ) (span : Span) → MayJudge p.spans b ahead zone → ahead ≡ back v span ∷ left
      → (v < length zone) × (span.lo ≤ℤ span.hi)
  may_go_back ahead left zone v span may is = by (subst (λ (l : List Step). MayJudge p.spans b l zone) is may)
    where
      by : MayJudge p.spans b (back v span ∷ left) zone → (v < length zone) × (span.lo ≤ℤ span.hi)
      by k = (k.0, k.1)

  -- ---- a node

  -- the lines of a whole node pass
  node_passes : (t : Tree) (rest : List Step) (at now : NodePlace) → JudgesLines p b claim (tree_lines t at.zone) at (Ok now) → MayJudge p.spans b (node t ∷ rest) at.zone
      → JudgesNode p b claim (node t ∷ rest) at rest (Ok now)
  node_passes t rest at now judged may = (
    record {
      passed = tree_lines t at.zone;
      parts = ap (λ (z : List Span). tree_lines t at.zone ++ lines_ahead rest z) (sym judged.0);
      all_pass = judged.2;
      line = judged.1;
      is_left = judged.3;
      zone = ap (λ (z : List Span). zone_behind rest z) judged.0;
      may = subst (λ (z : List Span). MayJudge p.spans b rest z) (sym judged.0) may.2;
    },
    fewer_moves t rest,
  )

  -- a node's lines end the walk
  node_ends : (t : Tree) (rest left : List Step) (at : NodePlace) (found : Stop) → IsEnd p b claim (tree_lines t at.zone) at.left at.line found.line found.fault
      → JudgesNode p b claim (node t ∷ rest) at left (Err found)
  node_ends t rest left at found end = record {
    before = end.before;
    line = end.line;
    after = end.after ++ lines_ahead rest at.zone;
    parts = ap (λ (l : List Line). l ++ lines_ahead rest at.zone) end.parts ∙ append_assoc end.before (end.line ∷ end.after) (lines_ahead rest at.zone);
    passed = end.passed;
    now = end.now;
    is_left = end.is_left;
    ends = end.ends;
    numbered = end.numbered;
  }

  -- a leaf's line passes or ends the walk
  node_judged : (t : Tree) (rest left : List Step) (at : NodePlace) (r : Result NodePlace Stop) → left ≡ rest → JudgesLines p b claim (tree_lines t at.zone) at r
      → MayJudge p.spans b (node t ∷ rest) at.zone → JudgesNode p b claim (node t ∷ rest) at left r
  node_judged t rest left at r same judged may = subst (λ (l : List Step). JudgesNode p b claim (node t ∷ rest) at l r) (sym same) (by r judged)
    where
      by : (r : Result NodePlace Stop) → JudgesLines p b claim (tree_lines t at.zone) at r → JudgesNode p b claim (node t ∷ rest) at rest r
      by (Ok now) judged = node_passes t rest at now judged may
      by (Err found) judged = node_ends t rest rest at found judged

  pub leaf_judged : (t u : Tree) (rest left : List Step) (at : NodePlace) (r : Result NodePlace Stop) (line : Line) → t ≡ u → tree_lines u at.zone ≡ line ∷ [] → left ≡ rest
      → JudgesLines p b claim (line ∷ []) at r → MayJudge p.spans b (node t ∷ rest) at.zone → JudgesNode p b claim (node t ∷ rest) at left r
  leaf_judged t u rest left at r line is one same judged may =
      node_judged t rest left at r same
      (subst (λ (l : List Line). JudgesLines p b claim l at r) (sym one ∙ ap (λ (x : Tree). tree_lines x at.zone) (sym is)) judged) may

  pub split_unsound : (t low high : Tree) (rest left : List Step) (at : NodePlace) (v : ℕ) (s : ℤ) (found : Stop) → t ≡ split v s low high
      → (IsSoundSplit at.zone v s → ⊥) → found.line ≡ at.line → found.fault ≡ Some Split → JudgesNode p b claim (node t ∷ rest) at left (Err found)
  split_unsound t low high rest left at v s found is none line fault =
      node_ends t rest left at found
      (subst (λ (n : ℕ). IsEnd p b claim (tree_lines t at.zone) at.left at.line n found.fault) (sym line)
      (subst (λ (f : Option CheckKind). IsEnd p b claim (tree_lines t at.zone) at.left at.line at.line f) (sym fault)
      (split_end p b claim t at.zone v s low high at.left at.line is none)))

  -- the parts of a sound split are still to come
  abbrev parts_of : ℕ → ℤ → Span → (low high : Tree) → List Step → List Step
  parts_of v s span low high rest = node low ∷ to_high v s span ∷ node high ∷ back v span ∷ rest

  split_parts : (low high : Tree) (rest : List Step) (at now : NodePlace) (v : ℕ) (s : ℤ) (span : Span)
      → IsSoundSplit at.zone v s → span ≡ span_at at.zone v → MayJudge p.spans b (node (split v s low high) ∷ rest) at.zone
      → now.zone ≡ low_part at.zone v s → now.line ≡ at.line + 1 → now.left ≡ at.left
      → JudgesNode p b claim (node (split v s low high) ∷ rest) at (parts_of v s span low high rest) (Ok now)
  split_parts low high rest at now v s span sound span_is may zone_is line_is left_is = (
    record {
      passed = split_line at.zone v s ∷ [];
      parts = ap (λ (l : List Line). split_line at.zone v s ∷ l) parts;
      all_pass = (sound, tt);
      line = line_is;
      is_left = subst (λ (o : Option ℕ). IsLeft p.spans b (split_line at.zone v s ∷ []) at.left o) (sym left_is)
          (split_left p.spans b at.zone v s [] at.left at.left (nothing_spent p.spans b at.left));
      zone = ap (λ (z : List Span). zone_behind rest z) behind;
      may = (
        low_zone p.spans at.zone now.zone v s sound zone_is may.0,
        may.1.0,
        (
          there now.zone long,
          proper.0,
          (
            high_zone p.spans at.zone (turned now.zone v s span) v s sound high_part_is may.0,
            may.1.1,
            (
              there (turned now.zone v s span) (length-set now.zone v (record { lo = s +ℤ pos 1; hi = span.hi }) ∙ long),
              proper.1,
              subst (λ (z : List Span). MayJudge p.spans b rest z) (sym behind) may.2,
            ),
          ),
        ),
      );
    },
    omega arith,
  )
    where
      high_part_is : turned now.zone v s span ≡ high_part at.zone v s
      high_part_is = high_is at.zone now.zone (turned now.zone v s span) v s span span_is zone_is refl

      behind : set (turned now.zone v s span) v span ≡ at.zone
      behind = back_is at.zone (turned now.zone v s span) (set (turned now.zone v s span) v span) v s span span_is high_part_is refl

      proper : (s <ℤ span.hi) × (span.lo ≤ℤ span.hi)
      proper = split_proper at.zone v s span sound span_is

      long : length now.zone ≡ length at.zone
      long = ap (λ (z : List Span). length z) zone_is ∙ length-set at.zone v (record { lo = (span_at at.zone v).lo; hi = s })

      there : (zone : List Span) → length zone ≡ length at.zone → v < length zone
      there zone same = omega (arith, same, split_there at.zone v s sound)

      L : List Line
      L = tree_lines low (low_part at.zone v s)

      H : List Line
      H = tree_lines high (high_part at.zone v s)

      parts : (L ++ H) ++ lines_ahead rest at.zone
          ≡ tree_lines low now.zone ++ (tree_lines high (turned now.zone v s span) ++ lines_ahead rest (set (turned now.zone v s span) v span))
      parts =
          append_assoc L H (lines_ahead rest at.zone)
          ∙ ap (λ (z : List Span). tree_lines low z ++ (H ++ lines_ahead rest at.zone)) (sym zone_is)
          ∙ ap (λ (z : List Span). tree_lines low now.zone ++ (tree_lines high z ++ lines_ahead rest at.zone)) (sym high_part_is)
          ∙ ap (λ (z : List Span). tree_lines low now.zone ++ (tree_lines high (turned now.zone v s span) ++ lines_ahead rest z)) (sym behind)

  pub split_judged : (t low high : Tree) (rest left : List Step) (at now : NodePlace) (v : ℕ) (s : ℤ) (span : Span) → t ≡ split v s low high
      → left ≡ parts_of v s span low high rest → IsSoundSplit at.zone v s → span ≡ span_at at.zone v → MayJudge p.spans b (node t ∷ rest) at.zone
      → now.zone ≡ low_part at.zone v s → now.line ≡ at.line + 1 → now.left ≡ at.left
      → JudgesNode p b claim (node t ∷ rest) at left (Ok now)
  split_judged t low high rest left at now v s span is left_is sound span_is may zone_is line_is now_left =
      subst (λ (l : List Step). JudgesNode p b claim (node t ∷ rest) at l (Ok now)) (sym left_is)
      (subst (λ (x : Tree). JudgesNode p b claim (node x ∷ rest) at (parts_of v s span low high rest) (Ok now)) (sym is)
      (split_parts low high rest at now v s span sound span_is
      (subst (λ (x : Tree). MayJudge p.spans b (node x ∷ rest) at.zone) is may) zone_is line_is now_left))
