-- A walk that loads a certificate's tree, step by step.
use Rattle.std.proofs.Common.{◌≡◌, refl, sym, ap, subst, ◌∙◌, ℕ, ◌+◌, ◌-◌, ◌<◌, List, [], ◌∷◌, ◌++◌, length, set, Option, arith, append_assoc, append-nil}
use Rattle.std.proofs.Math.IntN.{ℤ}
use Rattle.std.proofs.Math.ListN.{length-set}
use Rattle.std.specs.Prelude.{◌<ℤ◌, ◌≤ℤ◌}
use Rattle.bp_theory.specs.Program.{span_at}
use Rattle.bp_theory.specs.Trees.{Tree, split, low_part}
use Rattle.bp_theory.specs.declared.Span.{Span}
use Rattle.block_program.specs.Blocked.{BlockedProgram}
use Rattle.search_laws.specs.Grove.{GrowingTree, fork}
use Rattle.open_nodes.specs.Nodes.{growing_nodes}
use Rattle.open_nodes.specs.declared.nodes.GrowingNode.{GrowingNode}
use Rattle.open_nodes.specs.declared.nodes.GrowingNode.TheVariants.{Split}
use Rattle.cert_line_check.specs.Steps.{Step, node, to_high, back, turned}
use Rattle.cert_line_check.proofs.Walking.{split_there, split_proper, fewer_moves}
use Rattle.tree_load.specs.Nodes.{MayLoad, IsLoadedNode}
use Rattle.tree_load.specs.Steps.{walk_high, walk_back, LoadsSteps, MayLoadSteps, LoadsNode}
use Rattle.tree_load.specs.declared.walk.Walk.{Walk}
use Rattle.tree_load.proofs.Descent.{may_low, may_high, loaded_fork, CanGoBack, can_go_back}

-- ---- walks

same_walk : (x y : Walk) → x.zone ≡ y.zone → x.depth ≡ y.depth → x.line ≡ y.line → x.deep ≡ y.deep → x ≡ y
same_walk x y zone depth line deep =
    ap (λ (z : List Span). record { zone = z; depth = x.depth; line = x.line; deep = x.deep }) zone
    ∙ ap (λ n. record { zone = y.zone; depth = n; line = x.line; deep = x.deep }) depth
    ∙ ap (λ n. record { zone = y.zone; depth = y.depth; line = n; deep = x.deep }) line
    ∙ ap (λ (o : Option ℕ). record { zone = y.zone; depth = y.depth; line = y.line; deep = o }) deep

-- ---- what has been loaded

-- these nodes, and those that the steps load, are those of a tree that is loaded from a place on
pub record IsLoading (b : BlockedProgram) (best : Option ℤ) (tree : Tree) (first : Walk) (nodes : List GrowingNode) (ahead : List Step) (at : Walk) : Type 0 where
  pub loads : (more : List GrowingNode) (end : Walk) → LoadsSteps b best ahead at more end
      → (u : GrowingTree) × IsLoadedNode b.named.program.limits b.blocking best first tree u end × (nodes ++ more ≡ growing_nodes u)
  pub may : MayLoadSteps b best ahead at

pub begins_loading : (b : BlockedProgram) (best : Option ℤ) (tree : Tree) (first : Walk) (nodes : List GrowingNode) (ahead : List Step) → nodes ≡ [] → ahead ≡ node tree ∷ []
    → MayLoad b best first tree → IsLoading b best tree first nodes ahead first
begins_loading b best tree first nodes ahead none one may =
    subst (λ (s : List Step). IsLoading b best tree first nodes s first) (sym one)
    (subst (λ (l : List GrowingNode). IsLoading b best tree first l (node tree ∷ []) first) (sym none)
    (record {
      loads = λ more end l. (
        l.0,
        subst (λ (w : Walk). IsLoadedNode b.named.program.limits b.blocking best first tree l.0 w) (sym l.5.1) l.3,
        l.4 ∙ ap (λ (k : List GrowingNode). growing_nodes l.0 ++ k) l.5.0 ∙ append-nil (growing_nodes l.0),
      );
      may = (may, λ u middle loaded. tt);
    }))

pub loaded_on : (b : BlockedProgram) (best : Option ℤ) (tree : Tree) (first at now : Walk) (nodes after : List GrowingNode) (n : GrowingNode) (all ahead left : List Step)
    → IsLoading b best tree first nodes all at → all ≡ ahead → LoadsNode b best ahead at n left now → after ≡ nodes ++ n ∷ [] → IsLoading b best tree first after left now
loaded_on b best tree first at now nodes after n all ahead left one same two after_is = record {
  loads = λ more end l.
      let k = one.loads (n ∷ more) end (subst (λ (s : List Step). LoadsSteps b best s at (n ∷ more) end) (sym same) (two.loads more end l)) in
      (k.0, k.1, ap (λ (x : List GrowingNode). x ++ more) after_is ∙ append_assoc nodes (n ∷ []) more ∙ k.2);
  may = two.may;
}

pub turns_high : (b : BlockedProgram) (best : Option ℤ) (tree : Tree) (first at now : Walk) (nodes : List GrowingNode) (ahead left : List Step) (v : ℕ) (s : ℤ) (span : Span)
    → IsLoading b best tree first nodes ahead at → ahead ≡ to_high v s span ∷ left
    → now.zone ≡ turned at.zone v s span → now.depth ≡ at.depth → now.line ≡ at.line → now.deep ≡ at.deep → IsLoading b best tree first nodes left now
turns_high b best tree first at now nodes ahead left v s span h is zone depth line deep =
    subst (λ (w : Walk). IsLoading b best tree first nodes left w) (sym (same_walk now (walk_high at v s span) zone depth line deep))
    (by (subst (λ (l : List Step). IsLoading b best tree first nodes l at) is h))
  where
    by : IsLoading b best tree first nodes (to_high v s span ∷ left) at → IsLoading b best tree first nodes left (walk_high at v s span)
    by k = record { loads = k.loads; may = k.may.2 }

pub goes_back : (b : BlockedProgram) (best : Option ℤ) (tree : Tree) (first at now : Walk) (nodes : List GrowingNode) (ahead left : List Step) (v : ℕ) (span : Span)
    → IsLoading b best tree first nodes ahead at → ahead ≡ back v span ∷ left
    → now.zone ≡ set at.zone v span → now.depth ≡ at.depth - 1 → now.line ≡ at.line → now.deep ≡ at.deep → IsLoading b best tree first nodes left now
goes_back b best tree first at now nodes ahead left v span h is zone depth line deep =
    subst (λ (w : Walk). IsLoading b best tree first nodes left w) (sym (same_walk now (walk_back at v span) zone depth line deep))
    (by (subst (λ (l : List Step). IsLoading b best tree first nodes l at) is h))
  where
    by : IsLoading b best tree first nodes (back v span ∷ left) at → IsLoading b best tree first nodes left (walk_back at v span)
    by k = record { loads = k.loads; may = k.may.3 }

pub may_turn : (b : BlockedProgram) (best : Option ℤ) (ahead left : List Step) (at : Walk) (v : ℕ) (s : ℤ) (span : Span) → MayLoadSteps b best ahead at → ahead ≡ to_high v s span ∷ left
    → (v < length at.zone) × (s <ℤ span.hi)
may_turn b best ahead left at v s span may is = by (subst (λ (l : List Step). MayLoadSteps b best l at) is may)
  where
    by : MayLoadSteps b best (to_high v s span ∷ left) at → (v < length at.zone) × (s <ℤ span.hi)
    by k = (k.0, k.1)

pub may_go_back : (b : BlockedProgram) (best : Option ℤ) (ahead left : List Step) (at : Walk) (v : ℕ) (span : Span) → MayLoadSteps b best ahead at → ahead ≡ back v span ∷ left
    → (v < length at.zone) × (span.lo ≤ℤ span.hi) × (0 < at.depth)
may_go_back b best ahead left at v span may is = by (subst (λ (l : List Step). MayLoadSteps b best l at) is may)
  where
    by : MayLoadSteps b best (back v span ∷ left) at → (v < length at.zone) × (span.lo ≤ℤ span.hi) × (0 < at.depth)
    by k = (k.0, k.1, k.2)

-- all is loaded where no steps are left
pub all_loaded : (b : BlockedProgram) (best : Option ℤ) (tree : Tree) (first at : Walk) (nodes : List GrowingNode) (ahead : List Step)
    → IsLoading b best tree first nodes ahead at → ahead ≡ []
    → (u : GrowingTree) × IsLoadedNode b.named.program.limits b.blocking best first tree u at × (nodes ≡ growing_nodes u)
all_loaded b best tree first at nodes ahead h none = by (subst (λ (l : List Step). IsLoading b best tree first nodes l at) none h)
  where
    by : IsLoading b best tree first nodes [] at → (u : GrowingTree) × IsLoadedNode b.named.program.limits b.blocking best first tree u at × (nodes ≡ growing_nodes u)
    by k =
        let r = k.loads [] at (refl, refl) in
        (r.0, r.1, sym (append-nil nodes) ∙ r.2)

-- a list of length 0 has no step
pub none_left : {X : Type 0} (xs : List X) → length xs ≡ 0 → xs ≡ []
none_left [] none = refl
none_left (x ∷ xs) none = absurd (omega (arith, none))

-- ---- a node

-- a leaf
pub leaf_loads : (b : BlockedProgram) (best : Option ℤ) (t : Tree) (rest left : List Step) (at now : Walk) (u : GrowingTree) (n : GrowingNode)
    → IsLoadedNode b.named.program.limits b.blocking best at t u now → growing_nodes u ≡ n ∷ [] → MayLoadSteps b best (node t ∷ rest) at → left ≡ rest
    → LoadsNode b best (node t ∷ rest) at n left now
leaf_loads b best t rest left at now u n loaded one may same = subst (λ (l : List Step). LoadsNode b best (node t ∷ rest) at n l now) (sym same) (record {
  loads = λ more end l. (u, now, more, loaded, sym (ap (λ (k : List GrowingNode). k ++ more) one), l);
  may = may.1 u now loaded;
  fewer = fewer_moves t rest;
})

-- what a sound split asks
pub may_split : (b : BlockedProgram) (best : Option ℤ) (t low high : Tree) (rest : List Step) (at : Walk) (v : ℕ) (s : ℤ) → t ≡ split v s low high
    → MayLoadSteps b best (node t ∷ rest) at → MayLoad b best at (split v s low high)
may_split b best t low high rest at v s is may = subst (λ (x : Tree). MayLoad b best at x) is may.0

abbrev Loaded : BlockedProgram → Option ℤ → Walk → Tree → GrowingTree → Walk → Type 0
Loaded b best from t u to = IsLoadedNode b.named.program.limits b.blocking best from t u to

-- a split, whose parts are still to come
split_parts : (b : BlockedProgram) (best : Option ℤ) (low high : Tree) (rest : List Step) (at below : Walk) (v : ℕ) (s : ℤ) (span : Span)
    → span ≡ span_at at.zone v → MayLoadSteps b best (node (split v s low high) ∷ rest) at
    → below.zone ≡ low_part at.zone v s → below.depth ≡ at.depth + 1 → below.line ≡ at.line + 1 → below.deep ≡ at.deep
    → LoadsNode b best (node (split v s low high) ∷ rest) at (Split v s) (node low ∷ to_high v s span ∷ node high ∷ back v span ∷ rest) below
split_parts b best low high rest at below v s span span_is may zone depth line deep = record {
  loads = λ more end l. (
    fork v s l.0 l.5.0,
    walk_back l.5.1 v span,
    l.5.2,
    loaded_by l.0 l.1 l.3 l.5.0 l.5.1 l.5.3,
    ap (λ (k : List GrowingNode). Split v s ∷ k)
        (l.4 ∙ ap (λ (k : List GrowingNode). growing_nodes l.0 ++ k) l.5.4 ∙ sym (append_assoc (growing_nodes l.0) (growing_nodes l.5.0) l.5.2)),
    l.5.5,
  );
  may = (
    may_low b best at below (split v s low high) v s low high refl may.0 zone depth line,
    λ first passed one. (
      there passed first one,
      proper.0,
      (
        may_high b best at below passed (walk_high passed v s span) (split v s low high) v s span low high first refl may.0 span_is zone depth line one refl refl refl,
        λ second end two.
            let can = back_by first passed one second end two in (
              can.there,
              can.proper,
              can.below,
              may.1 (fork v s first second) (walk_back end v span) (loaded_by first passed one second end two),
            ),
      ),
    ),
  );
  fewer = omega arith;
}
  where
    proper : (s <ℤ span.hi) × (span.lo ≤ℤ span.hi)
    proper = split_proper at.zone v s span may.0.can.0 span_is

    there : (passed : Walk) (first : GrowingTree) → Loaded b best below low first passed → v < length passed.zone
    there passed first one =
        let long : length passed.zone ≡ length at.zone =
        ap (λ (z : List Span). length z) (one.zone ∙ zone) ∙ length-set at.zone v (record { lo = (span_at at.zone v).lo; hi = s }) in
        omega (arith, long, split_there at.zone v s may.0.can.0)

    loaded_by : (first : GrowingTree) (passed : Walk) → Loaded b best below low first passed → (second : GrowingTree) (end : Walk) → Loaded b best (walk_high passed v s span) high second end
        → Loaded b best at (split v s low high) (fork v s first second) (walk_back end v span)
    loaded_by first passed one second end two =
        loaded_fork b.named.program.limits b.blocking best at below passed (walk_high passed v s span) end (walk_back end v span) (split v s low high) v s span low high
        first second (fork v s first second) refl refl span_is zone depth line deep one refl refl refl refl two refl refl refl refl

    back_by : (first : GrowingTree) (passed : Walk) → Loaded b best below low first passed → (second : GrowingTree) (end : Walk) → Loaded b best (walk_high passed v s span) high second end
        → CanGoBack v span end
    back_by first passed one second end two =
        can_go_back b best at below passed (walk_high passed v s span) end (split v s low high) v s span low high first second refl may.0 span_is zone depth one refl refl two

pub split_loads : (b : BlockedProgram) (best : Option ℤ) (t low high : Tree) (rest left : List Step) (at below : Walk) (v : ℕ) (s : ℤ) (span : Span) → t ≡ split v s low high
    → left ≡ node low ∷ to_high v s span ∷ node high ∷ back v span ∷ rest → span ≡ span_at at.zone v → MayLoadSteps b best (node t ∷ rest) at
    → below.zone ≡ low_part at.zone v s → below.depth ≡ at.depth + 1 → below.line ≡ at.line + 1 → below.deep ≡ at.deep
    → LoadsNode b best (node t ∷ rest) at (Split v s) left below
split_loads b best t low high rest left at below v s span is left_is span_is may zone depth line deep =
    subst (λ (l : List Step). LoadsNode b best (node t ∷ rest) at (Split v s) l below) (sym left_is)
    (subst (λ (x : Tree). LoadsNode b best (node x ∷ rest) at (Split v s) (node low ∷ to_high v s span ∷ node high ∷ back v span ∷ rest) below) (sym is)
    (split_parts b best low high rest at below v s span span_is (subst (λ (x : Tree). MayLoadSteps b best (node x ∷ rest) at) is may) zone depth line deep))
