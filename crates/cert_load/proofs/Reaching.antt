-- What is loaded of a whole certificate.
use Rattle.std.proofs.Common.{◌≡◌, ℕ, zero, suc, ◌+◌, ◌<◌, ◌≤◌, ◌^◌, Bool, true, false, List, [], ◌∷◌, ◌++◌, length, get_or, Option, Some, None, inl, inr, ⊎_elim, sym, subst, ap, ◌∙◌, refl, arith, lit<}
use Rattle.std.proofs.Math.IntN.{ℤ, pos}
use Rattle.std.specs.Prelude.{IfSome, unsigned_abs, All, option_map}
use Rattle.std.specs.List.{AllByRecursion}
use Rattle.std.proofs.lemmas.Int.{ints}
use Rattle.std.proofs.lemmas.Bool.{cases_lt}
use Rattle.std.proofs.lemmas.List.{get_or_append_left, get_or-append-add, length-append}
use Rattle.std.proofs.lemmas.List.Elements.{All-from_recursion, recursion_from_All}
use Rattle.bp_theory.specs.Program.{Program, IsFeasible, cost, in_sense}
use Rattle.bp_theory.specs.Blocking.{Blocking}
use Rattle.bp_theory.specs.Decomposition.{Decomposition, blocking_of, proof_rows}
use Rattle.bp_theory.specs.Cuts.{cut_row, cut_rows}
use Rattle.bp_theory.specs.Bound.{Fits}
use Rattle.bp_theory.specs.Trees.{Tree, shut_leaf, open_leaf, split, Leaf, leaves, low_part, high_part, depth, steps, HasSoundSplits, IsZone}
use Rattle.bp_theory.specs.Claims.{Certificate, Shows, PointFits, IsValid, IsCertified}
use Rattle.bp_theory.specs.Judgement.{Line, tree_lines, point_lines, cut_lines, named_value, blocking_with}
use Rattle.bp_theory.specs.Limits.{greatest_depth}
use Rattle.bp_theory.specs.declared.Limits.{Limits}
use Rattle.bp_theory.specs.declared.Limits.TheVariants.{Large}
use Rattle.bp_theory.specs.declared.Span.{Span}
use Rattle.bp_theory.specs.declared.Row.{Row}
use Rattle.bp_theory.specs.declared.Cut.{Cut}
use Rattle.bp_theory.specs.declared.Claim.{Claim}
use Rattle.bp_theory.specs.declared.Claim.TheVariants.{Optimal, Infeasible, Bound}
use Rattle.bp_theory.proofs.LimitLaws.{few_deep}
use Rattle.block_program.specs.Blocked.{BlockedProgram, IsFormed}
use Rattle.search_laws.specs.declared.Side.{Side}
use Rattle.search_laws.specs.declared.Side.TheVariants.{Low, High}
use Rattle.search_laws.specs.Grove.{GrowingTree, live, shut, fork, leaves_below, growing_leaves, certificate_tree}
use Rattle.search_laws.specs.GroveFacts.{IsShallow, IsSearch, best_cost}
use Rattle.search_laws.specs.Loading.{Loads, IsReadable, HasSmallBound}
use Rattle.search_laws.proofs.Places.{recursion_parts, recursion-append}
use Rattle.search_laws.proofs.LoadProof.{load_keeps_lem}
use Rattle.branch_tree.specs.Groves.{GroveState, IsStanding, made}
use Rattle.branch_tree.specs.Adopted.{IsAdopted, point_in}
use Rattle.branch_tree.specs.declared.loaded.Loaded.{Loaded}
use Rattle.cert_text.specs.Programs.{GoesWith, IsSmallClaim}
use Rattle.tree_load.specs.Rooms.{rooms, IsFirstDeep, FindsDeep, FindsBehind, root_line, node_count, CanLoadLeaf, CanLoad}
use Rattle.tree_load.specs.Nodes.{MayLoad, IsLoadedNode}
use Rattle.cert_load.specs.Loadings.{IsLoadedTree, IsLoadedOf, IsTooDeep}
use Rattle.tree_load.specs.declared.walk.Walk.{Walk}
use Rattle.tree_load.proofs.Finding.{past, both_low}
use Rattle.tree_load.proofs.Descent.{made_of}

-- ---- rooms and depths

one_low : (limits : Limits) (room : ℕ) → room ≤ greatest_depth limits → (k : ℕ) → get_or (room ∷ []) k 0 ≤ greatest_depth limits
one_low limits room low zero = low
one_low limits room low (suc k) = omega arith

longer : (path : List Side) (side : Side) → length (path ++ side ∷ []) ≡ length path + 1
longer path side = length-append path (side ∷ [])

-- where no leaf is too deep, no room is
rooms_low : (limits : Limits) (t : GrowingTree) (path : List Side) (zone : List Span) → AllByRecursion (IsShallow limits) (leaves_below t path zone)
    → (k : ℕ) → get_or (rooms t (length path) zone) k 0 ≤ greatest_depth limits
rooms_low limits (live proof bound) path zone shallow = one_low limits (length path + _) shallow.0
rooms_low limits (shut proof) path zone shallow = one_low limits 0 (omega arith)
rooms_low limits (fork v at low high) path zone shallow =
    let parts = recursion_parts (IsShallow limits) (leaves_below low (path ++ Low ∷ []) (low_part zone v at)) (leaves_below high (path ++ High ∷ []) (high_part zone v at)) shallow in
    both_low limits (0 ∷ []) (rooms low (length path + 1) (low_part zone v at) ++ rooms high (length path + 1) (high_part zone v at)) (one_low limits 0 (omega arith))
    (both_low limits (rooms low (length path + 1) (low_part zone v at)) (rooms high (length path + 1) (high_part zone v at))
    (subst (λ d. (k : ℕ) → get_or (rooms low d (low_part zone v at)) k 0 ≤ greatest_depth limits) (longer path Low) (rooms_low limits low (path ++ Low ∷ []) (low_part zone v at) parts.0))
    (subst (λ d. (k : ℕ) → get_or (rooms high d (high_part zone v at)) k 0 ≤ greatest_depth limits) (longer path High) (rooms_low limits high (path ++ High ∷ []) (high_part zone v at) parts.1)))

left_low : (limits : Limits) (xs ys : List ℕ) → ((k : ℕ) → get_or (xs ++ ys) k 0 ≤ greatest_depth limits) → (k : ℕ) → get_or xs k 0 ≤ greatest_depth limits
left_low limits xs ys all k = ⊎_elim
    (λ l. let same : get_or (xs ++ ys) k 0 ≡ get_or xs k 0 = get_or_append_left xs ys 0 k l in let low : get_or (xs ++ ys) k 0 ≤ greatest_depth limits = all k in omega (arith, same, low))
    (λ m. let none : get_or xs k 0 ≡ 0 = past xs k m in omega (arith, none))
    (cases_lt k (length xs))

right_low : (limits : Limits) (xs ys : List ℕ) → ((k : ℕ) → get_or (xs ++ ys) k 0 ≤ greatest_depth limits) → (k : ℕ) → get_or ys k 0 ≤ greatest_depth limits
right_low limits xs ys all k =
    let same : get_or (xs ++ ys) (length xs + k) 0 ≡ get_or ys k 0 = get_or-append-add xs ys k 0 in
    let low : get_or (xs ++ ys) (length xs + k) 0 ≤ greatest_depth limits = all (length xs + k) in
    omega (arith, same, low)

-- where no room is too large and the tree not too deep, no leaf is too deep
shallow_by : (limits : Limits) (t : GrowingTree) (path : List Side) (zone : List Span) → ((k : ℕ) → get_or (rooms t (length path) zone) k 0 ≤ greatest_depth limits)
    → length path + depth (certificate_tree t) ≤ greatest_depth limits → AllByRecursion (IsShallow limits) (leaves_below t path zone)
shallow_by limits (live proof bound) path zone low deep = (low 0, tt)
shallow_by limits (shut proof) path zone low deep = (omega (arith, deep), tt)
shallow_by limits (fork v at first second) path zone low deep =
    let xs : List ℕ = rooms first (length path + 1) (low_part zone v at) in
    let ys : List ℕ = rooms second (length path + 1) (high_part zone v at) in
    let both : (k : ℕ) → get_or (xs ++ ys) k 0 ≤ greatest_depth limits = right_low limits (0 ∷ []) (xs ++ ys) low in
    recursion-append (IsShallow limits) (leaves_below first (path ++ Low ∷ []) (low_part zone v at)) (leaves_below second (path ++ High ∷ []) (high_part zone v at))
    (shallow_by limits first (path ++ Low ∷ []) (low_part zone v at)
    (subst (λ d. (k : ℕ) → get_or (rooms first d (low_part zone v at)) k 0 ≤ greatest_depth limits) (sym (longer path Low)) (left_low limits xs ys both))
    (omega (arith, deep, longer path Low)))
    (shallow_by limits second (path ++ High ∷ []) (high_part zone v at)
    (subst (λ d. (k : ℕ) → get_or (rooms second d (high_part zone v at)) k 0 ≤ greatest_depth limits) (sym (longer path High)) (right_low limits xs ys both))
    (omega (arith, deep, longer path High)))

-- a loaded tree is as deep as the certificate's
leaf_depth : (b : Blocking) (best : Option ℤ) (zone : List Span) (tree : Tree) (t : GrowingTree) → Loads b best zone tree t
    → depth (certificate_tree t) ≡ depth tree
leaf_depth b best zone (shut_leaf p) (live own bound) h = refl
leaf_depth b best zone (shut_leaf p) (shut own) h = refl
leaf_depth b best zone (shut_leaf p) (fork v at low high) h = absurd h
leaf_depth b best zone (open_leaf p) (live own bound) h = refl
leaf_depth b best zone (open_leaf p) (shut own) h = refl
leaf_depth b best zone (open_leaf p) (fork v at low high) h = absurd h
leaf_depth b best zone (split v at low high) (live own bound) h = absurd h
leaf_depth b best zone (split v at low high) (shut own) h = absurd h
leaf_depth b best zone (split v at low high) (fork w a first second) h =
    omega (arith, leaf_depth b best (low_part zone v at) low first h.2, leaf_depth b best (high_part zone v at) high second h.3)

-- no tree that is loaded is also too deep
pub loaded_is_low : (b : BlockedProgram) (cert : Certificate) (from : Loaded) (line : ℕ) → IsLoadedOf b cert from → IsTooDeep b cert line → ⊥
loaded_is_low b cert from line loaded deep =
    let same : deep.tree ≡ from.grove.tree =
    load_keeps_lem.one b.named.program b.blocking cert.tree (best_cost b.named.program cert.point) deep.tree loaded.tree deep.loads loaded.loads ∙ sym loaded.adopted.tree in
    let first : IsFirstDeep b.named.program.limits (rooms from.grove.tree 0 b.named.program.spans) (root_line cert.point cert.cuts) line =
    subst (λ (t : GrowingTree). IsFirstDeep b.named.program.limits (rooms t 0 b.named.program.spans) (root_line cert.point cert.cuts) line) same deep.first in
    let low : get_or (rooms from.grove.tree 0 b.named.program.spans) first.place 0 ≤ greatest_depth b.named.program.limits =
    rooms_low b.named.program.limits from.grove.tree [] b.named.program.spans (recursion_from_All (IsShallow b.named.program.limits) (growing_leaves from.grove.tree b.named.program.spans) loaded.loaded.search.shallow) first.place in
    let high : greatest_depth b.named.program.limits < get_or (rooms from.grove.tree 0 b.named.program.spans) first.place 0 = first.deep in
    absurd (omega (arith, low, high))

-- ---- a certificate that was read and is valid

-- the program's blocking is the one that its leaves are judged over, since its cuts are the program's
blocking_is : (b : BlockedProgram) (cert : Certificate) → IsFormed b → b.cuts ≡ cert.cuts → b.blocking ≡ blocking_with b.named.program b.dec cert
blocking_is b cert formed cuts =
    formed.blocking ∙ ap (λ (all : List Cut). blocking_of b.named.program b.dec (cut_rows b.named.program b.dec [] all)) cuts

-- it is valid for the program's blocks
valid_here : (b : BlockedProgram) (cert : Certificate) → IsFormed b → b.cuts ≡ cert.cuts → IsCertified b.named.program b.dec cert
    → IsValid b.named.program b.blocking cert
valid_here b cert formed cuts valid = subst (λ (k : Blocking). IsValid b.named.program k cert) (sym (blocking_is b cert formed cuts)) valid.valid

-- the proofs of its leaves fit them
fits_here : (b : BlockedProgram) (cert : Certificate) → IsFormed b → b.cuts ≡ cert.cuts → GoesWith b cert
    → All (λ (leaf : Leaf). Fits b.blocking leaf.proof) (leaves cert.tree b.named.program.spans)
fits_here b cert formed cuts goes =
    subst (λ (k : Blocking). All (λ (leaf : Leaf). Fits k leaf.proof) (leaves cert.tree b.named.program.spans)) (sym (blocking_is b cert formed cuts)) goes.fits

small_bound : (claim : Claim) → IsSmallClaim claim → HasSmallBound claim
small_bound (Optimal v) h = tt
small_bound Infeasible h = tt
small_bound (Bound bound None) h = h
small_bound (Bound bound (Some v)) h = h.0

readable : (b : BlockedProgram) (cert : Certificate) → IsFormed b → b.cuts ≡ cert.cuts → GoesWith b cert → IsReadable b.named.program b.blocking cert
readable b cert formed cuts goes = record { fits = fits_here b cert formed cuts goes; bound = small_bound cert.claim goes.claim }

-- a small number that a leaf shows, where its zone isn't settled
small_sense : (m : Bool) (z : ℤ) → unsigned_abs z < 2 ^ 62 → unsigned_abs (in_sense m z) < 2 ^ 62
small_sense true z small = omega (arith, ints, small)
small_sense false z small = small

can_by : (p : Program) (b : Blocking) (claim : Claim) (point : Option (List ℤ)) (leaf : Leaf) → IsSmallClaim claim → PointFits p claim point → Fits b leaf.proof → Shows p b claim leaf
    → CanLoadLeaf b (best_cost p point) leaf.zone leaf.proof
can_by p b (Optimal v) point leaf small fits fit shows = record { fits = fit; number = in_sense p.maximises v; small = small_sense p.maximises v small; shown = inr shows }
can_by p b Infeasible None leaf small fits fit shows = record { fits = fit; number = pos 0; small = lit< tt; shown = inl shows }
can_by p b Infeasible (Some x) leaf small fits fit shows = absurd fits
can_by p b (Bound bound None) point leaf small fits fit shows = record { fits = fit; number = in_sense p.maximises bound; small = small_sense p.maximises bound small; shown = inr shows }
can_by p b (Bound bound (Some v)) point leaf small fits fit shows = record { fits = fit; number = in_sense p.maximises bound; small = small_sense p.maximises bound small.0; shown = inr shows }

can_below : (b : Blocking) (best : Option ℤ) (zone : List Span) (tree : Tree) → HasSoundSplits tree zone
    → AllByRecursion (λ (leaf : Leaf). CanLoadLeaf b best leaf.zone leaf.proof) (leaves tree zone) → CanLoad b best zone tree
can_below b best zone (shut_leaf p) sound can = can.0
can_below b best zone (open_leaf p) sound can = can.0
can_below b best zone (split v at low high) sound can =
    let parts = recursion_parts (λ (leaf : Leaf). CanLoadLeaf b best leaf.zone leaf.proof) (leaves low (low_part zone v at)) (leaves high (high_part zone v at)) can in
    (sound.0, can_below b best (low_part zone v at) low sound.1 parts.0, can_below b best (high_part zone v at) high sound.2 parts.1)

-- how many lines a tree has, and cuts
lines_of : (tree : Tree) (zone : List Span) → length (tree_lines tree zone) ≡ node_count tree
lines_of (shut_leaf p) zone = refl
lines_of (open_leaf p) zone = refl
lines_of (split v at low high) zone =
    omega (arith, length-append (tree_lines low (low_part zone v at)) (tree_lines high (high_part zone v at)), lines_of low (low_part zone v at), lines_of high (high_part zone v at))

lines_of_cuts : (p : Program) (d : Decomposition) (earlier : List Row) (cuts : List Cut) → length (cut_lines p d earlier cuts) ≡ length cuts
lines_of_cuts p d earlier [] = refl
lines_of_cuts p d earlier (cut ∷ cuts) = omega (arith, lines_of_cuts p d (earlier ++ cut_row p (proof_rows p d earlier) cut ∷ []) cuts)

few_nodes : (b : BlockedProgram) (cert : Certificate) → GoesWith b cert → 3 + length cert.cuts + node_count cert.tree ≤ 2 ^ 62
few_nodes b cert goes =
    let points : List Line = point_lines (named_value cert.claim) cert.point in
    let cuts : List Line = cut_lines b.named.program b.dec [] cert.cuts in
    let nodes : List Line = tree_lines cert.tree b.named.program.spans in
    let first : length (points ++ cuts) ≡ length points + length cuts = length-append points cuts in
    let all : length ((points ++ cuts) ++ nodes) ≡ length (points ++ cuts) + length nodes = length-append (points ++ cuts) nodes in
    let most : 3 + length ((points ++ cuts) ++ nodes) ≤ 2 ^ 62 = goes.lines in
    omega (arith, first, all, most, lines_of cert.tree b.named.program.spans, lines_of_cuts b.named.program b.dec [] cert.cuts)

root_small : (point : Option (List ℤ)) (cuts : List Cut) → root_line point cuts ≤ 4 + length cuts
root_small None cuts = omega arith
root_small (Some x) cuts = omega arith

-- its root may be loaded
pub may_root : (b : BlockedProgram) (cert : Certificate) (best : Option ℤ) (at : Walk) → IsFormed b → b.cuts ≡ cert.cuts → GoesWith b cert
    → IsCertified b.named.program b.dec cert → best ≡ best_cost b.named.program cert.point
    → at.zone ≡ b.named.program.spans → IsZone b.named.program.spans at.zone → at.depth ≡ 0 → at.line ≡ root_line cert.point cert.cuts
    → MayLoad b best at cert.tree
may_root b cert best at formed cuts goes valid best_is zone_is zone depth_is line_is =
    let p : Program = b.named.program in
    let here : IsValid p b.blocking cert = valid_here b cert formed cuts valid in
    let fits = fits_here b cert formed cuts goes in
    let all : All (λ (leaf : Leaf). CanLoadLeaf b.blocking (best_cost p cert.point) leaf.zone leaf.proof) (leaves cert.tree p.spans) =
    λ k d l. can_by p b.blocking cert.claim cert.point _ goes.claim here.point (fits k d l) (here.shown k d l) in
    let can : CanLoad b.blocking (best_cost p cert.point) p.spans cert.tree =
    can_below b.blocking (best_cost p cert.point) p.spans cert.tree here.splits
    (recursion_from_All (λ (leaf : Leaf). CanLoadLeaf b.blocking (best_cost p cert.point) leaf.zone leaf.proof) (leaves cert.tree p.spans) all) in
    record {
      zone = zone;
      can = subst (λ (o : Option ℤ). CanLoad b.blocking o at.zone cert.tree) (sym best_is) (subst (λ (z : List Span). CanLoad b.blocking (best_cost p cert.point) z cert.tree) (sym zone_is) can);
      shallow = omega (arith, depth_is, goes.shallow);
      few = omega (arith, line_is, root_small cert.point cert.cuts, few_nodes b cert goes);
    }

-- its point is feasible
pub feasible_point : (b : BlockedProgram) (cert : Certificate) → IsCertified b.named.program b.dec cert → IfSome cert.point (IsFeasible b.named.program)
feasible_point b cert valid = by cert.claim cert.point valid.valid.point
  where
    by : (claim : Claim) (point : Option (List ℤ)) → PointFits b.named.program claim point → IfSome point (IsFeasible b.named.program)
    by claim None fits = tt
    by (Optimal v) (Some x) fits = fits.feasible
    by Infeasible (Some x) fits = absurd fits
    by (Bound bound None) (Some x) fits = absurd fits
    by (Bound bound (Some v)) (Some x) fits = fits.feasible

-- the kept cost is the best cost
pub same_cost : (b : BlockedProgram) (best : Option (List ℤ × ℤ)) (point : Option (List ℤ)) → point_in best ≡ point
    → IfSome best (λ k. k.1 ≡ cost b.named.program k.0) → option_map (λ k. k.1) best ≡ best_cost b.named.program point
same_cost b None point is costs = ap (best_cost b.named.program) is
same_cost b (Some k) point is costs = ap (λ (z : ℤ). Some z) costs ∙ ap (best_cost b.named.program) is

-- the facts of a search of what is loaded, where no leaf is too deep
pub searched_of : (b : BlockedProgram) (cert : Certificate) (t : GrowingTree) → IsFormed b → b.cuts ≡ cert.cuts → GoesWith b cert
    → IsCertified b.named.program b.dec cert → IsLoadedTree b cert t
    → FindsDeep b.named.program.limits (rooms t 0 b.named.program.spans) (root_line cert.point cert.cuts) None
    → IsSearch b.named.program b.blocking t cert.point
searched_of b cert t formed cuts goes valid loads low =
    let depth_is = leaf_depth b.blocking (best_cost b.named.program cert.point) b.named.program.spans cert.tree t loads in
    load_keeps_lem.search b.named.program b.blocking cert t (valid_here b cert formed cuts valid) (readable b cert formed cuts goes) loads
    (All-from_recursion (IsShallow b.named.program.limits) (growing_leaves t b.named.program.spans) (shallow_by b.named.program.limits t [] b.named.program.spans low (omega (arith, depth_is, goes.shallow))))

pub few_made : (b : BlockedProgram) (cert : Certificate) (t : GrowingTree) → GoesWith b cert → IsLoadedTree b cert t → made t < 2 ^ 62
few_made b cert t goes loads =
    omega (arith, made_of b.blocking (best_cost b.named.program cert.point) b.named.program.spans cert.tree t loads, few_nodes b cert goes)

pub depth_low : (b : BlockedProgram) (cert : Certificate) (t : GrowingTree) → GoesWith b cert → IsLoadedTree b cert t → depth (certificate_tree t) ≤ greatest_depth Large
depth_low b cert t goes loads =
    omega (
      arith,
      leaf_depth b.blocking (best_cost b.named.program cert.point) b.named.program.spans cert.tree t loads,
      goes.shallow,
      few_deep b.named.program.limits,
    )

-- what is loaded
pub loaded_of : (b : BlockedProgram) (cert : Certificate) (t : GrowingTree) (from : Loaded)
    → IsLoadedTree b cert t → IsSearch b.named.program b.blocking t cert.point
    → IsAdopted b t from.grove → IsStanding from.grove → point_in from.best ≡ cert.point
    → IfSome from.best (λ k. k.1 ≡ cost b.named.program k.0) → IsLoadedOf b cert from
loaded_of b cert t from loads search adopted standing point costs = record {
  tree = t;
  loads = loads;
  adopted = adopted;
  point = point;
  loaded = record {
    standing = standing;
    root = adopted.root;
    search = subst (λ (u : GrowingTree). IsSearch b.named.program b.blocking u (point_in from.best)) (sym adopted.tree)
        (subst (IsSearch b.named.program b.blocking t) (sym point) search);
    costs = costs;
  };
}

-- its steps are few
pub few_steps : (b : BlockedProgram) (t : GrowingTree) (g : GroveState) → made t < 2 ^ 62 → IsAdopted b t g → steps (certificate_tree g.tree) < 2 ^ 62
few_steps b t g few adopted = subst (λ (u : GrowingTree). steps (certificate_tree u) < 2 ^ 62) (sym adopted.tree) (omega (arith, few))

-- what a walk from the root finds
pub record IsLoadedRoot (b : BlockedProgram) (cert : Certificate) (t : GrowingTree) (deep : Option ℕ) : Type 0 where
  pub loads : IsLoadedTree b cert t
  pub found : FindsDeep b.named.program.limits (rooms t 0 b.named.program.spans) (root_line cert.point cert.cuts) deep

pub root_loaded : (b : BlockedProgram) (cert : Certificate) (best : Option ℤ) (at end : Walk) (tree : Tree) (t : GrowingTree)
    → best ≡ best_cost b.named.program cert.point → at.zone ≡ b.named.program.spans → at.depth ≡ 0 → at.line ≡ root_line cert.point cert.cuts → at.deep ≡ None
    → tree ≡ cert.tree → IsLoadedNode b.named.program.limits b.blocking best at tree t end → IsLoadedRoot b cert t end.deep
root_loaded b cert best at end tree t best_is zone_is depth_is line_is deep_is tree_is node = record {
  loads =
      subst (λ (u : Tree). Loads b.blocking (best_cost b.named.program cert.point) b.named.program.spans u t) tree_is
      (subst (λ (z : List Span). Loads b.blocking (best_cost b.named.program cert.point) z tree t) zone_is
      (subst (λ (o : Option ℤ). Loads b.blocking o at.zone tree t) best_is node.loads));
  found =
      subst (λ n. FindsDeep b.named.program.limits (rooms t 0 b.named.program.spans) n end.deep) line_is
      (subst (λ (z : List Span). FindsDeep b.named.program.limits (rooms t 0 z) at.line end.deep) zone_is
      (subst (λ d. FindsDeep b.named.program.limits (rooms t d at.zone) at.line end.deep) depth_is
      (subst (λ (o : Option ℕ). FindsBehind b.named.program.limits o (rooms t at.depth at.zone) at.line end.deep) deep_is node.deep)));
}
