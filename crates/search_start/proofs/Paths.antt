-- The paths of open leaves, by the forks above a node.
use Rattle.std.proofs.Common.{◌≡◌, ◌∙◌, refl, sym, ap, ℕ, zero, suc, ◌+◌, ◌-◌, ◌<◌, List, [], ◌∷◌, ◌++◌, map, reverse, Option, Some, None, slice_get, append-nil, arith, Bor}
use Rattle.std.proofs.lemmas.List.{reverse-append}
use Rattle.bp_theory.specs.Trees.{Tree, shut_leaf, open_leaf, split}
use Rattle.search_laws.specs.declared.Side.{Side}
use Rattle.search_laws.specs.declared.Side.TheVariants.{Low, High}
use Rattle.cert_format.specs.Sketch.{tree_of}
use Rattle.cert_format.specs.declared.sketch.Sketch.{Sketch}
use Rattle.search_start.specs.declared.leaf.Above.{Above}
use Rattle.search_start.specs.declared.leaf.Above.TheVariants as a
use Rattle.search_start.specs.Leaves.{open_paths, open_path, side_of, paths_above, paths_at}

-- ---- the path of a node

-- by a path below it
path_to : List Above → List Side → List Side
path_to [] path = path
path_to (fork ∷ above) path = path_to above (side_of fork ∷ path)

-- the first path is that of the node
first_path : (above : List Above) (path : List Side) (paths : List (List Side)) → paths_above above (path ∷ paths) ≡ path_to above path ∷ paths_above above paths
unfolding path_to
first_path [] path paths = refl
first_path (a.Low high ∷ above) path paths =
    first_path above (Low ∷ path) (map (λ (p : List Side). Low ∷ p) paths ++ map (λ (p : List Side). High ∷ p) (open_paths (tree_of high.now)))
first_path (a.High ∷ above) path paths = first_path above (High ∷ path) (map (λ (p : List Side). High ∷ p) paths)

top_fork : (above : List Above) (fork : Above) (path : List Side) → path_to (above ++ fork ∷ []) path ≡ side_of fork ∷ path_to above path
unfolding path_to
top_fork [] fork path = refl
top_fork (next ∷ above) fork path = top_fork above fork (side_of next ∷ path)

sides_path : (above : List Above) (path : List Side) → path_to (reverse above) path ≡ map side_of above ++ path
unfolding path_to
sides_path [] path = refl
sides_path (fork ∷ above) path =
    ap (λ (forks : List Above). path_to forks path) (reverse-append (fork ∷ []) above) ∙ top_fork (reverse above) fork path
    ∙ ap (λ (p : List Side). side_of fork ∷ p) (sides_path above path)

-- ---- the whole tree

numbered : (tree : Tree) (number before : ℕ) → number ≡ before + 1 → open_path tree number ≡ slice_get (open_paths tree) before
numbered tree zero before e = absurd (omega (arith, e))
numbered tree (suc n) before e = let same : n ≡ before = omega (arith, e) in ap (slice_get (open_paths tree)) same

-- the open leaf at hand, where it is the one that is sought
pub found_here : (tree : Tree) (number before left : ℕ) (here : Option (Bor Sketch)) (above : List Above) (node : Bor Sketch) (part : Tree) (path : List Side) → number ≡ before + 1 → left ≡ 0
    → here ≡ Some node → tree_of node.now ≡ part → open_paths part ≡ [] ∷ [] → path ≡ map side_of above
    → slice_get (paths_at here (reverse above)) left ≡ slice_get (open_paths tree) before → Some path ≡ open_path tree number
found_here tree number before left here above node part path count none is leaf one sides seeks =
    let at : paths_at here (reverse above) ≡ path_to (reverse above) [] ∷ paths_above (reverse above) [] =
    ap (λ (o : Option (Bor Sketch)). paths_at o (reverse above)) is ∙ ap (λ (t : Tree). paths_above (reverse above) (open_paths t)) leaf ∙ ap (paths_above (reverse above)) one
    ∙ first_path (reverse above) [] [] in
    let found : slice_get (paths_at here (reverse above)) left ≡ Some (path_to (reverse above) []) =
    ap (λ (ps : List (List Side)). slice_get ps left) at ∙ ap (slice_get (path_to (reverse above) [] ∷ paths_above (reverse above) [])) none in
    let whole : path_to (reverse above) [] ≡ path = sides_path above [] ∙ append-nil (map side_of above) ∙ sym sides in
    sym (numbered tree number before count ∙ sym seeks ∙ found ∙ ap Some whole)

-- an open leaf that is passed
pub passed_open : (sought : Option (List Side)) (left : ℕ) (here next : Option (Bor Sketch)) (above behind : List Above) (node : Bor Sketch) (part : Tree) → 0 < left → here ≡ Some node → tree_of node.now ≡ part → open_paths part ≡ [] ∷ []
    → paths_at next behind ≡ paths_above above [] → slice_get (paths_at here above) left ≡ sought → slice_get (paths_at next behind) (left - 1) ≡ sought
passed_open sought zero here next above behind node part some is leaf one goes seeks = absurd (omega (arith, some))
passed_open sought (suc n) here next above behind node part some is leaf one goes seeks =
    let at : paths_at here above ≡ path_to above [] ∷ paths_above above [] =
    ap (λ (o : Option (Bor Sketch)). paths_at o above) is ∙ ap (λ (t : Tree). paths_above above (open_paths t)) leaf ∙ ap (paths_above above) one ∙ first_path above [] [] in
    let less : suc n - 1 ≡ n = omega arith in
    ap (λ (ps : List (List Side)). slice_get ps (suc n - 1)) goes ∙ ap (slice_get (paths_above above [])) less
    ∙ sym (ap (λ (ps : List (List Side)). slice_get ps (suc n)) at) ∙ seeks

-- a shut leaf that is passed
pub passed_shut : (sought : Option (List Side)) (left : ℕ) (here next : Option (Bor Sketch)) (above behind : List Above) (node : Bor Sketch) (part : Tree) → here ≡ Some node → tree_of node.now ≡ part → open_paths part ≡ []
    → paths_at next behind ≡ paths_above above [] → slice_get (paths_at here above) left ≡ sought → slice_get (paths_at next behind) left ≡ sought
passed_shut sought left here next above behind node part is leaf none goes seeks =
    let at : paths_at here above ≡ paths_above above [] =
    ap (λ (o : Option (Bor Sketch)). paths_at o above) is ∙ ap (λ (t : Tree). paths_above above (open_paths t)) leaf ∙ ap (paths_above above) none in
    ap (λ (ps : List (List Side)). slice_get ps left) (goes ∙ sym at) ∙ seeks

-- no leaf is left
pub none_left : (tree : Tree) (number before left : ℕ) (here : Option (Bor Sketch)) (above : List Above) → number ≡ before + 1 → here ≡ None
    → slice_get (paths_at here above) left ≡ slice_get (open_paths tree) before → None ≡ open_path tree number
none_left tree number before left here above count none seeks =
    sym (numbered tree number before count ∙ sym seeks ∙ ap (λ (o : Option (Bor Sketch)). slice_get (paths_at o above) left) none)
