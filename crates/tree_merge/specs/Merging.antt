-- Two trees of one program made into one.
use Rattle.std.specs.Prelude.{ℕ, ◌==◌, Bool, true, false, ◌&&◌, if◌then◌else◌, Option, Some, None, ℤ, int_lt}
use Rattle.std.specs.Ordering.{int_eq}
use Rattle.bp_theory.specs.declared.Proof.{Proof}
use Rattle.search_laws.specs.Grove.{GrowingTree, live, shut, fork}
use Rattle.search_laws.specs.Verdicts.{cheaper_cost}

-- whether two splits are one
abbrev pub same_split : ℕ → ℤ → ℕ → ℤ → Bool
same_split v at w other = v == w && int_eq at other

-- a tree in place of a live leaf of this proof and bound: what the proof shows of the leaf's zone it shows of each part of it, so each live
-- leaf of the tree whose own bound is less takes this proof and bound
abbrev pub raised : GrowingTree → Proof → ℤ → GrowingTree
raised (live own least) proof bound = if int_lt least bound then live proof bound else live own least
raised (shut own) proof bound = shut own
raised (fork v at low high) proof bound = fork v at (raised low proof bound) (raised high proof bound)

-- the least bound of the live leaves, if there are any
abbrev pub least_live : GrowingTree → Option ℤ
least_live (live proof bound) = Some bound
least_live (shut proof) = None
least_live (fork v at low high) = cheaper_cost (least_live low) (least_live high)

-- whether what is left with one least bound is less than with another, where nothing is left with none
abbrev pub is_beyond : Option ℤ → Option ℤ → Bool
is_beyond None None = false
is_beyond None (Some w) = true
is_beyond (Some z) None = false
is_beyond (Some z) (Some w) = int_lt w z

-- of two trees of one zone that of greater least bound, one that has nothing live before all others, and the first of equals
abbrev pub farther : GrowingTree → GrowingTree → GrowingTree
farther t u = if is_beyond (least_live u) (least_live t) then u else t

-- two trees made into one, node by node: a shut leaf stands; a live leaf gives way to what the other tree has there, and of two live leaves
-- the one of less bound to the other; equal splits are merged part by part, and where two trees split a node differently one stays whole
abbrev pub merged : GrowingTree → GrowingTree → GrowingTree
merged (shut proof) t = shut proof
merged (live proof bound) (shut own) = shut own
merged (live proof bound) (live own least) = raised (live proof bound) own least
merged (live proof bound) (fork w other left right) = raised (fork w other left right) proof bound
merged (fork v at low high) (shut own) = shut own
merged (fork v at low high) (live own least) = raised (fork v at low high) own least
merged (fork v at low high) (fork w other left right) =
    if same_split v at w other then fork v at (merged low left) (merged high right) else farther (fork v at low high) (fork w other left right)

-- whether a bound is below the best cost, where none counts as dearest
abbrev pub is_below : ℤ → Option ℤ → Bool
is_below bound None = true
is_below bound (Some cost) = int_lt bound cost

-- the tree where each live leaf is shut whose bound is no less than the best cost: its zone has no cheaper point
abbrev pub shut_by : Option ℤ → GrowingTree → GrowingTree
shut_by cost (live proof bound) = if is_below bound cost then live proof bound else shut proof
shut_by cost (shut proof) = shut proof
shut_by cost (fork v at low high) = fork v at (shut_by cost low) (shut_by cost high)
