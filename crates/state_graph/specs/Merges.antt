-- What the nodes of a layer become where nodes with the same arcs are one, and those without a way to the end are none.
use Rattle.std.specs.Prelude.{◌≡◌, ℕ, ◌-◌, ◌+◌, ◌<◌, ◌≤◌, ◌^◌, ◌⊎◌, List, length, slice_index_or, ℤ, All}
use Rattle.layer_graph.specs.Graphs.{arc_at, IsWay}
use Rattle.layer_graph.specs.declared.graph.Arc.{Arc}
use Rattle.state_graph.specs.declared.fans.Fan.{Fan}

-- the number of a node without a way to the end
abbrev pub gone : ℕ
gone = 2 ^ 32 - 1

-- what a node has become, which is none where a list doesn't have it
abbrev pub node_at : List ℕ → ℕ → ℕ
node_at nodes i = slice_index_or nodes i gone

-- where the arcs of a node stand
abbrev pub fan_at : List Fan → ℕ → Fan
fan_at fans m = slice_index_or fans m (record { first = 0; end = 0 })

-- two arcs have one label and lead to one node
pub record IsAlike (a b : Arc) : Type 0 where
  pub label : b.label ≡ a.label
  pub to : b.to ≡ a.to

-- the arcs of nodes stand one after the other up to a start, and behind it those of one node more
pub record AreParted (fans : List Fan) (start : ℕ) (arcs : List Arc) : Type 0 where
  pub within : start ≤ length arcs
  pub rises : (m : ℕ) → m < length fans → (fan_at fans m).first ≤ (fan_at fans m).end
  pub ends : (m : ℕ) → m < length fans → (fan_at fans m).end ≤ start
  pub after : (m k : ℕ) → m < length fans → k < start → (arc_at arcs k).from ≡ m → (fan_at fans m).first ≤ k
  pub before : (m k : ℕ) → m < length fans → k < start → (arc_at arcs k).from ≡ m → k < (fan_at fans m).end
  pub from : (m k : ℕ) → m < length fans → (fan_at fans m).first ≤ k → k < (fan_at fans m).end → (arc_at arcs k).from ≡ m
  pub below : (k : ℕ) → k < start → (arc_at arcs k).from < length fans
  pub unsettled : (k : ℕ) → start ≤ k → k < length arcs → (arc_at arcs k).from ≡ length fans

-- the arcs of a node are those behind a start, in their order
pub record IsLike (arcs : List Arc) (fan : Fan) (start : ℕ) : Type 0 where
  pub many : length arcs + fan.first ≡ start + fan.end
  pub each : (k : ℕ) → fan.first + k < fan.end → IsAlike (arc_at arcs (start + k)) (arc_at arcs (fan.first + k))

-- an arc of a node is like another arc
pub record HasArc (arcs : List Arc) (node : ℕ) (arc : Arc) : Type 0 where
  pub place : ℕ
  pub there : place < length arcs
  pub from : (arc_at arcs place).from ≡ node
  pub alike : IsAlike arc (arc_at arcs place)

-- an arc is like one of those behind a start
pub record StoodIn (arcs : List Arc) (start : ℕ) (arc : Arc) : Type 0 where
  pub place : ℕ
  pub after : start ≤ place
  pub there : place < length arcs
  pub alike : IsAlike (arc_at arcs place) arc

-- the node whose arcs stood behind a start has become a node: of those before it, or a new one, or none
pub record IsSettled (before : List Arc) (start count : ℕ) (now : List Arc) (node : ℕ) : Type 0 where
  pub within : start ≤ length now
  pub fewer : length now ≤ length before
  pub kept : (k : ℕ) → k < start → arc_at now k ≡ arc_at before k
  pub fresh : (k : ℕ) → start ≤ k → k < length now → (arc_at now k).from ≡ count
  pub onto : (k : ℕ) → start ≤ k → k < length before → HasArc now node (arc_at before k)
  pub back : (k : ℕ) → k < length now → (arc_at now k).from ≡ node → StoodIn before start (arc_at now k)

-- an arc leads to what the node at the end of another has become, by the same numbers
pub record IsNowArc (nodes : List ℕ) (arc now : Arc) : Type 0 where
  pub label : now.label ≡ arc.label
  pub to : now.to ≡ node_at nodes arc.to

-- an arc behind a start has come of a given one
pub record HasCopy (nodes : List ℕ) (start : ℕ) (now : List Arc) (arc : Arc) : Type 0 where
  pub place : ℕ
  pub after : start ≤ place
  pub there : place < length now
  pub copy : IsNowArc nodes arc (arc_at now place)

-- an arc has come of one between two places
pub record IsCopyOf (arcs : List Arc) (nodes : List ℕ) (first end : ℕ) (now : Arc) : Type 0 where
  pub place : ℕ
  pub after : first ≤ place
  pub there : place < end
  pub copy : IsNowArc nodes (arc_at arcs place) now

-- the arcs between two places start at one node, and those that lead to a node with a way are added to a list
pub record IsCopied (arcs : List Arc) (nodes : List ℕ) (from first end : ℕ) (before now : List Arc) : Type 0 where
  pub rises : first ≤ end
  pub within : end ≤ length arcs
  pub start : (j : ℕ) → first ≤ j → j < end → (arc_at arcs j).from ≡ from
  pub longer : length before ≤ length now
  pub few : length now + first ≤ length before + end
  pub kept : (k : ℕ) → k < length before → arc_at now k ≡ arc_at before k
  pub onto : (j : ℕ) → first ≤ j → j < end → (node_at nodes (arc_at arcs j).to ≡ gone → ⊥) → HasCopy nodes (length before) now (arc_at arcs j)
  pub back : (k : ℕ) → length before ≤ k → k < length now → IsCopyOf arcs nodes first end (arc_at now k)

-- an arc of a layer, from what its node has become
pub record HasNow (nodes now : List ℕ) (merged : List Arc) (arc : Arc) : Type 0 where
  pub place : ℕ
  pub there : place < length merged
  pub from : (arc_at merged place).from ≡ node_at now arc.from
  pub copy : IsNowArc nodes arc (arc_at merged place)

-- an arc has come of an arc of a node
pub record ComesFrom (arcs : List Arc) (nodes : List ℕ) (i : ℕ) (now : Arc) : Type 0 where
  pub place : ℕ
  pub there : place < length arcs
  pub from : (arc_at arcs place).from ≡ i
  pub copy : IsNowArc nodes (arc_at arcs place) now

-- so far the arcs before a place, of the nodes before a number, are merged
pub record IsMergedTo (arcs : List Arc) (nodes : List ℕ) (place i : ℕ) (count : ℕ) (merged : List Arc) (now : List ℕ) : Type 0 where
  pub within : place ≤ length arcs
  pub many : length now ≡ i
  pub few : length merged ≤ place
  pub bounded : count ≤ i
  pub passed : (j : ℕ) → j < place → (arc_at arcs j).from < i
  pub onto : (j : ℕ) → j < place → (node_at nodes (arc_at arcs j).to ≡ gone → ⊥) → HasNow nodes now merged (arc_at arcs j)
  pub back : (a k : ℕ) → a < i → k < length merged → (arc_at merged k).from ≡ node_at now a → ComesFrom arcs nodes a (arc_at merged k)
  pub below : (a : ℕ) → a < i → (node_at now a ≡ gone) ⊎ ((node_at now a < count) × (node_at now a ≤ a))
  pub from : (k : ℕ) → k < length merged → (arc_at merged k).from < count

-- a layer's nodes are merged, where those of the next have become others
pub record IsMerged (arcs : List Arc) (nodes : List ℕ) (merged : List Arc) (now : List ℕ) : Type 0 where
  pub few : length merged ≤ length arcs
  pub onto : (j : ℕ) → j < length arcs → (node_at nodes (arc_at arcs j).to ≡ gone → ⊥) → HasNow nodes now merged (arc_at arcs j)
  pub back : (a k : ℕ) → k < length merged → (arc_at merged k).from ≡ node_at now a → ComesFrom arcs nodes a (arc_at merged k)
  pub live : (k : ℕ) → k < length merged → (arc_at merged k).from < gone
  pub root : (node_at now 0 ≡ gone) ⊎ (node_at now 0 ≡ 0)

-- each node below a number has the ways of what it has become, and none where that is none
pub record AreSame (steps now : List (List Arc)) (nodes : List ℕ) (wide : ℕ) : Type 0 where
  pub alive : (i : ℕ) (ys : List ℤ) → i < wide → IsWay steps i ys → node_at nodes i ≡ gone → ⊥
  pub onto : (i : ℕ) (ys : List ℤ) → i < wide → IsWay steps i ys → IsWay now (node_at nodes i) ys
  pub back : (i : ℕ) (ys : List ℤ) → i < wide → IsWay now (node_at nodes i) ys → IsWay steps i ys

-- the root has become itself, and has the ways that it had, or none and had none
pub record IsRooted (steps now : List (List Arc)) (root : ℕ) : Type 0 where
  pub root_is : (root ≡ gone) ⊎ (root ≡ 0)
  pub alive : (ys : List ℤ) → IsWay steps 0 ys → root ≡ gone → ⊥
  pub onto : (ys : List ℤ) → IsWay steps 0 ys → IsWay now root ys
  pub back : (ys : List ℤ) → IsWay now root ys → IsWay steps 0 ys

-- the arcs of each layer are few
abbrev pub AreFew : List (List Arc) → Type 0
AreFew steps = All (λ (arcs : List Arc). length arcs < 2 ^ 32) steps
