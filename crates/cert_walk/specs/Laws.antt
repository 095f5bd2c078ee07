-- The lines of a tree come in the order in which they are judged.
use Rattle.std.specs.Prelude.{◌≡◌, List, ◌++◌, map, Some, None}
use Rattle.bp_theory.specs.Trees.{Tree}
use Rattle.bp_theory.specs.Judgement.{tree_lines}
use Rattle.bp_theory.specs.declared.Span.{Span}
use Rattle.cert_format.specs.Cert as texts
use Rattle.cert_format.specs.Written.{written_tree}
use Rattle.cert_parser.specs.Readers as readers
use Rattle.cert_walk.specs.Turns.{Turn, zone_of, lines_before, turns_behind, root_behind, wait_of}

-- behind a whole tree its lines have come
abbrev pub LinesCome : Type 0
LinesCome = (spans : List Span) (ts : List Turn) (t : Tree) → root_behind ts t ≡ None → lines_before spans (turns_behind ts t) ≡ lines_before spans ts ++ tree_lines t (zone_of spans ts)

-- behind the last leaf all lines of the root have come
abbrev pub RootsCome : Type 0
RootsCome = (spans : List Span) (ts : List Turn) (t root : Tree) → root_behind ts t ≡ Some root → lines_before spans ts ++ tree_lines t (zone_of spans ts) ≡ tree_lines root spans

-- what reading keeps behind a whole tree are the splits above the next node
abbrev pub WaitsAreTurns : Type 0
WaitsAreTurns = (ts : List Turn) (t : Tree) → readers.waits_behind (map wait_of ts) (written_tree t) ≡ map wait_of (turns_behind ts t)

-- a root that was read is that of the lines that came
abbrev pub RootStays : Type 0
RootStays = (ts : List Turn) (t : Tree) (root : texts.Tree) → root_behind ts t ≡ None → readers.root_behind (map wait_of ts) root (written_tree t) ≡ root

abbrev pub RootIsRead : Type 0
RootIsRead = (ts : List Turn) (t whole : Tree) (root : texts.Tree) → root_behind ts t ≡ Some whole → readers.root_behind (map wait_of ts) root (written_tree t) ≡ written_tree whole
