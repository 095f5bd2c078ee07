use Rattle.std.proofs.Common.{◌≡◌, List, vec_len}
use Rattle.std.specs.Prelude.{All}
use Rattle.bp_theory.specs.Trees.{Tree, IsZone}
use Rattle.cert_walk.specs.Turns.{Turn, zone_of}
use Rattle.cert_walk.specs.Paths.{AreForksOf, IsForkIn}
use Rattle.cert_walk.proofs.Pathing.{ComesTo}
use Rattle.cert_walk.proofs.path.go_on.Given as goal

abbrev pub invariant-loop-fork : goal.invariant-loop-fork
invariant-loop-fork l =
    IsZone l.b.named.program.spans l.place.zone × All (IsForkIn l.b.named.program.spans) l.forks.items × (l.place.line ≡ l.initial.place.line) × (l.place.left ≡ l.initial.place.left)
    × ((ts : List Turn) (t : Tree) → AreForksOf l.b.named.program.spans l.initial.forks.items ts → l.initial.place.zone ≡ zone_of l.b.named.program.spans ts
    → ComesTo l.b.named.program.spans ts t l.place.zone l.forks.items)

abbrev pub decreases-loop-fork : goal.decreases-loop-fork
decreases-loop-fork l = vec_len l.forks
