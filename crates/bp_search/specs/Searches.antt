-- What stands at every moment of a search.
use Rattle.std.specs.Prelude.{◌≡◌, ◌<◌, Bool, true, int_lt, List, Option, Some, None, option_map, IfSome, ℤ}
use Rattle.bp_theory.specs.Limits.{greatest_depth}
use Rattle.bp_theory.specs.declared.Limits.TheVariants.{Large}
use Rattle.bp_theory.specs.Program.{Program, cost}
use Rattle.bp_theory.specs.Blocking.{Blocking}
use Rattle.bp_theory.specs.Trees.{IsSoundSplit}
use Rattle.block_program.specs.Blocked.{BlockedProgram}
use Rattle.search_laws.specs.GroveFacts.{IsSearch, IsSoundProof, KeepsBound}
use Rattle.search_laws.specs.declared.Next.{Next}
use Rattle.search_laws.specs.declared.Next.TheVariants.{Shut, Fork}
use Rattle.open_nodes.specs.declared.turn.Turn.{Turn}
use Rattle.branch_tree.specs.Groves.{GroveState, IsStanding}
use Rattle.bp_search.specs.declared.kept.Kept.{Kept}

-- the kept point, and its cost
abbrev pub kept_point : Option Kept → Option (List ℤ)
kept_point best = option_map (λ k. k.point) best

abbrev pub kept_cost : Option Kept → Option ℤ
kept_cost best = option_map (λ k. k.cost) best

-- a kept point with its cost
abbrev pub as_pair : Option Kept → Option (List ℤ × ℤ)
as_pair best = option_map (λ k. (k.point, k.cost)) best

-- a kept point has its cost beside it
abbrev pub HasItsCost : Program → Option Kept → Type 0
HasItsCost p best = IfSome best (λ k. k.cost ≡ cost p k.point)

-- whether a cost is below that of the kept point, or none is kept
abbrev pub is_cheaper : ℤ → Option Kept → Bool
is_cheaper z None = true
is_cheaper z (Some k) = int_lt z k.cost

-- a search of a program in blocks: its grove stands on the program's spans, and with the kept point it has the facts of a search
pub record IsRunning (b : BlockedProgram) (g : GroveState) (best : Option Kept) : Type 0 where
  pub standing : IsStanding g
  pub root : g.root ≡ b.named.program.spans
  pub search : IsSearch b.named.program b.blocking g.tree (kept_point best)
  pub costs : HasItsCost b.named.program best

-- what a turn's leaf may be shut or forked with
abbrev pub CanGrow : Blocking → Turn → Next → Type 0
CanGrow b turn (Shut proof) = IsSoundProof b proof
CanGrow b turn (Fork v at proof bound) =
    IsSoundSplit turn.zone v at × IsSoundProof b proof × KeepsBound b turn.zone proof bound × (turn.depth < greatest_depth Large)
