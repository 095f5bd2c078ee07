-- What a decomposition is refused for.
use Rattle.std.specs.Prelude.{All}
use Rattle.bp_theory.specs.Program.{Program}
use Rattle.bp_theory.specs.Decomposition.{Decomposition, IsMisplaced, IsFirstMisplaced, HasLargeLinks}
use Rattle.block_form.specs.declared.fault.BlockFault.{BlockFault}
use Rattle.block_form.specs.declared.fault.BlockFault.TheVariants.{VarPlace, Links, NoMemory}

-- what a decomposition is refused for: a misplaced variable, else too many or too large link rows
abbrev pub HasBlockFault : Program → Decomposition → BlockFault → Type 0
HasBlockFault p d (VarPlace v) = IsFirstMisplaced p d v
HasBlockFault p d Links = All (λ e. IsMisplaced p d e → ⊥) d.listed × HasLargeLinks p d
HasBlockFault p d NoMemory = Unit {0}
