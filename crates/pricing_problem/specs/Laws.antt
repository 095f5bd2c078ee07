-- What blocks keep for pricing.
use Rattle.std.specs.Prelude.{All}
use Rattle.bp_theory.specs.Bound.{spans_of}
use Rattle.block_program.specs.Blocked.{BlockedProgram, IsFormed}
use Rattle.pricing_problem.specs.Form.{IsForm}

-- each block of a program in blocks keeps the limits of what a pricer is made of
abbrev pub BlocksHaveForm : Type 0
BlocksHaveForm = (b : BlockedProgram) → IsFormed b → All (λ k. IsForm k.rows (spans_of b.named.program.spans k)) b.blocking.blocks
