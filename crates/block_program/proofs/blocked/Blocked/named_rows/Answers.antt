use Rattle.std.proofs.Common.{length, ap, arith}
use Rattle.block_program.specs.Blocked.{BlockedProgram}
use Rattle.block_program.proofs.NamedRows.{few_named}
use Rattle.block_program.proofs.blocked.Blocked.named_rows.Goals as goal

pub overflow_cast-result : goal.overflow_cast-result
overflow_cast-result c =
    omega (arith, c.len.ensures, few_named _ c.self.invariant.0)
