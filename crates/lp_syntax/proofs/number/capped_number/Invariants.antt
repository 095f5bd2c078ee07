use Rattle.std.proofs.Common.{◌≡◌, take}
use Rattle.lp_syntax.specs.Number.{digits_number}
use Rattle.lp_syntax.specs.Worth.{capped}
use Rattle.lp_syntax.proofs.number.capped_number.Given as goal

abbrev pub invariant-loop-b : goal.invariant-loop-b
invariant-loop-b l = l.value ≡ capped (digits_number (take l.b-index l.bytes))
