use Rattle.std.proofs.Common.{◌≡◌, min, take}
use Rattle.dec_syntax.specs.Words.{value_of}
use Rattle.dec_syntax.proofs.words.capped_value.Given as goal

abbrev pub invariant-loop-digit : goal.invariant-loop-digit
invariant-loop-digit l = l.value ≡ min (value_of (take l.digit-index l.digits)) 131073
