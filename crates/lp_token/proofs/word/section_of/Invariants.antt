use Rattle.lp_token.proofs.Keys.{IsKeyUpTo}
use Rattle.lp_token.proofs.word.section_of.Given as goal

abbrev pub invariant-loop-b : goal.invariant-loop-b
invariant-loop-b l = IsKeyUpTo l.bytes l.b-index l.gap l.key.items
