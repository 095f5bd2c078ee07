use Rattle.std.proofs.Common.{◌≡◌, take, map}
use Rattle.bp_theory.specs.Program.{span_at}
use Rattle.block_build.proofs.assemble.vars_spans.Given as goal

abbrev pub invariant-loop-var : goal.invariant-loop-var
invariant-loop-var l = l.all.items ≡ map (span_at l.spans) (take l.var-index l.vars)
