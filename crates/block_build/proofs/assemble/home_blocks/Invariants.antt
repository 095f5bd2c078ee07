use Rattle.std.proofs.Common.{◌≡◌, map}
use Rattle.std.specs.List.{range_with_len}
use Rattle.bp_theory.specs.Decomposition.{members}
use Rattle.block_program.specs.Blocked.{RootBlock, HaveRootSpans}
use Rattle.block_build.specs.Source.{block_in}
use Rattle.block_build.proofs.assemble.home_blocks.Given as goal

abbrev pub invariant-loop-k : goal.invariant-loop-k
invariant-loop-k l = record {
  blocks : map (λ (k : RootBlock). k.block) l.all.items ≡ map (λ k. block_in l.source k (members l.source.model.now.program l.source.dec.now k)) (range_with_len 0 l.k);
  spans : HaveRootSpans l.source.model.now.program.spans l.all.items;
}
