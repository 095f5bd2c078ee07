use Rattle.std.proofs.Common.{◌≡◌, ◌++◌, ◌∷◌, [], map, take}
use Rattle.block_program.specs.Blocked.{RootBlock, HaveRootSpans}
use Rattle.block_build.specs.Source.{block_in}
use Rattle.block_build.proofs.assemble.push_lone_blocks.Given as goal

abbrev pub invariant-loop-i : goal.invariant-loop-i
invariant-loop-i l = record {
  blocks : map (λ (k : RootBlock). k.block) l.all.items
      ≡ map (λ (k : RootBlock). k.block) l.initial.all.items ++ map (λ v. block_in l.source l.source.dec.now.blocks (v ∷ [])) (take l.i l.lone.items);
  spans : HaveRootSpans l.source.model.now.program.spans l.all.items;
}
