use Rattle.std.proofs.Common.{◌∙◌, arith}
use Rattle.shortest_path.proofs.PairLaws.{pairs_more}
use Rattle.shortest_path.proofs.pairs.pairs_of.Goals as goal

pub loop-place-preserved : goal.loop-place-preserved
loop-place-preserved c = record {
  nodes = c.put.ensures.nodes ∙ c.loop-place.invariant.nodes;
  pairs = pairs_more c.args.dead c.args.arcs.now c.loop-place.place c.loop-place.pairs.items c.put.new.pairs.items c.loop-place-test.true
      (omega (arith, c.requires.from c.loop-place.place c.loop-place-test.true, c.loop-place.invariant.nodes, c.loop-place.pairs.ok.0)) c.requires.to c.if-not-put.ensures.put c.loop-place.invariant.pairs;
}
