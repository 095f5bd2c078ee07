use Rattle.cert_parser.specs.Builders.{root_of}
use Rattle.cert_parser.proofs.ReaderFacts.{low_done, low_root, high_done, high_root}
use Rattle.cert_parser.proofs.reader.Reader.complete.Goals as goal

pub returns-in-Low-clause-waits : goal.returns-in-Low-clause-waits
returns-in-Low-clause-waits c =
    low_done c.loop-pending.self.pending.items c.pop.new.self.items _ c.in-Some.pending c.in-Low.place c.loop-pending.tree _ c.in-Some.ensures.items c.in-Low.is c.in_ok-push-in-Low.ensures.items c.loop-pending.invariant.0

pub returns-in-Low-clause-root : goal.returns-in-Low-clause-root
returns-in-Low-clause-root c =
    low_root c.loop-pending.self.pending.items c.pop.new.self.items c.in-Some.pending c.in-Low.place (root_of c.loop-pending.self.root) (root_of c.loop-pending.tree) _ c.in-Some.ensures.items c.in-Low.is c.loop-pending.invariant.1

pub loop-pending-preserved : goal.loop-pending-preserved
loop-pending-preserved c = (
  high_done c.loop-pending.self.pending.items c.pop.new.self.items c.in-Some.pending c.in-High.place c.in-High.low c.loop-pending.tree c.in_ok-tree-in-High.tree _ c.in-Some.ensures.items c.in-High.is c.in_ok-tree-in-High.ensures c.loop-pending.invariant.0,
  high_root c.loop-pending.self.pending.items c.pop.new.self.items c.in-Some.pending c.in-High.place c.in-High.low c.loop-pending.tree c.in_ok-tree-in-High.tree (root_of c.loop-pending.self.root) _ c.in-Some.ensures.items c.in-High.is c.in_ok-tree-in-High.ensures
      c.loop-pending.invariant.1,
  c.loop-pending.invariant.2,
  c.loop-pending.invariant.3,
)
