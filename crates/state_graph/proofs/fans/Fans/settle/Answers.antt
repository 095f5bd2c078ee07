use Rattle.std.proofs.Common.{arith}
use Rattle.state_graph.proofs.MergeLaws.{settled_found}
use Rattle.state_graph.proofs.fans.Fans.settle.Goals as goal

pub returns-in-Some-clause-settled : goal.returns-in-Some-clause-settled
returns-in-Some-clause-settled c =
    settled_found c.args.self.now.list.items c.args.self.now.start c.args.self.now.arcs.items c.truncate.new.self.items c.in-Some.node c.args.self.now.parted
    (omega (arith, c.in-Some.ensures.there, c.args.self.now.list.ok.0)) c.in-Some.ensures.like c.truncate.ensures.items
    (omega (arith, c.truncate.ensures.len, c.truncate.new.self.ok.0, c.args.self.now.arcs.ok.0, c.args.self.now.parted.within))
