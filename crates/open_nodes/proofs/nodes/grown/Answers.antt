use Rattle.open_nodes.proofs.Built.{grown_begins}
use Rattle.open_nodes.proofs.nodes.grown.Goals as goal

pub loop-node-init : goal.loop-node-init
loop-node-init c = λ t is. grown_begins t c.args.nodes.items c.new-made.result.items is c.new-made.ensures.items
