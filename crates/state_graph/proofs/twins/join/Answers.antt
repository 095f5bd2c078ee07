use Rattle.state_graph.proofs.TwinLaws.{true_weaker, false_weaker, joined_on, void_on}
use Rattle.state_graph.proofs.twins.join.Goals as goal

pub returns-clause-joined : goal.returns-clause-joined
returns-clause-joined c = true_weaker c.join_all-2.result
    (joined_on c.args.twins.now c.args.windows.now.items c.join_all.new.windows.items c.join_all-2.new.windows.items c.if-not-join_all.ensures.joined)
    c.join_all-2.ensures.joined

pub returns-clause-empty : goal.returns-clause-empty
returns-clause-empty c = false_weaker c.join_all-2.result
    (void_on c.args.twins.now c.args.windows.now.items c.join_all.new.windows.items c.if-not-join_all.ensures.joined)
    c.join_all-2.ensures.empty
