use Rattle.std.proofs.Common.{sym, arith}
use Rattle.state_graph.specs.Windows.{twin_at}
use Rattle.state_graph.proofs.TwinLaws.{true_weaker, joined_row}
use Rattle.state_graph.proofs.twins.join_twin.Goals as goal

pub returns-then-own-clause-joined : goal.returns-then-own-clause-joined
returns-then-own-clause-joined c = true_weaker c.join_row.result
    (joined_row c.args.twins.now c.args.windows.now.items c.join_row.new.windows.items c.args.row (twin_at c.args.twins.now c.args.row)
    (omega (arith, c.requires.row, c.requires.room, c.args.windows.now.ok.0))
    (omega (arith, c.requires.below c.args.row 0 c.requires.row, c.requires.room, c.args.windows.now.ok.0))
    (λ sums alike. sym (alike c.args.row c.requires.row)))
    c.join_row.ensures.joined

pub returns-else-own-clause-joined : goal.returns-else-own-clause-joined
returns-else-own-clause-joined c = true_weaker c.join_row-else-own.result
    (joined_row c.args.twins.now c.args.windows.now.items c.join_row-else-own.new.windows.items (twin_at c.args.twins.now c.args.row) c.args.row
    (omega (arith, c.requires.below c.args.row 0 c.requires.row, c.requires.room, c.args.windows.now.ok.0))
    (omega (arith, c.requires.row, c.requires.room, c.args.windows.now.ok.0))
    (λ sums alike. alike c.args.row c.requires.row))
    c.join_row-else-own.ensures.joined
