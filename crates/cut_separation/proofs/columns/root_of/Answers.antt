-- A leaf that a grove hands out is one of the program that it was planted for.
use Rattle.std.proofs.Common.{Option, IfSome, subst}
use Rattle.branch_tree.specs.Turns.{IsTurn}
use Rattle.open_nodes.specs.declared.turn.Turn.{Turn}
use Rattle.cut_separation.proofs.columns.root_of.Goals as goal

pub root_at-requires : goal.root_at-requires
root_at-requires c =
    subst (λ (t : Option Turn). IfSome t (IsTurn c.args.b.now)) c.in-Some.is (c.in_ok-turn.ensures.kept c.args.b.now c.in_ok-grove.ensures.kept)
