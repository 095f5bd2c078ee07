use Rattle.std.specs.Prelude.{IfSome, ◌≡◌}
use Rattle.bp_theory.specs.Judgement.{tree_lines}
use Rattle.block_pricers.specs.Forms.{forms_in}
use Rattle.block_pricers.specs.Works.{forms_of}
use Rattle.cert_format.specs.Sketch.{tree_of}
use Rattle.cert_line_check.specs.Steps.{steps_of, moves, IsJudging}
use Rattle.cert_line_check.proofs.tree.judge_tree.Given as goal

abbrev pub invariant-loop-step : goal.invariant-loop-step
invariant-loop-step l = record {
  judged : IsJudging l.b.named.program l.b.blocking l.claim (tree_lines (tree_of l.tree) l.fn.at.zone) l.fn.at.zone l.fn.at (steps_of l.ahead.items) l.place;
  made_for : IfSome l.work (λ made. forms_of made ≡ forms_in l.b);
}

abbrev pub decreases-loop-step : goal.decreases-loop-step
decreases-loop-step l = moves (steps_of l.ahead.items)
