use Rattle.std.proofs.Common.{◌≡◌, ◌≤◌, take}
use Rattle.std.specs.Prelude.{count_by, nat_lt}
use Rattle.report_lines.proofs.sizes.first_classes.Given as goal

-- the classes so far
abbrev pub invariant-loop-class : goal.invariant-loop-class
invariant-loop-class l = (l.count ≡ count_by (λ first. nat_lt first l.blocks) (take l.class l.root.firsts)) × (l.count ≤ l.class)
