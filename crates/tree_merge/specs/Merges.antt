-- What is made of two loaded trees.
use Rattle.std.specs.Prelude.{◌≡◌, List, Option, Some, None, option_map, if◌then◌else◌, ℤ, int_lt}
use Rattle.branch_tree.specs.declared.loaded.Loaded.{Loaded}
use Rattle.tree_merge.specs.Laws.{merged_by}

-- the cost of a best point that has it beside it
abbrev pub cost_in : Option (List ℤ × ℤ) → Option ℤ
cost_in best = option_map (λ k. k.1) best

-- the cheaper of two best points, the first of equal ones
abbrev pub cheaper_of : Option (List ℤ × ℤ) → Option (List ℤ × ℤ) → Option (List ℤ × ℤ)
cheaper_of None other = other
cheaper_of (Some k) None = Some k
cheaper_of (Some k) (Some l) = if int_lt l.1 k.1 then Some l else Some k

-- two loaded trees made into one, with the cheaper point
pub record IsMergedOf (first second from : Loaded) : Type 0 where
  pub tree : from.grove.tree ≡ merged_by (cost_in first.best) (cost_in second.best) first.grove.tree second.grove.tree
  pub best : from.best ≡ cheaper_of first.best second.best
