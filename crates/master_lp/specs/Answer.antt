-- What an answer to a restricted master says, whatever led to it.
use Rattle.std.specs.Prelude.{◌≡◌, ◌↔◌, ℕ, List, zip, length, ℤ, pos, ◌+ℤ◌, ◌*ℤ◌, ◌≤ℤ◌, All}
use Rattle.search_laws.specs.Master.{AreConvex, FitsTimes, one_weight, weighted_cost, gap, short}
use Rattle.master_lp.specs.declared.answer.MasterAnswer.{MasterAnswer}
use Rattle.master_gap.specs.Restricted.{Restricted}
use Rattle.master_gap.specs.Ranges.{AreWeights, AreMultipliers}

-- weights and multipliers as they should be, and each class's least price, the gap and what is short, exactly
pub record IsAnswer (m : Restricted) (a : MasterAnswer) : Type 0 where
  pub weights : AreWeights m.cols (length m.counts) a.weights.items
  pub mults : AreMultipliers m.rows a.mults.items
  pub convex : AreConvex m.cols (length m.counts) a.mults.items a.convex.items
  pub gap_is : a.gap ≡ gap m.rows m.counts (zip m.cols a.weights.items) a.mults.items a.convex.items
  pub short_is : a.short ≡ pos (short m.rows m.counts (zip m.cols a.weights.items))

-- What the gap and what is short mean: weights that fit a number of times cost no less than the answer's as many times, but for the
-- gap as many times; and nothing is short exactly where the answer's weights fit.
pub record IsNearBest (m : Restricted) (a : MasterAnswer) : Type 0 where
  pub near : (n : ℕ) (others : List ℤ) → All (λ y. pos 0 ≤ℤ y) others → FitsTimes n m.rows m.counts (zip m.cols others)
      → (pos n *ℤ weighted_cost (zip m.cols a.weights.items)) ≤ℤ (pos one_weight *ℤ weighted_cost (zip m.cols others) +ℤ pos n *ℤ a.gap)
  pub fits : a.short ≡ pos 0 ↔ FitsTimes one_weight m.rows m.counts (zip m.cols a.weights.items)
