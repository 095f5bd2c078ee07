-- Which lines may come where in a certificate's text, and what of it stays as it is from the tree's first line on.
use Rattle.std.specs.Prelude.{◌≡◌, ◌⊎◌, ℕ, false, List, [], ◌∷◌, Option, Some, None}
use Rattle.bp_theory.specs.declared.Limits.{Limits}
use Rattle.cert_format.specs.Text.{is_deep}
use Rattle.cert_format.specs.declared.spots.Spot.{Spot}
use Rattle.cert_format.specs.declared.spots.Spot.TheVariants as s
use Rattle.cert_parser.specs.declared.lines.Event.{Event}
use Rattle.cert_parser.specs.declared.lines.Event.TheVariants as e
use Rattle.cert_parser.specs.declared.lines.Lines.{Lines}

-- a place before the cuts and the tree, within the lines of cuts, within those of the tree, or behind them
pub data Phase : Type 0 where
  ahead : Phase
  cutting : Phase
  within : Phase
  past : Phase

abbrev pub phase_at : Spot → Phase
phase_at s.FirstCut = cutting
phase_at s.Cuts = cutting
phase_at s.Divisor = cutting
phase_at s.CutRows = cutting
phase_at s.CutCount = cutting
phase_at s.CutPairs = cutting
phase_at s.CutRow = cutting
phase_at s.CutGap = cutting
phase_at s.CutMultiplier = cutting
phase_at s.Node = within
phase_at s.Scale = within
phase_at s.Rows = within
phase_at s.Count = within
phase_at s.Pairs = within
phase_at s.Row = within
phase_at s.RowGap = within
phase_at s.Multiplier = within
phase_at s.Priced = within
phase_at s.Blocks = within
phase_at s.Block = within
phase_at s.LeafEnd = within
phase_at s.Variable = within
phase_at s.VariableGap = within
phase_at s.Place = within
phase_at s.SplitEnd = within
phase_at s.End = past
phase_at s.LastEnd = past
phase_at s.Over = past
phase_at _ = ahead

abbrev pub phase_of : Lines → Phase
phase_of r = phase_at r.spot

-- the phase behind a leaf, where the high parts with these depths are still to come
abbrev pub phase_behind : List ℕ → Phase
phase_behind [] = past
phase_behind (depth ∷ depths) = within

-- the claim and the point are those of before
pub record HasSameClaim (old new : Lines) : Type 0 where
  pub claim : new.claim ≡ old.claim
  pub point : new.point ≡ old.point

-- they stay from the cuts on
abbrev pub StaysFrom : Phase → Lines → Lines → Type 0
StaysFrom ahead old new = Unit {0}
StaysFrom cutting old new = HasSameClaim old new
StaysFrom within old new = HasSameClaim old new
StaysFrom past old new = HasSameClaim old new

-- where a split's variable has come, its node isn't too deep
abbrev pub IsShallowAt : Limits → Spot → (depth : ℕ) → Type 0
IsShallowAt limits s.VariableGap depth = is_deep limits depth ≡ false
IsShallowAt limits s.Place depth = is_deep limits depth ≡ false
IsShallowAt limits s.SplitEnd depth = is_deep limits depth ≡ false
IsShallowAt limits _ depth = Unit {0}

abbrev pub IsShallow : Limits → Lines → Type 0
IsShallow limits r = IsShallowAt limits r.spot r.depth

-- the phase and the depths are those of before, and from the cuts on the claim and the point are
pub record Stays (limits : Limits) (old new : Lines) : Type 0 where
  pub phase : phase_of new ≡ phase_of old
  pub claim : StaysFrom (phase_of old) old new
  pub shallow : IsShallow limits old → IsShallow limits new
  pub depth : new.depth ≡ old.depth
  pub highs : new.highs.items ≡ old.highs.items

-- a phase that may follow within a line: behind a node's first word the cuts are past
abbrev pub GoesOn : Phase → Phase → Type 0
GoesOn phase next = (next ≡ phase) ⊎ ((phase ≡ cutting) × (next ≡ within))

-- the same within a line, which may begin the tree
pub record Passes (limits : Limits) (old new : Lines) : Type 0 where
  pub phase : GoesOn (phase_of old) (phase_of new)
  pub claim : StaysFrom (phase_of old) old new
  pub shallow : IsShallow limits old → IsShallow limits new
  pub depth : new.depth ≡ old.depth
  pub highs : new.highs.items ≡ old.highs.items

-- a claim ends before the cuts and the tree, a cut's line before the tree, a node's line within it; a split's node isn't too deep
abbrev pub Tells : Limits → Lines → Lines → Option Event → Type 0
Tells limits old new None = Passes limits old new
Tells limits old new (Some e.Claim) = (phase_of old ≡ ahead) × GoesOn cutting (phase_of new) × IsShallow limits new
Tells limits old new (Some (e.Cut cut)) = (phase_of old ≡ cutting) × (phase_of new ≡ cutting) × HasSameClaim old new × IsShallow limits new
Tells limits old new (Some (e.Split p)) = (phase_of old ≡ within) × (phase_of new ≡ within) × HasSameClaim old new × IsShallow limits new × (IsShallow limits old → is_deep limits old.depth ≡ false)
Tells limits old new (Some (e.Leaf is_open proof)) = (phase_of old ≡ within) × (phase_of new ≡ phase_behind old.highs.items) × HasSameClaim old new × IsShallow limits new
