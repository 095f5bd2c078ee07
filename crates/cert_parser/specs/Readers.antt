-- The place of a reader of lines, below which splits, and what a byte makes of it.
use Rattle.std.specs.Prelude.{◌≡◌, ℕ, ◌+◌, ◌-◌, ◌^◌, ◌≤◌, Bool, List, [], ◌∷◌, ◌++◌, length, min, map, Option, Some, None, Result, Ok, Err, ℤ, pos}
use Rattle.bp_theory.specs.Limits.{most_cuts}
use Rattle.cert_format.specs.Cert as texts
use Rattle.cert_format.specs.Cert.{Cut, Tree, Split, Every}
use Rattle.cert_format.specs.Versions.{version_of}
use Rattle.cert_format.specs.Written.{in_text, written_pair, written_claim, written_cut, written_proof}
use Rattle.cert_format.specs.Signed.{signed}
use Rattle.cert_format.specs.Stages.{of_leaf, of_cut, Wait, low_of, high_of, leaf_of, proof_of, Told, Stage, at_bpcert, at_version, at_first_end, at_claim, at_kind, at_optimal, infeasible_end, at_bound, after_bound, at_value, claim_end, at_point, at_values, at_coordinate, at_first_cut, at_cuts, at_node, at_scale, at_rows, at_count, at_pairs, at_row, row_gap, at_multiplier, at_priced, at_blocks, at_block, leaf_end, at_variable, variable_gap, at_place, split_end, at_end, last_end, over, after, number_fault, behind_number}
use Rattle.cert_format.specs.declared.fault.CertFault.{CertFault}
use Rattle.cert_format.specs.declared.fault.CertFault.TheVariants.{At, NoMemory}
use Rattle.cert_format.specs.declared.spots.Spot.{Spot}
use Rattle.cert_format.specs.declared.spots.Spot.TheVariants as s
use Rattle.cert_format.specs.declared.words.Word.{Word}
use Rattle.cert_parser.specs.declared.lines.Event.{Event}
use Rattle.cert_parser.specs.declared.lines.Event.TheVariants as e
use Rattle.cert_parser.specs.declared.lines.Lines.{Lines}

-- a depth, up to the greatest one that is kept
abbrev pub kept_depth : ℕ → ℕ
kept_depth n = min n (2 ^ 64 - 1)

-- the depths of the high parts that are still to come, the nearest last
abbrev pub highs_of : List Wait → List ℕ
highs_of [] = []
highs_of (low_of i z ∷ ws) = highs_of ws ++ kept_depth (length ws + 1) ∷ []
highs_of (high_of i z low ∷ ws) = highs_of ws

-- behind a cut's divisor its line has begun
abbrev pub cutting : Spot → ℕ
cutting s.CutRows = 1
cutting s.CutCount = 1
cutting s.CutPairs = 1
cutting s.CutRow = 1
cutting s.CutGap = 1
cutting s.CutMultiplier = 1
cutting _ = 0

-- a reader keeps the depths of the next node and of the high parts still to come, where the next tree is below these splits, and how many cuts have
-- begun, where these are whole: no more than may be
pub record HasHighs (above : List Wait) (whole : List Cut) (r : Lines) : Type 0 where
  pub depth : r.depth ≡ kept_depth (length above)
  pub highs : r.highs.items ≡ highs_of above
  pub cuts : r.cuts ≡ length whole + cutting r.spot
  pub few : r.cuts ≤ most_cuts

-- the splits above the next tree behind a whole tree
abbrev pub waits_behind : List Wait → Tree → List Wait
waits_behind [] t = []
waits_behind (low_of i z ∷ ws) t = high_of i z t ∷ ws
waits_behind (high_of i z low ∷ ws) t = waits_behind ws (Split i z low t)

-- the root behind a whole tree: the tree above all splits, or what it was
abbrev pub root_behind : List Wait → Tree → Tree → Tree
root_behind [] root t = t
root_behind (low_of i z ∷ ws) root t = root
root_behind (high_of i z low ∷ ws) root t = root_behind ws root (Split i z low t)

-- the splits above the next tree behind a line
abbrev pub waits_after : List Wait → Option Event → List Wait
waits_after above None = above
waits_after above (Some e.Claim) = []
waits_after above (Some (e.Cut cut)) = above
waits_after above (Some (e.Split p)) = low_of (in_text p.var) p.at ∷ above
waits_after above (Some (e.Leaf is_open proof)) = waits_behind above (leaf_of is_open (written_proof proof))

-- the root behind a line
abbrev pub root_after : List Wait → Tree → Option Event → Tree
root_after above root None = root
root_after above root (Some e.Claim) = root
root_after above root (Some (e.Cut cut)) = root
root_after above root (Some (e.Split p)) = root
root_after above root (Some (e.Leaf is_open proof)) = root_behind above root (leaf_of is_open (written_proof proof))

-- the cuts behind a line
abbrev pub cuts_after : List Cut → Option Event → List Cut
cuts_after cuts (Some e.Claim) = []
cuts_after cuts (Some (e.Cut cut)) = cuts ++ written_cut cut ∷ []
cuts_after cuts _ = cuts

-- what the next line of a cut or of the tree stands behind
abbrev pub told_of : List Cut → Lines → Told
told_of cuts r = record { version = version_of r.version; claim = written_claim r.claim r.point; cuts = cuts; had = map written_pair r.had.pairs.items }

-- the place of a reader below these splits behind these cuts with so many pairs or blocks still to come; a whole tree is the root
abbrev pub place_of : List Wait → Tree → List Cut → Lines → ℕ → Spot → Stage
place_of above root cuts r n s.Bpcert = at_bpcert
place_of above root cuts r n s.Version = at_version
place_of above root cuts r n s.FirstEnd = at_first_end (version_of r.version)
place_of above root cuts r n s.Claim = at_claim (version_of r.version)
place_of above root cuts r n s.Kind = at_kind (version_of r.version)
place_of above root cuts r n s.OptimalValue = at_optimal (version_of r.version)
place_of above root cuts r n s.InfeasibleEnd = infeasible_end (version_of r.version)
place_of above root cuts r n s.BoundValue = at_bound (version_of r.version)
place_of above root cuts r n s.AfterBound = after_bound (version_of r.version) r.bound
place_of above root cuts r n s.KnownValue = at_value (version_of r.version) r.bound
place_of above root cuts r n s.ClaimEnd = claim_end (version_of r.version) r.claim
place_of above root cuts r n s.Point = at_point (version_of r.version) r.claim
place_of above root cuts r n s.Values = at_values (version_of r.version) r.claim r.point
place_of above root cuts r n s.Coordinate = at_coordinate (version_of r.version) r.claim r.point
place_of above root cuts r n s.FirstCut = at_first_cut (told_of cuts r) above
place_of above root cuts r n s.Cuts = at_cuts (told_of cuts r) above
place_of above root cuts r n s.Divisor = at_scale (told_of cuts r) above of_cut
place_of above root cuts r n s.CutRows = at_rows (told_of cuts r) above of_cut r.divisor
place_of above root cuts r n s.CutCount = at_count (told_of cuts r) above of_cut r.divisor
place_of above root cuts r n s.CutPairs = at_pairs (told_of cuts r) above of_cut r.divisor (map written_pair r.mults) r.last n
place_of above root cuts r n s.CutRow = at_row (told_of cuts r) above of_cut r.divisor (map written_pair r.mults) r.last n
place_of above root cuts r n s.CutGap = row_gap (told_of cuts r) above of_cut r.divisor (map written_pair r.mults) (in_text r.row) n
place_of above root cuts r n s.CutMultiplier = at_multiplier (told_of cuts r) above of_cut r.divisor (map written_pair r.mults) (in_text r.row) n
place_of above root cuts r n s.Node = at_node (told_of cuts r) above
place_of above root cuts r n s.Scale = at_scale (told_of cuts r) above (of_leaf r.is_open)
place_of above root cuts r n s.Rows = at_rows (told_of cuts r) above (of_leaf r.is_open) r.scale
place_of above root cuts r n s.Count = at_count (told_of cuts r) above (of_leaf r.is_open) r.scale
place_of above root cuts r n s.Pairs = at_pairs (told_of cuts r) above (of_leaf r.is_open) r.scale (map written_pair r.mults) r.last n
place_of above root cuts r n s.Row = at_row (told_of cuts r) above (of_leaf r.is_open) r.scale (map written_pair r.mults) r.last n
place_of above root cuts r n s.RowGap = row_gap (told_of cuts r) above (of_leaf r.is_open) r.scale (map written_pair r.mults) (in_text r.row) n
place_of above root cuts r n s.Multiplier = at_multiplier (told_of cuts r) above (of_leaf r.is_open) r.scale (map written_pair r.mults) (in_text r.row) n
place_of above root cuts r n s.Priced = at_priced (told_of cuts r) above r.is_open r.scale (map written_pair r.mults)
place_of above root cuts r n s.Blocks = at_blocks (told_of cuts r) above r.is_open r.scale (map written_pair r.mults) (map in_text r.blocks) r.last n
place_of above root cuts r n s.Block = at_block (told_of cuts r) above r.is_open r.scale (map written_pair r.mults) (map in_text r.blocks) r.last n
place_of above root cuts r n s.LeafEnd = leaf_end (told_of cuts r) above r.is_open (proof_of r.scale (map written_pair r.mults) Every)
place_of above root cuts r n s.Variable = at_variable (told_of cuts r) above
place_of above root cuts r n s.VariableGap = variable_gap (told_of cuts r) above (in_text r.place.var)
place_of above root cuts r n s.Place = at_place (told_of cuts r) above (in_text r.place.var)
place_of above root cuts r n s.SplitEnd = split_end (told_of cuts r) above (in_text r.place.var) r.place.at
place_of above root cuts r n s.End = at_end (told_of cuts r) root
place_of above root cuts r n s.LastEnd = last_end (told_of cuts r) root
place_of above root cuts r n s.Over = over (told_of cuts r) root

abbrev pub stage_of : List Wait → Tree → List Cut → Lines → ℕ → Stage
stage_of above root cuts r n = place_of above root cuts r n r.spot

-- what words leave as it is
pub record Keeps (old new : Lines) : Type 0 where
  pub line : new.line ≡ old.line
  pub left : new.left ≡ old.left

-- a word leads a reader to the place behind it, and ends a line that says this
abbrev pub LeadsTo : Lines → Lines → Option Event → Word → Type 0
LeadsTo old new event word = (above : List Wait) (root : Tree) (cuts : List Cut) (n : ℕ) → HasHighs above cuts old → stage_of (waits_after above event) (root_after above root event) (cuts_after cuts event) new n ≡ after (stage_of above root cuts old n) word

-- the depths are kept behind a line
abbrev pub KeepsHighs : Lines → Lines → Option Event → Type 0
KeepsHighs old new event = (above : List Wait) (cuts : List Cut) → HasHighs above cuts old → HasHighs (waits_after above event) (cuts_after cuts event) new

-- how many pairs or blocks are still to come behind a number, where so many were
abbrev pub count_behind : Spot → ℕ → ℕ → ℕ
count_behind s.CutCount n value = value
count_behind s.CutMultiplier n value = n - 1
count_behind s.Count n value = value
count_behind s.Priced n value = value
count_behind s.Multiplier n value = n - 1
count_behind s.Block n value = n - 1
count_behind _ n value = n

-- a number of pairs or blocks comes
abbrev pub IsCount : Spot → Type 0
IsCount s.CutCount = Unit {0}
IsCount s.Count = Unit {0}
IsCount s.Priced = Unit {0}
IsCount _ = ⊥

-- within a pair or a block, a byte has come behind the last one
abbrev pub slack : Spot → ℕ
slack s.CutRow = 1
slack s.CutGap = 1
slack s.CutMultiplier = 1
slack s.Row = 1
slack s.RowGap = 1
slack s.Multiplier = 1
slack s.Block = 1
slack _ = 0

-- a reader behind a faultless number; a number of pairs or blocks may be greater than it could keep
pub record IsBehind (old new : Lines) (z : ℤ) (value : ℕ) : Type 0 where
  pub place : (above : List Wait) (root : Tree) (cuts : List Cut) (n : ℕ) → stage_of above root cuts new (count_behind old.spot n value) ≡ behind_number (stage_of above root cuts old n) z
  pub counted : (above : List Wait) (root : Tree) (cuts : List Cut) (n k : ℕ) → IsCount old.spot → stage_of above root cuts new k ≡ behind_number (stage_of above root cuts old n) (pos k)
  pub left : new.left ≡ count_behind old.spot old.left value
  pub line : new.line ≡ old.line
  pub depth : new.depth ≡ old.depth
  pub highs : new.highs.items ≡ old.highs.items
  pub cuts : (k : ℕ) → old.cuts ≡ k + cutting old.spot → new.cuts ≡ k + cutting new.spot
  pub few : old.cuts ≤ most_cuts → new.cuts ≤ most_cuts
  pub paced : (IsCount old.spot → ⊥) → slack new.spot + old.left ≤ slack old.spot + new.left
  pub fresh : IsCount old.spot → slack new.spot ≡ 0
  pub goes_on : new.spot ≡ s.Over → ⊥

-- what a reader does with a number without a sign
abbrev pub TakesNatural : texts.Frame → Lines → Lines → ℕ → Result (Unit {0}) CertFault → Type 0
TakesNatural frame old new value (Ok _) = ((above : List Wait) (root : Tree) (cuts : List Cut) (n : ℕ) → HasHighs above cuts old → number_fault frame (stage_of above root cuts old n) (pos value) ≡ None) × IsBehind old new (pos value) value
TakesNatural frame old new value (Err NoMemory) = Unit {0}
TakesNatural frame old new value (Err (At line kind)) = (line ≡ old.line) × ((above : List Wait) (root : Tree) (cuts : List Cut) (n : ℕ) → HasHighs above cuts old → number_fault frame (stage_of above root cuts old n) (pos value) ≡ Some kind)

-- what a reader does with a number with a sign
abbrev pub TakesWhole : texts.Frame → Lines → Lines → Bool → ℕ → Result (Unit {0}) CertFault → Type 0
TakesWhole frame old new negative value (Ok _) = ((above : List Wait) (root : Tree) (cuts : List Cut) (n : ℕ) → HasHighs above cuts old → number_fault frame (stage_of above root cuts old n) (signed negative value) ≡ None) × IsBehind old new (signed negative value) value
TakesWhole frame old new negative value (Err NoMemory) = Unit {0}
TakesWhole frame old new negative value (Err (At line kind)) = (line ≡ old.line) × ((above : List Wait) (root : Tree) (cuts : List Cut) (n : ℕ) → HasHighs above cuts old → number_fault frame (stage_of above root cuts old n) (signed negative value) ≡ Some kind)
