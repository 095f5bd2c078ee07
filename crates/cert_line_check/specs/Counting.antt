-- Counting the visits of a zone, block by block.
use Rattle.std.specs.Prelude.{◌≡◌, ℕ, ◌+◌, ◌<◌, ◌^◌, ◌⊎◌, min, Bool, true, false, List, length, Some, slice_index_or}
use Rattle.bp_theory.specs.Blocking.{Blocking}
use Rattle.bp_theory.specs.Bound.{spans_of, is_picked}
use Rattle.bp_theory.specs.Classes.{prefixes}
use Rattle.bp_theory.specs.declared.Span.{Span}
use Rattle.bp_theory.specs.declared.Picked.{Picked}
use Rattle.search_laws.specs.Spread.{block_at, class_at}
use Rattle.knapsack_table.specs.Taken.{IsTaken}
use Rattle.cert_line_check.specs.Visits.{IsBlockVisits, AreBlockVisits}
use Rattle.cert_line_check.specs.declared.visits.Spent.{Spent}
use Rattle.cert_line_check.specs.declared.visits.Spent.TheVariants.{Within, Exceeding}

-- a number cut off at 2 to the 127
abbrev pub cut_off : ℕ → ℕ
cut_off n = min n (2 ^ 127)

-- how many prefixes a block has in a zone, cut off, or none where a table takes it
abbrev pub AreCutPrefixes : (root : List Span) → Blocking → (zone : List Span) → (k cut : ℕ) → Type 0
AreCutPrefixes root b zone k cut =
    (IsTaken (block_at b k).rows (spans_of root (block_at b k)) × (cut ≡ 0))
    ⊎ ((IsTaken (block_at b k).rows (spans_of root (block_at b k)) → ⊥) × (cut ≡ cut_off (prefixes (spans_of zone (block_at b k)))))

-- the visits of a block, cut off
abbrev pub IsCutBlock : (root : List Span) → Blocking → (zone : List Span) → Picked → (k cut : ℕ) → Type 0
IsCutBlock root b zone picked k cut = (n : ℕ) × IsBlockVisits root b zone picked k n × (cut ≡ cut_off n)

-- those of all blocks below a number
abbrev pub AreCutBelow : (root : List Span) → Blocking → (zone : List Span) → Picked → (k cut : ℕ) → Type 0
AreCutBelow root b zone picked k cut = (n : ℕ) × AreBlockVisits root b zone picked k n × (cut ≡ cut_off n)

-- those of a zone
abbrev pub AreCutVisits : (root : List Span) → Blocking → (zone : List Span) → Picked → (cut : ℕ) → Type 0
AreCutVisits root b zone picked cut = AreCutBelow root b zone picked (length b.blocks) cut

-- what is left of a number of visits where others are spent, or that they exceed it
abbrev pub IsDifference : (left visits : ℕ) → Spent → Type 0
IsDifference left visits (Within now) = (rest : ℕ) × (now ≡ Some rest) × (visits + rest ≡ left)
IsDifference left visits Exceeding = left < visits

-- whether a picked block of a class stands below a number
abbrev pub IsSeen : (classes : List ℕ) → Picked → (k class : ℕ) → Bool → Type 0
IsSeen classes picked k class true = (j : ℕ) × (j < k) × (class_at classes j ≡ class) × (is_picked picked j ≡ true)
IsSeen classes picked k class false = (j : ℕ) → j < k → class_at classes j ≡ class → is_picked picked j ≡ true → ⊥

-- it is known of each class
pub record AreSeen (classes firsts : List ℕ) (picked : Picked) (k : ℕ) (seen : List Bool) : Type 0 where
  pub each : length seen ≡ length firsts
  pub known : (class : ℕ) → class < length firsts → IsSeen classes picked k class (slice_index_or seen class false)
