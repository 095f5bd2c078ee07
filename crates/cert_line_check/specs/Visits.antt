-- The visits of leaves: how many beginnings of assignments searches for the points of picked blocks may look at, and the first
-- leaf that asks for more than are left.
use Rattle.std.specs.Prelude.{◌≡◌, ℕ, zero, suc, ◌+◌, ◌<◌, ◌≤◌, true, List, [], ◌∷◌, ◌++◌, length, All}
use Rattle.bp_theory.specs.Program.{Program}
use Rattle.bp_theory.specs.Blocking.{Blocking}
use Rattle.bp_theory.specs.Decomposition.{Decomposition}
use Rattle.bp_theory.specs.Bound.{spans_of, is_picked, SignsFit}
use Rattle.bp_theory.specs.Classes.{IsSame, prefixes}
use Rattle.bp_theory.specs.Trees.{Leaf}
use Rattle.bp_theory.specs.Claims.{Certificate}
use Rattle.bp_theory.specs.Judgement.{Line, point_line, cut_line, split_line, leaf_line, judged_lines, blocking_with, Passes}
use Rattle.bp_theory.specs.declared.Span.{Span}
use Rattle.bp_theory.specs.declared.Picked.{Picked}
use Rattle.search_laws.specs.Spread.{block_at}
use Rattle.knapsack_table.specs.Taken.{IsTaken}

-- a block is picked, and no lower picked block is the same in a zone
pub record IsLowestPicked (b : Blocking) (zone : List Span) (picked : Picked) (k : ℕ) : Type 0 where
  pub own : is_picked picked k ≡ true
  pub lowest : (j : ℕ) → j < k → is_picked picked j ≡ true → IsSame zone (block_at b j) (block_at b k) → ⊥

-- its points are to be searched: no table takes it by its rows and its spans at the root
pub record IsSearched (root : List Span) (b : Blocking) (zone : List Span) (picked : Picked) (k : ℕ) : Type 0 where
  pub lowest : IsLowestPicked b zone picked k
  pub no_table : IsTaken (block_at b k).rows (spans_of root (block_at b k)) → ⊥

-- the visits of a block: its prefixes in the zone where it is to be searched, else none
pub data IsBlockVisits (root : List Span) (b : Blocking) (zone : List Span) (picked : Picked) (k n : ℕ) : Type 0 where
  searched : IsSearched root b zone picked k → n ≡ prefixes (spans_of zone (block_at b k)) → IsBlockVisits root b zone picked k n
  spared : (IsSearched root b zone picked k → ⊥) → n ≡ 0 → IsBlockVisits root b zone picked k n

-- those of all blocks below a number
abbrev pub AreBlockVisits : (root : List Span) → Blocking → (zone : List Span) → Picked → (k n : ℕ) → Type 0
AreBlockVisits root b zone picked zero n = n ≡ 0
AreBlockVisits root b zone picked (suc k) n =
    (below : ℕ) × (own : ℕ) × AreBlockVisits root b zone picked k below × IsBlockVisits root b zone picked k own × (n ≡ below + own)

-- the visits of pricing the picked blocks in a zone
abbrev pub AreZoneVisits : (root : List Span) → Blocking → (zone : List Span) → Picked → ℕ → Type 0
AreZoneVisits root b zone picked n = AreBlockVisits root b zone picked (length b.blocks) n

-- the visits of a line: those of a leaf, and none of each other line
abbrev pub IsLineVisits : (root : List Span) → Blocking → Line → ℕ → Type 0
IsLineVisits root b (point_line v x) n = n ≡ 0
IsLineVisits root b (cut_line rows cut) n = n ≡ 0
IsLineVisits root b (split_line zone v at) n = n ≡ 0
IsLineVisits root b (leaf_line leaf) n = AreZoneVisits root b leaf.zone leaf.proof.picked n

-- those of lines together
abbrev pub AreLineVisits : (root : List Span) → Blocking → List Line → ℕ → Type 0
AreLineVisits root b [] n = n ≡ 0
AreLineVisits root b (line ∷ lines) n =
    (own : ℕ) × (rest : ℕ) × IsLineVisits root b line own × AreLineVisits root b lines rest × (n ≡ own + rest)

-- a line is that of the first leaf whose visits exceed what those before it leave of a number of visits: all lines before it
-- pass, and its signs fit
pub record IsFirstUnpriced (p : Program) (d : Decomposition) (cert : Certificate) (most number : ℕ) : Type 0 where
  pub before : List Line
  pub leaf : Leaf
  pub after : List Line
  pub lines : judged_lines p d cert ≡ before ++ leaf_line leaf ∷ after
  pub passed : All (Passes p (blocking_with p d cert) cert.claim) before
  pub signs : SignsFit (blocking_with p d cert) leaf.proof
  pub spent : ℕ
  pub are_spent : AreLineVisits p.spans (blocking_with p d cert) before spent
  pub within : spent ≤ most
  pub own : ℕ
  pub are_own : AreZoneVisits p.spans (blocking_with p d cert) leaf.zone leaf.proof.picked own
  pub exceeds : most < spent + own
  pub numbered : number ≡ 3 + length before
