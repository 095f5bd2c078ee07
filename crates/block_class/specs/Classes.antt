-- Classes of blocks that are the same in a zone.
use Rattle.std.specs.Prelude.{◌≡◌, ◌↔◌, ℕ, ◌<◌, ◌≤◌, ◌==◌, List, filter, length, All}
use Rattle.std.specs.List.{range_with_len}
use Rattle.std.specs.List.Sorted.{IsStrictlyIncreasing}
use Rattle.bp_theory.specs.Blocking.{Blocking}
use Rattle.bp_theory.specs.Classes.{IsSame}
use Rattle.bp_theory.specs.declared.Span.{Span}
use Rattle.search_laws.specs.Spread.{block_at, class_at}

-- the class numbers of blocks, and the first block of each class
pub record Grouping : Type 0 where
  pub classes : List ℕ
  pub firsts : List ℕ

-- the blocks of a class, ascending
abbrev pub members_of : List ℕ → ℕ → List ℕ
members_of classes c = filter (λ j. class_at classes j == c) (range_with_len 0 (length classes))

-- the first block of a class
pub record IsFirstOf (classes : List ℕ) (c first : ℕ) : Type 0 where
  pub there : first < length classes
  pub own : class_at classes first ≡ c
  pub least : (j : ℕ) → j < length classes → class_at classes j ≡ c → first ≤ j

-- each block has a class, two blocks share one exactly where they are the same in the zone, and classes are numbered by
-- their first blocks
pub record AreSameClasses (zone : List Span) (b : Blocking) (g : Grouping) : Type 0 where
  pub each : length g.classes ≡ length b.blocks
  pub known : All (λ c. c < length g.firsts) g.classes
  pub same : (j k : ℕ) → j < length b.blocks → k < length b.blocks
      → (class_at g.classes j ≡ class_at g.classes k) ↔ IsSame zone (block_at b j) (block_at b k)
  pub firsts : (c : ℕ) → c < length g.firsts → IsFirstOf g.classes c (class_at g.firsts c)
  pub ascend : IsStrictlyIncreasing g.firsts
