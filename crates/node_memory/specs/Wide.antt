-- Blocks with many points.
use Rattle.std.specs.Prelude.{ℕ, ◌<◌, List, length}
use Rattle.bp_theory.specs.Limits.{most_prefixes}
use Rattle.bp_theory.specs.Blocking.{Blocking}
use Rattle.bp_theory.specs.Bound.{spans_of}
use Rattle.bp_theory.specs.Classes.{prefixes}
use Rattle.bp_theory.specs.declared.Span.{Span}
use Rattle.search_laws.specs.Spread.{block_at}

-- a block is there, and has more than 1,048,576 beginnings of points in a zone
pub record IsWide (b : Blocking) (zone : List Span) (k : ℕ) : Type 0 where
  pub there : k < length b.blocks
  pub many : most_prefixes < prefixes (spans_of zone (block_at b k))
