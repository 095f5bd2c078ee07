-- The index of a pool's columns by the hashes of their points.
use Rattle.std.specs.Prelude.{ℕ, List, map}
use Rattle.std.specs.List.{fold}
use Rattle.std.specs.Hash as fed
use Rattle.std.specs.Hash.FoldHasher as folding
use Rattle.hash_index.specs.Indexed.{IsIndexOf}
use Rattle.hash_index.specs.declared.index.HashIndex.{HashIndex}
use Rattle.col_pool.specs.declared.column.Column.{Column}

-- the hash of a column's point
unfoldable pub hash_of : Column → ℕ
hash_of c = folding.finish (fold folding.write folding.initial (fed.slice fed.i64 c.point))

-- an index of the hashes of columns' points
abbrev pub Indexes : HashIndex → List Column → Type 0
Indexes index columns = IsIndexOf index (map hash_of columns)
