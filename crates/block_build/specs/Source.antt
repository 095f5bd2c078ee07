-- What blocks are assembled from.
use Rattle.std.specs.Prelude.{◌≡◌, ◌+◌, ◌≤◌, ◌++◌, ℕ, ℤ, List, [], map, length, sum_by, slice_index_or}
use Rattle.bp_theory.specs.Program.{Program}
use Rattle.bp_theory.specs.Limits.{most_blocks, most_lines}
use Rattle.bp_theory.specs.declared.Limits.TheVariants.{Large}
use Rattle.bp_theory.specs.Blocking.{Copy, Block}
use Rattle.bp_theory.specs.Decomposition.{Decomposition, HasPlaces, ProofRow, proof_rows, is_first, copy_of, rows_of, row_with_places}
use Rattle.bp_model.specs.Named.{IsKept}
use Rattle.block_build.specs.Columns.{AreColumns, AreColumnsFrom, master_entries}
use Rattle.block_program.specs.Cuts.{AreCutRows}
use Rattle.block_build.specs.Homes.{further, link_entries, AreHomes, AreLinks}
use Rattle.block_build.specs.declared.source.Source.{Source}
use Rattle.block_build.specs.declared.source.Standing.{Standing}

-- rows and homes of a program's variables
pub record IsStanding (p : Program) (d : Decomposition) (s : Standing) : Type 0 where
  pub columns : AreColumns p.rows s.columns.items
  pub each_column : length s.columns.items ≡ length p.spans
  pub homes : AreHomes p d s.homes.items

-- columns, homes and link rows of a model and a decomposition of it, and the columns of cuts behind them
pub record IsSource (s : Source) : Type 0 where
  pub kept : IsKept s.model.now
  pub places : HasPlaces s.model.now.program s.dec.now
  pub few : s.dec.now.blocks ≤ most_blocks Large
  pub cuts : AreCutRows s.model.now.program s.cuts.now
  pub columns : AreColumns s.model.now.program.rows s.columns.items
  pub each_column : length s.columns.items ≡ length s.model.now.program.spans
  pub homes : AreHomes s.model.now.program s.dec.now s.homes.items
  pub links : AreLinks (length s.model.now.program.rows) s.homes.items s.links.items
  pub end : s.end ≡ length s.model.now.program.rows + sum_by further s.homes.items
  pub few_lines : s.end ≤ most_lines Large
  pub cut_columns : AreColumnsFrom s.end s.cuts.now s.cut_columns.items
  pub each_cut_column : length s.cut_columns.items ≡ length s.model.now.program.spans

-- the rows that proofs may name
abbrev pub rows_in : Source → List ProofRow
rows_in s = proof_rows s.model.now.program s.dec.now s.cuts.now

-- the copy of a variable in a block
abbrev pub copy_in : Source → ℕ → ℕ → Copy
copy_in s k v = copy_of s.model.now.program (rows_in s) (is_first s.model.now.program s.dec.now v k) v k

-- the coefficients of a variable's first copy: in master rows, in its link rows and in cuts
abbrev pub first_entries : Source → ℕ → List (ℕ × ℤ)
first_entries s v =
    master_entries s.dec.now.places (slice_index_or s.columns.items v [])
    ++ link_entries (slice_index_or s.links.items v 0) (further (slice_index_or s.homes.items v []))
    ++ slice_index_or s.cut_columns.items v []

-- the block of copies of these variables, with the rows of a block's number
abbrev pub block_in : Source → ℕ → List ℕ → Block
block_in s k vars = record {
  copies = map (copy_in s k) vars;
  rows = map (row_with_places vars) (rows_of s.model.now.program s.dec.now k);
}
