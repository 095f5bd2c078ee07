-- Rows that stronger proofs may name: each row of the program by its own number, those of blocks too, then the link
-- rows and the cuts with the numbers that they have beside master rows alone.
use Rattle.std.specs.Prelude.{List, ◌++◌, map, length, ℤ, option_map}
use Rattle.std.specs.List.{range_with_len, zip, flat_map}
use Rattle.bp_theory.specs.Program.{Program, MeetsRow}
use Rattle.bp_theory.specs.Blocking.{Blocking, sides_of}
use Rattle.bp_theory.specs.Decomposition.{Decomposition, ProofRow, whole_row, link_row, no_row, links_of, full_row, block_of, lone_block, lone_variables, HasVariablesBelow}
use Rattle.bp_theory.specs.declared.Row.{Row}

-- the rows that stronger proofs may name, by number: the program's rows, the link rows, the cuts
abbrev pub wide_rows : Program → Decomposition → List Row → List ProofRow
wide_rows p d cuts =
    map (λ e. whole_row e.0) (zip p.rows d.places)
    ++ flat_map (links_of p d) (range_with_len 0 (length p.spans))
    ++ map whole_row cuts

-- the blocking of a program by a decomposition, with these rows of proofs
abbrev pub blocking_over : Program → Decomposition → List ProofRow → Blocking
blocking_over p d rows = record {
  constant = p.constant;
  blocks = map (block_of p d rows) (range_with_len 0 d.blocks) ++ map (lone_block p d rows) (lone_variables p d);
  rows = map (option_map sides_of) (map full_row rows);
}

-- the blocking in which proofs may name rows of blocks too
abbrev pub wide_blocking : Program → Decomposition → List Row → Blocking
wide_blocking p d cuts = blocking_over p d (wide_rows p d cuts)

-- a row's variables are those of the program
abbrev pub HasKnownVariables : Program → ProofRow → Type 0
HasKnownVariables p (whole_row row) = HasVariablesBelow (length p.spans) row.terms
HasKnownVariables p (link_row v k) = Unit {0}
HasKnownVariables p no_row = Unit {0}

-- a point meets a row that combinations may name
abbrev pub IsMet : List ℤ → ProofRow → Type 0
IsMet x (whole_row row) = MeetsRow x row
IsMet x (link_row v k) = Unit {0}
IsMet x no_row = Unit {0}
