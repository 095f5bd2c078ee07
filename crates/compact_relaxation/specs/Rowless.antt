-- Programs in blocks where no block has rows.
use Rattle.std.specs.Prelude.{◌≡◌, [], All}
use Rattle.bp_theory.specs.Blocking.{Blocking}

-- no block has a row, so that each point of its box is one of its points
abbrev pub AreRowless : Blocking → Type 0
AreRowless b = All (λ block. block.rows ≡ []) b.blocks
