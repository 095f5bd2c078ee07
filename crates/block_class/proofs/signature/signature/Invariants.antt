use Rattle.std.proofs.Common.{◌≡◌, length, ◌∷◌, ◌++◌, take}
use Rattle.std.specs.Prelude.{pos, flat_map}
use Rattle.block_class.specs.Signatures.{copy_signature, row_signature}
use Rattle.block_class.proofs.signature.signature.Given as goal

abbrev pub invariant-loop-place : goal.invariant-loop-place
invariant-loop-place l = l.numbers.items ≡ pos (length l.block.block.copies) ∷ flat_map (copy_signature l.zone) (take l.place l.block.block.copies)

abbrev pub invariant-loop-row : goal.invariant-loop-row
invariant-loop-row l =
    l.numbers.items ≡ (pos (length l.block.block.copies) ∷ flat_map (copy_signature l.zone) l.block.block.copies) ++ flat_map row_signature (take l.row-index l.block.block.rows)
