-- Signed numbers that are passed by reference come back as they were.
use Rattle.std.proofs.Common.{◌≡◌, ◌^◌, ◌<◌}
use Rattle.std.proofs.Math.IntN.{ℤ}
use Rattle.std.specs.Int.{w64, w128}
use Rattle.std.proofs.lemmas.Int.{to_z-of_z}
use lib.Signed.{mag}
use mir.Val.{SFits, of_z, to_z}

-- a number of 128 bits by its bits
pub passed : (z : ℤ) → mag z < 2 ^ 127 → to_z w128 (of_z w128 z) ≡ z
passed z h = let fits : SFits w128 z = record { sfits = h } in to_z-of_z w128 z fits

-- a number of 64 bits by its bits
pub passed_short : (z : ℤ) → mag z < 2 ^ 63 → to_z w64 (of_z w64 z) ≡ z
passed_short z h = let fits : SFits w64 z = record { sfits = h } in to_z-of_z w64 z fits
