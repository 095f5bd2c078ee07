use Rattle.std.proofs.Common.{◌≡◌, ℕ, ◌<◌, None, map, vec_len, get_or}
use Rattle.block_pricers.specs.Told.{told_point, room_of}
use Rattle.block_pricers.proofs.told.silence.Given as goal

abbrev pub invariant-loop-k : goal.invariant-loop-k
invariant-loop-k l =
    (vec_len l.told ≡ vec_len l.initial.told) × (map room_of l.told.items ≡ map room_of l.initial.told.items)
    × ((i : ℕ) → i < l.k → get_or (map told_point l.told.items) i None ≡ None)
