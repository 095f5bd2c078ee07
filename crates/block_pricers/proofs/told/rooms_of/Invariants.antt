use Rattle.std.proofs.Common.{◌≡◌, ℕ, None, map, take, get_or}
use Rattle.block_pricers.specs.Forms.{forms_in, span_count}
use Rattle.block_pricers.specs.Told.{told_point, room_of}
use Rattle.block_pricers.proofs.told.rooms_of.Given as goal

abbrev pub invariant-loop-number : goal.invariant-loop-number
invariant-loop-number l =
    (map room_of l.told.items ≡ take l.number (map span_count (forms_in l.b))) × ((i : ℕ) → get_or (map told_point l.told.items) i None ≡ None)
