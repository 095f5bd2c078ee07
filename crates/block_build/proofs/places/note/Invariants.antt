use Rattle.std.proofs.Common.{◌≡◌, ℕ, ◌<◌, vec_len, get_or, take}
use Rattle.block_build.specs.Places.{IsNoted}
use Rattle.block_build.proofs.places.note.Given as goal

abbrev pub invariant-loop-i : goal.invariant-loop-i
invariant-loop-i l = record {
  each : vec_len l.places ≡ vec_len l.initial.places;
  noted : (v : ℕ) → v < vec_len l.initial.places → IsNoted l.block (take l.i l.vars) v (get_or l.initial.places.items v (0, 0)) (get_or l.places.items v (0, 0));
}
