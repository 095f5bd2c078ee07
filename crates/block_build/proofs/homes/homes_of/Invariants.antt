use Rattle.std.proofs.Common.{◌≡◌, ℕ, ◌<◌, [], length, get_or}
use Rattle.block_build.specs.Homes.{shown_homes}
use Rattle.block_build.proofs.homes.homes_of.Given as goal

abbrev pub invariant-loop-v : goal.invariant-loop-v
invariant-loop-v l = record {
  each : length l.homes.items ≡ l.v;
  homes : (v : ℕ) → v < l.v → get_or l.homes.items v [] ≡ shown_homes l.blocks l.places (get_or l.columns v []);
}
