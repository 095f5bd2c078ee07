use Rattle.std.proofs.Common.{◌≡◌, ℕ, ◌+◌, ◌<◌, length, get_or, take}
use Rattle.std.specs.Prelude.{sum_by}
use Rattle.block_build.specs.Homes.{further}
use Rattle.block_build.proofs.links.first_links.Given as goal

abbrev pub invariant-loop-own : goal.invariant-loop-own
invariant-loop-own l = record {
  each : length l.links.items ≡ l.own-index;
  next : l.next ≡ l.rows + sum_by further (take l.own-index l.homes);
  links : (v : ℕ) → v < l.own-index → get_or l.links.items v 0 ≡ l.rows + sum_by further (take v l.homes);
}
