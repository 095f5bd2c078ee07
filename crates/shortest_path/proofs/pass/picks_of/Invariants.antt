use Rattle.std.proofs.Common.{◌≡◌, List, ℕ, length, vec_len}
use Rattle.std.specs.Prelude.{All}
use Rattle.shortest_path.proofs.pass.picks_of.Given as goal

abbrev pub invariant-loop : goal.invariant-loop
invariant-loop l = record {
  many : vec_len l.picks ≡ l.counter;
  wide : All (λ (row : List ℕ). length row ≡ l.wide) l.picks.items;
}
