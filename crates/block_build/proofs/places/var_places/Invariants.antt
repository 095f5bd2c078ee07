use Rattle.std.proofs.Common.{◌≡◌, ℕ, ◌<◌, ◌≤◌, vec_len, get_or, map}
use Rattle.block_program.specs.Blocked.{RootBlock, HasCopyAt}
use Rattle.block_build.specs.Places.{IsFirstFrom}
use Rattle.block_build.proofs.places.var_places.Given as goal

abbrev pub invariant-loop-k : goal.invariant-loop-k
invariant-loop-k l = record {
  each : vec_len l.places ≡ l.vars;
  copies : (v : ℕ) (at : ℕ × ℕ) → v < l.vars → l.k ≤ at.0 → HasCopyAt (map (λ (k : RootBlock). k.block) l.blocks) v at
      → IsFirstFrom l.k (map (λ (k : RootBlock). k.block) l.blocks) v (get_or l.places.items v (0, 0));
}
