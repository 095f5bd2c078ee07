use Rattle.std.proofs.Common.{◌≡◌, ◌≤◌, ◌<◌, ◌⊎◌, ◌^◌, ℕ, vec_len, pos}
use Rattle.std.specs.Prelude.{All, unsigned_abs}
use Rattle.bp_theory.specs.Bound.{SignFitsSense}
use Rattle.search_laws.specs.Master.{multiplier, master_row}
use Rattle.master_gap.proofs.clip.clipped_multipliers.Given as goal

abbrev pub invariant-loop-i : goal.invariant-loop-i
invariant-loop-i l = record {
  many : vec_len l.mults ≡ l.i;
  sizes : All (λ p. unsigned_abs p ≤ 2 ^ 40) l.mults.items;
  signs : (j : ℕ) → j < l.i → (multiplier l.mults.items j ≡ pos 0) ⊎ SignFitsSense (master_row l.rows j).sense (multiplier l.mults.items j);
}
