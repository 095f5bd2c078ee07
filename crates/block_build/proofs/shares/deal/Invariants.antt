use Rattle.std.proofs.Common.{◌≡◌, ℕ, [], ◌∷◌, ◌++◌, if◌then◌else◌, take, vec_len, get_or}
use Rattle.std.specs.Prelude.{◌==◌}
use Rattle.std.specs.List.{list_any}
use Rattle.block_build.proofs.shares.deal.Given as goal

abbrev pub invariant-loop-block : goal.invariant-loop-block
invariant-loop-block l = record {
  len : vec_len l.all ≡ vec_len l.initial.all;
  dealt : (k : ℕ) → get_or l.all.items k []
      ≡ (if list_any (λ j. j == k) (take l.block-index l.blocks) then get_or l.initial.all.items k [] ++ l.number ∷ [] else get_or l.initial.all.items k []);
}
