use Rattle.std.proofs.Common.{◌≡◌, ℕ, ◌<◌, get_or, length, vec_len, pos}
use Rattle.enumeration.proofs.relax.keep_plain.Given as goal

abbrev pub invariant-loop-k : goal.invariant-loop-k
invariant-loop-k l = record {
  len : vec_len l.relaxed.costs ≡ length l.costs;
  scale : l.relaxed.scale ≡ 1;
  offset : l.relaxed.offset ≡ pos 0;
  copied : (i : ℕ) → i < l.k → get_or l.relaxed.costs.items i (pos 0) ≡ get_or l.costs i (pos 0);
}
