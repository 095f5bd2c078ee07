use Rattle.std.proofs.Common.{◌≡◌, ℕ, ◌<◌, [], vec_len, get_or}
use Rattle.block_class.proofs.MemberLemmas.{members_below}
use Rattle.block_class.proofs.members.members_of.Given as goal

abbrev pub invariant-loop-k : goal.invariant-loop-k
invariant-loop-k l = record {
  each : vec_len l.all ≡ l.count;
  members : (c : ℕ) → c < l.count → get_or l.all.items c [] ≡ members_below l.classes l.k c;
}
