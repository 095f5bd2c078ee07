use Rattle.std.proofs.Common.{◌≡◌, ◌≤◌, ◌⊎◌, ◌++◌, [], length}
use Rattle.std.specs.Vec.Iter.{into_iter_items, into_iter_len}
use Rattle.round_cut.specs.Several.{AreRowsOfCuts}
use Rattle.round_cut.proofs.taken.extended.Given as goal

abbrev pub invariant-loop-cut : goal.invariant-loop-cut
invariant-loop-cut l = record {
  rows : AreRowsOfCuts l.b.named.program l.b.dec l.all.items l.rows.items;
  parts : l.fn.more.items ≡ l.yielded ++ into_iter_items l.cut-iterator;
  is : l.all.items ≡ l.fn.cuts.items ++ l.yielded;
  long : into_iter_len l.cut-iterator ≡ length (into_iter_items l.cut-iterator);
  few : (l.yielded ≡ []) ⊎ (length l.all.items ≤ l.most);
}
