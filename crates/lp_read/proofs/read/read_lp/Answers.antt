-- A text that is too long or can't be cut is refused at once.
use Rattle.std.proofs.Common.{ℕ, ◌≤◌, length, subst}
use Rattle.lp_read.proofs.ReadTree.{cut_refused}
use Rattle.lp_read.proofs.read.read_lp.Goals as goal

pub returns-in-Err-clause-fault : goal.returns-in-Err-clause-fault
returns-in-Err-clause-fault c =
    cut_refused c.args.limits c.args.bytes.now c.in-Err.fault (subst (λ (n : ℕ). length c.args.bytes.now ≤ n) c.bytes.ensures c.if-bytes.false) c.in-Err.ensures.fault
