use Rattle.std.proofs.Common.{◌≡◌, ◌<◌, ℕ, get_or, pos}
use Rattle.cmd_certificates.proofs.same.are_same_rows.Given as goal

abbrev pub invariant-loop-place : goal.invariant-loop-place
invariant-loop-place l = (k : ℕ) → k < l.place → get_or l.a k (0, pos 0) ≡ get_or l.b k (0, pos 0)
