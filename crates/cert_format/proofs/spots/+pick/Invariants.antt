use Rattle.std.proofs.Common.{length}
use Rattle.cert_format.proofs.spots.+pick.Given as goal

abbrev pub decreases-pick : goal.decreases-pick
decreases-pick l = length l.words.now
