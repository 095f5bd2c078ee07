use Rattle.std.proofs.Common.{refl}
use Rattle.search_start.proofs.CutLemmas.{added_alone}
use Rattle.search_start.proofs.start.begin_afresh.Goals as goal

pub returns : goal.returns
returns c = (refl, refl, added_alone c.args.b c.in_ok-c.c c.args.cuts c.requires c.in_ok-c.ensures)
