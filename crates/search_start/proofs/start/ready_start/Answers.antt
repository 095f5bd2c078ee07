use Rattle.std.proofs.Common.{refl}
use Rattle.search_start.proofs.CutLemmas.{still_loaded}
use Rattle.search_start.proofs.start.ready_start.Goals as goal

pub returns : goal.returns
returns c = (
  c.in_ok-c.ensures,
  still_loaded c.args.cut c.in_ok-c.c c.args.cuts c.args.from c.blocks-2.ensures.formed c.in_ok-c.ensures c.requires,
  refl,
  refl,
)
