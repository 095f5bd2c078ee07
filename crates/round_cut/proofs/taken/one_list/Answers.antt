use Rattle.round_cut.proofs.OneList.{one_list_lem}
use Rattle.round_cut.proofs.taken.one_list.Goals as goal

pub returns : goal.returns
returns c = one_list_lem
