use Rattle.dec_components.proofs.FoundLemmas.{joined_share}
use Rattle.dec_find.proofs.joined_rows_share_a_block.Goals as goal

pub returns : goal.returns
returns c = joined_share
