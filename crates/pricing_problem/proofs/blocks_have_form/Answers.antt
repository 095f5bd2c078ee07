use Rattle.pricing_problem.proofs.BlockLaws.{blocks_have_form_lem}
use Rattle.pricing_problem.proofs.blocks_have_form.Goals as goal

pub returns : goal.returns
returns c = blocks_have_form_lem
