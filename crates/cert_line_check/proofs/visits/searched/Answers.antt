use Rattle.block_pricers.proofs.FormLemmas.{has_form}
use Rattle.cert_line_check.proofs.Counting.{copies_there}
use Rattle.cert_line_check.proofs.visits.searched.Goals as goal

pub takes-requires : goal.takes-requires
takes-requires c =
    has_form c.args.b.now c.block-block.result.now c.args.number c.blocks-2.ensures.formed c.requires.there c.block-block.ensures.block c.block-block.ensures.spans

pub fill_spans-requires-clause-there : goal.fill_spans-requires-clause-there
fill_spans-requires-clause-there c =
    copies_there c.args.b.now c.args.zone.now c.args.number c.block-block.result.now.block c.blocks-2.ensures.formed c.requires.zone c.requires.there c.block-block.ensures.block
