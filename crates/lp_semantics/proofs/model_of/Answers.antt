-- The model of the parts is that of the tree, and what they are refused for is the tree's first fault.
use Rattle.lp_semantics.proofs.ModelProof.{model_made, refused_sums}
use Rattle.lp_semantics.proofs.model_of.Goals as goal

pub returns-in-Ok-make-clause-model : goal.returns-in-Ok-make-clause-model
returns-in-Ok-make-clause-model c =
    model_made c.args.limits c.args.text.now c.requires.text_of.0 c.args.tree.now c.in-Ok.parts c.in-Ok-make.model c.requires.text_of.1 c.in-Ok.ensures.parts c.in-Ok.ensures.sound
    c.in-Ok-make.ensures.made c.in-Ok-make.ensures.kept

pub returns-in-Err-Activity-clause-fault : goal.returns-in-Err-Activity-clause-fault
returns-in-Err-Activity-clause-fault c =
    refused_sums c.args.limits c.args.text.now c.requires.text_of.0 c.args.tree.now c.in-Ok.parts c.in-Err-Activity.field-0 c.in-Err-Activity.row c.requires.text_of.1 c.in-Ok.ensures.parts c.in-Ok.ensures.sound
    c.in-Err-Activity.field-0-is c.in-Err-Activity.ensures.fault
