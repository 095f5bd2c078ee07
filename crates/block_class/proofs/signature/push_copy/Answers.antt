use Rattle.std.proofs.Common.{refl}
use Rattle.block_class.proofs.SignatureLemmas.{copy_pushed, var_inside}
use Rattle.block_class.proofs.signature.push_copy.Goals as goal

pub span-span-requires : goal.span-span-requires
span-span-requires c = var_inside c.args.zone.now c.args.block.now.block.copies c.args.place c.vars.result.now c.requires.place c.vars.ensures c.requires.below

pub returns : goal.returns
returns c = λ d.
    copy_pushed c.args.zone.now c.args.block.now.block.copies c.args.place d c.vars.result.now c.costs.result.now _ c.span-span.result c.master.result.now
    c.args.numbers.now.items c.push_head.new.numbers.items c.push_coefs.new.numbers.items
    c.requires.place c.vars.ensures c.costs.ensures refl c.span-span.ensures (c.master.ensures d) c.in_ok-push_head.ensures c.in_ok-push_coefs.ensures
