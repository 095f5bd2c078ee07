use Rattle.std.proofs.Common.{◌∙◌, [], ap, arith}
use Rattle.search_laws.specs.Spread.{block_at}
use Rattle.block_class.specs.Signatures.{signature}
use Rattle.block_class.proofs.SameLemmas.{vars_in_zone}
use Rattle.block_class.proofs.GroupLemmas.{grouped_more, program_classes}
use Rattle.block_class.proofs.group.grouped.Goals as goal

pub signature-requires : goal.signature-requires
signature-requires c =
    vars_in_zone c.args.b.now c.args.zone.now c.block.result.now.block c.loop-k.k c.blocks-k-end.ensures.formed c.requires.inside
    (c.block.ensures.block (record { copies = []; rows = [] })) (omega (arith, c.loop-k-test.true, c.blocks-k-end.ensures.blocks))

pub loop-k-preserved : goal.loop-k-preserved
loop-k-preserved c = record {
  grouped = grouped_more (λ j. signature c.args.zone.now (block_at c.args.b.now.blocking j)) c.loop-k.k c.loop-k.signatures c.add.new.self
      c.loop-k.classes.items c.loop-k.firsts.items c.push.new.self.items c.push_if.new.numbers.items c.in_ok-numbers.numbers.items c.in_ok-class.class c.in_ok-class.is_new
      c.loop-k.invariant.grouped
      (c.in_ok-numbers.ensures ∙ ap (signature c.args.zone.now) (c.block.ensures.block (record { copies = []; rows = [] })))
      c.in_ok-class.ensures.number c.in_ok-class.ensures.kept c.in_ok-class.ensures.distinct c.in_ok-push.ensures.items c.in_ok-push_if.ensures;
  distinct = c.in_ok-class.ensures.distinct;
}

pub returns-clause-classes : goal.returns-clause-classes
returns-clause-classes c =
    program_classes c.args.b.now c.args.zone.now c.loop-k.k c.loop-k.signatures c.loop-k.classes.items c.loop-k.firsts.items c.blocks-k-end.ensures.formed
    (omega (arith, c.loop-k-test.false, c.loop-k.auto.k-end, c.blocks-k-end.ensures.blocks)) c.loop-k.invariant.grouped c.loop-k.invariant.distinct
