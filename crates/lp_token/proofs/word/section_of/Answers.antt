use Rattle.std.proofs.Common.{◌∙◌, ap}
use Rattle.lp_token.specs.Word.{section_with, section_words}
use Rattle.lp_token.proofs.Keys.{key_start, key_more, key_full, key_whole}
use Rattle.lp_token.proofs.word.section_of.Goals as goal

pub loop-b-init : goal.loop-b-init
loop-b-init c = key_start c.args.bytes.now c.new-key.result.items c.new-key.ensures

pub returns-then-not-add : goal.returns-then-not-add
returns-then-not-add c =
    let full = c.add.ensures.full c.if-not-add.true in
    key_full c.args.bytes.now c.loop-b.key.items c.loop-b.b-index c.loop-b.gap c.key_byte.result c.loop-b-test.true c.loop-b.invariant c.key_byte.ensures full.0 full.1

pub loop-b-preserved : goal.loop-b-preserved
loop-b-preserved c = rw c.gap_behind-gap.ensures (key_more c.args.bytes.now c.loop-b.key.items c.add.new.key.items c.loop-b.b-index c.loop-b.gap c.key_byte.result c.loop-b-test.true c.loop-b.invariant c.key_byte.ensures (c.add.ensures.added c.if-not-add.false))

pub returns : goal.returns
returns c = c.section_named.ensures ∙ ap (section_with section_words) c.as_slice.ensures.value ∙ key_whole c.args.bytes.now c.loop-b.key.items c.loop-b.b-index c.loop-b.gap c.loop-b-test.false c.loop-b.invariant
