use Rattle.std.proofs.Common.{◌≡◌, ◌∙◌, length, ap, arith, refl}
use Rattle.block_class.proofs.MemberLemmas.{members_below, members_more, members_all}
use Rattle.block_class.proofs.members.members_of.Goals as goal

pub loop-k-preserved : goal.loop-k-preserved
loop-k-preserved c = record {
  each = omega (arith, c.push_member.ensures.len, c.loop-k.invariant.each);
  members = members_more c.args.classes.now c.loop-k.k _ c.args.count c.loop-k.all.items c.push_member.new.all.items refl
      (omega (arith, c.loop-k.invariant.each, c.loop-k.all.ok)) (c.requires.known c.loop-k.k 0 c.loop-k-test.true) c.in_ok-push_member.ensures.pushed c.loop-k.invariant.members;
}

pub returns : goal.returns
returns c =
    let end : c.loop-k.k ≡ length c.args.classes.now = omega (arith, c.loop-k-test.false, c.loop-k.auto.k-end) in
    members_all c.args.classes.now c.args.count c.loop-k.all.items (omega (arith, c.loop-k.invariant.each, c.loop-k.all.ok))
    (λ j l. c.loop-k.invariant.members j l ∙ ap (λ n. members_below c.args.classes.now n j) end)
