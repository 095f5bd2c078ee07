use Rattle.std.proofs.Common.{◌≡◌, ◌∙◌, ◌+◌, List, ℕ, [], length, get_or, ap, arith}
use Rattle.std.specs.Prelude.{sum_by}
use Rattle.std.proofs.lemmas.List.{take_all, get_or_default}
use Rattle.std.proofs.lemmas.List.Sums.{sum_by_more_le}
use Rattle.block_build.specs.Homes.{further}
use Rattle.block_build.proofs.SumLemmas.{further_more, links_more}
use Rattle.block_build.proofs.ColumnLemmas.{one_longer}
use Rattle.block_build.proofs.links.first_links.Goals as goal

pub further-next-requires : goal.further-next-requires
further-next-requires c =
    let i = c.loop-own.own-index in
    let own : c.own-item.result ≡ get_or c.args.homes.now i [] = c.own-item.is ∙ get_or_default c.args.homes.now i c.own-item.result [] c.loop-own-test.true in
    omega (arith, ap (λ (ks : List ℕ). length ks) own, c.requires.few i [] c.loop-own-test.true)

pub overflow_add-next : goal.overflow_add-next
overflow_add-next c =
    let i = c.loop-own.own-index in
    let own : c.own-item.result ≡ get_or c.args.homes.now i [] = c.own-item.is ∙ get_or_default c.args.homes.now i c.own-item.result [] c.loop-own-test.true in
    let is : c.further-next.result ≡ further (get_or c.args.homes.now i []) = c.further-next.ensures ∙ ap further own in
    omega (arith, c.loop-own.invariant.next, sum_by_more_le further c.args.homes.now i [] c.loop-own-test.true, is, c.requires.end)

pub loop-own-preserved : goal.loop-own-preserved
loop-own-preserved c =
    let i = c.loop-own.own-index in
    let more = further_more c.args.homes.now i c.loop-own-test.true in
    let own : c.own-item.result ≡ get_or c.args.homes.now i [] = c.own-item.is ∙ get_or_default c.args.homes.now i c.own-item.result [] c.loop-own-test.true in
    let is : c.further-next.result ≡ further (get_or c.args.homes.now i []) = c.further-next.ensures ∙ ap further own in record {
      each = one_longer c.loop-own.links.items c.loop-own.next c.push.new.self.items i c.in_ok-push.ensures.items c.loop-own.invariant.each;
      next = omega (arith, c.loop-own.invariant.next, more, is);
      links = links_more c.args.rows c.args.homes.now c.loop-own.links.items c.push.new.self.items i c.loop-own.next c.in_ok-push.ensures.items c.loop-own.invariant.each c.loop-own.invariant.next
          c.loop-own.invariant.links;
    }

pub returns-clause-links : goal.returns-clause-links
returns-clause-links c = (
  omega (arith, c.loop-own.invariant.each, c.loop-own-test.false, c.loop-own.auto.own-index-end),
  λ v l. c.loop-own.invariant.links v (omega (arith, l, c.loop-own-test.false)),
)

pub returns-clause-end : goal.returns-clause-end
returns-clause-end c = c.loop-own.invariant.next ∙ ap (λ (hs : List (List ℕ)). c.args.rows + sum_by further hs) (take_all c.loop-own.own-index c.args.homes.now (omega (arith, c.loop-own-test.false)))
