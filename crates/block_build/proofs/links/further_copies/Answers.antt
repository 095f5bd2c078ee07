use Rattle.std.proofs.Common.{◌≡◌, ◌∙◌, List, ℕ, [], length, get_or, ap, arith}
use Rattle.std.proofs.lemmas.List.{get_or_default}
use Rattle.block_build.proofs.links.further_copies.Goals as goal

pub further-requires : goal.further-requires
further-requires c =
    let i = c.loop-own.own-index in
    let own : c.own-item.result ≡ get_or c.args.homes.now i [] = c.own-item.is ∙ get_or_default c.args.homes.now i c.own-item.result [] c.loop-own-test.true in
    omega (arith, ap (λ (ks : List ℕ). length ks) own, c.requires.few i [] c.loop-own-test.true)
