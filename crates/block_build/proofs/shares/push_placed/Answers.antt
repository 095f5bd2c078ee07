use Rattle.std.proofs.Common.{◌∙◌, ap, arith, List, [], get_or, ℕ}
use Rattle.std.proofs.lemmas.Result.{on_ok_weaker}
use Rattle.block_build.proofs.ShareLemmas.{row_pushed}
use Rattle.block_build.proofs.shares.push_placed.Goals as goal

pub returns-in-Some-clause-pushed : goal.returns-in-Some-clause-pushed
returns-in-Some-clause-pushed c =
    let there = rw c.in-Some.is at c.requires in
    on_ok_weaker c.push_to.result
    (λ e k. ap (λ (all : List (List ℕ)). get_or all k []) e
    ∙ row_pushed c.args.all.now.items c.args.place c.in-Some.block c.args.number k c.in-Some.is (omega (arith, there, c.args.all.now.ok)))
    c.push_to.ensures.pushed
