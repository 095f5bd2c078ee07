use Rattle.std.proofs.Common.{◌∙◌, ap}
use Rattle.std.specs.List.{fold}
use Rattle.std.specs.Hash as fed
use Rattle.std.specs.Hash.FoldHasher as folding
use Rattle.col_pool.specs.Indexed.{hash_of}
use Rattle.col_pool.proofs.index.hash_of.Goals as goal

pub returns : goal.returns
unfolding hash_of
returns c =
    c.finish.ensures
    ∙ ap folding.finish (c.hash.ensures ∙ ap (λ h. fold folding.write h (fed.slice fed.i64 c.args.column.now.point)) c.default-hasher.ensures)
