-- The cost of a point of a block whose sums are small.
use Rattle.std.proofs.Common.{◌≡◌, sym, ap, subst, ◌∙◌, ◌<◌, ◌^◌, arith}
use Rattle.std.specs.Prelude.{unsigned_abs}
use Rattle.std.specs.Int.{w128, int_wrap}
use Rattle.std.proofs.lemmas.Int.{ints}
use Rattle.bp_theory.specs.Sums.{dot}
use Rattle.col_pool.specs.Pools.{costs_of}
use Rattle.col_pool.proofs.PoolLemmas.{passed, fits, dot_small}
use Rattle.col_pool.proofs.activities.cost_of.Goals as goal

pub small-requires : goal.small-requires
small-requires c =
    let costs = costs_of c.args.block.now.block in
    let point = c.args.point.now in
    let low : unsigned_abs (dot costs point) < 2 ^ 62 = omega (arith, dot_small c.args.block.now.spans costs point c.requires.inside, c.requires.small.costs) in
    let value : c.total-total.result ≡ dot costs point =
    c.total-total.ensures ∙ ap (λ cs. int_wrap w128 (dot cs point)) c.costs.ensures ∙ fits (dot costs point) low in
    subst (λ z. unsigned_abs z < 2 ^ 62) (sym (passed c.total-total.result c.total-total.type_inv ∙ value)) low

pub returns : goal.returns
returns c =
    let costs = costs_of c.args.block.now.block in
    let point = c.args.point.now in
    let low : unsigned_abs (dot costs point) < 2 ^ 62 = omega (arith, dot_small c.args.block.now.spans costs point c.requires.inside, c.requires.small.costs) in
    let value : c.total-total.result ≡ dot costs point =
    c.total-total.ensures ∙ ap (λ cs. int_wrap w128 (dot cs point)) c.costs.ensures ∙ fits (dot costs point) low in
    let cast : c.small.result ≡ dot costs point = c.small.ensures ∙ passed c.total-total.result c.total-total.type_inv ∙ value in
    omega (arith, ints, cast)
