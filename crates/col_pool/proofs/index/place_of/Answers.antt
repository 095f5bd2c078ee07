-- A walk along the chain of the column's hash meets its point, or tells that none has it.
use Rattle.std.proofs.Common.{◌≡◌, ◌<◌, ◌-◌, map, subst, length, get_or, arith}
use Rattle.std.proofs.lemmas.List.{length-map}
use Rattle.hash_index.specs.Indexed.{slot_in}
use Rattle.hash_index.proofs.WalkLemmas.{walk_first, walk_next}
use Rattle.col_pool.specs.Indexed.{hash_of}
use Rattle.col_pool.proofs.FoundLemmas.{other_columns, has_point, has_other}
use Rattle.col_pool.proofs.index.place_of.Goals as goal

pub loop-last-init : goal.loop-last-init
loop-last-init c =
    let index = c.args.index.now in
    walk_first index (map hash_of c.args.columns.now) (hash_of c.args.column.now) _ c.last_of-last.result c.requires.index
    (other_columns index c.args.columns.now c.args.column.now)
    (subst (λ h. slot_in index h < length index.heads.items) c.requires.hash c.last_of-last.ensures.there)
    (subst (λ h. c.last_of-last.result ≡ get_or index.heads.items (slot_in index h) 0) c.requires.hash c.last_of-last.ensures.last)

pub loop-last-preserved : goal.loop-last-preserved
loop-last-preserved c =
    let columns = c.args.columns.now in
    let column = c.args.column.now in
    let there : c.loop-last.last - 1 < length columns = omega (arith, c.loop-last-test.true, c.loop-last.invariant.within, length-map columns hash_of) in
    walk_next c.args.index.now (map hash_of columns) (hash_of column) _ c.loop-last.last c.last_before-last.result c.requires.index
    (other_columns c.args.index.now columns column) c.loop-last.invariant c.loop-last-test.true
    (has_other columns column c.index-columns-place.result (c.loop-last.last - 1) c.eq.result there c.index-columns-place.is c.eq.ensures c.if-eq.false)
    c.last_before-last.ensures

pub returns-then-eq-clause-found : goal.returns-then-eq-clause-found
returns-then-eq-clause-found c =
    let columns = c.args.columns.now in
    let there : c.loop-last.last - 1 < length columns = omega (arith, c.loop-last-test.true, c.loop-last.invariant.within, length-map columns hash_of) in
    has_point columns c.args.column.now c.index-columns-place.result (c.loop-last.last - 1) c.eq.result there c.index-columns-place.is c.eq.ensures c.if-eq.true

pub returns : goal.returns
returns c = record { found = tt; absent = λ k d l. c.loop-last.invariant.others k (omega (arith, c.loop-last-test.false)) (omega (arith, l, length-map c.args.columns.now hash_of)) d }
