use Rattle.std.proofs.Common.{◌≡◌, ◌<◌, ◌++◌, ◌∷◌, [], ℕ, List, true, false, length, get_or, All, sym, ap, subst, ◌∙◌, arith}
use Rattle.dec_find.proofs.MarkLemmas.{marked_below, marked_more, unmarked_more, marked_there}
use Rattle.dec_find.proofs.marked.numbers_of.Goals as goal

pub loop-row-preserved-then-not-unwrap_or : goal.loop-row-preserved-then-not-unwrap_or
loop-row-preserved-then-not-unwrap_or c =
    let mark = c.get.ensures.lookup.4 (omega arith) false in
    let is : get_or c.args.marks.now c.loop-row.row false ≡ false = cc (mark, c.copied.ensures, c.unwrap_or.ensures, c.if-not-unwrap_or.true) in
    c.loop-row.invariant ∙ sym (unmarked_more c.args.marks.now c.loop-row.row is)

pub loop-row-preserved : goal.loop-row-preserved
loop-row-preserved c =
    let mark = c.get.ensures.lookup.4 (omega arith) false in
    let is : get_or c.args.marks.now c.loop-row.row false ≡ true = cc (mark, c.copied.ensures, c.unwrap_or.ensures, c.if-not-unwrap_or.false) in
    c.in_ok-push.ensures.items ∙ ap (λ (rows : List ℕ). rows ++ (c.loop-row.row ∷ [])) c.loop-row.invariant ∙ sym (marked_more c.args.marks.now c.loop-row.row is)

pub returns-clause-below : goal.returns-clause-below
returns-clause-below c =
    let rows = length c.args.m.now.program.rows in
    let same : c.loop-row.row ≡ rows = omega arith in
    let all : c.loop-row.rows.items ≡ marked_below c.args.marks.now rows = c.loop-row.invariant ∙ ap (marked_below c.args.marks.now) same in
    subst (λ (xs : List ℕ). All (λ r. r < rows) xs) (sym all) (marked_there c.args.marks.now rows)
