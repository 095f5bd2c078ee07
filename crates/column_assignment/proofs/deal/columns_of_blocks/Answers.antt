-- One block more gets its class's next column.
use Rattle.std.proofs.Common.{◌≡◌, sym, ap, subst, ◌∙◌, ℕ, ◌+◌, ◌<◌, ◌++◌, ◌∷◌, [], List, length, get_or, set, take, arith, ⊎_elim}
use Rattle.std.specs.Prelude.{◌==◌, count_by}
use Rattle.std.proofs.lemmas.Bool.{cases_lt}
use Rattle.std.proofs.lemmas.List.{length-set, length-append}
use Rattle.search_laws.specs.Spread.{class_at, rank}
use Rattle.column_assignment.proofs.DealLemmas.{any_default, ranks_more, rank_small, pushed_last, pushed_before}
use Rattle.column_assignment.proofs.deal.columns_of_blocks.Goals as goal

pub next_rank-rank-requires-clause-room : goal.next_rank-rank-requires-clause-room
next_rank-rank-requires-clause-room c =
    let classes = c.args.classes.now.classes in
    let class = c.class_of-class.result in
    let there : class < length c.loop-block.ranks.items = omega (arith, c.class_of-class.ensures.there, c.loop-block.invariant.many, c.requires.many) in
    omega (arith, c.loop-block.invariant.ranks class there, rank_small classes class c.loop-block.block, c.loop-block-test.true)

pub loop-block-preserved : goal.loop-block-preserved
loop-block-preserved c =
    let classes = c.args.classes.now.classes in
    let class = c.class_of-class.result in
    let j = c.loop-block.block in
    let ranks = c.loop-block.ranks.items in
    let there : class < length ranks = omega (arith, c.class_of-class.ensures.there, c.loop-block.invariant.many, c.requires.many) in
    let l : j < length classes = omega (arith, c.requires.each, c.loop-block-test.true) in
    let raised : c.next_rank-rank.new.ranks.items ≡ set ranks class (get_or ranks class 0 + 1) = c.next_rank-rank.ensures.raised in
    let many : length c.next_rank-rank.new.ranks.items ≡ length ranks = ap length raised ∙ length-set ranks class (get_or ranks class 0 + 1) in
    let pushed : c.push.new.self.items ≡ c.loop-block.columns.items ++ c.place_in.result ∷ [] = c.in_ok-push.ensures.items in
    let at : c.next_rank-rank.result ≡ rank classes j =
    c.next_rank-rank.ensures.rank ∙ c.loop-block.invariant.ranks class there ∙ ap (λ (k : ℕ). count_by (λ c. c == k) (take j classes)) c.class_of-class.ensures.class in
    let in_decks : class < length c.args.decks.now = omega (arith, c.class_of-class.ensures.there, c.requires.many) in
    let read : get_or c.args.decks.now class [] ≡ get_or c.args.decks.now class c.index-decks-class.result = any_default c.args.decks.now class [] c.index-decks-class.result in_decks in
    let deck_is : c.index-decks-class.result ≡ get_or c.args.decks.now class [] = cc in
    let own : c.place_in.result ≡ get_or (get_or c.args.decks.now (class_at classes j) []) (rank classes j) 0 =
    c.place_in.ensures
    ∙ ap (λ (d : List ℕ). get_or d c.next_rank-rank.result 0) deck_is
    ∙ ap (λ (n : ℕ). get_or (get_or c.args.decks.now class []) n 0) at
    ∙ ap (λ (k : ℕ). get_or (get_or c.args.decks.now k []) (rank classes j) 0) c.class_of-class.ensures.class in
    record {
      many = many ∙ c.loop-block.invariant.many;
      ranks = λ k m. ap (λ rs. get_or rs k 0) raised ∙ ranks_more classes ranks j class l c.class_of-class.ensures.class there c.loop-block.invariant.ranks k (omega (arith, m, many));
      each = ap length pushed ∙ length-append c.loop-block.columns.items (c.place_in.result ∷ []) ∙ ap (λ n. n + 1) c.loop-block.invariant.each;
      columns = λ i m. ⊎_elim
          (λ less. ap (λ cs. get_or cs i 0) pushed ∙ pushed_before c.loop-block.columns.items c.place_in.result i (omega (arith, less, c.loop-block.invariant.each)) ∙ c.loop-block.invariant.columns i less)
          (λ more.
          let same : i ≡ j = omega (arith, more, m) in
          ap (λ cs. get_or cs i 0) pushed ∙ pushed_last c.loop-block.columns.items c.place_in.result i (c.loop-block.invariant.each ∙ sym same)
          ∙ subst (λ n. c.place_in.result ≡ get_or (get_or c.args.decks.now (class_at classes n) []) (rank classes n) 0) (sym same) own)
          (cases_lt i j);
    }
