use Rattle.std.proofs.Common.{◌≡◌, length, [], ◌∷◌, ◌++◌, arith, subst, take, Option, Ok}
use Rattle.bp_theory.proofs.LimitLaws.{few_bytes}
use Rattle.dec_syntax.specs.Cut.{tokens}
use Rattle.dec_syntax.specs.Scan.{tokens_at, token_in}
use Rattle.dec_write.specs.Rows.{words_in, word_fault}
use Rattle.dec_write.specs.Listing.{Takes}
use Rattle.dec_write.specs.declared.fault.RowsKind.{RowsKind}
use Rattle.dec_write.proofs.RowsLemmas.{stands_first, stands_more, stands_fault, stands_last, seen_room}
use Rattle.dec_find.proofs.rows.read_words.Goals as goal

pub loop-word-init : goal.loop-word-init
loop-word-init c =
    let names = c.args.m.now.row_names in
    let rows : length names ≡ c.rows.result = omega (arith, c.rows.ensures.kept.row_named, c.rows.ensures.rows) in
    let keeps = c.in_ok-listing.ensures names rows in
    record {
      stands = record { inside = omega arith; countable = omega (arith, c.requires, few_bytes c.args.m.now.program.limits) };
      before = stands_first c.args.bytes.now c.args.m.now c.in_ok-listing.listing keeps;
      room = seen_room names c.in_ok-listing.listing [] keeps;
    }

pub returns-in-Some-2-clause-fault : goal.returns-in-Some-2-clause-fault
returns-in-Some-2-clause-fault c =
    let before = c.loop-word.invariant.before in
    let text = c.args.bytes.now in
    let names = c.args.m.now.row_names in
    let token = token_in text c.in-Some.word in
    let earlier = words_in (take before.place (tokens text)) in
    let told = subst (λ (o : Option RowsKind). Takes (word_fault names earlier token.bytes) names c.take.new.self earlier token.bytes (Ok o)) c.in-Some-2.is
    (c.in_ok-kind.ensures earlier before.keeps) in
    stands_fault text c.args.m.now c.loop-word.listing (tokens_at text c.loop-word.cursor) (tokens_at text c.in-Some.next) token c.in-Some-2.kind before
    c.requires c.in-Some.ensures.tokens told

pub loop-word-preserved : goal.loop-word-preserved
loop-word-preserved c =
    let before = c.loop-word.invariant.before in
    let text = c.args.bytes.now in
    let names = c.args.m.now.row_names in
    let token = token_in text c.in-Some.word in
    let earlier = words_in (take before.place (tokens text)) in
    let kept = subst (λ (o : Option RowsKind). Takes (word_fault names earlier token.bytes) names c.take.new.self earlier token.bytes (Ok o)) c.in_default-2.is
    (c.in_ok-kind.ensures earlier before.keeps) in
    record {
      stands = c.in-Some.ensures.stands;
      before = stands_more text c.args.m.now c.loop-word.listing c.take.new.self (tokens_at text c.loop-word.cursor) (tokens_at text c.in-Some.next) token before
          c.in-Some.ensures.tokens kept.0 kept.1;
      room = seen_room names c.take.new.self (earlier ++ (token.bytes ∷ [])) kept.1;
    }

pub returns-clause-rows : goal.returns-clause-rows
returns-clause-rows c =
    stands_last c.args.bytes.now c.args.m.now c.loop-word.listing (tokens_at c.args.bytes.now c.loop-word.cursor) c.loop-word.invariant.before c.requires c.in_default.ensures
