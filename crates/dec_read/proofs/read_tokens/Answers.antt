use Rattle.std.proofs.Common.{ℕ, [], arith, sym, subst}
use Rattle.bp_theory.proofs.LimitLaws.{few_bytes}
use Rattle.dec_read.specs.Reading.{HasDecTextFault}
use Rattle.dec_syntax.specs.Scan.{tokens_at, token_in}
use Rattle.dec_syntax.proofs.ReadLemmas.{read_none, stands_more}
use Rattle.dec_read.proofs.EndLemmas.{stands_fault, end_reads, end_has_fault, reads_placed}
use Rattle.dec_read.proofs.read_tokens.Goals as goal

pub loop-word-init : goal.loop-word-init
loop-word-init c = record {
  stands = record { inside = omega arith; countable = omega (arith, c.requires.short, few_bytes c.args.m.now.program.limits) };
  before = record { earlier = []; has_read = read_none c.args.bytes.now c.args.m.now; keeps = c.requires.keeps };
}

pub returns-in-Some-2-clause-fault : goal.returns-in-Some-2-clause-fault
returns-in-Some-2-clause-fault c =
    let before = c.loop-word.invariant.before in
    let text = c.args.bytes.now in
    stands_fault text c.args.m.now c.loop-word.reader c.take.new.self (tokens_at text c.loop-word.cursor) (tokens_at text c.in-Some.next) (token_in text c.in-Some.word) c.in_ok-kind.field-0 c.in-Some-2.kind before
    c.requires.short c.in-Some.ensures.tokens (c.in_ok-kind.ensures before.earlier c.in-Some.word.line before.keeps) c.in-Some-2.is

pub loop-word-preserved : goal.loop-word-preserved
loop-word-preserved c =
    let before = c.loop-word.invariant.before in
    let text = c.args.bytes.now in
    record {
      stands = c.in-Some.ensures.stands;
      before = stands_more text c.args.m.now c.loop-word.reader c.take.new.self (tokens_at text c.loop-word.cursor) (tokens_at text c.in-Some.next) (token_in text c.in-Some.word) c.in_ok-kind.field-0 before
          c.in-Some.ensures.tokens (c.in_ok-kind.ensures before.earlier c.in-Some.word.line before.keeps) c.in_default-2.is;
    }

pub returns-in-Some-fault_at_end-clause-fault : goal.returns-in-Some-fault_at_end-clause-fault
returns-in-Some-fault_at_end-clause-fault c =
    let before = c.loop-word.invariant.before in
    let text = c.args.bytes.now in
    subst (λ (n : ℕ). HasDecTextFault text c.args.m.now n c.in-Some-fault_at_end.kind) (sym c.end_line.ensures)
    (end_has_fault text c.args.m.now (tokens_at text c.loop-word.cursor) before.earlier c.in-Some-fault_at_end.kind c.requires.short before.has_read c.in_default.ensures (c.in-Some-fault_at_end.ensures before.earlier before.keeps))

pub returns-clause-dec : goal.returns-clause-dec
returns-clause-dec c =
    let before = c.loop-word.invariant.before in
    let text = c.args.bytes.now in
    end_reads text c.args.m.now (tokens_at text c.loop-word.cursor) before.earlier c.into_dec.result c.requires.short before.has_read c.in_default.ensures
    (c.in_default-fault_at_end.ensures before.earlier before.keeps) (c.into_dec.ensures before.earlier before.keeps)

pub returns-clause-blocks : goal.returns-clause-blocks
returns-clause-blocks c = (reads_placed c.args.bytes.now c.args.m.now c.into_dec.result c.rows-rows.ensures.kept (returns-clause-dec c)).few

pub returns-clause-places : goal.returns-clause-places
returns-clause-places c = (reads_placed c.args.bytes.now c.args.m.now c.into_dec.result c.rows-rows.ensures.kept (returns-clause-dec c)).places

pub returns-clause-listed : goal.returns-clause-listed
returns-clause-listed c = (reads_placed c.args.bytes.now c.args.m.now c.into_dec.result c.rows-rows.ensures.kept (returns-clause-dec c)).listed
