-- All symbols are read, or the first fault stands.
use Rattle.std.proofs.Common.{ℕ, ◌<◌, ◌≤◌, ◌≡◌, [], List, length, sym, arith, subst}
use Rattle.std.specs.Prelude.{IfSome}
use Rattle.lp_token.specs.declared.Tok.{Tok}
use Rattle.lp_token.specs.Cut.{Cut}
use Rattle.lp_syntax.specs.Symbols.{symbols}
use Rattle.lp_read.specs.declared.notes.Notes.{Notes}
use Rattle.lp_read.specs.declared.notes.ParseFault.{ParseFault}
use Rattle.lp_read.specs.declared.parse.State.{State}
use Rattle.lp_read.specs.Noted.{HaveRoom}
use Rattle.lp_read.specs.Parsing.{IsParseFault, StopsAt, ReadsOn}
use Rattle.lp_read.proofs.ReadAll.{handed, at_start, begins, smaller, ahead_by_one, remains, goes_on, none_held, stops, finished, unfinished}
use Rattle.lp_read.proofs.parse.parse.Goals as goal

pub read-init : goal.read-init
read-init c = record {
  between = c.next_symbol-current.ensures.between;
  room = (at_start c.args.limits c.args.bytes.now [] c.no_notes.result c.no_notes.ensures).1;
  named = c.next_symbol-current.ensures.named;
  ahead = subst (λ (k : ℕ). IfSome c.next_symbol-current.result.0 (λ _. k < c.next_symbol-current.result.1.place.at)) c.first_cursor.ensures.start c.next_symbol-current.ensures.further;
  behind = omega arith;
  reads = begins c.args.limits c.args.bytes.now c.no_notes.result c.next_symbol-current.result.0 c.first_cursor.result c.next_symbol-current.result.1 c.no_notes.ensures (c.first_cursor.ensures.all c.args.bytes.now) c.next_symbol-current.ensures.next;
}

pub next_symbol-next-requires-clause-cut : goal.next_symbol-next-requires-clause-cut
next_symbol-next-requires-clause-cut c = remains c.args.limits c.args.bytes.now c.read.at c.in-Some.symbol c.read.cursor c.read.state c.requires.cut (rw c.in-Some.is at c.read.invariant.reads)

pub returns-in_err-state-clause-fault : goal.returns-in_err-state-clause-fault
returns-in_err-state-clause-fault c =
    let same : c.read_sign.new.state ≡ c.read.state = c.in_ok-read_sign.ensures.other c.if-not-branch.true in
    let stop : StopsAt c.args.bytes.now c.read.at c.in-Some.symbol c.next_symbol-next.result.0 c.read.state c.in_err-state.field-0.0
    = subst (λ (x : State). StopsAt c.args.bytes.now c.read.at c.in-Some.symbol c.next_symbol-next.result.0 x c.in_err-state.field-0.0) same c.in_err-state.ensures.fault in
    handed c.from_residual-in_err-state.result (λ (f : ParseFault). (tokens : List Tok) → Cut c.args.bytes.now tokens → IsParseFault c.args.limits (symbols c.args.bytes.now tokens) f) c.in_err-state.field-0.0
    c.from_residual-in_err-state.ensures.1
    (stops c.args.limits c.args.bytes.now c.read.at c.in-Some.symbol c.next_symbol-next.result.0 c.read.cursor c.next_symbol-next.result.1 c.read.state c.in_err-state.field-0.0
    (rw c.in-Some.is at c.read.invariant.reads) c.next_symbol-next.ensures.next stop)

pub read-smaller-then-not-branch : goal.read-smaller-then-not-branch
read-smaller-then-not-branch c =
    smaller c.read.current c.next_symbol-next.result.0 c.in-Some.symbol (length c.args.bytes.now) c.read.cursor.place.at c.next_symbol-next.result.1.place.at c.in-Some.is c.next_symbol-next.ensures.further
    c.next_symbol-next.ensures.onward c.next_symbol-next.ensures.between.position.inside

pub read-smaller : goal.read-smaller
read-smaller c =
    smaller c.read.current c.next_symbol-next.result.0 c.in-Some.symbol (length c.args.bytes.now) c.read.cursor.place.at c.next_symbol-next.result.1.place.at c.in-Some.is c.next_symbol-next.ensures.further
    c.next_symbol-next.ensures.onward c.next_symbol-next.ensures.between.position.inside

pub read-preserved-then-not-branch : goal.read-preserved-then-not-branch
read-preserved-then-not-branch c =
    let same : c.read_sign.new.state ≡ c.read.state = c.in_ok-read_sign.ensures.other c.if-not-branch.true in
    let on : ReadsOn c.args.bytes.now c.read.at c.in-Some.symbol c.next_symbol-next.result.0 c.read.state c.in_ok-state.state
    = subst (λ (x : State). ReadsOn c.args.bytes.now c.read.at c.in-Some.symbol c.next_symbol-next.result.0 x c.in_ok-state.state) same c.in_ok-state.ensures.read in
    let ahead : c.read.at < c.read.cursor.place.at = rw c.in-Some.is at c.read.invariant.ahead in
    let onward : c.read.cursor.place.at ≤ c.next_symbol-next.result.1.place.at = c.next_symbol-next.ensures.onward in
    record {
      between = c.next_symbol-next.ensures.between;
      room = c.in_ok-state.ensures.room;
      named = c.next_symbol-next.ensures.named;
      ahead = ahead_by_one c.next_symbol-next.result.0 c.read.at c.read.cursor.place.at c.next_symbol-next.result.1.place.at ahead c.next_symbol-next.ensures.further;
      behind = omega arith;
      reads = goes_on c.args.limits c.args.bytes.now c.read.at c.in-Some.symbol c.next_symbol-next.result.0 c.read.cursor c.next_symbol-next.result.1 c.read.state c.in_ok-state.state
          (rw c.in-Some.is at c.read.invariant.reads) c.next_symbol-next.ensures.next on;
    }

pub read-preserved : goal.read-preserved
read-preserved c =
    let ahead : c.read.at < c.read.cursor.place.at = rw c.in-Some.is at c.read.invariant.ahead in
    let onward : c.read.cursor.place.at ≤ c.next_symbol-next.result.1.place.at = c.next_symbol-next.ensures.onward in
    record {
      between = c.next_symbol-next.ensures.between;
      room = subst (λ (r : Notes). HaveRoom r) (sym c.read_sign.ensures.notes) c.read.invariant.room;
      named = c.next_symbol-next.ensures.named;
      ahead = ahead_by_one c.next_symbol-next.result.0 c.read.at c.read.cursor.place.at c.next_symbol-next.result.1.place.at ahead c.next_symbol-next.ensures.further;
      behind = omega arith;
      reads = goes_on c.args.limits c.args.bytes.now c.read.at c.in-Some.symbol c.next_symbol-next.result.0 c.read.cursor c.next_symbol-next.result.1 c.read.state c.read_sign.new.state
          (rw c.in-Some.is at c.read.invariant.reads) c.next_symbol-next.ensures.next (c.in_ok-read_sign.ensures.read c.if-not-branch.false c.args.bytes.now c.read.at c.next_symbol-next.result.0);
    }

pub returns-clause-text : goal.returns-clause-text
returns-clause-text c =
    finished c.args.limits c.args.bytes.now c.read.at c.read.cursor c.read.state c.finish.result
    (none_held c.args.limits c.args.bytes.now c.read.at c.read.current c.read.cursor c.read.state c.in_default.not-Some c.read.invariant.reads) c.finish.ensures.done

pub returns-clause-fault : goal.returns-clause-fault
returns-clause-fault c =
    unfinished c.args.limits c.args.bytes.now c.read.at c.read.cursor c.read.state c.finish.result
    (none_held c.args.limits c.args.bytes.now c.read.at c.read.current c.read.cursor c.read.state c.in_default.not-Some c.read.invariant.reads) c.finish.ensures.fault
