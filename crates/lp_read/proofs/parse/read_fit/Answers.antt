-- A symbol is read where the automaton goes on and names and counts are in order.
use Rattle.std.proofs.Common.{sym}
use Rattle.lp_read.proofs.ReadOn.{stops_memory, stops_stuck, advanced, stopped}
use Rattle.lp_read.proofs.parse.read_fit.Goals as goal

pub returns-in-Err-clause-fault : goal.returns-in-Err-clause-fault
returns-in-Err-clause-fault c = stops_memory c.args.bytes.now c.args.at (record { stage = c.args.stage; notes = c.args.notes }) c.args.symbol c.args.next

pub returns-in-Ok-None-clause-fault : goal.returns-in-Ok-None-clause-fault
returns-in-Ok-None-clause-fault c =
    stops_stuck c.args.bytes.now c.args.at (record { stage = c.args.stage; notes = c.args.notes }) c.args.symbol c.args.next c.requires.fit (sym (rw c.in-Ok-None.field-0-is at c.in-Ok-None.ensures))

pub returns-in-Ok-Some-clause-read : goal.returns-in-Ok-Some-clause-read
returns-in-Ok-Some-clause-read c =
    advanced c.args.bytes.now c.args.at (record { stage = c.args.stage; notes = c.args.notes }) c.in-Ok-Some.reached c.args.symbol c.args.next c.in-Ok-Some.site c.advance.result
    (sym (rw c.in-Ok-Some.field-0-is at c.in-Ok-Some.ensures)) c.advance.ensures.stage c.advance.ensures.notes c.advance.ensures.sound

pub returns-in-Ok-Some-clause-fault : goal.returns-in-Ok-Some-clause-fault
returns-in-Ok-Some-clause-fault c =
    stopped c.args.bytes.now c.args.at (record { stage = c.args.stage; notes = c.args.notes }) c.in-Ok-Some.reached c.args.symbol c.args.next c.in-Ok-Some.site c.advance.result c.requires.fit
    (sym (rw c.in-Ok-Some.field-0-is at c.in-Ok-Some.ensures)) c.advance.ensures.fault
