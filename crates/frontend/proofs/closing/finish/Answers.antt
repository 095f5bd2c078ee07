use Rattle.std.proofs.Common.{refl, sym, subst, Result}
use Rattle.frontend.specs.Endings.{Finishes, silent}
use Rattle.frontend.specs.declared.ending.Reply.{Reply}
use Rattle.frontend.specs.declared.ending.Unprinted.{Unprinted}
use Rattle.frontend.proofs.Finishing.{prints}
use Rattle.frontend.proofs.closing.finish.Goals as goal

pub print-requires : goal.print-requires
print-requires g c = let fine = c.requires.unfailed in rw c.in-Ok.is at fine

pub returns-in-Ok-clause-ends : goal.returns-in-Ok-clause-ends
returns-in-Ok-clause-ends g c =
    let fine = c.requires.unfailed in
    subst (λ (come : Result Reply Unprinted). Finishes c.print.result.status c.print.result.lost (g.O.Sink.tells c.args.out.now) (g.O.Sink.taken c.args.out.now) (g.O.Sink.taken c.print.new.out)
    (g.O.Sink.faults c.args.out.now) (g.O.Sink.faults c.print.new.out) (g.O.Sink.puts c.args.out.now) (g.O.Sink.puts c.print.new.out) come) (sym c.in-Ok.is)
    (prints c.in-Ok.reply c.print.result.status c.print.result.lost (g.O.Sink.tells c.args.out.now) (g.O.Sink.taken c.args.out.now) (g.O.Sink.taken c.print.new.out)
    (g.O.Sink.faults c.args.out.now) (g.O.Sink.faults c.print.new.out) (g.O.Sink.puts c.args.out.now) (g.O.Sink.puts c.print.new.out) (rw c.in-Ok.is at fine)
    c.print.ensures.status c.print.ensures.printed c.print.ensures.partly c.print.ensures.fault c.print.ensures.quiet c.print.ensures.once c.print.ensures.lost)

pub returns-in-Err-clause-ends : goal.returns-in-Err-clause-ends
returns-in-Err-clause-ends g c =
    subst (λ (come : Result Reply Unprinted). Finishes c.end_unprinted.result.status c.end_unprinted.result.lost (g.O.Sink.tells c.args.out.now) (g.O.Sink.taken c.args.out.now) (g.O.Sink.taken c.args.out.now)
    (g.O.Sink.faults c.args.out.now) (g.O.Sink.faults c.args.out.now) (g.O.Sink.puts c.args.out.now) (g.O.Sink.puts c.args.out.now) come) (sym c.in-Err.is)
    (silent c.in-Err.end c.end_unprinted.ensures.status c.end_unprinted.ensures.lost refl refl refl)
