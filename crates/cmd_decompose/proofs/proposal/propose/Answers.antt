use Rattle.std.proofs.Common.{◌≡◌}
use Rattle.frontend.proofs.Drafts.{draft_comes, draft_leaves, draft_others, draft_unfailed, writers_end}
use Rattle.cmd_decompose.specs.Proposes.{Proposes}
use Rattle.cmd_decompose.proofs.Proposed.{one_answer}
use Rattle.cmd_decompose.proofs.proposal.propose.Goals as goal

pub finish-requires : goal.finish-requires
finish-requires g c = record {
  unfailed = draft_unfailed (g.F.Shelf.tells c.load_proposal-draft.new.shelf) c.args.dec.now (g.F.Shelf.file c.load_proposal-draft.new.shelf) (g.F.Shelf.file c.write_draft-come.new.shelf)
      (g.F.Shelf.write_faults c.load_proposal-draft.new.shelf) (g.F.Shelf.write_faults c.write_draft-come.new.shelf) c.load_proposal-draft.result c.write_draft-come.result c.load_proposal-draft.ensures.done c.write_draft-come.ensures.writes;
}

pub returns : goal.returns
returns g c =
    let files = g.F.Shelf.file c.args.shelf.now in
    let now = g.F.Shelf.file c.write_draft-come.new.shelf in
    let Right = Proposes c.args.limits files c.args.lp.now in
    let told = g.F.Shelf.tells c.args.shelf.now in
    let reads = g.F.Shelf.read_faults c.args.shelf.now in
    let reads_now = g.F.Shelf.read_faults c.write_draft-come.new.shelf in
    let writes = g.F.Shelf.write_faults c.args.shelf.now in
    let writes_now = g.F.Shelf.write_faults c.write_draft-come.new.shelf in
    let comes = draft_comes Right told (g.F.Shelf.tells c.load_proposal-draft.new.shelf) c.args.dec.now files (g.F.Shelf.file c.load_proposal-draft.new.shelf) now reads
    (g.F.Shelf.read_faults c.load_proposal-draft.new.shelf) reads_now writes (g.F.Shelf.write_faults c.load_proposal-draft.new.shelf) writes_now c.load_proposal-draft.result c.write_draft-come.result
    c.load_proposal-draft.ensures.proposed c.load_proposal-draft.ensures.done c.load_proposal-draft.ensures.halted c.load_proposal-draft.ensures.cause c.load_proposal-draft.ensures.told c.load_proposal-draft.ensures.files c.load_proposal-draft.ensures.writes
    c.write_draft-come.ensures.reads c.write_draft-come.ensures.writes in
    let end = writers_end Right (now ≡ files) told c.args.dec.now files now reads reads_now writes writes_now c.write_draft-come.result c.finish.result.status c.finish.result.lost
    (g.O.Sink.tells c.args.out.now) (g.O.Sink.taken c.args.out.now) (g.O.Sink.taken c.finish.new.out) (g.O.Sink.faults c.args.out.now)
    (g.O.Sink.faults c.finish.new.out) (g.O.Sink.puts c.args.out.now) (g.O.Sink.puts c.finish.new.out) (one_answer c.args.limits files c.args.lp.now)
    (draft_others c.args.dec.now files now) comes c.finish.ensures.ends in
    record {
      answered = end.ends.answered;
      exact = end.ends.exact;
      causes = end.ends.causes;
      kept = c.finish.ensures.kept;
      events = c.finish.ensures.events;
      words = end.ends.words;
      leaves = λ is_told. draft_leaves Right c.args.dec.now files now c.finish.result.status (end.leaves is_told);
      others = end.others;
      puts = end.ends.puts;
      failed = end.failed;
      silent = end.ends.silent;
      cut_off = end.ends.cut_off;
    }
