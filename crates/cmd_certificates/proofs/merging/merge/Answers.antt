use Rattle.std.proofs.Common.{◌≡◌}
use Rattle.std.specs.Option.{option_map}
use Rattle.frontend.proofs.Drafts.{draft_leaves, draft_others, writers_end}
use Rattle.cmd_certificates.specs.Merges.{Merges}
use Rattle.cmd_certificates.proofs.MergeOneAnswer.{one_answer}
use Rattle.cmd_certificates.proofs.StopProof.{merged_comes, merged_unfailed}
use Rattle.cmd_certificates.proofs.merging.merge.Goals as goal

pub finish-requires : goal.finish-requires
finish-requires g c = record {
  unfailed = merged_unfailed (g.F.Shelf.tells c.load_merged-merged.new.shelf) c.args.new.now (g.F.Shelf.file c.load_merged-merged.new.shelf) (g.F.Shelf.file c.write_merged-come.new.shelf)
      (g.F.Shelf.write_faults c.load_merged-merged.new.shelf) (g.F.Shelf.write_faults c.write_merged-come.new.shelf) c.load_merged-merged.result c.write_merged-come.result
      c.load_merged-merged.ensures.done c.load_merged-merged.ensures.refusals c.write_merged-come.ensures.writes;
}

pub returns : goal.returns
returns g c =
    let files = g.F.Shelf.file c.args.shelf.now in
    let now = g.F.Shelf.file c.write_merged-come.new.shelf in
    let dec = option_map (λ name. name.now) c.args.sources.dec in
    let Right = Merges c.args.sources.limits files c.args.sources.lp.now c.args.first.now c.args.second.now dec in
    let told = g.F.Shelf.tells c.args.shelf.now in
    let reads = g.F.Shelf.read_faults c.args.shelf.now in
    let reads_now = g.F.Shelf.read_faults c.write_merged-come.new.shelf in
    let writes = g.F.Shelf.write_faults c.args.shelf.now in
    let writes_now = g.F.Shelf.write_faults c.write_merged-come.new.shelf in
    let comes = merged_comes Right told (g.F.Shelf.tells c.load_merged-merged.new.shelf) c.args.new.now files (g.F.Shelf.file c.load_merged-merged.new.shelf) now reads
    (g.F.Shelf.read_faults c.load_merged-merged.new.shelf) reads_now writes (g.F.Shelf.write_faults c.load_merged-merged.new.shelf) writes_now c.load_merged-merged.result c.write_merged-come.result
    c.load_merged-merged.ensures.merged c.load_merged-merged.ensures.done c.load_merged-merged.ensures.stopped c.load_merged-merged.ensures.refusals c.load_merged-merged.ensures.cause c.load_merged-merged.ensures.told
    c.load_merged-merged.ensures.files c.load_merged-merged.ensures.writes c.write_merged-come.ensures.reads c.write_merged-come.ensures.writes in
    let end = writers_end Right (now ≡ files) told c.args.new.now files now reads reads_now writes writes_now c.write_merged-come.result c.finish.result.status c.finish.result.lost
    (g.O.Sink.tells c.args.out.now) (g.O.Sink.taken c.args.out.now) (g.O.Sink.taken c.finish.new.out) (g.O.Sink.faults c.args.out.now)
    (g.O.Sink.faults c.finish.new.out) (g.O.Sink.puts c.args.out.now) (g.O.Sink.puts c.finish.new.out) (one_answer c.args.sources.limits files c.args.sources.lp.now c.args.first.now c.args.second.now dec)
    (draft_others c.args.new.now files now) comes c.finish.ensures.ends in
    record {
      answered = end.ends.answered;
      exact = end.ends.exact;
      causes = end.ends.causes;
      kept = c.finish.ensures.kept;
      events = c.finish.ensures.events;
      words = end.ends.words;
      leaves = λ is_told. draft_leaves Right c.args.new.now files now c.finish.result.status (end.leaves is_told);
      others = end.others;
      puts = end.ends.puts;
      failed = end.failed;
      silent = end.ends.silent;
      cut_off = end.ends.cut_off;
    }
