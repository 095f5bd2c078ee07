use Rattle.std.specs.Option.{option_map}
use Rattle.frontend.proofs.Drafts.{writers_end}
use Rattle.cmd_certificates.specs.MigrateFiles.{LeavesPart}
use Rattle.cmd_certificates.specs.Migrates.{Migrates}
use Rattle.cmd_certificates.proofs.MigrateOneAnswer.{one_answer}
use Rattle.cmd_certificates.proofs.Streamed.{migrated_comes, migrated_leaves, migrated_unfailed, part_others}
use Rattle.cmd_certificates.proofs.migration.migrate.Goals as goal

pub finish-requires : goal.finish-requires
finish-requires g c = record {
  unfailed = migrated_unfailed (g.F.Shelf.tells c.load_migrated-migrated.new.shelf) c.args.new.now (g.F.Shelf.file c.load_migrated-migrated.new.shelf) (g.F.Shelf.file c.write_migrated-come.new.shelf)
      (g.F.Shelf.write_faults c.load_migrated-migrated.new.shelf) (g.F.Shelf.write_faults c.write_migrated-come.new.shelf) c.load_migrated-migrated.result c.write_migrated-come.result
      c.load_migrated-migrated.ensures.done c.write_migrated-come.ensures.writes;
}

pub returns : goal.returns
returns g c =
    let files = g.F.Shelf.file c.args.shelf.now in
    let now = g.F.Shelf.file c.write_migrated-come.new.shelf in
    let dec = option_map (λ name. name.now) c.args.sources.dec in
    let Right = Migrates c.args.sources.limits files c.args.sources.lp.now c.args.cert.now dec in
    let told = g.F.Shelf.tells c.args.shelf.now in
    let reads = g.F.Shelf.read_faults c.args.shelf.now in
    let reads_now = g.F.Shelf.read_faults c.write_migrated-come.new.shelf in
    let writes = g.F.Shelf.write_faults c.args.shelf.now in
    let writes_now = g.F.Shelf.write_faults c.write_migrated-come.new.shelf in
    let comes = migrated_comes c.args.sources.limits told (g.F.Shelf.tells c.load_migrated-migrated.new.shelf) files (g.F.Shelf.file c.load_migrated-migrated.new.shelf) c.args.sources.lp.now c.args.cert.now dec c.args.new.now now reads
    (g.F.Shelf.read_faults c.load_migrated-migrated.new.shelf) reads_now writes (g.F.Shelf.write_faults c.load_migrated-migrated.new.shelf) writes_now c.load_migrated-migrated.result c.write_migrated-come.result
    c.load_migrated-migrated.ensures.read c.load_migrated-migrated.ensures.done c.load_migrated-migrated.ensures.halted c.load_migrated-migrated.ensures.cause c.load_migrated-migrated.ensures.told c.load_migrated-migrated.ensures.files
    c.load_migrated-migrated.ensures.writes c.write_migrated-come.ensures.reads c.write_migrated-come.ensures.writes in
    let end = writers_end Right (LeavesPart Right c.args.new.now files now) told c.args.new.now files now reads reads_now writes writes_now c.write_migrated-come.result c.finish.result.status c.finish.result.lost
    (g.O.Sink.tells c.args.out.now) (g.O.Sink.taken c.args.out.now) (g.O.Sink.taken c.finish.new.out) (g.O.Sink.faults c.args.out.now)
    (g.O.Sink.faults c.finish.new.out) (g.O.Sink.puts c.args.out.now) (g.O.Sink.puts c.finish.new.out) (one_answer c.args.sources.limits files c.args.sources.lp.now c.args.cert.now dec)
    (part_others Right c.args.new.now files now) comes c.finish.ensures.ends in
    record {
      answered = end.ends.answered;
      exact = end.ends.exact;
      causes = end.ends.causes;
      kept = c.finish.ensures.kept;
      events = c.finish.ensures.events;
      words = end.ends.words;
      leaves = λ is_told. migrated_leaves c.args.sources.limits c.args.sources.lp.now c.args.cert.now dec c.args.new.now files now c.finish.result.status (end.leaves is_told);
      others = end.others;
      puts = end.ends.puts;
      failed = end.failed;
      silent = end.ends.silent;
      cut_off = end.ends.cut_off;
    }
