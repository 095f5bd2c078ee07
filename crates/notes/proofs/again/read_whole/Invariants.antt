use Rattle.std.proofs.Common.{◌≡◌, ◌<◌, length}
use Rattle.notes.proofs.again.read_whole.Given as goal

-- the files and the count of write faults are as at first, and the buffer has room
abbrev pub invariant-reads : goal.invariant-reads
invariant-reads g l = record {
  files : g.F.Shelf.file l.shelf ≡ g.F.Shelf.file l.fn.shelf;
  told : g.F.Shelf.tells l.shelf ≡ g.F.Shelf.tells l.fn.shelf;
  writes : g.F.Shelf.write_faults l.shelf ≡ g.F.Shelf.write_faults l.fn.shelf;
  room : 0 < length l.buffer;
}
