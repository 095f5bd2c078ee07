use Rattle.std.proofs.Common.{◌≡◌, ◌+◌, ◌-◌, ◌^◌, ◌<◌, length, IsTrue, IsSome}
use Rattle.cert_input.specs.Fronts.{BuildsFront}
use Rattle.cert_input.proofs.feed_file.Given as goal

-- the files and the counts are as at first, and the reader has built what the file's first bytes say
abbrev pub invariant-reads : goal.invariant-reads
invariant-reads g l = record {
  told : g.F.Shelf.tells l.shelf ≡ g.F.Shelf.tells l.fn.shelf;
  files : g.F.Shelf.file l.shelf ≡ g.F.Shelf.file l.fn.shelf;
  reads : g.F.Shelf.read_faults l.shelf ≡ g.F.Shelf.read_faults l.fn.shelf;
  writes : g.F.Shelf.write_faults l.shelf ≡ g.F.Shelf.write_faults l.fn.shelf;
  front : BuildsFront l.frame (g.F.Shelf.tells l.fn.shelf) (g.F.Shelf.file l.fn.shelf l.name) l.reader l.at;
  room : length l.buffer ≡ 65536;
  near : l.at < 2 ^ 62 + 65536;
  found : 0 < l.at → IsTrue (g.F.Shelf.tells l.fn.shelf) → IsSome (g.F.Shelf.file l.fn.shelf l.name);
}

-- each read but the last gives a byte
abbrev pub decreases-reads : goal.decreases-reads
decreases-reads g l = 2 ^ 62 - l.at
