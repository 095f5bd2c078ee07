use Rattle.std.proofs.Common.{◌≡◌, ◌-◌, ◌≤◌, ◌<◌, vec_len, IsTrue, IsSome}
use Rattle.frontend.specs.Reading.{HasFront}
use Rattle.frontend.proofs.read.read_front.Given as goal

-- the files and the counts are as at first, and the bytes so far are the file's first
abbrev pub invariant-reads : goal.invariant-reads
invariant-reads g l = record {
  told : g.F.Shelf.tells l.shelf ≡ g.F.Shelf.tells l.fn.shelf;
  files : g.F.Shelf.file l.shelf ≡ g.F.Shelf.file l.fn.shelf;
  reads : g.F.Shelf.read_faults l.shelf ≡ g.F.Shelf.read_faults l.fn.shelf;
  writes : g.F.Shelf.write_faults l.shelf ≡ g.F.Shelf.write_faults l.fn.shelf;
  front : HasFront (g.F.Shelf.tells l.fn.shelf) (g.F.Shelf.file l.fn.shelf l.name) l.front.items;
  room : vec_len l.buffer ≡ 65536;
  within : vec_len l.front ≤ l.most;
  found : 0 < vec_len l.front → IsTrue (g.F.Shelf.tells l.fn.shelf) → IsSome (g.F.Shelf.file l.fn.shelf l.name);
}

-- each read but the last adds a byte
abbrev pub decreases-reads : goal.decreases-reads
decreases-reads g l = l.most - vec_len l.front
