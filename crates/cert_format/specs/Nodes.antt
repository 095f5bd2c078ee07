-- How many nodes a tree has.
use Rattle.std.specs.Prelude.{ℕ, ◌+◌}
use Rattle.cert_format.specs.Cert.{Tree, Shut, Open, Split}

-- its leaves and its splits
abbrev pub nodes : Tree → ℕ
nodes (Shut proof) = 1
nodes (Open proof) = 1
nodes (Split var at low high) = 1 + nodes low + nodes high
