-- The tree that a reader of certificates has built, and the texts that it stands for.
use Rattle.std.specs.Prelude.{ℕ, List, map, [], ◌∷◌, ◌++◌, Result, Ok, Err}
use Rattle.cert_format.specs.Cert.{Cut, Tree}
use Rattle.cert_format.specs.Sketch.{tree_of}
use Rattle.cert_format.specs.Written.{in_text, written_cut, written_tree}
use Rattle.cert_format.specs.Fault.{IsSeenFault}
use Rattle.cert_format.specs.Frames.{frame_of}
use Rattle.cert_format.specs.Stages.{Wait, low_of, high_of}
use Rattle.cert_parser.specs.Standing.{StandsFor}
use Rattle.cert_format.specs.declared.fault.CertFault.{CertFault}
use Rattle.cert_format.specs.declared.fault.CertFault.TheVariants.{At, NoMemory}
use Rattle.cert_format.specs.declared.frame.Frame.{Frame}
use Rattle.cert_format.specs.declared.sketch.Sketch.{Sketch}
use Rattle.cert_parser.specs.declared.reader.Pending.{Pending}
use Rattle.cert_parser.specs.declared.reader.Pending.TheVariants.{Low, High}
use Rattle.cert_parser.specs.declared.reader.Reader.{Reader}

-- a split above the next tree
abbrev pub wait_of : Pending → Wait
wait_of (Low p) = low_of (in_text p.var) p.at
wait_of (High p low) = high_of (in_text p.var) p.at (written_tree (tree_of low))

-- the splits above the next tree, the nearest first, in front of others
abbrev pub waits_on : List Pending → List Wait → List Wait
waits_on [] ws = ws
waits_on (p ∷ ps) ws = waits_on ps (wait_of p ∷ ws)

abbrev pub waits_of : List Pending → List Wait
waits_of ps = waits_on ps []

-- the tree that was read
abbrev pub root_of : Sketch → Tree
root_of tree = written_tree (tree_of tree)

-- the cuts that were read
abbrev pub cuts_of : Reader → List Cut
cuts_of r = map written_cut r.cuts

-- a reader has kept of a text's cuts, and built of its tree, what its lines say
abbrev pub Builds : Frame → Reader → List ℕ → Type 0
Builds frame r text = StandsFor (waits_of r.pending.items) (root_of r.root) (cuts_of r) frame r.lines text

-- what a reader does with a byte behind a text
abbrev pub BuildsOn : Frame → Reader → List ℕ → ℕ → Result (Unit {0}) CertFault → Type 0
BuildsOn frame new text byte (Ok _) = Builds frame new (text ++ byte ∷ [])
BuildsOn frame new text byte (Err NoMemory) = Unit {0}
BuildsOn frame new text byte (Err (At line kind)) = IsSeenFault (frame_of frame) (text ++ byte ∷ []) line kind

-- what a reader does with a piece behind a text
abbrev pub Feeds : Frame → Reader → List ℕ → List ℕ → Result (Unit {0}) CertFault → Type 0
Feeds frame new text piece (Ok _) = Builds frame new (text ++ piece)
Feeds frame new text piece (Err NoMemory) = Unit {0}
Feeds frame new text piece (Err (At line kind)) = IsSeenFault (frame_of frame) (text ++ piece) line kind
