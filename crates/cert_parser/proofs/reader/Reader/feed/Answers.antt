use Rattle.std.proofs.Common.{List, ℕ, refl, take, ◌++◌, subst, arith}
use Rattle.cert_parser.specs.Builders.{Builds}
use Rattle.cert_parser.proofs.Feeding.{room, joined, fed_fault}
use Rattle.cert_parser.proofs.reader.Reader.feed.Goals as goal

pub returns-in-Err : goal.returns-in-Err
returns-in-Err c =
    let piece = c.args.piece.now in
    let i = c.loop-byte.byte-index in
    λ text small stands.
    fed_fault c.args.frame.now c.step.new.self text piece i _ c.in-Err.fault (omega arith) refl
    (c.in-Err.ensures (text ++ take i piece) (room text piece i _ (omega arith) refl small) (c.loop-byte.invariant text small stands))

pub loop-byte-preserved : goal.loop-byte-preserved
loop-byte-preserved c =
    let piece = c.args.piece.now in
    let i = c.loop-byte.byte-index in
    λ text small stands.
    let P : List ℕ → Type 0 = λ t. Builds c.args.frame.now c.step.new.self t in
    subst P (joined text piece i _ (omega arith) refl) (c.in-Ok.ensures (text ++ take i piece) (room text piece i _ (omega arith) refl small) (c.loop-byte.invariant text small stands))
