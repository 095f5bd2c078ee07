-- A text that is fed byte by byte.
use Rattle.std.proofs.Common.{◌≡◌, ℕ, ◌+◌, ◌^◌, ◌<◌, List, [], ◌∷◌, ◌++◌, length, take, Err, sym, ap, ◌∙◌, subst, arith, append_assoc, length-append, get_or}
use Rattle.std.proofs.lemmas.List.{take_more}
use Rattle.cert_format.specs.Fault.{IsSeenFault}
use Rattle.cert_format.specs.Frames.{frame_of}
use Rattle.cert_format.specs.Cert.{Cut, Tree}
use Rattle.cert_format.specs.Stages.{Wait}
use Rattle.cert_format.specs.Kept.{ReadsCertificate}
use Rattle.cert_parser.specs.Standing.{EndsWell}
use Rattle.cert_parser.specs.Builders.{BuildsOn, Feeds}
use Rattle.cert_format.specs.declared.fault.CertFault.{CertFault}
use Rattle.cert_format.specs.declared.fault.CertFault.TheVariants.{At, NoMemory}
use Rattle.cert_format.specs.declared.frame.Frame.{Frame}
use Rattle.cert_parser.specs.declared.lines.Lines.{Lines}
use Rattle.cert_parser.specs.declared.reader.Reader.{Reader}
use Rattle.cert_format.proofs.LawProofs.{seen_faults_stay, seen_faults_are_first}
use Rattle.cert_parser.proofs.Leaving.{split_at}
use Rattle.cert_parser.proofs.WordSteps.{nth_at}

-- the rest of a piece behind a byte
rest_of : (piece : List ℕ) (i byte : ℕ) → i < length piece → get_or piece i 0 ≡ byte → (tail : List ℕ) × (piece ≡ take i piece ++ byte ∷ tail)
rest_of piece i byte less is =
    let cut = split_at piece i less in
    let same : byte ≡ cut.0 = sym is ∙ nth_at piece i cut.0 cut.1 less cut.2 in
    (cut.1, cut.2 ∙ ap (λ (b : ℕ). take i piece ++ b ∷ cut.1) (sym same))

-- there is room for a byte more
pub room : (text piece : List ℕ) (i byte : ℕ) → i < length piece → get_or piece i 0 ≡ byte → length text + length piece < 2 ^ 64 → length (text ++ take i piece) + 1 < 2 ^ 64
room text piece i byte less is small =
    let rest = rest_of piece i byte less is in
    let size : length piece ≡ length (take i piece) + length (byte ∷ rest.0) = ap length rest.1 ∙ length-append (take i piece) (byte ∷ rest.0) in
    omega (arith, length-append text (take i piece))

-- a byte more of a piece
pub joined : (text piece : List ℕ) (i byte : ℕ) → i < length piece → get_or piece i 0 ≡ byte → (text ++ take i piece) ++ byte ∷ [] ≡ text ++ take (i + 1) piece
joined text piece i byte less is = append_assoc text (take i piece) (byte ∷ []) ∙ ap (λ (xs : List ℕ). text ++ xs) (ap (λ (b : ℕ). take i piece ++ b ∷ []) (sym is) ∙ sym (take_more piece i 0 less))

-- a fault at a byte of a piece is one behind the piece
pub fed_fault : (frame : Frame) (new : Reader) (text piece : List ℕ) (i byte : ℕ) (e : CertFault) → i < length piece → get_or piece i 0 ≡ byte → BuildsOn frame new (text ++ take i piece) byte (Err e) → Feeds frame new text piece (Err e)
fed_fault frame new text piece i byte NoMemory less is steps = tt
fed_fault frame new text piece i byte (At line kind) less is steps =
    let rest = rest_of piece i byte less is in
    let whole : text ++ piece ≡ ((text ++ take i piece) ++ byte ∷ []) ++ rest.0 =
    ap (λ (xs : List ℕ). text ++ xs) rest.1 ∙ sym (append_assoc text (take i piece) (byte ∷ rest.0)) ∙ sym (append_assoc (text ++ take i piece) (byte ∷ []) rest.0) in
    let P : List ℕ → Type 0 = λ t. IsSeenFault (frame_of frame) t line kind in
    subst P (sym whole) (seen_faults_stay (frame_of frame) ((text ++ take i piece) ++ byte ∷ []) rest.0 line kind steps)

-- a fault of the whole text
pub read_fault : (frame : Frame) (new : Reader) (text : List ℕ) (e : CertFault) → Feeds frame new [] text (Err e) → ReadsCertificate frame text (Err e)
read_fault frame new text NoMemory feeds = tt
read_fault frame new text (At line kind) feeds = seen_faults_are_first (frame_of frame) text line kind feeds

-- a fault that is there at the end
pub finish_fault : (above : List Wait) (root : Tree) (cuts : List Cut) (frame : Frame) (new : Lines) (text : List ℕ) (e : CertFault) → EndsWell above root cuts frame new text (Err e) → ReadsCertificate frame text (Err e)
finish_fault above root cuts frame new text NoMemory ends = tt
finish_fault above root cuts frame new text (At line kind) ends = ends
