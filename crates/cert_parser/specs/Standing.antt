-- The texts that a reader of lines stands for, below which splits and behind which cuts: what has come of a certificate, and how far.
use Rattle.std.specs.Prelude.{◌≡◌, ◌⊎◌, ℕ, ◌+◌, ◌-◌, ◌^◌, ◌≤◌, ◌<◌, Bool, true, false, List, [], ◌∷◌, ◌++◌, length, Option, Result, Ok, Err}
use Rattle.cert_format.specs.Cert as texts
use Rattle.cert_format.specs.Cert.{Cut, Tree}
use Rattle.cert_format.specs.Fault.{line_behind, IsSeenFault, IsFirstCertFault}
use Rattle.cert_format.specs.Frames.{frame_of}
use Rattle.cert_format.specs.Stages.{Wait, Stage, sort}
use Rattle.cert_format.specs.Reached.{Reached, IsInWord, IsInNumber, IsBehindMinus, IsBehindDeepMinus}
use Rattle.cert_parser.specs.Readers.{HasHighs, waits_after, root_after, cuts_after, stage_of, slack}
use Rattle.cert_format.specs.declared.fault.CertFault.{CertFault}
use Rattle.cert_format.specs.declared.fault.CertFault.TheVariants.{At, NoMemory}
use Rattle.cert_format.specs.declared.frame.Frame.{Frame}
use Rattle.cert_format.specs.declared.words.Word.{Word}
use Rattle.cert_format.specs.declared.spots.Sort.TheVariants.{Wordy}
use Rattle.cert_format.specs.declared.spots.Spot.{Spot}
use Rattle.cert_format.specs.declared.spots.Spot.TheVariants.{Bpcert, Over}
use Rattle.cert_parser.specs.declared.lines.Part.{Part}
use Rattle.cert_parser.specs.declared.lines.Part.TheVariants.{Fresh, InWord, Minus, DeepMinus, Digits}
use Rattle.cert_parser.specs.declared.lines.Event.{Event}
use Rattle.cert_parser.specs.declared.lines.Lines.{Lines}

-- how much of the next token has come
abbrev pub IsPart : texts.Frame → Stage → Part → List ℕ → Type 0
IsPart frame stage Fresh text = Reached frame stage false text
IsPart frame stage (InWord word count) text = (0 < count) × IsInWord frame stage word count text
IsPart frame stage Minus text = IsBehindMinus frame stage text
IsPart frame stage DeepMinus text = IsBehindDeepMinus frame stage text
IsPart frame stage (Digits negative value) text = IsInNumber frame stage negative value text

-- the number of pairs or blocks still to come is kept, or it is too great to be kept and to come
abbrev pub CountFits : Spot → ℕ → ℕ → ℕ → Type 0
CountFits spot left count size = (left ≡ count) ⊎ ((left ≤ count) × (2 ^ 64 - 1 + slack spot ≤ left + size))

-- nothing has come, or a byte that ends no line
abbrev pub IsShort : Spot → List ℕ → Type 0
IsShort spot text = ((text ≡ []) × (spot ≡ Bpcert)) ⊎ (line_behind text ≤ length text)

-- what a reader keeps of a text besides its place
pub record KeepsCounts (above : List Wait) (cuts : List Cut) (r : Lines) (count : ℕ) (text : List ℕ) : Type 0 where
  pub counted : CountFits r.spot r.left count (length text)
  pub line : r.line ≡ line_behind text
  pub short : IsShort r.spot text
  pub highs : HasHighs above cuts r

-- a reader stands for a text
pub record StandsFor (above : List Wait) (root : Tree) (cuts : List Cut) (frame : Frame) (r : Lines) (text : List ℕ) : Type 0 where
  pub count : ℕ
  pub counts : KeepsCounts above cuts r count text
  pub part : IsPart (frame_of frame) (stage_of above root cuts r count) r.part text

-- a reader between two tokens of a text
pub record Between (above : List Wait) (root : Tree) (cuts : List Cut) (frame : Frame) (r : Lines) (number : Bool) (text : List ℕ) : Type 0 where
  pub count : ℕ
  pub counts : KeepsCounts above cuts r count text
  pub reached : Reached (frame_of frame) (stage_of above root cuts r count) number text
  pub worded : number ≡ true → sort (stage_of above root cuts r count) ≡ Wordy
  pub going : number ≡ true → r.spot ≡ Over → ⊥

-- a reader that has so many bytes of a word
pub record InWordAt (above : List Wait) (root : Tree) (cuts : List Cut) (frame : Frame) (r : Lines) (word : Word) (bytes : ℕ) (text : List ℕ) : Type 0 where
  pub count : ℕ
  pub counts : KeepsCounts above cuts r count text
  pub part : IsInWord (frame_of frame) (stage_of above root cuts r count) word bytes text

-- what a reader does with a byte behind a text that it stands for: where the byte ends a line, the line says this
abbrev pub Steps : List Wait → Tree → List Cut → Frame → Lines → List ℕ → ℕ → Result (Option Event) CertFault → Type 0
Steps above root cuts frame new text byte (Ok event) = StandsFor (waits_after above event) (root_after above root event) (cuts_after cuts event) frame new (text ++ byte ∷ [])
Steps above root cuts frame new text byte (Err NoMemory) = Unit {0}
Steps above root cuts frame new text byte (Err (At line kind)) = IsSeenFault (frame_of frame) (text ++ byte ∷ []) line kind

-- what a reader does at the end of a number, where a byte follows that is no digit
abbrev pub EndsNumberAt : List Wait → Tree → List Cut → Frame → Lines → List ℕ → ℕ → Result (Unit {0}) CertFault → Type 0
EndsNumberAt above root cuts frame new text byte (Ok _) = Between above root cuts frame new true text
EndsNumberAt above root cuts frame new text byte (Err NoMemory) = Unit {0}
EndsNumberAt above root cuts frame new text byte (Err (At line kind)) = IsSeenFault (frame_of frame) (text ++ byte ∷ []) line kind

-- what a reader does at the text's end
abbrev pub EndsWell : List Wait → Tree → List Cut → Frame → Lines → List ℕ → Result (Unit {0}) CertFault → Type 0
EndsWell above root cuts frame new text (Ok _) = StandsFor above root cuts frame new text × (new.part ≡ Fresh) × (new.spot ≡ Over)
EndsWell above root cuts frame new text (Err NoMemory) = Unit {0}
EndsWell above root cuts frame new text (Err (At line kind)) = IsFirstCertFault (frame_of frame) text line kind
