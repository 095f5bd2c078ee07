-- What a reader that is fed the bytes of a file has built.
use Rattle.std.specs.Prelude.{◌≡◌, ◌<◌, ◌^◌, ℕ, Bool, IsTrue, List, take, length, Option, Some, IfSome, Err}
use Rattle.cert_format.specs.Kept.{ReadsCertificate}
use Rattle.cert_format.specs.declared.fault.CertFault.{CertFault}
use Rattle.cert_format.specs.declared.frame.Frame.{Frame}
use Rattle.cert_parser.specs.Builders.{Builds}
use Rattle.cert_parser.specs.declared.reader.Reader.{Reader}

-- it has built what so many bytes say: the first of the file, where files are told
pub record BuildsFront (frame : Frame) (told : Bool) (file : Option (List ℕ)) (reader : Reader) (count : ℕ) : Type 0 where
  pub text : List ℕ
  pub builds : Builds frame reader text
  pub size : length text ≡ count
  pub front : IsTrue told → IfSome file (λ all. text ≡ take count all)

-- the same of all bytes of the file
pub record BuildsFile (frame : Frame) (told : Bool) (file : Option (List ℕ)) (reader : Reader) : Type 0 where
  pub text : List ℕ
  pub builds : Builds frame reader text
  pub short : length text < 2 ^ 64
  pub there : IsTrue told → file ≡ Some text

-- the first fault of a text, or want of memory; where files are told the text is the file's
pub record FaultsFile (frame : Frame) (told : Bool) (file : Option (List ℕ)) (fault : CertFault) : Type 0 where
  pub text : List ℕ
  pub reads : ReadsCertificate frame text (Err fault)
  pub short : length text < 2 ^ 64
  pub there : IsTrue told → file ≡ Some text
