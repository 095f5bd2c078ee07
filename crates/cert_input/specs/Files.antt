-- What is read of a certificate's file.
use Rattle.std.specs.Prelude.{◌≡◌, ◌<◌, ◌^◌, ℕ, Bool, IsTrue, List, length, Option, Some, Result}
use Rattle.block_program.specs.Blocked.{BlockedProgram}
use Rattle.cert_format.specs.declared.cert.Cert.{Cert}
use Rattle.cert_format.specs.declared.fault.CertFault.{CertFault}
use Rattle.cert_text.specs.Programs.{ReadsFor}

-- the certificate that a text spells, or its first fault, or want of memory; the text can be counted, and where files are told it is the file's
pub record ReadsFile (b : BlockedProgram) (told : Bool) (file : Option (List ℕ)) (read : Result Cert CertFault) : Type 0 where
  pub text : List ℕ
  pub reads : ReadsFor b text read
  pub short : length text < 2 ^ 64
  pub there : IsTrue told → file ≡ Some text
