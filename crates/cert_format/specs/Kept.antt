-- The certificate that a program keeps.
use Rattle.std.specs.Prelude.{ℕ, List, Result, Ok, Err}
use Rattle.bp_theory.specs.Claims.{Certificate}
use Rattle.cert_format.specs.Cert as texts
use Rattle.cert_format.specs.Sketch.{tree_of}
use Rattle.cert_format.specs.Written.{cert_of, certificate}
use Rattle.cert_format.specs.Fault.{IsCertText, IsFirstCertFault}
use Rattle.cert_format.specs.Frames.{frame_of}
use Rattle.cert_format.specs.declared.cert.Cert.{Cert}
use Rattle.cert_format.specs.declared.fault.CertFault.{CertFault}
use Rattle.cert_format.specs.declared.fault.CertFault.TheVariants.{At, NoMemory}
use Rattle.cert_format.specs.declared.frame.Frame.{Frame}

-- its claim, its point, its cuts and its tree
abbrev pub certificate_of : Cert → Certificate
certificate_of c = certificate c.claim c.point c.cuts (tree_of c.tree)

-- the same by numbers in texts
abbrev pub kept_cert : Cert → texts.Cert
kept_cert c = cert_of (certificate_of c)

-- what is read of a text
abbrev pub ReadsCertificate : Frame → List ℕ → Result Cert CertFault → Type 0
ReadsCertificate frame text (Ok cert) = IsCertText (frame_of frame) (kept_cert cert) text
ReadsCertificate frame text (Err NoMemory) = Unit {0}
ReadsCertificate frame text (Err (At line kind)) = IsFirstCertFault (frame_of frame) text line kind
