-- What holds of every text.
use Rattle.std.specs.Prelude.{◌≡◌, ◌⊎◌, ◌↔◌, ℕ, ◌<◌, List, [], ◌++◌, length}
use Rattle.cert_format.specs.Cert.{Cert, Frame}
use Rattle.cert_format.specs.Text.{Version, One, Two, Three, Kind}
use Rattle.cert_format.specs.Fault.{IsText, IsCertText, IsFirstCertFault, IsSeenFault}

-- no text has two certificates
abbrev pub TextsHaveOneCertificate : Type 0
TextsHaveOneCertificate = (frame : Frame) (v w : Version) (c d : Cert) (text : List ℕ) → IsText frame v c text → IsText frame w d text → (v ≡ w) × (c ≡ d)

-- no text has two first faults
abbrev pub TextsHaveOneFault : Type 0
TextsHaveOneFault = (frame : Frame) (text : List ℕ) (m n : ℕ) (k l : Kind) → IsFirstCertFault frame text m k → IsFirstCertFault frame text n l → (m ≡ n) × (k ≡ l)

-- no text has a certificate and a fault
abbrev pub CertificatesHaveNoFault : Type 0
CertificatesHaveNoFault = (frame : Frame) (v : Version) (c : Cert) (text : List ℕ) (line : ℕ) (kind : Kind) → IsText frame v c text → IsFirstCertFault frame text line kind → ⊥

-- a seen fault stays, whatever follows
abbrev pub SeenFaultsStay : Type 0
SeenFaultsStay = (frame : Frame) (text more : List ℕ) (line : ℕ) (kind : Kind) → IsSeenFault frame text line kind → IsSeenFault frame (text ++ more) line kind

-- a seen fault is the first one
abbrev pub SeenFaultsAreFirst : Type 0
SeenFaultsAreFirst = (frame : Frame) (text : List ℕ) (line : ℕ) (kind : Kind) → IsSeenFault frame text line kind → IsFirstCertFault frame text line kind

-- no certificate has two texts of one version
abbrev pub CertificatesHaveOneText : Type 0
CertificatesHaveOneText = (frame : Frame) (v : Version) (c : Cert) (s t : List ℕ) → IsText frame v c s → IsText frame v c t → s ≡ t

-- each text has a certificate or a first fault
abbrev pub TextsHaveAnswer : Type 0
TextsHaveAnswer = (frame : Frame) (text : List ℕ) → ((v : Version) × (c : Cert) × IsText frame v c text) ⊎ ((line : ℕ) × (kind : Kind) × IsFirstCertFault frame text line kind)

-- a certificate without cuts that has a text has one of each version but the third
abbrev pub CertificatesHaveBothTexts : Type 0
CertificatesHaveBothTexts = (frame : Frame) (c : Cert) (text : List ℕ) → c.cuts ≡ [] → IsCertText frame c text → ((t : List ℕ) × IsText frame One c t) × ((t : List ℕ) × IsText frame Two c t)

-- a certificate has a text of version 3 alone where it has cuts, and else none of version 3
abbrev pub CertificatesWithCutsHaveThird : Type 0
CertificatesWithCutsHaveThird = (frame : Frame) (v : Version) (c : Cert) (text : List ℕ) → IsText frame v c text → (v ≡ Three) ↔ (0 < length c.cuts)
