-- Which text a certificate has, and the first fault of a text that is none.
use Rattle.std.specs.Prelude.{◌≡◌, ℕ, ◌+◌, ◌≤◌, ◌⊎◌, List, [], ◌∷◌, ◌++◌, Some, None, pos, ◌==◌}
use Rattle.std.specs.List.{AllByRecursion, count_by}
use Rattle.cert_format.specs.Cert.{Cert, Frame}
use Rattle.cert_format.specs.declared.fault.CertKind.TheVariants.{Syntax, Depth, Limit}
use Rattle.cert_format.specs.Text.{Kind, Token, Figure, Version, text_of, fault_of, tokens_of, meant, HasForm}

-- tokens without a fault
abbrev pub AreClean : List Token → Type 0
AreClean tokens = AllByRecursion (λ token. fault_of token ≡ None) tokens

-- the text spells this certificate in this version, without a fault
pub record IsText (frame : Frame) (version : Version) (cert : Cert) (text : List ℕ) : Type 0 where
  pub written : Cert
  pub form : HasForm version written
  pub clean : AreClean (tokens_of frame version written)
  pub bytes : text ≡ text_of (tokens_of frame version written)
  pub means : meant version written ≡ cert

-- the text spells this certificate in some version
abbrev pub IsCertText : Frame → Cert → List ℕ → Type 0
IsCertText frame cert text = (version : Version) × IsText frame version cert text

-- the line of a place, from the text before it
abbrev pub line_behind : List ℕ → ℕ
line_behind text = 1 + count_by (λ byte. byte == 10) text

-- the text begins a text of the grammar, whatever the numbers
pub record Begins (frame : Frame) (text : List ℕ) : Type 0 where
  pub version : Version
  pub written : Cert
  pub form : HasForm version written
  pub rest : List ℕ
  pub bytes : text_of (tokens_of frame version written) ≡ text ++ rest

-- the text is a text of the grammar, whatever the numbers
pub record IsWhole (frame : Frame) (text : List ℕ) : Type 0 where
  pub version : Version
  pub written : Cert
  pub form : HasForm version written
  pub bytes : text_of (tokens_of frame version written) ≡ text

-- the bytes don't go on with a number
abbrev pub EndsNumber : List ℕ → Type 0
EndsNumber [] = Unit {0}
EndsNumber (byte ∷ bytes) = (48 ≤ byte → byte ≤ 57 → ⊥)

-- a token ends where these bytes follow
abbrev pub EndsToken : Token → List ℕ → Type 0
EndsToken (Figure z fault) rest = EndsNumber rest
EndsToken _ rest = Unit {0}

-- the text begins with faultless tokens of a certificate, and then one with a fault
pub record HasFaultyToken (frame : Frame) (text : List ℕ) (line : ℕ) (kind : Kind) : Type 0 where
  pub version : Version
  pub written : Cert
  pub form : HasForm version written
  pub before : List Token
  pub token : Token
  pub after : List Token
  pub rest : List ℕ
  pub tokens : tokens_of frame version written ≡ before ++ token ∷ after
  pub clean : AreClean before
  pub fault : fault_of token ≡ Some kind
  pub bytes : text ≡ text_of (before ++ token ∷ []) ++ rest
  pub ends : EndsToken token rest
  pub line_is : line ≡ line_behind (text_of before)

-- what follows can't stand there: another byte, or the text's end where the text isn't whole
abbrev pub Leaves : Frame → List ℕ → List ℕ → Type 0
Leaves frame text [] = IsWhole frame text → ⊥
Leaves frame text (byte ∷ rest) = Begins frame (text ++ byte ∷ []) → ⊥

-- the place where the text leaves the grammar
pub record LeavesGrammar (frame : Frame) (text : List ℕ) (line : ℕ) : Type 0 where
  pub before : List ℕ
  pub rest : List ℕ
  pub bytes : text ≡ before ++ rest
  pub begins : Begins frame before
  pub leaves : Leaves frame before rest
  pub line_is : line ≡ line_behind before

-- no token of the text has a fault
abbrev pub HasNoFaultyToken : Frame → List ℕ → Type 0
HasNoFaultyToken frame text = (line : ℕ) (kind : Kind) → HasFaultyToken frame text line kind → ⊥

-- a digit stands first
abbrev pub BeginsDigit : List ℕ → Type 0
BeginsDigit [] = ⊥
BeginsDigit (byte ∷ bytes) = (48 ≤ byte) × (byte ≤ 57)

-- a number stands first, however it is spelled: a digit, or a minus and a digit
abbrev pub BeginsNumber : List ℕ → Type 0
BeginsNumber [] = ⊥
BeginsNumber (byte ∷ bytes) = ((48 ≤ byte) × (byte ≤ 57)) ⊎ ((byte ≡ 45) × BeginsDigit bytes)

-- the kinds of faults that a line's number has, whatever it is: its node is too deep, or its cut is one too many
abbrev pub IsExcess : Kind → Type 0
IsExcess kind = (kind ≡ Depth) ⊎ (kind ≡ Limit)

-- the text begins with faultless tokens of a certificate, behind which even the number 0 is one of a node that is too deep, or of a cut that
-- is one too many; and there a number stands, however it is spelled
pub record HasDeepNumber (frame : Frame) (text : List ℕ) (line : ℕ) (kind : Kind) : Type 0 where
  pub excess : IsExcess kind
  pub version : Version
  pub written : Cert
  pub form : HasForm version written
  pub before : List Token
  pub after : List Token
  pub rest : List ℕ
  pub tokens : tokens_of frame version written ≡ before ++ Figure (pos 0) (Some kind) ∷ after
  pub clean : AreClean before
  pub bytes : text ≡ text_of before ++ rest
  pub number : BeginsNumber rest
  pub line_is : line ≡ line_behind (text_of before)

-- no number of the text is one of a node that is too deep, or of a cut that is one too many
abbrev pub HasNoDeepNumber : Frame → List ℕ → Type 0
HasNoDeepNumber frame text = (line : ℕ) (kind : Kind) → HasDeepNumber frame text line kind → ⊥

-- the first fault of a text: a faulty token, which stands before the place where the text leaves the grammar; or the number of a node that
-- is too deep or of a cut that is one too many, which has no other fault, however it is spelled; or else the place where the text leaves the
-- grammar
abbrev pub IsFirstCertFault : Frame → List ℕ → ℕ → Kind → Type 0
IsFirstCertFault frame text line kind = HasFaultyToken frame text line kind
    ⊎ (HasDeepNumber frame text line kind
    ⊎ ((kind ≡ Syntax) × HasNoFaultyToken frame text × HasNoDeepNumber frame text × LeavesGrammar frame text line))

-- the byte that ends a token has come: of a number, the byte behind it
abbrev pub EndIsSeen : Token → List ℕ → Type 0
EndIsSeen (Figure z fault) [] = ⊥
EndIsSeen _ _ = Unit {0}

-- some byte follows
abbrev pub IsFollowed : List ℕ → Type 0
IsFollowed [] = ⊥
IsFollowed (byte ∷ bytes) = Unit {0}

-- whatever follows, no number is one of a node that is too deep, or of a cut that is one too many
abbrev pub NoDeepNumberComes : Frame → List ℕ → Type 0
NoDeepNumberComes frame text = (more : List ℕ) → HasNoDeepNumber frame (text ++ more)

-- a first fault that doesn't wait for the text's end: the byte behind the faulty number, the first digit of the number of a node that is
-- too deep or of a cut that is one too many, or the byte that leaves the grammar, has come
abbrev pub IsSeenFault : Frame → List ℕ → ℕ → Kind → Type 0
IsSeenFault frame text line kind = ((faulty : HasFaultyToken frame text line kind) × EndIsSeen faulty.token faulty.rest)
    ⊎ (HasDeepNumber frame text line kind
    ⊎ ((kind ≡ Syntax) × HasNoFaultyToken frame text × NoDeepNumberComes frame text × ((leaving : LeavesGrammar frame text line) × IsFollowed leaving.rest)))
