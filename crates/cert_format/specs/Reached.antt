-- How far a text has come, whatever reads it: its tokens are whole, or the next one has begun.
use Rattle.std.specs.Prelude.{◌≡◌, ◌⊎◌, ℕ, ◌-◌, ◌^◌, ◌<◌, Bool, true, false, IsTrue, List, [], ◌∷◌, ◌++◌, length, take, min, nat_le, ◌&&◌}
use Rattle.cert_format.specs.Cert as texts
use Rattle.cert_format.specs.Cert.{Cert}
use Rattle.cert_format.specs.Text.{Token, text_of, signed_numeral}
use Rattle.cert_format.specs.Fault.{AreClean, EndsNumber, EndsToken, line_behind}
use Rattle.cert_format.specs.Words.{word_text}
use Rattle.cert_format.specs.Signed.{signed}
use Rattle.cert_format.specs.Stages.{Stage, words, sort, IsOfSort, is_deep_stage, IsOf, Follows}
use Rattle.cert_format.specs.declared.words.Word.{Word}
use Rattle.cert_format.specs.declared.spots.Sort.TheVariants.{Whole}

-- each token ends where the tokens behind it, and then this text, follow
abbrev pub AreReadFrom : List Token → List ℕ → Type 0
AreReadFrom [] s = Unit {0}
AreReadFrom (x ∷ xs) s = EndsToken x (text_of xs ++ s) × AreReadFrom xs s

-- a text may stand behind tokens, the last of which may be a number
abbrev pub MayStand : Bool → List ℕ → Type 0
MayStand true rest = EndsNumber rest
MayStand false rest = Unit {0}

-- a text is faultless tokens, behind which a certificate goes on exactly as a place says
pub record Reached (frame : texts.Frame) (stage : Stage) (number : Bool) (done : List ℕ) : Type 0 where
  pub before : List Token
  pub clean : AreClean before
  pub bytes : done ≡ text_of before
  pub read : (rest : List ℕ) → MayStand number rest → AreReadFrom before rest
  pub follow : (c : Cert) (ts : List Token) → (IsOf frame c (before ++ ts) → Follows frame c stage ts) × (Follows frame c stage ts → IsOf frame c (before ++ ts))

-- a word is among those that may come
abbrev pub Comes : Word → List (Word × Stage) → Type 0
Comes word [] = ⊥
Comes word (e ∷ es) = (word ≡ e.0) ⊎ Comes word es

-- so many bytes of a word have come
pub record IsInWord (frame : texts.Frame) (stage : Stage) (word : Word) (count : ℕ) (text : List ℕ) : Type 0 where
  pub number : Bool
  pub done : List ℕ
  pub reached : Reached frame stage number done
  pub comes : Comes word (words stage)
  pub within : count < length (word_text word)
  pub bytes : text ≡ done ++ take count (word_text word)
  pub stands : (rest : List ℕ) → MayStand number (word_text word ++ rest)

-- digits of a number have come, which isn't one of a node that is too deep
pub record IsInNumber (frame : texts.Frame) (stage : Stage) (negative : Bool) (value : ℕ) (text : List ℕ) : Type 0 where
  pub done : List ℕ
  pub reached : Reached frame stage false done
  pub number : ℕ
  pub of_sort : IsOfSort (sort stage) (signed negative number)
  pub shallow : is_deep_stage frame stage ≡ false
  pub positive : IsTrue negative → 0 < number
  pub kept : value ≡ min number (2 ^ 64 - 1)
  pub bytes : text ≡ done ++ signed_numeral (signed negative number)
  pub lines : line_behind text ≡ line_behind done

-- a minus has come
pub record IsBehindMinus (frame : texts.Frame) (stage : Stage) (text : List ℕ) : Type 0 where
  pub done : List ℕ
  pub reached : Reached frame stage false done
  pub of_sort : sort stage ≡ Whole
  pub shallow : is_deep_stage frame stage ≡ false
  pub bytes : text ≡ done ++ 45 ∷ []
  pub lines : line_behind text ≡ line_behind done

-- a minus has come, where the number comes of a node that is too deep
pub record IsBehindDeepMinus (frame : texts.Frame) (stage : Stage) (text : List ℕ) : Type 0 where
  pub done : List ℕ
  pub reached : Reached frame stage false done
  pub deep : is_deep_stage frame stage ≡ true
  pub bytes : text ≡ done ++ 45 ∷ []
  pub lines : line_behind text ≡ line_behind done

-- a byte is a digit
abbrev pub is_digit : ℕ → Bool
is_digit byte = nat_le 48 byte && nat_le byte 57
