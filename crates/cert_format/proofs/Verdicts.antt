-- What a text is against a set of token lists: one of them, one with a fault, or stuck.
use Rattle.std.proofs.Common.{◌≡◌, ◌≢◌, ◌⊎◌, ℕ, ◌+◌, ◌<◌, ◌≤◌, List, [], ◌∷◌, ◌++◌, length, Option, Some, None, ℤ, pos, negsuc, refl, sym, ap, ◌∙◌, subst, inl, inr, ⊎_elim, arith, length-append, append_assoc, append-nil}
use Rattle.std.proofs.lemmas.Bool.{cases_eq}
use Rattle.cert_format.specs.Text.{Kind, Token, Words, Figure, LineEnd, numeral, signed_numeral, token_text, text_of, fault_of}
use Rattle.cert_format.specs.Fault.{EndsToken, AreClean}
use Rattle.cert_format.specs.Reached.{AreReadFrom}
use Rattle.cert_format.proofs.Numerals.{BeginsWithDigit, numeral-begins}
use Rattle.cert_format.proofs.Figures.{GoesOn, natural_read, integer_read}

-- a token doesn't stand where a text has come so far and goes on with the rest
abbrev pub IsBarred : Token → List ℕ → List ℕ → Type 0
IsBarred y partial rest = (r s : List ℕ) → EndsToken y r → GoesOn rest s → token_text y ++ r ≡ partial ++ s → ⊥

pub record Whole (L : List Token → Type 0) (t : List ℕ) : Type 0 where
  pub tokens : List Token
  pub member : L tokens
  pub clean : AreClean tokens
  pub bytes : t ≡ text_of tokens

pub record Faulty (L : List Token → Type 0) (t : List ℕ) : Type 0 where
  pub before : List Token
  pub token : Token
  pub after : List Token
  pub rest : List ℕ
  pub kind : Kind
  pub member : L (before ++ token ∷ after)
  pub clean : AreClean before
  pub fault : fault_of token ≡ Some kind
  pub bytes : t ≡ text_of (before ++ token ∷ []) ++ rest
  pub ends : EndsToken token rest

pub record Stuck (L : List Token → Type 0) (t : List ℕ) : Type 0 where
  pub before : List Token
  pub after : List Token
  pub partial : List ℕ
  pub rest : List ℕ
  pub more : List ℕ
  pub member : L (before ++ after)
  pub clean : AreClean before
  pub bytes : t ≡ text_of before ++ (partial ++ rest)
  pub begins : text_of after ≡ partial ++ more
  pub read : AreReadFrom before (partial ++ rest)
  pub cannot : (y : Token) (ys : List Token) → L (before ++ y ∷ ys) → IsBarred y partial rest
  pub over : L before → rest ≡ [] → ⊥

pub data Verdict (L : List Token → Type 0) (t : List ℕ) : Type 0 where
  whole : Whole L t → Verdict L t
  faulty : Faulty L t → Verdict L t
  stuck : Stuck L t → Verdict L t

-- the same of another set with the same members
pub relabel : (L M : List Token → Type 0) (t : List ℕ) → ((ts : List Token) → L ts → M ts) → ((ts : List Token) → M ts → L ts) → Verdict L t → Verdict M t
relabel L M t to from (whole w) = whole (record { tokens = w.tokens; member = to w.tokens w.member; clean = w.clean; bytes = w.bytes })
relabel L M t to from (faulty f) = faulty (record { before = f.before; token = f.token; after = f.after; rest = f.rest; kind = f.kind; member = to (f.before ++ f.token ∷ f.after) f.member; clean = f.clean; fault = f.fault; bytes = f.bytes; ends = f.ends })
relabel L M t to from (stuck s) = stuck (record {
  before = s.before;
  after = s.after;
  partial = s.partial;
  rest = s.rest;
  more = s.more;
  member = to (s.before ++ s.after) s.member;
  clean = s.clean;
  bytes = s.bytes;
  begins = s.begins;
  read = s.read;
  cannot = λ y ys m. s.cannot y ys (from (s.before ++ y ∷ ys) m);
  over = λ m. s.over (from s.before m);
})

-- a faultless token in front
pub lift : (L : List Token → Type 0) (x : Token) (rest : List ℕ) → fault_of x ≡ None → EndsToken x rest → Verdict (λ ts. L (x ∷ ts)) rest → Verdict L (token_text x ++ rest)
lift L x rest none ends (whole w) = whole (record { tokens = x ∷ w.tokens; member = w.member; clean = (none, w.clean); bytes = ap (λ (xs : List ℕ). token_text x ++ xs) w.bytes })
lift L x rest none ends (faulty f) = faulty (record {
  before = x ∷ f.before;
  token = f.token;
  after = f.after;
  rest = f.rest;
  kind = f.kind;
  member = f.member;
  clean = (none, f.clean);
  fault = f.fault;
  ends = f.ends;
  bytes = ap (λ (xs : List ℕ). token_text x ++ xs) f.bytes ∙ sym (append_assoc (token_text x) (text_of (f.before ++ f.token ∷ [])) f.rest);
})
lift L x rest none ends (stuck s) = stuck (record {
  before = x ∷ s.before;
  after = s.after;
  partial = s.partial;
  rest = s.rest;
  more = s.more;
  member = s.member;
  clean = (none, s.clean);
  begins = s.begins;
  cannot = s.cannot;
  over = s.over;
  bytes = ap (λ (xs : List ℕ). token_text x ++ xs) s.bytes ∙ sym (append_assoc (token_text x) (text_of s.before) (s.partial ++ s.rest));
  read = (subst (λ (xs : List ℕ). EndsToken x xs) s.bytes ends, s.read);
})

-- a faulty token in front
first_fault : (L : List Token → Type 0) (x : Token) (ts : List Token) (k : Kind) (rest : List ℕ) → L (x ∷ ts) → fault_of x ≡ Some k → EndsToken x rest → Verdict L (token_text x ++ rest)
first_fault L x ts k rest member fault ends = faulty (record { before = []; token = x; after = ts; rest = rest; kind = k; member = member; clean = tt; fault = fault; ends = ends; bytes = ap (λ (xs : List ℕ). xs ++ rest) (sym (append-nil (token_text x))) })

-- a token that may or may not have a fault
pub judged : (L : List Token → Type 0) (x : Token) (ts : List Token) (rest : List ℕ) → L (x ∷ ts) → EndsToken x rest → Verdict (λ us. L (x ∷ us)) rest → Verdict L (token_text x ++ rest)
judged L x ts rest member ends more = by_fault (fault_of x) refl where
  by_fault : (f : Option Kind) → fault_of x ≡ f → Verdict L (token_text x ++ rest)
  by_fault None is = lift L x rest is ends more
  by_fault (Some k) is = first_fault L x ts k rest member is ends

-- stuck in the first token
stuck_here : (L : List Token → Type 0) (after : List Token) (partial rest more : List ℕ) → L after → text_of after ≡ partial ++ more → ((y : Token) (ys : List Token) → L (y ∷ ys) → IsBarred y partial rest) → (L [] → rest ≡ [] → ⊥) → Verdict L (partial ++ rest)
stuck_here L after partial rest more member begins cannot over = stuck (record { before = []; after = after; partial = partial; rest = rest; more = more; member = member; clean = tt; bytes = refl; begins = begins; read = tt; cannot = cannot; over = over })

-- no text that goes on as this one at some place begins with the token
abbrev pub IsOff : Token → List ℕ → Type 0
IsOff y t = (r p q s : List ℕ) → t ≡ p ++ q → GoesOn q s → token_text y ++ r ≡ p ++ s → ⊥

-- another first byte
abbrev pub NotFirst : ℕ → List ℕ → Type 0
NotFirst b [] = Unit {0}
NotFirst b (c ∷ cs) = c ≢ b

pub begins_with : (b : ℕ) (t : List ℕ) → ((s : List ℕ) × (t ≡ b ∷ s)) ⊎ NotFirst b t
begins_with b [] = inr tt
begins_with b (c ∷ cs) = ⊎_elim (λ e. inl (cs, ap (λ (n : ℕ). n ∷ cs) e)) (λ other. inr other) (cases_eq c b)

-- a text that goes on alike has no other first byte
pub not_first : (b : ℕ) (t p q s more : List ℕ) → NotFirst b t → t ≡ p ++ q → GoesOn q s → p ++ s ≡ b ∷ more → ⊥
not_first b [] [] [] [] more other split goes same = cc
not_first b [] [] [] (d ∷ s) more other split goes same = goes
not_first b [] [] (c ∷ q) s more other split goes same = cc
not_first b [] (x ∷ p) q s more other split goes same = cc
not_first b (c ∷ t) [] [] s more other split goes same = cc
not_first b (c ∷ t) [] (d ∷ q) [] more other split goes same = goes
not_first b (c ∷ t) [] (d ∷ q) (e ∷ s) more other split goes same = let first : c ≡ d = cc in let second : e ≡ b = cc in other (first ∙ goes ∙ second)
not_first b (c ∷ t) (x ∷ p) q s more other split goes same = let first : c ≡ x = cc in let second : x ≡ b = cc in other (first ∙ second)

pub off_words : (b : ℕ) (w t : List ℕ) → NotFirst b t → IsOff (Words (b ∷ w)) t
off_words b w t other = λ r p q s split goes same. not_first b t p q s (w ++ r) other split goes (sym same)

pub off_end : (f : Option Kind) (t : List ℕ) → NotFirst 10 t → IsOff (LineEnd f) t
off_end f t other = λ r p q s split goes same. not_first 10 t p q s r other split goes (sym same)

-- a text with a first byte has no other
pub other_first : (b c : ℕ) (s t : List ℕ) → t ≡ c ∷ s → c ≢ b → NotFirst b t
other_first b c s [] is other = tt
other_first b c s (x ∷ xs) is other = λ e. let f : x ≡ c = cc in other (sym f ∙ e)

pub off_figure : (n : ℕ) (f : Option Kind) (b : ℕ) (bs t : List ℕ) → t ≡ b ∷ bs → (48 ≤ b → b ≤ 57 → ⊥) → IsOff (Figure (pos n) f) t
off_figure n f b bs t is other = λ r p q s split goes same.
    let P : List ℕ → Type 0 = BeginsWithDigit in
    digit_first t p q s split goes is other (subst P same (numeral-begins n r)) where
      digit_first : (t p q s : List ℕ) → t ≡ p ++ q → GoesOn q s → t ≡ b ∷ bs → (48 ≤ b → b ≤ 57 → ⊥) → BeginsWithDigit (p ++ s) → ⊥
      digit_first t [] [] s split goes is other digit = let wrong : [] ≡ b ∷ bs = sym split ∙ is in cc
      digit_first t [] (d ∷ q) [] split goes is other digit = goes
      digit_first t [] (d ∷ q) (e ∷ s) split goes is other digit =
          let whole : d ∷ q ≡ b ∷ bs = sym split ∙ is in let first : d ≡ b = cc in
          other (subst (λ (m : ℕ). 48 ≤ m) (sym goes ∙ first) digit.0) (subst (λ (m : ℕ). m ≤ 57) (sym goes ∙ first) digit.1)
      digit_first t (x ∷ p) q s split goes is other digit =
          let whole : x ∷ (p ++ q) ≡ b ∷ bs = sym split ∙ is in let first : x ≡ b = cc in
          other (subst (λ (m : ℕ). 48 ≤ m) first digit.0) (subst (λ (m : ℕ). m ≤ 57) first digit.1)

-- a shorter text
abbrev pub Shorter : List ℕ → List ℕ → Type 0
Shorter rest t = length rest < length t

-- the first token is one of a kind, or off
pub natural_step : (L : List Token → Type 0) (f : ℕ → Option Kind) (t : List ℕ)
    → ((y : Token) (ys : List Token) → L (y ∷ ys) → ((n : ℕ) × (y ≡ Figure (pos n) (f n))) ⊎ IsOff y t)
    → ((n : ℕ) → (ts : List Token) × L (Figure (pos n) (f n) ∷ ts)) → (L [] → ⊥)
    → ((n : ℕ) (rest : List ℕ) → Shorter rest t → Verdict (λ ts. L (Figure (pos n) (f n) ∷ ts)) rest) → Verdict L t
natural_step L f t only some over next = ⊎_elim
    (λ found.
    let x : Token = Figure (pos found.number) (f found.number) in
    let longer : Shorter found.rest t = shorter found.number found.rest found.bytes in
    let verdict = judged L x (some found.number).0 found.rest (some found.number).1 found.ends (next found.number found.rest longer) in
    let P : List ℕ → Type 0 = λ xs. Verdict L xs in subst P (sym found.bytes) verdict)
    (λ stop.
    let x : Token = Figure (pos stop.number) (f stop.number) in
    let ts = (some stop.number).0 in
    let begins : text_of (x ∷ ts) ≡ stop.partial ++ (stop.more ++ text_of ts) = ap (λ (xs : List ℕ). xs ++ text_of ts) stop.begins ∙ append_assoc stop.partial stop.more (text_of ts) in
    let verdict = stuck_here L (x ∷ ts) stop.partial stop.rest (stop.more ++ text_of ts) (some stop.number).1 begins
    (λ y ys member. ⊎_elim
    (λ is r s ends goes same.
    let e : y ≡ Figure (pos is.0) (f is.0) = is.1 in
    stop.barred is.0 r s (subst (λ (w : Token). EndsToken w r) e ends) goes (sym (ap (λ (w : Token). token_text w ++ r) e) ∙ same))
    (λ off r s ends goes same. off r stop.partial stop.rest s stop.bytes goes same)
    (only y ys member))
    (λ none _. over none) in
    let P : List ℕ → Type 0 = λ xs. Verdict L xs in subst P (sym stop.bytes) verdict)
    (natural_read t) where
      shorter : (n : ℕ) (rest : List ℕ) → t ≡ numeral n ++ rest → Shorter rest t
      shorter n rest bytes =
          let sizes : length t ≡ length (numeral n) + length rest = ap length bytes ∙ length-append (numeral n) rest in
          let some : 0 < length (numeral n) = size (numeral n) (subst (λ (xs : List ℕ). BeginsWithDigit xs) (append-nil (numeral n)) (numeral-begins n [])) in omega arith where
            size : (xs : List ℕ) → BeginsWithDigit xs → 0 < length xs
            size [] begins = absurd begins
            size (x ∷ xs) begins = omega arith

-- the same for numbers with signs
pub figure_step : (L : List Token → Type 0) (f : ℤ → Option Kind) (t : List ℕ)
    → ((y : Token) (ys : List Token) → L (y ∷ ys) → ((z : ℤ) × (y ≡ Figure z (f z))) ⊎ IsOff y t)
    → ((z : ℤ) → (ts : List Token) × L (Figure z (f z) ∷ ts)) → (L [] → ⊥)
    → ((z : ℤ) (rest : List ℕ) → Shorter rest t → Verdict (λ ts. L (Figure z (f z) ∷ ts)) rest) → Verdict L t
figure_step L f t only some over next = ⊎_elim
    (λ found.
    let x : Token = Figure found.number (f found.number) in
    let longer : Shorter found.rest t = shorter found.number found.rest found.bytes in
    let verdict = judged L x (some found.number).0 found.rest (some found.number).1 found.ends (next found.number found.rest longer) in
    let P : List ℕ → Type 0 = λ xs. Verdict L xs in subst P (sym found.bytes) verdict)
    (λ stop.
    let x : Token = Figure stop.number (f stop.number) in
    let ts = (some stop.number).0 in
    let begins : text_of (x ∷ ts) ≡ stop.partial ++ (stop.more ++ text_of ts) = ap (λ (xs : List ℕ). xs ++ text_of ts) stop.begins ∙ append_assoc stop.partial stop.more (text_of ts) in
    let verdict = stuck_here L (x ∷ ts) stop.partial stop.rest (stop.more ++ text_of ts) (some stop.number).1 begins
    (λ y ys member. ⊎_elim
    (λ is r s ends goes same.
    let e : y ≡ Figure is.0 (f is.0) = is.1 in
    stop.barred is.0 r s (subst (λ (w : Token). EndsToken w r) e ends) goes (sym (ap (λ (w : Token). token_text w ++ r) e) ∙ same))
    (λ off r s ends goes same. off r stop.partial stop.rest s stop.bytes goes same)
    (only y ys member))
    (λ none _. over none) in
    let P : List ℕ → Type 0 = λ xs. Verdict L xs in subst P (sym stop.bytes) verdict)
    (integer_read t) where
      shorter : (z : ℤ) (rest : List ℕ) → t ≡ signed_numeral z ++ rest → Shorter rest t
      shorter z rest bytes =
          let sizes : length t ≡ length (signed_numeral z) + length rest = ap length bytes ∙ length-append (signed_numeral z) rest in
          let some : 0 < length (signed_numeral z) = size z in omega arith where
            digits : (xs : List ℕ) → BeginsWithDigit xs → 0 < length xs
            digits [] begins = absurd begins
            digits (x ∷ xs) begins = omega arith

            size : (z : ℤ) → 0 < length (signed_numeral z)
            size (pos n) = digits (numeral n) (subst (λ (xs : List ℕ). BeginsWithDigit xs) (append-nil (numeral n)) (numeral-begins n []))
            size (negsuc n) = omega arith

-- the text begins with a word, or stops in it
record StopsWord (w t : List ℕ) : Type 0 where
  pub partial : List ℕ
  pub rest : List ℕ
  pub bytes : t ≡ partial ++ rest
  pub more : List ℕ
  pub begins : w ≡ partial ++ more
  pub barred : (r s : List ℕ) → GoesOn rest s → w ++ r ≡ partial ++ s → ⊥

word_read : (w t : List ℕ) → ((rest : List ℕ) × (t ≡ w ++ rest)) ⊎ StopsWord w t
word_read [] t = inl (t, refl)
word_read (c ∷ w) [] = inr (record { partial = []; rest = []; bytes = refl; more = c ∷ w; begins = refl; barred = λ r s goes same. nothing r s goes same }) where
  nothing : (r s : List ℕ) → GoesOn [] s → (c ∷ w) ++ r ≡ s → ⊥
  nothing r [] goes same = cc
  nothing r (d ∷ s) goes same = goes
word_read (c ∷ w) (d ∷ t) =
    ⊎_elim
    (λ is. ⊎_elim
    (λ found. inl (found.0, ap (λ (n : ℕ). n ∷ t) is ∙ ap (λ (xs : List ℕ). c ∷ xs) found.1))
    (λ stop. inr (record {
      partial = c ∷ stop.partial;
      rest = stop.rest;
      bytes = ap (λ (n : ℕ). n ∷ t) is ∙ ap (λ (xs : List ℕ). c ∷ xs) stop.bytes;
      more = stop.more;
      begins = ap (λ (xs : List ℕ). c ∷ xs) stop.begins;
      barred = λ r s goes same. let tails : w ++ r ≡ stop.partial ++ s = cc in stop.barred r s goes tails;
    }))
    (word_read w t))
    (λ other. inr (record { partial = []; rest = d ∷ t; bytes = refl; more = c ∷ w; begins = refl; barred = λ r s goes same. apart other r s goes same }))
    (cases_eq d c) where
      apart : (d ≡ c → ⊥) → (r s : List ℕ) → GoesOn (d ∷ t) s → (c ∷ w) ++ r ≡ s → ⊥
      apart other r [] goes same = goes
      apart other r (e ∷ s) goes same = let first : c ≡ e = cc in other (goes ∙ sym first)

-- the first token is one, or off
pub fixed_step : (L : List Token → Type 0) (x : Token) (b : ℕ) (w t : List ℕ) → token_text x ≡ b ∷ w → ((r : List ℕ) → EndsToken x r)
    → ((y : Token) (ys : List Token) → L (y ∷ ys) → (y ≡ x) ⊎ IsOff y t)
    → (ts : List Token) → L (x ∷ ts) → (L [] → ⊥)
    → ((rest : List ℕ) → Shorter rest t → Verdict (λ us. L (x ∷ us)) rest) → Verdict L t
fixed_step L x b w t is ends only ts member over next = ⊎_elim
    (λ found.
    let bytes : t ≡ token_text x ++ found.0 = found.1 ∙ sym (ap (λ (xs : List ℕ). xs ++ found.0) is) in
    let sizes : length t ≡ length (b ∷ w) + length found.0 = ap length found.1 ∙ length-append (b ∷ w) found.0 in
    let longer : Shorter found.0 t = omega arith in
    let verdict = judged L x ts found.0 member (ends found.0) (next found.0 longer) in
    let P : List ℕ → Type 0 = λ xs. Verdict L xs in subst P (sym bytes) verdict)
    (λ stop.
    let begins : text_of (x ∷ ts) ≡ stop.partial ++ (stop.more ++ text_of ts) = ap (λ (xs : List ℕ). xs ++ text_of ts) (is ∙ stop.begins) ∙ append_assoc stop.partial stop.more (text_of ts) in
    let verdict = stuck_here L (x ∷ ts) stop.partial stop.rest (stop.more ++ text_of ts) member begins
    (λ y ys other. ⊎_elim
    (λ e r s _ goes same. stop.barred r s goes (sym (ap (λ (xs : List ℕ). xs ++ r) is) ∙ sym (ap (λ (w : Token). token_text w ++ r) e) ∙ same))
    (λ off r s _ goes same. off r stop.partial stop.rest s stop.bytes goes same)
    (only y ys other))
    (λ none _. over none) in
    let P : List ℕ → Type 0 = λ xs. Verdict L xs in subst P (sym stop.bytes) verdict)
    (word_read (b ∷ w) t)

-- all first tokens are off
pub none_step : (L : List Token → Type 0) (t : List ℕ) (ts : List Token) → L ts → ((y : Token) (ys : List Token) → L (y ∷ ys) → IsOff y t) → (L [] → t ≡ [] → ⊥) → Verdict L t
none_step L t ts member only over = stuck_here L ts [] t (text_of ts) member refl (λ y ys other r s _ goes same. only y ys other r [] t s refl goes same) over

-- the end of a text
pub end_step : (L : List Token → Type 0) (t : List ℕ) → L [] → ((y : Token) (ys : List Token) → L (y ∷ ys) → ⊥) → Verdict L t
end_step L [] member only = whole (record { tokens = []; member = member; clean = tt; bytes = refl })
end_step L (b ∷ t) member only = none_step L (b ∷ t) [] member (λ y ys other. absurd (only y ys other)) (λ _ none. cc)
