-- Each text has a certificate or a first fault.
use Rattle.std.proofs.Common.{◌≡◌, ◌⊎◌, ℕ, ◌≤◌, List, [], ◌∷◌, ◌++◌, Some, Option, ℤ, pos, arith, refl, sym, ap, ◌∙◌, subst, inl, inr, ⊎_elim, append_assoc, append-nil}
use Rattle.std.proofs.lemmas.List.{append_cancel_left}
use Rattle.std.proofs.lemmas.Grind.{flat_map-append}
use Rattle.cert_format.specs.Cert.{Cert, Frame}
use Rattle.cert_format.specs.declared.fault.CertKind.TheVariants.{Syntax, TooLarge, Number, Length, Depth, Limit}
use Rattle.cert_format.specs.Text.{Kind, Token, Words, Figure, LineEnd, numeral, token_text, text_of, fault_of, Version, tokens_of, meant, HasForm}
use Rattle.cert_format.specs.Fault.{IsExcess, EndsToken, AreClean, IsText, Begins, HasFaultyToken, HasNoFaultyToken, BeginsDigit, BeginsNumber, HasDeepNumber, HasNoDeepNumber, Leaves, LeavesGrammar, IsFirstCertFault, line_behind}
use Rattle.std.proofs.lemmas.Bool.{cases_eq, cases_lt}
use Rattle.cert_format.proofs.Deep.{deep}
use Rattle.cert_format.proofs.LawProofs.{faulty_same, text_clean}
use Rattle.cert_format.proofs.Numerals.{signed_numeral-one}
use Rattle.cert_format.proofs.Coherent.{AreApart, AreCoherent, tokens_coherent}
use Rattle.cert_format.proofs.Spaced.{AreSpaced, tokens_spaced}
use Rattle.cert_format.proofs.Meet.{ends_before, no_fault_twice}
use Rattle.cert_format.proofs.Figures.{GoesOn, goes_on, numeral-small}
use Rattle.cert_format.proofs.Verdicts.{Verdict, whole, faulty, stuck, Whole, Faulty, Stuck, IsBarred}
use Rattle.cert_format.specs.Reached.{AreReadFrom}
use Rattle.cert_format.proofs.Claims.{Certificates, text_read}

-- a token ends where texts go on alike
ends_on : (x : Token) (p rest more : List ℕ) → EndsToken x (p ++ rest) → GoesOn rest more → EndsToken x (p ++ more)
ends_on (Words bytes) p rest more ends goes = tt
ends_on (LineEnd f) p rest more ends goes = tt
ends_on (Figure z f) (b ∷ p) rest more ends goes = ends
ends_on (Figure z f) [] [] [] ends goes = tt
ends_on (Figure z f) [] [] (c ∷ more) ends goes = absurd goes
ends_on (Figure z f) [] (b ∷ rest) [] ends goes = absurd goes
ends_on (Figure z f) [] (b ∷ rest) (c ∷ more) ends goes = λ low high. ends (subst (λ (n : ℕ). 48 ≤ n) (sym goes) low) (subst (λ (n : ℕ). n ≤ 57) (sym goes) high)

ends_behind : (x : Token) (front partial rest more : List ℕ) → EndsToken x (front ++ (partial ++ rest)) → GoesOn rest more → EndsToken x (front ++ (partial ++ more))
ends_behind x front partial rest more ends goes =
    let P : List ℕ → Type 0 = λ xs. EndsToken x xs in
    subst P (append_assoc front partial more) (ends_on x (front ++ partial) rest more (subst P (sym (append_assoc front partial rest)) ends) goes)

-- nothing goes on as nothing does
nothing_more : (partial rest more : List ℕ) → partial ++ more ≡ [] → GoesOn rest more → rest ≡ []
nothing_more [] [] [] same goes = refl
nothing_more [] (b ∷ rest) [] same goes = absurd goes
nothing_more [] rest (c ∷ more) same goes = cc
nothing_more (b ∷ partial) rest more same goes = cc

-- no certificate's text goes on where reading is stuck
stuck_meet : (E : Type 0) (b after v : List Token) (partial rest more : List ℕ) → AreCoherent E (b ++ after) v → AreSpaced v → AreReadFrom b (partial ++ rest) → GoesOn rest more
    → ((y : Token) (ys : List Token) → v ≡ b ++ y ∷ ys → IsBarred y partial rest) → (v ≡ b → rest ≡ [] → ⊥) → text_of v ≡ text_of b ++ (partial ++ more) → ⊥
unfolding AreCoherent AreApart AreSpaced
stuck_meet E [] after [] partial rest more coherent spaced read goes cannot over same = over refl (nothing_more partial rest more (sym same) goes)
stuck_meet E [] after (y ∷ ys) partial rest more coherent spaced read goes cannot over same = cannot y ys refl (text_of ys) more spaced.0 goes same
stuck_meet E (x ∷ b) after [] partial rest more coherent spaced read goes cannot over same = coherent
stuck_meet E (x ∷ b) after (y ∷ ys) partial rest more coherent spaced read goes cannot over same =
    let regrouped : token_text y ++ text_of ys ≡ token_text x ++ (text_of b ++ (partial ++ more)) = same ∙ append_assoc (token_text x) (text_of b) (partial ++ more) in
    ⊎_elim
    (λ far. far.0 (text_of b ++ (partial ++ more)) (text_of ys) (ends_behind x (text_of b) partial rest more read.0 goes) spaced.0 (sym regrouped))
    (λ near.
    let rests = append_cancel_left (token_text y) (text_of ys) (text_of b ++ (partial ++ more)) (regrouped ∙ ap (λ (w : Token). token_text w ++ (text_of b ++ (partial ++ more))) near.0) in
    stuck_meet E b after ys partial rest more near.1 spaced.1 read.1 goes
    (λ z zs is. cannot z zs (ap (λ (w : Token). w ∷ ys) (sym near.0) ∙ ap (λ (ws : List Token). x ∷ ws) is))
    (λ is none. over (ap (λ (w : Token). w ∷ ys) (sym near.0) ∙ ap (λ (ws : List Token). x ∷ ws) is) none) rests)
    coherent

-- no faulty token stands where reading is stuck, or before
stuck_clean : (E : Type 0) (b after c : List Token) (t : Token) (d : List Token) (partial rest q : List ℕ) (l : Kind) → AreCoherent E (b ++ after) (c ++ t ∷ d) → AreSpaced (c ++ t ∷ d) → AreClean b → AreReadFrom b (partial ++ rest)
    → ((y : Token) (ys : List Token) → c ++ t ∷ d ≡ b ++ y ∷ ys → IsBarred y partial rest) → AreClean c → fault_of t ≡ Some l → EndsToken t q → text_of b ++ (partial ++ rest) ≡ text_of (c ++ t ∷ []) ++ q → ⊥
unfolding AreCoherent AreApart AreSpaced
stuck_clean E [] after [] t d partial rest q l coherent spaced clean read cannot clean_c fault ends same =
    cannot t d refl q rest ends (goes_on rest) (sym (simp append-nil at same))
stuck_clean E [] after (y ∷ c) t d partial rest q l coherent spaced clean read cannot clean_c fault ends same =
    cannot y (c ++ t ∷ d) refl (text_of (c ++ t ∷ []) ++ q) rest (ends_before y c t d q l fault spaced.0) (goes_on rest) (sym (append_assoc (token_text y) (text_of (c ++ t ∷ [])) q) ∙ sym same)
stuck_clean E (x ∷ b) after [] t d partial rest q l coherent spaced clean read cannot clean_c fault ends same =
    let regrouped : token_text x ++ (text_of b ++ (partial ++ rest)) ≡ token_text t ++ q = sym (append_assoc (token_text x) (text_of b) (partial ++ rest)) ∙ same ∙ ap (λ (xs : List ℕ). xs ++ q) (append-nil (token_text t)) in
    ⊎_elim
    (λ far. far.0 (text_of b ++ (partial ++ rest)) q read.0 ends regrouped)
    (λ near. no_fault_twice t x l (sym near.0) fault clean.0)
    coherent
stuck_clean E (x ∷ b) after (y ∷ c) t d partial rest q l coherent spaced clean read cannot clean_c fault ends same =
    let regrouped : token_text x ++ (text_of b ++ (partial ++ rest)) ≡ token_text y ++ (text_of (c ++ t ∷ []) ++ q) = sym (append_assoc (token_text x) (text_of b) (partial ++ rest)) ∙ same ∙ append_assoc (token_text y) (text_of (c ++ t ∷ [])) q in
    ⊎_elim
    (λ far. far.0 (text_of b ++ (partial ++ rest)) (text_of (c ++ t ∷ []) ++ q) read.0 (ends_before y c t d q l fault spaced.0) regrouped)
    (λ near.
    let rests = append_cancel_left (token_text x) (text_of b ++ (partial ++ rest)) (text_of (c ++ t ∷ []) ++ q) (regrouped ∙ ap (λ (w : Token). token_text w ++ (text_of (c ++ t ∷ []) ++ q)) (sym near.0)) in
    stuck_clean E b after c t d partial rest q l near.1 spaced.1 clean.1 read.1
    (λ z zs is. cannot z zs (ap (λ (w : Token). w ∷ (c ++ t ∷ d)) (sym near.0) ∙ ap (λ (ws : List Token). x ∷ ws) is)) clean_c.1 fault ends rests)
    coherent

-- the certificate or the first fault of a text
abbrev pub HasAnswer : Frame → List ℕ → Type 0
HasAnswer frame text = ((version : Version) × (cert : Cert) × IsText frame version cert text) ⊎ ((line : ℕ) × (kind : Kind) × IsFirstCertFault frame text line kind)

whole_answer : (frame : Frame) (text : List ℕ) → Whole (Certificates frame) text → HasAnswer frame text
whole_answer frame text w =
    let m = w.member in
    inl (m.0, meant m.0 m.1, record { written = m.1; form = m.2; clean = subst (λ (xs : List Token). AreClean xs) m.3 w.clean; bytes = w.bytes ∙ ap text_of m.3; means = refl })

faulty_answer : (frame : Frame) (text : List ℕ) → Faulty (Certificates frame) text → HasAnswer frame text
faulty_answer frame text f =
    let m = f.member in
    inr (line_behind (text_of f.before), f.kind, inl (record { version = m.0; written = m.1; form = m.2; before = f.before; token = f.token; after = f.after; rest = f.rest; tokens = sym m.3; clean = f.clean; fault = f.fault; bytes = f.bytes; ends = f.ends; line_is = refl }))

module _ (frame : Frame) (text : List ℕ) (s : Stuck (Certificates frame) text) where
  -- a certificate doesn't go on where reading is stuck
  goes_nowhere : (version : Version) (cert : Cert) → HasForm version cert → (more : List ℕ) → GoesOn s.rest more → text_of (tokens_of frame version cert) ≡ text_of s.before ++ (s.partial ++ more) → ⊥
  goes_nowhere version cert form more goes same =
      let m = s.member in
      let P : List Token → Type 0 = λ xs. AreCoherent (Unit {0}) xs (tokens_of frame version cert) in
      stuck_meet (Unit {0}) s.before s.after (tokens_of frame version cert) s.partial s.rest more
      (subst P (sym m.3) (tokens_coherent (Unit {0}) frame m.0 version m.1 cert (λ _ _. tt))) (tokens_spaced frame version cert) s.read goes
      (λ y ys is. s.cannot y ys (version, cert, form, sym is)) (λ is none. s.over (version, cert, form, sym is) none) same

  begins_there : Begins frame (text_of s.before ++ s.partial)
  begins_there =
      let m = s.member in
      record {
        version = m.0;
        written = m.1;
        form = m.2;
        rest = s.more;
        bytes = ap text_of (sym m.3) ∙ flat_map-append token_text s.before s.after ∙ ap (λ (xs : List ℕ). text_of s.before ++ xs) s.begins ∙ sym (append_assoc (text_of s.before) s.partial s.more);
      }

  leaves_there : (rest : List ℕ) → s.rest ≡ rest → Leaves frame (text_of s.before ++ s.partial) rest
  leaves_there [] is = λ a. goes_nowhere a.version a.written a.form [] (let P : List ℕ → Type 0 = λ xs. GoesOn xs [] in subst P (sym is) tt)
      (a.bytes ∙ ap (λ (xs : List ℕ). text_of s.before ++ xs) (sym (append-nil s.partial)))
  leaves_there (byte ∷ rest) is = λ a. goes_nowhere a.version a.written a.form (byte ∷ a.rest) (let P : List ℕ → Type 0 = λ xs. GoesOn xs (byte ∷ a.rest) in subst P (sym is) refl)
      (a.bytes ∙ append_assoc (text_of s.before ++ s.partial) (byte ∷ []) a.rest ∙ append_assoc (text_of s.before) s.partial (byte ∷ a.rest))

  no_fault : HasNoFaultyToken frame text
  no_fault line kind a =
      let m = s.member in
      let P : List Token → Type 0 = λ xs. AreCoherent (Unit {0}) (s.before ++ s.after) xs in
      let Q : List Token → Type 0 = λ xs. AreCoherent (Unit {0}) xs (tokens_of frame a.version a.written) in
      stuck_clean (Unit {0}) s.before s.after a.before a.token a.after s.partial s.rest a.rest kind
      (subst P a.tokens (subst Q (sym m.3) (tokens_coherent (Unit {0}) frame m.0 a.version m.1 a.written (λ _ _. tt))))
      (subst (λ (xs : List Token). AreSpaced xs) a.tokens (tokens_spaced frame a.version a.written)) s.clean s.read
      (λ y ys is. s.cannot y ys (a.version, a.written, a.form, sym is ∙ sym a.tokens)) a.clean a.fault a.ends (sym s.bytes ∙ a.bytes)

  -- reading is stuck where the text leaves the grammar
  pub stuck_leaves : HasNoFaultyToken frame text × ((leaving : LeavesGrammar frame text (line_behind (text_of s.before ++ s.partial))) × (leaving.rest ≡ s.rest))
  stuck_leaves = (no_fault, (record { before = text_of s.before ++ s.partial; rest = s.rest; bytes = s.bytes ∙ sym (append_assoc (text_of s.before) s.partial s.rest); begins = begins_there; leaves = leaves_there s.rest refl; line_is = refl }, refl))

  -- the answer is the number of a node that is too deep or of a cut that is one too many, if there is one
  stuck_answer : ((line : ℕ) × (kind : Kind) × HasDeepNumber frame text line kind) ⊎ HasNoDeepNumber frame text → HasAnswer frame text
  stuck_answer (inl found) = inr (found.0, found.1, inr (inl found.2))
  stuck_answer (inr none) = inr (line_behind (text_of s.before ++ s.partial), Syntax, inr (inr (refl, no_fault, none, stuck_leaves.1.0)))

-- ---- whether a text has the number of a node that is too deep, or of a cut that is one too many

-- a text behind which even the number 0 is one of a node that is too deep, or of a cut that is one too many
record DeepPlace (frame : Frame) (kind : Kind) (front : List ℕ) : Type 0 where
  pub excess : IsExcess kind
  pub version : Version
  pub written : Cert
  pub form : HasForm version written
  pub before : List Token
  pub after : List Token
  pub tokens : tokens_of frame version written ≡ before ++ deep kind ∷ after
  pub clean : AreClean before
  pub bytes : front ≡ text_of before

-- the text with the number 0 and a line's end behind it
abbrev probe : List ℕ → List ℕ
probe front = front ++ 48 ∷ 10 ∷ []

zero_text : numeral 0 ≡ 48 ∷ []
zero_text = numeral-small 0 (omega arith)

no_line_digit : 48 ≤ 10 → 10 ≤ 57 → ⊥
no_line_digit low high = omega arith

text_end : (before : List Token) (x : Token) (q : List ℕ) → text_of (before ++ x ∷ []) ++ q ≡ text_of before ++ (token_text x ++ q)
text_end before x q =
    ap (λ (xs : List ℕ). xs ++ q) (flat_map-append token_text before (x ∷ []) ∙ ap (λ (xs : List ℕ). text_of before ++ xs) (append-nil (token_text x)))
    ∙ append_assoc (text_of before) (token_text x) q

place_faulty : (frame : Frame) (k : Kind) (front : List ℕ) → DeepPlace frame k front → HasFaultyToken frame (probe front) (line_behind front) k
place_faulty frame k front p = record {
  version = p.version;
  written = p.written;
  form = p.form;
  before = p.before;
  token = deep k;
  after = p.after;
  rest = 10 ∷ [];
  tokens = p.tokens;
  clean = p.clean;
  fault = refl;
  bytes = ap probe p.bytes ∙ ap (λ (xs : List ℕ). text_of p.before ++ (xs ++ 10 ∷ [])) (sym zero_text) ∙ sym (text_end p.before (deep k) (10 ∷ []));
  ends = no_line_digit;
  line_is = ap line_behind p.bytes;
}

lists_decided : (xs ys : List ℕ) → (xs ≡ ys) ⊎ (xs ≡ ys → ⊥)
lists_decided [] [] = inl refl
lists_decided [] (y ∷ ys) = inr (λ e. cc)
lists_decided (x ∷ xs) [] = inr (λ e. cc)
lists_decided (x ∷ xs) (y ∷ ys) = ⊎_elim
    (λ heads. ⊎_elim
    (λ tails. inl (ap (λ n. n ∷ xs) heads ∙ ap (λ (ns : List ℕ). y ∷ ns) tails))
    (λ apart. inr (λ e. apart (cc)))
    (lists_decided xs ys))
    (λ apart. inr (λ e. apart (cc)))
    (cases_eq x y)

excess_decided : (k : Kind) → IsExcess k ⊎ (IsExcess k → ⊥)
excess_decided Syntax = inr (λ x. ⊎_elim (λ e. cc) (λ e. cc) x)
excess_decided TooLarge = inr (λ x. ⊎_elim (λ e. cc) (λ e. cc) x)
excess_decided Number = inr (λ x. ⊎_elim (λ e. cc) (λ e. cc) x)
excess_decided Length = inr (λ x. ⊎_elim (λ e. cc) (λ e. cc) x)
excess_decided Depth = inl (inl refl)
excess_decided Limit = inl (inr refl)

-- a token that stands for a 0 with such a fault
is_zero : (k : Kind) (x : Token) (q : List ℕ) → fault_of x ≡ Some k → EndsToken x q → token_text x ++ q ≡ 48 ∷ 10 ∷ [] → x ≡ deep k
is_zero k (Words bytes) q fault ends same = absurd (cc)
is_zero k (LineEnd f) q fault ends same = absurd (let e : ◌≡◌ {A = ℕ} 10 48 = cc in omega arith)
is_zero k (Figure z f) q fault ends same =
    let zero : z ≡ pos 0 = signed_numeral-one z (pos 0) q (10 ∷ []) ends no_line_digit (same ∙ ap (λ (xs : List ℕ). xs ++ 10 ∷ []) (sym zero_text)) in
    ap (λ (y : ℤ). Figure y f) zero ∙ ap (λ (g : Option Kind). Figure (pos 0) g) fault

-- the faulty token at such a place
same_place : (frame : Frame) (front : List ℕ) (f : Faulty (Certificates frame) (probe front)) (k : Kind) → DeepPlace frame k front → (text_of f.before ≡ front) × (f.kind ≡ k)
unfolding place_faulty
same_place frame front f k p =
    let m = f.member in
    let a : HasFaultyToken frame (probe front) (line_behind (text_of f.before)) f.kind = record { version = m.0; written = m.1; form = m.2; before = f.before; token = f.token; after = f.after; rest = f.rest; tokens = sym m.3; clean = f.clean; fault = f.fault; bytes = f.bytes; ends = f.ends; line_is = refl } in
    let one = faulty_same frame (probe front) (line_behind (text_of f.before)) (line_behind front) f.kind k a (place_faulty frame k front p) in
    (ap text_of one.0 ∙ sym p.bytes, kinds f.kind (sym f.fault ∙ ap fault_of one.1))
  where
    kinds : (j : Kind) → Some j ≡ Some k → j ≡ k
    kinds j e = cc

-- whether a text is such a place
abbrev IsPlaceOrNot : Frame → List ℕ → Type 0
IsPlaceOrNot frame front = ((k : Kind) × DeepPlace frame k front) ⊎ ((k : Kind) → DeepPlace frame k front → ⊥)

place_decided : (frame : Frame) (front : List ℕ) → IsPlaceOrNot frame front
place_decided frame front = by (text_read frame (probe front))
  where
    other : (f : Faulty (Certificates frame) (probe front)) → (text_of f.before ≡ front) ⊎ (text_of f.before ≡ front → ⊥) → IsExcess f.kind ⊎ (IsExcess f.kind → ⊥) → IsPlaceOrNot frame front
    other f (inl here) (inl is) =
        let m = f.member in
        let rests : token_text f.token ++ f.rest ≡ 48 ∷ 10 ∷ [] =
        append_cancel_left front (token_text f.token ++ f.rest) (48 ∷ 10 ∷ [])
        (ap (λ (xs : List ℕ). xs ++ (token_text f.token ++ f.rest)) (sym here) ∙ sym (text_end f.before f.token f.rest) ∙ sym f.bytes) in
        let zero = is_zero f.kind f.token f.rest f.fault f.ends rests in
        inl (
          f.kind,
          record {
            excess = is;
            version = m.0;
            written = m.1;
            form = m.2;
            before = f.before;
            after = f.after;
            tokens = sym m.3 ∙ ap (λ (x : Token). f.before ++ x ∷ f.after) zero;
            clean = f.clean;
            bytes = sym here;
          },
        )
    other f (inr apart) is = inr (λ k p. apart (same_place frame front f k p).0)
    other f (inl here) (inr apart) = inr (λ k p. apart (subst IsExcess (sym (same_place frame front f k p).1) p.excess))

    by : Verdict (Certificates frame) (probe front) → IsPlaceOrNot frame front
    by (whole w) = inr (λ k p. let m = w.member in text_clean frame m.0 (meant m.0 m.1) (probe front) (line_behind front) k
        (record { written = m.1; form = m.2; clean = subst (λ (xs : List Token). AreClean xs) m.3 w.clean; bytes = w.bytes ∙ ap text_of m.3; means = refl }) (place_faulty frame k front p))
    by (faulty f) = other f (lists_decided (text_of f.before) front) (excess_decided f.kind)
    by (stuck s) = inr (λ k p. no_fault frame (probe front) s (line_behind front) k (place_faulty frame k front p))

digit_decided : (b : ℕ) → ((48 ≤ b) × (b ≤ 57)) ⊎ ((48 ≤ b) × (b ≤ 57) → ⊥)
digit_decided b = ⊎_elim
    (λ low. inr (λ d. omega (arith, low, d.0)))
    (λ high. ⊎_elim (λ above. inr (λ d. omega (arith, above, d.1))) (λ below. inl (high, below)) (cases_lt 57 b))
    (cases_lt b 48)

first_decided : (xs : List ℕ) → BeginsDigit xs ⊎ (BeginsDigit xs → ⊥)
first_decided [] = inr (λ h. h)
first_decided (b ∷ xs) = digit_decided b

number_decided : (xs : List ℕ) → BeginsNumber xs ⊎ (BeginsNumber xs → ⊥)
number_decided [] = inr (λ h. h)
number_decided (b ∷ xs) = ⊎_elim
    (λ digit. inl (inl digit))
    (λ none. ⊎_elim
    (λ minus. ⊎_elim (λ digit. inl (inr (minus, digit))) (λ no. inr (λ h. ⊎_elim (λ d. none d) (λ m. no m.1) h)) (first_decided xs))
    (λ other. inr (λ h. ⊎_elim (λ d. none d) (λ m. other m.0) h))
    (cases_eq b 45))
    (digit_decided b)

-- no such place in a text with a number behind it
abbrev HasNoPlace : Frame → List ℕ → List ℕ → Type 0
HasNoPlace frame front rest = (r s : List ℕ) → rest ≡ r ++ s → BeginsNumber s → (k : Kind) → DeepPlace frame k (front ++ r) → ⊥

place_number : (frame : Frame) (k : Kind) (front rest : List ℕ) → DeepPlace frame k front → BeginsNumber rest → HasDeepNumber frame (front ++ rest) (line_behind front) k
place_number frame k front rest p number = record {
  excess = p.excess;
  version = p.version;
  written = p.written;
  form = p.form;
  before = p.before;
  after = p.after;
  rest = rest;
  tokens = p.tokens;
  clean = p.clean;
  bytes = ap (λ (xs : List ℕ). xs ++ rest) p.bytes;
  number = number;
  line_is = ap line_behind p.bytes;
}

here_decided : (frame : Frame) (front rest : List ℕ) → ((k : Kind) × HasDeepNumber frame (front ++ rest) (line_behind front) k) ⊎ (BeginsNumber rest → (k : Kind) → DeepPlace frame k front → ⊥)
here_decided frame front rest = ⊎_elim
    (λ place. ⊎_elim (λ number. inl (place.0, place_number frame place.0 front rest place.1 number)) (λ none. inr (λ number _ _. none number)) (number_decided rest))
    (λ none. inr (λ _ k place. none k place))
    (place_decided frame front)

places_decided : (frame : Frame) (front rest : List ℕ) → ((line : ℕ) × (k : Kind) × HasDeepNumber frame (front ++ rest) line k) ⊎ HasNoPlace frame front rest
places_decided frame front [] = inr (λ r s is number k place. nothing r s is number)
  where
    nothing : (r s : List ℕ) → [] ≡ r ++ s → BeginsNumber s → ⊥
    nothing [] [] is number = number
    nothing [] (b ∷ s) is number = cc
    nothing (b ∷ r) s is number = cc
places_decided frame front (b ∷ rest) = ⊎_elim
    (λ found. inl (line_behind front, found.0, found.1))
    (λ none. ⊎_elim
    (λ found. let P : List ℕ → Type 0 = λ t. HasDeepNumber frame t found.0 found.1 in inl (found.0, found.1, subst P (append_assoc front (b ∷ []) rest) found.2))
    (λ later. inr (λ r s is number k place. split none later r s is number k place))
    (places_decided frame (front ++ b ∷ []) rest))
    (here_decided frame front (b ∷ rest))
  where
    split : (BeginsNumber (b ∷ rest) → (k : Kind) → DeepPlace frame k front → ⊥) → HasNoPlace frame (front ++ b ∷ []) rest → HasNoPlace frame front (b ∷ rest)
    split none later [] s is number k place =
        let N : List ℕ → Type 0 = BeginsNumber in
        let D : List ℕ → Type 0 = DeepPlace frame k in
        none (subst N (sym is) number) k (subst D (append-nil front) place)
    split none later (c ∷ r) s is number k place =
        let D : List ℕ → Type 0 = DeepPlace frame k in
        let first : b ≡ c = cc in
        let tails : rest ≡ r ++ s = cc in
        later r s tails number k (subst D (ap (λ (n : ℕ). front ++ n ∷ r) (sym first) ∙ sym (append_assoc front (b ∷ []) r)) place)

deep_decided : (frame : Frame) (text : List ℕ) → ((line : ℕ) × (k : Kind) × HasDeepNumber frame text line k) ⊎ HasNoDeepNumber frame text
deep_decided frame text = ⊎_elim
    (λ found. inl found)
    (λ none. inr (λ line k a. none (text_of a.before) a.rest a.bytes a.number k
    (record { excess = a.excess; version = a.version; written = a.written; form = a.form; before = a.before; after = a.after; tokens = a.tokens; clean = a.clean; bytes = refl })))
    (places_decided frame [] text)

by_verdict : (frame : Frame) (text : List ℕ) → Verdict (Certificates frame) text → HasAnswer frame text
by_verdict frame text (whole w) = whole_answer frame text w
by_verdict frame text (faulty f) = faulty_answer frame text f
by_verdict frame text (stuck s) = stuck_answer frame text s (deep_decided frame text)

pub each_text_has_answer : (frame : Frame) (text : List ℕ) → HasAnswer frame text
each_text_has_answer frame text = by_verdict frame text (text_read frame text)
