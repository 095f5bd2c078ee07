-- The numbers of nodes that are too deep and of cuts that are too many: a text has one of them, and then no other fault and no certificate.
use Rattle.std.proofs.Common.{◌≡◌, ℕ, List, [], ◌∷◌, ◌++◌, Some, pos, refl, sym, ap, ◌∙◌, subst, inl, inr, ⊎_elim, append_assoc, append-nil}
use Rattle.std.proofs.lemmas.List.{append_cancel_left}
use Rattle.std.proofs.lemmas.Grind.{flat_map-append}
use Rattle.cert_format.specs.Cert.{Cert, Frame}
use Rattle.cert_format.specs.Text.{Kind, Token, Words, Figure, LineEnd, Version, token_text, text_of, fault_of, tokens_of}
use Rattle.cert_format.specs.Fault.{IsExcess, EndsNumber, EndsToken, AreClean, IsText, HasFaultyToken, BeginsDigit, BeginsNumber, HasDeepNumber, HasNoDeepNumber, NoDeepNumberComes, line_behind}
use Rattle.cert_format.specs.Reached.{AreReadFrom}
use Rattle.cert_format.proofs.Numerals.{BeginsWithDigit, numeral-begins}
use Rattle.cert_format.proofs.Coherent.{AreApart, AreCoherent, tokens_coherent}
use Rattle.cert_format.proofs.Spaced.{AreSpaced, tokens_spaced}
use Rattle.cert_format.proofs.Meaning.{clean_back}
use Rattle.cert_format.proofs.Meet.{ends_before, no_fault_twice}

-- the number of a node that is too deep, or of a cut that is one too many
abbrev pub deep : Kind → Token
deep k = Figure (pos 0) (Some k)

-- a text with a number in place of one of these begins with it, whatever follows
digit_more : (xs more : List ℕ) → BeginsDigit xs → BeginsDigit (xs ++ more)
digit_more [] more h = absurd h
digit_more (b ∷ xs) more h = h

pub number_more : (xs more : List ℕ) → BeginsNumber xs → BeginsNumber (xs ++ more)
number_more [] more h = absurd h
number_more (b ∷ xs) more (inl h) = inl h
number_more (b ∷ xs) more (inr h) = inr (h.0, digit_more xs more h.1)

-- ---- where tokens end

no_digit_first : (xs : List ℕ) → BeginsWithDigit xs → EndsNumber xs → ⊥
no_digit_first [] digit ends = digit
no_digit_first (b ∷ xs) digit ends = ends digit.0 digit.1

ends_deep : (y : Token) (front u q : List ℕ) → BeginsWithDigit u → EndsToken y (front ++ u) → EndsToken y (front ++ q)
ends_deep (Words bytes) front u q digit ends = tt
ends_deep (LineEnd f) front u q digit ends = tt
ends_deep (Figure z f) [] u q digit ends = absurd (no_digit_first u digit ends)
ends_deep (Figure z f) (b ∷ front) u q digit ends = ends

-- a token before a number that is too deep ends, whatever stands in place of that number
spaced_deep : (k : Kind) (y : Token) (c d : List Token) (q : List ℕ) → EndsToken y (text_of (c ++ deep k ∷ d)) → EndsToken y (text_of c ++ q)
spaced_deep k y c d q ends =
    let P : List ℕ → Type 0 = λ xs. EndsToken y xs in
    ends_deep y (text_of c) (token_text (deep k) ++ text_of d) q (numeral-begins 0 (text_of d)) (subst P (flat_map-append token_text c (deep k ∷ d)) ends)

pub spaced_first : (k : Kind) (y : Token) (c d : List Token) (q : List ℕ) → AreSpaced (y ∷ (c ++ deep k ∷ d)) → EndsToken y (text_of c ++ q)
unfolding AreSpaced
spaced_first k y c d q spaced = spaced_deep k y c d q spaced.0

pub front_read : (k : Kind) (c d : List Token) (q : List ℕ) → AreSpaced (c ++ deep k ∷ d) → AreReadFrom c q
unfolding AreSpaced
front_read k [] d q spaced = tt
front_read k (y ∷ c) d q spaced = (spaced_deep k y c d q spaced.0, front_read k c d q spaced.1)

faulty_read : (c : List Token) (t : Token) (d : List Token) (q : List ℕ) (k : Kind) → fault_of t ≡ Some k → AreSpaced (c ++ t ∷ d) → AreReadFrom c (token_text t ++ q)
unfolding AreSpaced
faulty_read [] t d q k fault spaced = tt
faulty_read (y ∷ c) t d q k fault spaced =
    let P : List ℕ → Type 0 = λ xs. EndsToken y xs in
    (subst P (behind c t q) (ends_before y c t d q k fault spaced.0), faulty_read c t d q k fault spaced.1)
  where
    behind : (c : List Token) (t : Token) (q : List ℕ) → text_of (c ++ t ∷ []) ++ q ≡ text_of c ++ (token_text t ++ q)
    behind c t q =
        ap (λ (xs : List ℕ). xs ++ q) (flat_map-append token_text c (t ∷ []) ∙ ap (λ (xs : List ℕ). text_of c ++ xs) (append-nil (token_text t)))
        ∙ append_assoc (text_of c) (token_text t) q

whole_read : (ts : List Token) → AreSpaced ts → AreReadFrom ts []
unfolding AreSpaced
whole_read [] spaced = tt
whole_read (x ∷ ts) spaced =
    let P : List ℕ → Type 0 = λ xs. EndsToken x xs in
    (subst P (sym (append-nil (text_of ts))) spaced.0, whole_read ts spaced.1)

-- ---- faultless tokens don't go on behind such a number

pub deep_behind : (E : Type 0) (k : Kind) → IsExcess k → (b after c d : List Token) (w q : List ℕ) → AreCoherent E (b ++ after) (c ++ deep k ∷ d) → AreSpaced (c ++ deep k ∷ d)
    → AreClean b → AreReadFrom b w → text_of b ++ w ≡ text_of c ++ q
    → (more : List Token) × (c ≡ b ++ more) × AreCoherent E after (more ++ deep k ∷ d) × AreSpaced (more ++ deep k ∷ d) × (w ≡ text_of more ++ q)
unfolding AreCoherent AreApart AreSpaced
deep_behind E k e [] after c d w q coherent spaced clean read same = (c, refl, coherent, spaced, same)
deep_behind E k e (x ∷ b) after [] d w q coherent spaced clean read same =
    absurd (⊎_elim
    (λ far. no_fault_twice x x k refl (far.2 k e refl) clean.0)
    (λ near. no_fault_twice (deep k) x k (sym near.0) refl clean.0)
    coherent)
deep_behind E k e (x ∷ b) after (y ∷ c) d w q coherent spaced clean read same =
    let regrouped : token_text x ++ (text_of b ++ w) ≡ token_text y ++ (text_of c ++ q) =
    sym (append_assoc (token_text x) (text_of b) w) ∙ same ∙ append_assoc (token_text y) (text_of c) q in
    ⊎_elim
    (λ far. absurd (far.0 (text_of b ++ w) (text_of c ++ q) read.0 (spaced_deep k y c d q spaced.0) regrouped))
    (λ near.
    let rests = append_cancel_left (token_text x) (text_of b ++ w) (text_of c ++ q) (regrouped ∙ ap (λ (t : Token). token_text t ++ (text_of c ++ q)) (sym near.0)) in
    let r = deep_behind E k e b after c d w q near.1 spaced.1 clean.1 read.1 rests in
    (r.0, ap (λ (t : Token). t ∷ c) (sym near.0) ∙ ap (λ (ts : List Token). x ∷ ts) r.1, r.2, r.3, r.4))
    coherent

-- ---- the laws

-- two certificates' tokens, where a number of one is such a number
coherent_at : (frame : Frame) (text : List ℕ) (line : ℕ) (k : Kind) (a : HasDeepNumber frame text line k) (v : Version) (c : Cert) → AreCoherent (Unit {0}) (tokens_of frame v c) (a.before ++ deep k ∷ a.after)
coherent_at frame text line k a v c =
    let P : List Token → Type 0 = λ ts. AreCoherent (Unit {0}) (tokens_of frame v c) ts in
    subst P a.tokens (tokens_coherent (Unit {0}) frame v a.version c a.written (λ _ _. tt))

spaced_at : (frame : Frame) (text : List ℕ) (line : ℕ) (k : Kind) (a : HasDeepNumber frame text line k) → AreSpaced (a.before ++ deep k ∷ a.after)
spaced_at frame text line k a = subst (λ (ts : List Token). AreSpaced ts) a.tokens (tokens_spaced frame a.version a.written)

-- no faultless token stands where such a number does
nothing_between : (E : Type 0) (j : Kind) → IsExcess j → (x : Token) (after more : List Token) (y : Token) (d : List Token) → fault_of x ≡ Some j → AreCoherent E (x ∷ after) (more ++ y ∷ d) → AreClean more → more ≡ []
unfolding AreCoherent AreApart
nothing_between E j e x after [] y d is coherent clean = refl
nothing_between E j e x after (z ∷ more) y d is coherent clean =
    absurd (⊎_elim
    (λ far. no_fault_twice z z j refl (far.1 j e is) clean.0)
    (λ near. no_fault_twice x z j near.0 is clean.0)
    coherent)

-- the kinds of two such numbers at one place are one
one_kind : (E : Type 0) (j k : Kind) → IsExcess k → (after more d : List Token) → more ≡ [] → AreCoherent E (deep k ∷ after) (more ++ deep j ∷ d) → j ≡ k
unfolding AreCoherent AreApart
one_kind E j k e after more d none coherent =
    let P : List Token → Type 0 = λ ts. AreCoherent E (deep k ∷ after) (ts ++ deep j ∷ d) in
    by (subst P none coherent)
  where
    by : AreCoherent E (deep k ∷ after) (deep j ∷ d) → j ≡ k
    by both = ⊎_elim (λ far. let same : Some j ≡ Some k = far.1 k e refl in cc) (λ near. let same : Some k ≡ Some j = ap fault_of near.0 in cc) both

pub deep_one : (frame : Frame) (text : List ℕ) (m n : ℕ) (j k : Kind) → HasDeepNumber frame text m j → HasDeepNumber frame text n k → (m ≡ n) × (j ≡ k)
deep_one frame text m n j k a b =
    let P : List Token → Type 0 = λ ts. AreCoherent (Unit {0}) ts (a.before ++ deep j ∷ a.after) in
    let r = deep_behind (Unit {0}) j a.excess b.before (deep k ∷ b.after) a.before a.after b.rest a.rest
    (subst P b.tokens (coherent_at frame text m j a b.version b.written)) (spaced_at frame text m j a) b.clean
    (front_read k b.before b.after b.rest (spaced_at frame text n k b)) (sym b.bytes ∙ a.bytes) in
    let C : List Token → Type 0 = AreClean in
    let none = nothing_between (Unit {0}) k b.excess (deep k) b.after r.0 (deep j) a.after refl r.2 (clean_back b.before r.0 (subst C r.1 a.clean)) in
    let same : a.before ≡ b.before = r.1 ∙ ap (λ (ts : List Token). b.before ++ ts) none ∙ append-nil b.before in
    (a.line_is ∙ ap (λ (ts : List Token). line_behind (text_of ts)) same ∙ sym b.line_is, one_kind (Unit {0}) j k b.excess b.after r.0 a.after none r.2)

-- a faulty token and such a number are at one place
pub deep_faulty : (frame : Frame) (text : List ℕ) (m n : ℕ) (j k : Kind) → HasDeepNumber frame text m j → HasFaultyToken frame text n k → (n ≡ m) × (k ≡ j)
unfolding AreCoherent AreApart AreSpaced
deep_faulty frame text m n j k a b =
    let P : List Token → Type 0 = λ ts. AreCoherent (Unit {0}) ts (a.before ++ deep j ∷ a.after) in
    let S : List Token → Type 0 = AreSpaced in
    let C : List Token → Type 0 = AreClean in
    let cut : text_of (b.before ++ b.token ∷ []) ++ b.rest ≡ text_of b.before ++ (token_text b.token ++ b.rest) =
    ap (λ (xs : List ℕ). xs ++ b.rest) (flat_map-append token_text b.before (b.token ∷ []) ∙ ap (λ (xs : List ℕ). text_of b.before ++ xs) (append-nil (token_text b.token)))
    ∙ append_assoc (text_of b.before) (token_text b.token) b.rest in
    let r = deep_behind (Unit {0}) j a.excess b.before (b.token ∷ b.after) a.before a.after (token_text b.token ++ b.rest) a.rest
    (subst P b.tokens (coherent_at frame text m j a b.version b.written)) (spaced_at frame text m j a) b.clean
    (faulty_read b.before b.token b.after b.rest k b.fault (subst S b.tokens (tokens_spaced frame b.version b.written))) (sym cut ∙ sym b.bytes ∙ a.bytes) in
    by r.0 r.2 r.3 r.4 (clean_back b.before r.0 (subst C r.1 a.clean)) r.1
  where
    kinds : (x : Token) → fault_of x ≡ Some k → fault_of x ≡ Some j → k ≡ j
    kinds x f g = let same : Some k ≡ Some j = sym f ∙ g in cc

    by : (more : List Token) → AreCoherent (Unit {0}) (b.token ∷ b.after) (more ++ deep j ∷ a.after) → AreSpaced (more ++ deep j ∷ a.after)
        → token_text b.token ++ b.rest ≡ text_of more ++ a.rest → AreClean more → a.before ≡ b.before ++ more → (n ≡ m) × (k ≡ j)
    by [] coherent spaced same clean front =
        let one : a.before ≡ b.before = front ∙ append-nil b.before in (
          b.line_is ∙ ap (λ (ts : List Token). line_behind (text_of ts)) (sym one) ∙ sym a.line_is,
          ⊎_elim (λ far. kinds b.token b.fault (far.2 j a.excess refl)) (λ near. kinds b.token b.fault (ap fault_of near.0)) coherent,
        )
    by (y ∷ more) coherent spaced same clean front =
        absurd (⊎_elim
        (λ far. far.0 b.rest (text_of more ++ a.rest) b.ends (spaced_deep j y more a.after a.rest spaced.0) (same ∙ append_assoc (token_text y) (text_of more) a.rest))
        (λ near. no_fault_twice b.token y k near.0 b.fault clean.0)
        coherent)

-- a certificate's text has none
pub text_shallow : (frame : Frame) (v : Version) (c : Cert) (text : List ℕ) (line : ℕ) (k : Kind) → IsText frame v c text → HasDeepNumber frame text line k → ⊥
unfolding AreCoherent
text_shallow frame v c text line k a b =
    let ts : List Token = tokens_of frame v a.written in
    let P : List Token → Type 0 = λ us. AreCoherent (Unit {0}) us (b.before ++ deep k ∷ b.after) in
    let r = deep_behind (Unit {0}) k b.excess ts [] b.before b.after [] b.rest
    (subst P (sym (append-nil ts)) (coherent_at frame text line k b v a.written)) (spaced_at frame text line k b) a.clean
    (whole_read ts (tokens_spaced frame v a.written)) (append-nil (text_of ts) ∙ sym a.bytes ∙ b.bytes) in
    over r.0 r.2
  where
    over : (more : List Token) → AreCoherent (Unit {0}) [] (more ++ deep k ∷ b.after) → ⊥
    over [] coherent = coherent
    over (y ∷ more) coherent = coherent

-- such a number stays, whatever follows
pub deep_stays : (frame : Frame) (text more : List ℕ) (line : ℕ) (k : Kind) → HasDeepNumber frame text line k → HasDeepNumber frame (text ++ more) line k
deep_stays frame text more line k a = record {
  excess = a.excess;
  version = a.version;
  written = a.written;
  form = a.form;
  before = a.before;
  after = a.after;
  rest = a.rest ++ more;
  tokens = a.tokens;
  clean = a.clean;
  bytes = ap (λ (xs : List ℕ). xs ++ more) a.bytes ∙ append_assoc (text_of a.before) a.rest more;
  number = number_more a.rest more a.number;
  line_is = a.line_is;
}

pub none_comes_now : (frame : Frame) (text : List ℕ) → NoDeepNumberComes frame text → HasNoDeepNumber frame text
none_comes_now frame text none line k a = none [] line k (deep_stays frame text [] line k a)

pub none_comes_more : (frame : Frame) (text more : List ℕ) → NoDeepNumberComes frame text → NoDeepNumberComes frame (text ++ more)
none_comes_more frame text more none still =
    let P : List ℕ → Type 0 = HasNoDeepNumber frame in
    subst P (sym (append_assoc text more still)) (none (more ++ still))
