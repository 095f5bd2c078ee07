-- The laws of texts.
use Rattle.std.proofs.Common.{◌≡◌, ◌⊎◌, ◌↔◌, ℕ, ◌<◌, arith, List, [], ◌∷◌, ◌++◌, length, Some, refl, sym, ap, ◌∙◌, subst, inl, inr, ⊎_elim, append_assoc, append-nil}
use Rattle.std.proofs.lemmas.List.{append_cancel_left}
use Rattle.cert_format.specs.Cert.{Cut, Cert, Frame}
use Rattle.cert_format.specs.Text.{Version, One, Two, Three, HasForm, Kind, Token, Words, Figure, LineEnd, text_of, fault_of, tokens_of, meant}
use Rattle.cert_format.specs.Fault.{IsText, IsCertText, IsFirstCertFault, Begins, HasFaultyToken, HasDeepNumber, LeavesGrammar, HasNoFaultyToken, IsFollowed, EndIsSeen, EndsToken, Leaves, line_behind}
use Rattle.cert_format.specs.Laws.{TextsHaveOneCertificate, TextsHaveOneFault, CertificatesHaveNoFault, SeenFaultsStay, SeenFaultsAreFirst, CertificatesHaveOneText, CertificatesWithCutsHaveThird}
use Rattle.cert_format.proofs.Meaning.{meant_one}
use Rattle.cert_format.proofs.Coherent.{AreCoherent, tokens_coherent}
use Rattle.cert_format.proofs.Spaced.{AreSpaced, tokens_spaced}
use Rattle.cert_format.proofs.Deep.{deep_one, deep_faulty, text_shallow, deep_stays, none_comes_now, none_comes_more}
use Rattle.cert_format.proofs.Meet.{whole_meet, faulty_meet, clean_meet, text_split}

-- what is written in one text is one
written_one : (frame : Frame) (v w : Version) (c d : Cert) → text_of (tokens_of frame v c) ≡ text_of (tokens_of frame w d) → (v ≡ w) × (c ≡ d)
written_one frame v w c d same =
    whole_meet ((v ≡ w) × (c ≡ d)) (tokens_of frame v c) (tokens_of frame w d) (tokens_coherent ((v ≡ w) × (c ≡ d)) frame v w c d (λ e f. (e, f))) (tokens_spaced frame v c) (tokens_spaced frame w d) same

pub texts_have_one_certificate : TextsHaveOneCertificate
texts_have_one_certificate frame v w c d text a b =
    let one = written_one frame v w a.written b.written (sym a.bytes ∙ b.bytes) in
    let meaning : meant v a.written ≡ meant w b.written = ap (λ (x : Version). meant x a.written) one.0 ∙ ap (λ (x : Cert). meant w x) one.1 in
    (one.0, sym a.means ∙ meaning ∙ b.means)

-- two faulty tokens of one text are one
pub faulty_same : (frame : Frame) (text : List ℕ) (m n : ℕ) (k l : Kind) (a : HasFaultyToken frame text m k) (b : HasFaultyToken frame text n l) → (a.before ≡ b.before) × (a.token ≡ b.token)
faulty_same frame text m n k l a b =
    let P : List Token → List Token → Type 0 = λ u v. AreCoherent (Unit {0}) u v in
    let coherent : AreCoherent (Unit {0}) (a.before ++ a.token ∷ a.after) (b.before ++ b.token ∷ b.after) =
    subst (λ (v : List Token). P (a.before ++ a.token ∷ a.after) v) b.tokens (subst (λ (u : List Token). P u (tokens_of frame b.version b.written)) a.tokens (tokens_coherent (Unit {0}) frame a.version b.version a.written b.written (λ _ _. tt))) in
    faulty_meet (Unit {0}) a.before b.before a.token b.token a.after b.after a.rest b.rest k l coherent
    (subst (λ (u : List Token). AreSpaced u) a.tokens (tokens_spaced frame a.version a.written)) (subst (λ (u : List Token). AreSpaced u) b.tokens (tokens_spaced frame b.version b.written))
    a.clean b.clean a.fault b.fault a.ends b.ends (sym a.bytes ∙ b.bytes)

faulty_one : (frame : Frame) (text : List ℕ) (m n : ℕ) (k l : Kind) → HasFaultyToken frame text m k → HasFaultyToken frame text n l → (m ≡ n) × (k ≡ l)
faulty_one frame text m n k l a b =
    let one = faulty_same frame text m n k l a b in
    let kinds : Some k ≡ Some l = sym a.fault ∙ ap fault_of one.1 ∙ b.fault in
    let lines : m ≡ n = a.line_is ∙ ap (λ (u : List Token). line_behind (text_of u)) one.0 ∙ sym b.line_is in
    let kind : k ≡ l = cc in
    (lines, kind)

-- a certificate's text has no faulty token
pub text_clean : (frame : Frame) (v : Version) (c : Cert) (text : List ℕ) (line : ℕ) (kind : Kind) → IsText frame v c text → HasFaultyToken frame text line kind → ⊥
text_clean frame v c text line kind a b =
    let coherent : AreCoherent (Unit {0}) (tokens_of frame v a.written) (b.before ++ b.token ∷ b.after) =
    subst (λ (u : List Token). AreCoherent (Unit {0}) (tokens_of frame v a.written) u) b.tokens (tokens_coherent (Unit {0}) frame v b.version a.written b.written (λ _ _. tt)) in
    clean_meet (Unit {0}) (tokens_of frame v a.written) b.before b.token b.after b.rest kind coherent (tokens_spaced frame v a.written)
    (subst (λ (u : List Token). AreSpaced u) b.tokens (tokens_spaced frame b.version b.written)) a.clean b.fault b.ends (sym a.bytes ∙ b.bytes)

-- a shorter beginning of a text begins a certificate's text, too
begins_shorter : (frame : Frame) (text more : List ℕ) → Begins frame (text ++ more) → Begins frame text
begins_shorter frame text more a = record { version = a.version; written = a.written; form = a.form; rest = more ++ a.rest; bytes = a.bytes ∙ append_assoc text more a.rest }

-- of two beginnings of one text, one begins the other
beginnings : (p q r s : List ℕ) → p ++ r ≡ q ++ s → (p ≡ q) ⊎ (((byte : ℕ) × (more : List ℕ) × (tail : List ℕ) × (r ≡ byte ∷ tail) × (q ≡ p ++ byte ∷ more)) ⊎ ((byte : ℕ) × (more : List ℕ) × (tail : List ℕ) × (s ≡ byte ∷ tail) × (p ≡ q ++ byte ∷ more)))
beginnings [] [] r s same = inl refl
beginnings [] (y ∷ q) r s same = inr (inl (y, q, q ++ s, same, refl))
beginnings (x ∷ p) [] r s same = inr (inr (x, p, p ++ r, sym same, refl))
beginnings (x ∷ p) (y ∷ q) r s same =
    let head : x ≡ y = cc in
    let tails : p ++ r ≡ q ++ s = cc in
    ⊎_elim
    (λ one. inl (ap (λ (n : ℕ). n ∷ p) head ∙ ap (λ (ns : List ℕ). y ∷ ns) one))
    (λ two. inr (⊎_elim
    (λ l. inl (l.0, l.1, l.2, l.3, sym (ap (λ (n : ℕ). n ∷ q) head) ∙ ap (λ (ns : List ℕ). x ∷ ns) l.4))
    (λ l. inr (l.0, l.1, l.2, l.3, ap (λ (n : ℕ). n ∷ p) head ∙ ap (λ (ns : List ℕ). y ∷ ns) l.4))
    two))
    (beginnings p q r s tails)

-- a text doesn't leave the grammar at a place and go on in it
leaves_once : (frame : Frame) (p r q : List ℕ) (byte : ℕ) (more tail : List ℕ) → Leaves frame p r → Begins frame q → r ≡ byte ∷ tail → q ≡ p ++ byte ∷ more → ⊥
leaves_once frame p r q byte more tail leaves begins is_r is_q =
    let there : Leaves frame p (byte ∷ tail) = subst (λ (xs : List ℕ). Leaves frame p xs) is_r leaves in
    let longer : q ≡ (p ++ byte ∷ []) ++ more = is_q ∙ sym (append_assoc p (byte ∷ []) more) in
    there (begins_shorter frame (p ++ byte ∷ []) more (subst (λ (xs : List ℕ). Begins frame xs) longer begins))

leaving_one : (frame : Frame) (text : List ℕ) (m n : ℕ) → LeavesGrammar frame text m → LeavesGrammar frame text n → m ≡ n
leaving_one frame text m n a b =
    ⊎_elim
    (λ one. a.line_is ∙ ap line_behind one ∙ sym b.line_is)
    (λ two. absurd (⊎_elim
    (λ l. leaves_once frame a.before a.rest b.before l.0 l.1 l.2 a.leaves b.begins l.3 l.4)
    (λ l. leaves_once frame b.before b.rest a.before l.0 l.1 l.2 b.leaves a.begins l.3 l.4)
    two))
    (beginnings a.before b.before a.rest b.rest (sym a.bytes ∙ b.bytes))

pub texts_have_one_fault : TextsHaveOneFault
texts_have_one_fault frame text m n k l a b =
    ⊎_elim
    (λ x. ⊎_elim (λ y. faulty_one frame text m n k l x y) (λ y. ⊎_elim (λ z. faulty_deep x z) (λ z. absurd (z.1 m k x)) y) b)
    (λ x. ⊎_elim
    (λ w. ⊎_elim
    (λ y. deep_faulty_one w y)
    (λ y. ⊎_elim (λ z. deep_one frame text m n k l w z) (λ z. absurd (z.2 m k w)) y) b)
    (λ w. ⊎_elim
    (λ y. absurd (w.1 n l y))
    (λ y. ⊎_elim (λ z. absurd (w.2 n l z)) (λ z. (leaving_one frame text m n w.3 z.3, w.0 ∙ sym z.0)) y) b)
    x)
    a
  where
    faulty_deep : HasFaultyToken frame text m k → HasDeepNumber frame text n l → (m ≡ n) × (k ≡ l)
    faulty_deep x y = deep_faulty frame text n m l k y x

    deep_faulty_one : HasDeepNumber frame text m k → HasFaultyToken frame text n l → (m ≡ n) × (k ≡ l)
    deep_faulty_one x y = let one = deep_faulty frame text m n k l x y in (sym one.0, sym one.1)

-- a certificate's text doesn't leave the grammar
text_whole : (frame : Frame) (v : Version) (c : Cert) (text : List ℕ) (line : ℕ) → IsText frame v c text → LeavesGrammar frame text line → ⊥
text_whole frame v c text line a b = whole_stays b.before b.rest b.leaves b.bytes where
  whole_stays : (p r : List ℕ) → Leaves frame p r → text ≡ p ++ r → ⊥
  whole_stays p [] leaves splits = leaves (record { version = v; written = a.written; form = a.form; bytes = sym a.bytes ∙ splits ∙ append-nil p })
  whole_stays p (byte ∷ r) leaves splits = leaves (record { version = v; written = a.written; form = a.form; rest = r; bytes = sym a.bytes ∙ splits ∙ sym (append_assoc p (byte ∷ []) r) })

pub certificates_have_no_fault : CertificatesHaveNoFault
certificates_have_no_fault frame v c text line kind a b =
    ⊎_elim
    (λ faulty. text_clean frame v c text line kind a faulty)
    (λ more. ⊎_elim (λ one. text_shallow frame v c text line kind a one) (λ leaves. text_whole frame v c text line a leaves.3) more)
    b

pub seen_faults_are_first : SeenFaultsAreFirst
seen_faults_are_first frame text line kind seen =
    ⊎_elim
    (λ faulty. inl faulty.0)
    (λ more. inr (⊎_elim (λ one. inl one) (λ leaves. inr (leaves.0, leaves.1, none_comes_now frame text leaves.2, leaves.3.0)) more))
    seen

-- a token that ends and whose end is seen ends so, whatever follows
ends_seen : (token : Token) (rest more : List ℕ) → EndsToken token rest → EndIsSeen token rest → EndsToken token (rest ++ more)
ends_seen (Words bytes) rest more ends seen = tt
ends_seen (Figure z f) [] more ends seen = absurd seen
ends_seen (Figure z f) (byte ∷ rest) more ends seen = ends
ends_seen (LineEnd f) rest more ends seen = tt

seen_more : (token : Token) (rest more : List ℕ) → EndIsSeen token rest → EndIsSeen token (rest ++ more)
seen_more (Words bytes) rest more seen = tt
seen_more (Figure z f) [] more seen = absurd seen
seen_more (Figure z f) (byte ∷ rest) more seen = tt
seen_more (LineEnd f) rest more seen = tt

-- a place where a text leaves the grammar, with more behind it
leaves_more : (frame : Frame) (text rest more : List ℕ) → Leaves frame text rest → IsFollowed rest → Leaves frame text (rest ++ more)
leaves_more frame text [] more leaves followed = absurd followed
leaves_more frame text (byte ∷ rest) more leaves followed = leaves

followed_more : (rest more : List ℕ) → IsFollowed rest → IsFollowed (rest ++ more)
followed_more [] more followed = absurd followed
followed_more (byte ∷ rest) more followed = tt

-- a token that ends where bytes stand still ends where they are the front of more
ends_less : (token : Token) (rest more : List ℕ) → IsFollowed rest → EndsToken token (rest ++ more) → EndsToken token rest
ends_less (Words bytes) rest more followed ends = tt
ends_less (Figure z f) [] more followed ends = absurd followed
ends_less (Figure z f) (byte ∷ rest) more followed ends = ends
ends_less (LineEnd f) rest more followed ends = tt

-- only the first byte behind a token tells whether it ends
ends_first : (token : Token) (byte : ℕ) (r s : List ℕ) → EndsToken token (byte ∷ r) → EndsToken token (byte ∷ s)
ends_first (Words bytes) byte r s ends = tt
ends_first (Figure z f) byte r s ends = ends
ends_first (LineEnd f) byte r s ends = tt

-- where a text leaves the grammar at a byte, no faulty token comes with more bytes
no_token_more : (frame : Frame) (text more : List ℕ) (line : ℕ) → HasNoFaultyToken frame text → (leaving : LeavesGrammar frame text line) → IsFollowed leaving.rest → HasNoFaultyToken frame (text ++ more)
no_token_more frame text more line none leaving followed = λ m k a.
    let token_end : List ℕ = text_of (a.before ++ a.token ∷ []) in
    let whole : leaving.before ++ (leaving.rest ++ more) ≡ token_end ++ a.rest = sym (append_assoc leaving.before leaving.rest more) ∙ sym (ap (λ (xs : List ℕ). xs ++ more) leaving.bytes) ∙ a.bytes in
    let begun : Begins frame token_end = record { version = a.version; written = a.written; form = a.form; rest = text_of a.after; bytes = ap text_of a.tokens ∙ text_split a.before a.token a.after } in
    let found : (rest : List ℕ) → text ≡ token_end ++ rest → EndsToken a.token rest → ⊥ = λ rest bytes ends. none m k (record {
      version = a.version;
      written = a.written;
      form = a.form;
      before = a.before;
      token = a.token;
      after = a.after;
      rest = rest;
      tokens = a.tokens;
      clean = a.clean;
      fault = a.fault;
      bytes = bytes;
      ends = ends;
      line_is = a.line_is;
    }) in
    ⊎_elim
    (λ one.
    let P : List ℕ → Type 0 = λ xs. leaving.before ++ (leaving.rest ++ more) ≡ xs ++ a.rest in
    let rests : leaving.rest ++ more ≡ a.rest = append_cancel_left leaving.before (leaving.rest ++ more) a.rest (subst P (sym one) whole) in
    let Q : List ℕ → Type 0 = λ xs. EndsToken a.token xs in
    found leaving.rest (leaving.bytes ∙ ap (λ (xs : List ℕ). xs ++ leaving.rest) one) (ends_less a.token leaving.rest more followed (subst Q (sym rests) a.ends)))
    (λ two. ⊎_elim
    (λ l. leaves_once frame leaving.before (leaving.rest ++ more) token_end l.0 l.1 l.2 (leaves_more frame leaving.before leaving.rest more leaving.leaves followed) begun l.3 l.4)
    (λ l. found ((l.0 ∷ l.1) ++ leaving.rest) (leaving.bytes ∙ ap (λ (xs : List ℕ). xs ++ leaving.rest) l.4 ∙ append_assoc token_end (l.0 ∷ l.1) leaving.rest)
    (ends_first a.token l.0 l.2 (l.1 ++ leaving.rest) (let Q : List ℕ → Type 0 = λ xs. EndsToken a.token xs in subst Q l.3 a.ends)))
    two)
    (beginnings leaving.before token_end (leaving.rest ++ more) a.rest whole)

pub seen_faults_stay : SeenFaultsStay
seen_faults_stay frame text more line kind seen =
    ⊎_elim
    (λ faulty. let a = faulty.0 in inl (
      record {
        version = a.version;
        written = a.written;
        form = a.form;
        before = a.before;
        token = a.token;
        after = a.after;
        rest = a.rest ++ more;
        tokens = a.tokens;
        clean = a.clean;
        fault = a.fault;
        line_is = a.line_is;
        bytes = ap (λ (xs : List ℕ). xs ++ more) a.bytes ∙ append_assoc (text_of (a.before ++ a.token ∷ [])) a.rest more;
        ends = ends_seen a.token a.rest more a.ends faulty.1;
      },
      seen_more a.token a.rest more faulty.1,
    ))
    (λ other. inr (⊎_elim (λ one. inl (deep_stays frame text more line kind one)) (λ leaves. let b = leaves.3.0 in inr (
      leaves.0,
      no_token_more frame text more line leaves.1 b leaves.3.1,
      none_comes_more frame text more leaves.2,
      (
        record {
          before = b.before;
          rest = b.rest ++ more;
          begins = b.begins;
          line_is = b.line_is;
          bytes = ap (λ (xs : List ℕ). xs ++ more) b.bytes ∙ append_assoc b.before b.rest more;
          leaves = leaves_more frame b.before b.rest more b.leaves leaves.3.1;
        },
        followed_more b.rest more leaves.3.1,
      ),
    )) other))
    seen

pub certificates_have_one_text : CertificatesHaveOneText
certificates_have_one_text frame v c s t a b =
    let one = meant_one frame v a.written b.written a.clean b.clean (a.means ∙ sym b.means) in
    a.bytes ∙ ap (λ (x : Cert). text_of (tokens_of frame v x)) one ∙ sym b.bytes

-- a text spells one certificate
pub certificates_are_one : (frame : Frame) (c d : Cert) (text : List ℕ) → IsCertText frame c text → IsCertText frame d text → c ≡ d
certificates_are_one frame c d text a b = (texts_have_one_certificate frame a.0 b.0 c d text a.1 b.1).1

-- a text that spells a certificate has no fault
pub certificates_are_faultless : (frame : Frame) (c : Cert) (text : List ℕ) (line : ℕ) (kind : Kind) → IsCertText frame c text → IsFirstCertFault frame text line kind → ⊥
certificates_are_faultless frame c text line kind a fault = certificates_have_no_fault frame a.0 c text line kind a.1 fault

-- a text of a certificate with cuts is one of version 3
pub certificates_with_cuts_have_third : CertificatesWithCutsHaveThird
certificates_with_cuts_have_third frame v c text a =
    let P : List Cut → Type 0 = λ cuts. (v ≡ Three) ↔ (0 < length cuts) in
    subst P (ap (λ (x : Cert). x.cuts) a.means) (by v a.written a.form)
  where
    by : (v : Version) (c : Cert) → HasForm v c → (v ≡ Three) ↔ (0 < length c.cuts)
    by One c form = ((λ e. absurd (cc)), (λ some. absurd (let none : 0 < length {A = Cut} [] = subst (λ (cuts : List Cut). 0 < length cuts) form some in omega (arith, none))))
    by Two c form = ((λ e. absurd (cc)), (λ some. absurd (let none : 0 < length {A = Cut} [] = subst (λ (cuts : List Cut). 0 < length cuts) form some in omega (arith, none))))
    by Three c form = ((λ e. form), (λ some. refl))
