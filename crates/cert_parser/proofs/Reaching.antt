-- A text that is reached goes on with a token, is at fault at one, or leaves the grammar.
use Rattle.std.proofs.Common.{◌≡◌, ℕ, Bool, true, false, List, [], ◌∷◌, ◌++◌, Option, Some, None, ℤ, pos, refl, sym, ap, ◌∙◌, subst, inl, inr, append_assoc, append-nil}
use Rattle.std.proofs.lemmas.Grind.{flat_map-append}
use Rattle.cert_format.specs.Cert.{Cert, Frame}
use Rattle.cert_format.specs.Text.{Kind, Token, Words, Figure, LineEnd, meant, signed_numeral, token_text, text_of, fault_of, tokens_of}
use Rattle.cert_format.specs.Fault.{IsExcess, AreClean, EndsNumber, EndsToken, EndIsSeen, HasFaultyToken, HasNoFaultyToken, BeginsNumber, HasDeepNumber, HasNoDeepNumber, LeavesGrammar, IsFollowed, IsFirstCertFault, IsSeenFault, line_behind}
use Rattle.cert_format.specs.declared.fault.CertKind.TheVariants.{Syntax}
use Rattle.cert_format.specs.Words.{word_text, word_token}
use Rattle.cert_format.specs.Stages.{Stage, words, after, line_fault, sort, IsOfSort, is_deep_stage, deep_kind, number_fault, behind_number, IsOf, Follows}
use Rattle.cert_format.specs.Reached.{AreReadFrom, MayStand, Reached, Comes}
use Rattle.cert_format.specs.declared.words.Word.{Word}
use Rattle.cert_format.proofs.Figures.{GoesOn}
use Rattle.cert_format.proofs.Verdicts.{IsBarred, Stuck}
use Rattle.cert_format.proofs.Claims.{Certificates}
use Rattle.cert_format.specs.declared.spots.Sort.{Sort}
use Rattle.cert_format.proofs.Coherent.{AreCoherent, tokens_coherent}
use Rattle.cert_format.proofs.Spaced.{AreSpaced, tokens_spaced}
use Rattle.cert_format.proofs.Deep.{deep, deep_behind, spaced_first}
use Rattle.cert_format.proofs.DeepStages.{deep_number, deep_excess}
use Rattle.cert_format.proofs.Total.{stuck_leaves}
use Rattle.cert_format.proofs.StageProofs.{Alike}
use Rattle.cert_format.proofs.StageMoves.{IsFirst, first_token, number_leads, IsOver, only_over, goes_on_from}
use Rattle.cert_parser.proofs.StageWords.{comes_leads, word_token-text, word_ends, word_seen}

-- faultless tokens behind faultless tokens
clean_join : (u v : List Token) → AreClean u → AreClean v → AreClean (u ++ v)
clean_join [] v clean_u clean_v = clean_v
clean_join (x ∷ u) v clean_u clean_v = (clean_u.0, clean_join u v clean_u.1 clean_v)

-- tokens read behind tokens read
read_join : (xs ys : List Token) (s : List ℕ) → AreReadFrom xs (text_of ys ++ s) → AreReadFrom ys s → AreReadFrom (xs ++ ys) s
read_join [] ys s first second = second
read_join (x ∷ xs) ys s first second =
    let P : List ℕ → Type 0 = λ t. EndsToken x t in
    let joined : text_of xs ++ (text_of ys ++ s) ≡ text_of (xs ++ ys) ++ s = sym (append_assoc (text_of xs) (text_of ys) s) ∙ ap (λ (t : List ℕ). t ++ s) (sym (flat_map-append token_text xs ys)) in
    (subst P joined first.0, read_join xs ys s first.1 second)

text_push : (ts : List Token) (x : Token) → text_of (ts ++ x ∷ []) ≡ text_of ts ++ token_text x
text_push ts x = flat_map-append token_text ts (x ∷ []) ∙ ap (λ (t : List ℕ). text_of ts ++ t) (append-nil (token_text x))

-- a faultless token behind a text that is reached
token_reached : (frame : Frame) (stage next : Stage) (number ends : Bool) (done : List ℕ) (x : Token) → Reached frame stage number done → fault_of x ≡ None
    → ((c : Cert) (ts : List Token) → Alike (Follows frame c stage (x ∷ ts)) (Follows frame c next ts))
    → ((rest : List ℕ) → MayStand ends rest → EndsToken x rest × MayStand number (token_text x ++ rest))
    → Reached frame next ends (done ++ token_text x)
token_reached frame stage next number ends done x r none leads stands = record {
  before = r.before ++ x ∷ [];
  clean = clean_join r.before (x ∷ []) r.clean (none, tt);
  bytes = ap (λ (t : List ℕ). t ++ token_text x) r.bytes ∙ sym (text_push r.before x);
  read = λ rest may.
      let P : List ℕ → Type 0 = λ t. AreReadFrom r.before t in
      let first : token_text x ++ rest ≡ text_of (x ∷ []) ++ rest = ap (λ (t : List ℕ). t ++ rest) (sym (append-nil (token_text x))) in
      read_join r.before (x ∷ []) rest (subst P first (r.read (token_text x ++ rest) (stands rest may).1)) ((stands rest may).0, tt);
  follow = λ c ts.
      let P : List Token → Type 0 = λ us. IsOf frame c us in
      let joined = append_assoc r.before (x ∷ []) ts in (
        λ m. (leads c ts).0 ((r.follow c (x ∷ ts)).0 (subst P joined m)),
        λ m. subst P (sym joined) ((r.follow c (x ∷ ts)).1 ((leads c ts).1 m)),
      );
}

-- a faultless word behind a text that is reached
pub word_reached : (frame : Frame) (stage : Stage) (number : Bool) (done : List ℕ) (word : Word) → Reached frame stage number done → Comes word (words stage) → fault_of (word_token (line_fault frame stage) word) ≡ None
    → ((rest : List ℕ) → MayStand number (word_text word ++ rest)) → Reached frame (after stage word) false (done ++ word_text word)
word_reached frame stage number done word r comes none stands =
    let x = word_token (line_fault frame stage) word in
    let same = word_token-text (line_fault frame stage) word in
    let P : List ℕ → Type 0 = λ t. Reached frame (after stage word) false (done ++ t) in
    let Q : List ℕ → Type 0 = λ t. (rest : List ℕ) → MayStand number (t ++ rest) in
    let may = subst Q (sym same) stands in
    subst P same (token_reached frame stage (after stage word) number false done x r none (λ c ts. comes_leads frame c stage word comes ts) (λ rest _. (word_ends (line_fault frame stage) word rest, may rest)))

-- a faultless number behind a text that is reached
pub number_reached : (frame : Frame) (stage : Stage) (done : List ℕ) (z : ℤ) → Reached frame stage false done → IsOfSort (sort stage) z → number_fault frame stage z ≡ None → Reached frame (behind_number stage z) true (done ++ signed_numeral z)
number_reached frame stage done z r of_sort none =
    token_reached frame stage (behind_number stage z) false true done (Figure z (number_fault frame stage z)) r none (λ c ts. number_leads frame c stage z of_sort ts) (λ rest may. (may, tt))

-- a faulty token behind a text that is reached
token_faulty : (frame : Frame) (stage next : Stage) (number : Bool) (done rest : List ℕ) (x : Token) (line : ℕ) (kind : Kind) → Reached frame stage number done → fault_of x ≡ Some kind
    → ((c : Cert) (ts : List Token) → Alike (Follows frame c stage (x ∷ ts)) (Follows frame c next ts))
    → EndsToken x rest → line ≡ line_behind done → (faulty : HasFaultyToken frame (done ++ (token_text x ++ rest)) line kind) × (faulty.token ≡ x) × (faulty.rest ≡ rest)
token_faulty frame stage next number done rest x line kind r fault leads ends at_line =
    let more = goes_on_from frame next in
    let whole = (r.follow more.0 (x ∷ more.1)).1 ((leads more.0 more.1).1 more.2) in (
      record {
        version = whole.version;
        written = whole.written;
        form = whole.form;
        before = r.before;
        token = x;
        after = more.1;
        rest = rest;
        tokens = sym whole.tokens;
        clean = r.clean;
        fault = fault;
        bytes = sym (append_assoc done (token_text x) rest) ∙ ap (λ (t : List ℕ). t ++ rest) (ap (λ (t : List ℕ). t ++ token_text x) r.bytes ∙ sym (text_push r.before x));
        ends = ends;
        line_is = at_line ∙ ap line_behind r.bytes;
      },
      refl,
      refl,
    )

-- a faulty line's end is a seen fault
pub word_faulty : (frame : Frame) (stage : Stage) (number : Bool) (done rest : List ℕ) (word : Word) (line : ℕ) (kind : Kind) → Reached frame stage number done → Comes word (words stage) → fault_of (word_token (line_fault frame stage) word) ≡ Some kind
    → line ≡ line_behind done → IsSeenFault frame (done ++ (word_text word ++ rest)) line kind
word_faulty frame stage number done rest word line kind r comes fault at_line =
    let x = word_token (line_fault frame stage) word in
    let found = token_faulty frame stage (after stage word) number done rest x line kind r fault (λ c ts. comes_leads frame c stage word comes ts) (word_ends (line_fault frame stage) word rest) at_line in
    let P : List ℕ → Type 0 = λ t. IsSeenFault frame (done ++ (t ++ rest)) line kind in
    let Q : Token → Type 0 = λ y. EndIsSeen y found.0.rest in
    subst P (word_token-text (line_fault frame stage) word) (inl (found.0, subst Q (sym found.1) (word_seen (line_fault frame stage) word found.0.rest)))

-- a faulty number is a first fault, and a seen one behind a byte
pub number_faulty : (frame : Frame) (stage : Stage) (done rest : List ℕ) (z : ℤ) (line : ℕ) (kind : Kind) → Reached frame stage false done → IsOfSort (sort stage) z → number_fault frame stage z ≡ Some kind
    → EndsNumber rest → line ≡ line_behind done → IsFirstCertFault frame (done ++ (signed_numeral z ++ rest)) line kind
number_faulty frame stage done rest z line kind r of_sort fault ends at_line =
    inl (token_faulty frame stage (behind_number stage z) false done rest (Figure z (number_fault frame stage z)) line kind r fault (λ c ts. number_leads frame c stage z of_sort ts) ends at_line).0

pub number_seen_faulty : (frame : Frame) (stage : Stage) (done rest : List ℕ) (byte : ℕ) (z : ℤ) (line : ℕ) (kind : Kind) → Reached frame stage false done → IsOfSort (sort stage) z → number_fault frame stage z ≡ Some kind
    → EndsNumber (byte ∷ rest) → line ≡ line_behind done → IsSeenFault frame (done ++ (signed_numeral z ++ byte ∷ rest)) line kind
number_seen_faulty frame stage done rest byte z line kind r of_sort fault ends at_line =
    let found = token_faulty frame stage (behind_number stage z) false done (byte ∷ rest) (Figure z (number_fault frame stage z)) line kind r fault (λ c ts. number_leads frame c stage z of_sort ts) ends at_line in
    inl (found.0, seen found.0.token found.0.rest found.2) where
      seen : (y : Token) (s : List ℕ) → s ≡ byte ∷ rest → EndIsSeen y s
      seen (Words bytes) s is = tt
      seen (LineEnd f) s is = tt
      seen (Figure y f) [] is = cc
      seen (Figure y f) (b ∷ s) is = tt

-- a text's tokens are those of the certificate that it means
of_version : (frame : Frame) (ts : List Token) → Certificates frame ts → (c : Cert) × IsOf frame c ts
of_version frame ts m = (meant m.0 m.1, record { version = m.0; written = m.1; form = m.2; means = refl; tokens = m.3 })

-- the number of a node that is too deep, or of a cut that is one too many, behind a text that is reached
pub deep_there : (frame : Frame) (stage : Stage) (done rest : List ℕ) (line : ℕ) → Reached frame stage false done → is_deep_stage frame stage ≡ true → BeginsNumber rest → line ≡ line_behind done
    → HasDeepNumber frame (done ++ rest) line (deep_kind stage)
deep_there frame stage done rest line r is number at_line =
    let about = deep_number frame stage is in
    let S : Sort → Type 0 = λ t. IsOfSort t (pos 0) in
    let more = goes_on_from frame (behind_number stage (pos 0)) in
    let F : Option Kind → Type 0 = λ f. Follows frame more.0 stage (Figure (pos 0) f ∷ more.1) in
    let follows : Follows frame more.0 stage (deep (deep_kind stage) ∷ more.1) = subst F about.0 ((number_leads frame more.0 stage (pos 0) (subst S (sym about.2) refl) more.1).1 more.2) in
    let whole = (r.follow more.0 (deep (deep_kind stage) ∷ more.1)).1 follows in
    record {
      excess = deep_excess stage;
      version = whole.version;
      written = whole.written;
      form = whole.form;
      before = r.before;
      after = more.1;
      rest = rest;
      tokens = sym whole.tokens;
      clean = r.clean;
      bytes = ap (λ (t : List ℕ). t ++ rest) r.bytes;
      number = number;
      line_is = at_line ∙ ap line_behind r.bytes;
    }

-- a text with more behind it may stand where it may stand alone
may_more : (number : Bool) (p rest more : List ℕ) → (rest ≡ [] → more ≡ []) → MayStand number (p ++ rest) → MayStand number (p ++ (rest ++ more))
may_more false p rest more fits may = tt
may_more true (b ∷ p) rest more fits may = may
may_more true [] (b ∷ rest) more fits may = may
may_more true [] [] more fits may = let P : List ℕ → Type 0 = EndsNumber in subst P (sym (fits refl)) tt

goes_more : (rest more : List ℕ) → (rest ≡ [] → more ≡ []) → GoesOn rest (rest ++ more)
goes_more [] more fits = let P : List ℕ → Type 0 = λ xs. GoesOn [] xs in subst P (sym (fits refl)) tt
goes_more (b ∷ rest) more fits = refl

-- behind a text that is reached no number comes of a node that is too deep or of a cut that is one too many, where none begins there, and no token
pub none_there : (frame : Frame) (stage : Stage) (number : Bool) (done p rest more : List ℕ) → Reached frame stage number done → MayStand number (p ++ rest) → (rest ≡ [] → more ≡ [])
    → (c : Cert) (us : List Token) → Follows frame c stage us
    → ((y : Token) → IsFirst frame stage y → IsBarred y p rest) → ((k : Kind) → IsExcess k → IsFirst frame stage (deep k) → BeginsNumber (p ++ (rest ++ more)) → ⊥)
    → HasNoDeepNumber frame ((done ++ (p ++ rest)) ++ more)
none_there frame stage number done p rest more r stands fits c us follows barred dry line k a =
    let whole = (r.follow c us).1 follows in
    let P : List Token → Type 0 = λ ts. AreCoherent (Unit {0}) ts (a.before ++ deep k ∷ a.after) in
    let Q : List Token → Type 0 = λ ts. AreCoherent (Unit {0}) (tokens_of frame whole.version whole.written) ts in
    let w : List ℕ = p ++ (rest ++ more) in
    let bytes : (done ++ (p ++ rest)) ++ more ≡ done ++ w = append_assoc done (p ++ rest) more ∙ ap (λ (xs : List ℕ). done ++ xs) (append_assoc p rest more) in
    let same : text_of r.before ++ w ≡ text_of a.before ++ a.rest = sym (ap (λ (xs : List ℕ). xs ++ w) r.bytes) ∙ sym bytes ∙ a.bytes in
    let found = deep_behind (Unit {0}) k a.excess r.before us a.before a.after w a.rest
    (subst P (sym whole.tokens) (subst Q a.tokens (tokens_coherent (Unit {0}) frame whole.version a.version whole.written a.written (λ _ _. tt))))
    (subst (λ (ts : List Token). AreSpaced ts) a.tokens (tokens_spaced frame a.version a.written)) r.clean (r.read w (may_more number p rest more fits stands)) same in
    by found.0 found.1 found.3 found.4
  where
    first : (y : Token) (ys : List Token) → tokens_of frame a.version a.written ≡ r.before ++ y ∷ ys → IsFirst frame stage y
    first y ys is =
        let v = of_version frame (r.before ++ y ∷ ys) (a.version, a.written, a.form, sym is) in
        first_token frame v.0 stage y ys ((r.follow v.0 (y ∷ ys)).0 v.1)

    by : (ts : List Token) → a.before ≡ r.before ++ ts → AreSpaced (ts ++ deep k ∷ a.after) → p ++ (rest ++ more) ≡ text_of ts ++ a.rest → ⊥
    by [] is spaced same =
        let here : tokens_of frame a.version a.written ≡ r.before ++ deep k ∷ a.after = a.tokens ∙ ap (λ (ts : List Token). ts ++ deep k ∷ a.after) (is ∙ append-nil r.before) in
        let N : List ℕ → Type 0 = BeginsNumber in
        dry k a.excess (first (deep k) a.after here) (subst N (sym same) a.number)
    by (y ∷ ts) is spaced same =
        let here : tokens_of frame a.version a.written ≡ r.before ++ y ∷ (ts ++ deep k ∷ a.after) = a.tokens ∙ ap (λ (us : List Token). us ++ deep k ∷ a.after) is ∙ append_assoc r.before (y ∷ ts) (deep k ∷ a.after) in
        barred y (first y (ts ++ deep k ∷ a.after) here) (text_of ts ++ a.rest) (rest ++ more) (spaced_first k y ts a.after a.rest spaced) (goes_more rest more fits)
        (sym (append_assoc (token_text y) (text_of ts) a.rest) ∙ sym same)

-- a text that is reached and can't go on so leaves the grammar
pub leaves_there : (frame : Frame) (stage : Stage) (number : Bool) (done p rest : List ℕ) → Reached frame stage number done → MayStand number (p ++ rest)
    → (c : Cert) (us : List Token) (more : List ℕ) → Follows frame c stage us → text_of us ≡ p ++ more
    → ((y : Token) → IsFirst frame stage y → IsBarred y p rest) → ((d : Cert) → IsOver frame d stage → rest ≡ [] → ⊥)
    → HasNoFaultyToken frame (done ++ (p ++ rest)) × ((leaving : LeavesGrammar frame (done ++ (p ++ rest)) (line_behind (done ++ p))) × (leaving.rest ≡ rest))
leaves_there frame stage number done p rest r stands c us more follows begins barred over =
    let whole = (r.follow c us).1 follows in
    let text = done ++ (p ++ rest) in
    let stuck : Stuck (Certificates frame) text = record {
      before = r.before;
      after = us;
      partial = p;
      rest = rest;
      more = more;
      member = (whole.version, whole.written, whole.form, whole.tokens);
      clean = r.clean;
      bytes = ap (λ (t : List ℕ). t ++ (p ++ rest)) r.bytes;
      begins = begins;
      read = r.read (p ++ rest) stands;
      cannot = λ y ys m. let v = of_version frame (r.before ++ y ∷ ys) m in barred y (first_token frame v.0 stage y ys ((r.follow v.0 (y ∷ ys)).0 v.1));
      over = λ m none.
          let v = of_version frame r.before m in
          let P : List Token → Type 0 = λ xs. IsOf frame v.0 xs in
          over v.0 (only_over frame v.0 stage ((r.follow v.0 []).0 (subst P (sym (append-nil r.before)) v.1))) none;
    } in
    let P : List ℕ → Type 0 = λ t. HasNoFaultyToken frame text × ((leaving : LeavesGrammar frame text (line_behind (t ++ p))) × (leaving.rest ≡ rest)) in
    subst P (sym r.bytes) (stuck_leaves frame text stuck)

-- a text leaves the grammar on a line, in front of the rest, and with more behind it has no number of a node that is too deep
abbrev pub LeavesAt : Frame → List ℕ → ℕ → List ℕ → List ℕ → Type 0
LeavesAt frame text line rest more = HasNoFaultyToken frame text × ((leaving : LeavesGrammar frame text line) × (leaving.rest ≡ rest)) × HasNoDeepNumber frame (text ++ more)

-- the place where the text leaves the grammar is its first fault
pub leaves_first : (frame : Frame) (text rest : List ℕ) (line : ℕ) → LeavesAt frame text line rest [] → IsFirstCertFault frame text line Syntax
leaves_first frame text rest line m = inr (inr (refl, m.0, subst (λ (t : List ℕ). HasNoDeepNumber frame t) (append-nil text) m.2, m.1.0))

-- and a seen one behind a byte
pub leaves_seen : (frame : Frame) (text rest : List ℕ) (byte line : ℕ) → ((more : List ℕ) → LeavesAt frame text line (byte ∷ rest) more) → IsSeenFault frame text line Syntax
leaves_seen frame text rest byte line at =
    let m = at [] in
    inr (inr (refl, m.0, (λ more. (at more).2), (m.1.0, followed m.1.0.rest m.1.1)))
  where
    followed : (s : List ℕ) → s ≡ byte ∷ rest → IsFollowed s
    followed [] is = cc
    followed (b ∷ s) is = tt
