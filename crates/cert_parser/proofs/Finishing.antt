-- A reader that has read nothing, and a reader at the text's end.
use Rattle.std.proofs.Common.{◌≡◌, ℕ, ◌+◌, ◌<◌, Bool, true, false, List, [], ◌∷◌, ◌++◌, length, map, take, codes, None, ℤ, negsuc, refl, sym, ap, ◌∙◌, subst, inl, inr, ⊎_elim, arith, append-nil}
use Rattle.cert_format.specs.Cert.{Tree, Cut, Cert}
use Rattle.cert_format.specs.Cert as texts
use Rattle.cert_format.specs.Text.{Kind, Token, Words, LineEnd, Version, One, Two, Three, version_word, HasForm, cut_lines, text_of, tree_lines, claim_lines, tokens_of, meant, meant_tree}
use Rattle.cert_format.specs.Fault.{AreClean, IsCertText, IsFirstCertFault, line_behind}
use Rattle.std.specs.Prelude.{Result, Err, unwrap_or}
use Rattle.std.specs.Option.{option_map}
use Rattle.bp_theory.specs.Judgement.{named_value}
use Rattle.bp_theory.specs.declared.Claim.{Claim}
use Rattle.bp_theory.specs.declared.Cut as theory_cuts
use Rattle.cert_format.specs.Words.{word_text}
use Rattle.cert_format.specs.Frames.{frame_of}
use Rattle.bp_theory.specs.Trees as theory
use Rattle.cert_format.specs.Written.{written_claim, written_cut, written_tree, cert_of, certificate}
use Rattle.cert_format.specs.Sketch.{tree_of}
use Rattle.cert_parser.specs.Readers.{cutting, told_of, place_of, stage_of}
use Rattle.cert_format.specs.Stages.{Wait, Told, plain_of, whole_of, told, with_cuts, meaning, at_bpcert, IsOfSort, IsOf, Follows, AtNode, Begin, AtClaim, AtFirstEnd, over}
use Rattle.cert_format.specs.Grammar.{Prefixed}
use Rattle.cert_format.specs.Reached.{MayStand, Reached, IsInWord, IsBehindMinus}
use Rattle.cert_parser.specs.Standing.{IsPart, StandsFor, Between, EndsWell}
use Rattle.cert_format.specs.Kept.{kept_cert}
use Rattle.cert_format.specs.declared.cert.Cert.{Cert as Kept}
use Rattle.cert_format.specs.declared.fault.CertFault.{CertFault}
use Rattle.cert_format.specs.declared.fault.CertFault.TheVariants.{At}
use Rattle.cert_format.specs.declared.fault.CertKind.TheVariants.{Syntax}
use Rattle.cert_format.specs.declared.frame.Frame.{Frame}
use Rattle.cert_parser.specs.declared.lines.Part.{Part}
use Rattle.cert_parser.specs.declared.lines.Part.TheVariants.{Fresh, InWord, Minus}
use Rattle.cert_parser.specs.declared.lines.Lines.{Lines}
use Rattle.cert_format.specs.declared.spots.Sort.{Sort}
use Rattle.cert_format.specs.declared.spots.Spot.{Spot}
use Rattle.cert_format.specs.declared.spots.Spot.TheVariants as s
use Rattle.cert_format.specs.declared.words.Word.{Word}
use Rattle.cert_format.proofs.Coherent.{cert_one}
use Rattle.cert_format.proofs.Claims.{last_line, last_to, last_from, tokens_split, claim_to, claim_from}
use Rattle.cert_format.proofs.PlainProof.{same_claim}
use Rattle.cert_format.proofs.StageMoves.{IsOver}
use Rattle.cert_parser.proofs.Reaching.{leaves_first}
use Rattle.cert_parser.proofs.Leaving.{leaves_fresh, leaves_word, leaves_minus}
use Rattle.cert_parser.proofs.WordSteps.{stands_part}

-- a certificate without cuts as it is meant
uncut : (v : Version) (w : Cert) → w.cuts ≡ [] → meant v w ≡ plain_of w.claim (meant_tree v [] w.tree)
uncut v w none = cert_one (meant v w) (plain_of w.claim (meant_tree v [] w.tree)) refl none refl

-- the lines behind the claim
plain_from : (frame : texts.Frame) (v : Version) (w : Cert) → w.cuts ≡ [] → AtNode frame (meant v w) (told v w.claim) [] (cut_lines frame 0 w.cuts ++ (tree_lines frame v (length w.cuts) 0 [] w.tree ++ last_line))
plain_from frame v w none =
    let last = last_from in
    let P : List Cut → Type 0 = λ cs. AtNode frame (meant v w) (told v w.claim) [] (cut_lines frame 0 cs ++ (tree_lines frame v (length cs) 0 [] w.tree ++ last_line)) in
    subst P (sym none) (w.tree, last_line, (last.0, last.1, (last.2.0, last.2.1, (last.2.2, uncut v w none))), refl)

body_from : (frame : texts.Frame) (v : Version) (w : Cert) → HasForm v w → Begin frame (meant v w) v w.claim [] (cut_lines frame 0 w.cuts ++ (tree_lines frame v (length w.cuts) 0 [] w.tree ++ last_line))
body_from frame One w form = plain_from frame One w form
body_from frame Two w form = plain_from frame Two w form
body_from frame Three w form =
    let last = last_from in
    (w.cuts, tree_lines frame Three (length w.cuts) 0 [] w.tree ++ last_line, (form, (w.tree, last_line, (last.0, last.1, (last.2.0, last.2.1, (last.2.2, refl))), refl)), refl)

-- the lines behind the first one
claims_from : (frame : texts.Frame) (v : Version) (w : Cert) → HasForm v w
    → AtClaim frame (meant v w) v (claim_lines frame w.claim ++ (cut_lines frame 0 w.cuts ++ (tree_lines frame v (length w.cuts) 0 [] w.tree ++ last_line)))
claims_from frame v w form =
    claim_from frame (λ a. Begin frame (meant v w) v a []) w.claim (cut_lines frame 0 w.cuts ++ (tree_lines frame v (length w.cuts) 0 [] w.tree ++ last_line)) _ (body_from frame v w form) refl

-- the tokens of a certificate are what follows at the beginning
start_from : (frame : texts.Frame) (v : Version) (w : Cert) (ts : List Token) → HasForm v w → ts ≡ tokens_of frame v w → Follows frame (meant v w) at_bpcert ts
start_from frame One w ts form is = (_, is ∙ tokens_split frame One w, inl (_, refl, (_, refl, claims_from frame One w form)))
start_from frame Two w ts form is = (_, is ∙ tokens_split frame Two w, inr (inl (_, refl, (_, refl, claims_from frame Two w form))))
start_from frame Three w ts form is = (_, is ∙ tokens_split frame Three w, inr (inr (_, refl, (_, refl, claims_from frame Three w form))))

-- cuts and a tree whose lines these are
record Body (frame : texts.Frame) (c : Cert) (v : Version) (a : texts.Claim) (us : List Token) : Type 0 where
  cuts : List Cut
  tree : Tree
  form : HasForm v (record { claim = a; cuts = cuts; tree = tree })
  means : c ≡ record { claim = a; cuts = cuts; tree = meant_tree v [] tree }
  tokens : us ≡ cut_lines frame 0 cuts ++ (tree_lines frame v (length cuts) 0 [] tree ++ last_line)

-- the lines of a tree behind so many cuts
nodes_to : (frame : texts.Frame) (c : Cert) (a : Told) (us : List Token) → AtNode frame c a [] us → (t : Tree) × (us ≡ tree_lines frame a.version (length a.cuts) 0 a.had t ++ last_line) × (c ≡ whole_of a (meaning a t))
nodes_to frame c a us node =
    let end = node.2 in
    let ended : node.1 ≡ last_line = last_to node.1 (end.0, end.1, (end.2.0, end.2.1, end.2.2.0)) in
    (node.0, node.3 ∙ ap (λ (xs : List Token). tree_lines frame a.version (length a.cuts) 0 a.had node.0 ++ xs) ended, end.2.2.1)

plain_to : (frame : texts.Frame) (c : Cert) (v : Version) (a : texts.Claim) (us : List Token) → ((t : Tree) → HasForm v (plain_of a t)) → AtNode frame c (told v a) [] us → Body frame c v a us
plain_to frame c v a us formed node =
    let there = nodes_to frame c (told v a) us node in
    record { cuts = []; tree = there.0; form = formed there.0; means = there.2; tokens = there.1 }

body_to : (frame : texts.Frame) (c : Cert) (v : Version) (a : texts.Claim) (us : List Token) → Begin frame c v a [] us → Body frame c v a us
body_to frame c One a us m = plain_to frame c One a us (λ t. refl) m
body_to frame c Two a us m = plain_to frame c Two a us (λ t. refl) m
body_to frame c Three a us m =
    let there = nodes_to frame c (with_cuts (told Three a) m.0) m.1 m.2.1 in
    record { cuts = m.0; tree = there.0; form = m.2.0; means = there.2; tokens = m.3 ∙ ap (λ (xs : List Token). cut_lines frame 0 m.0 ++ xs) there.1 }

start_to : (frame : texts.Frame) (c : Cert) (ts : List Token) → Follows frame c at_bpcert ts → IsOf frame c ts
start_to frame c ts m = ⊎_elim (λ i. one One i) (λ i. ⊎_elim (λ i. one Two i) (λ i. one Three i) i) m.2 where
  one : (v : Version) → Prefixed (Words (version_word v)) (AtFirstEnd frame c v) m.0 → IsOf frame c ts
  one v i =
      let two = i.2 in
      let claim = claim_to frame (λ a. Begin frame c v a []) two.0 two.2 in
      let body = body_to frame c v claim.0 claim.1 claim.2 in
      let written : Cert = record { claim = claim.0; cuts = body.cuts; tree = body.tree } in
      let lines = claim.3 ∙ ap (λ (xs : List Token). claim_lines frame claim.0 ++ xs) body.tokens in
      let whole = m.1 ∙ ap (λ (xs : List Token). Words (codes "bpcert ") ∷ xs) (i.1 ∙ ap (λ (xs : List Token). Words (version_word v) ∷ xs) (two.1 ∙ ap (λ (xs : List Token). LineEnd None ∷ xs) lines)) in
      record { version = v; written = written; form = body.form; means = sym body.means; tokens = whole ∙ sym (tokens_split frame v written) }

start_follow : (frame : texts.Frame) (c : Cert) (ts : List Token) → (IsOf frame c ts → Follows frame c at_bpcert ts) × (Follows frame c at_bpcert ts → IsOf frame c ts)
start_follow frame c ts = (
  λ m. let Q : Cert → Type 0 = λ d. Follows frame d at_bpcert ts in subst Q m.means (start_from frame m.version m.written ts m.form m.tokens),
  λ m. start_to frame c ts m,
)

-- a reader that has read nothing
pub begins_well : (root : Tree) (frame : Frame) (r : Lines) → r.spot ≡ s.Bpcert → r.part ≡ Fresh → r.line ≡ 1 → r.left ≡ 0 → r.depth ≡ 0 → r.highs.items ≡ [] → r.cuts ≡ 0 → StandsFor [] root [] frame r []
begins_well root frame r spot part line left depth highs cuts =
    let P : Spot → Type 0 = λ x. Reached (frame_of frame) (place_of [] root [] r 0 x) false [] in
    let start : Reached (frame_of frame) at_bpcert false [] = record { before = []; clean = tt; bytes = refl; read = λ rest may. tt; follow = λ c ts. start_follow (frame_of frame) c ts } in
    let Q : Part → Type 0 = λ p. IsPart (frame_of frame) (stage_of [] root [] r 0) p [] in
    let C : Spot → Type 0 = λ x. r.cuts ≡ 0 + cutting x in
    record {
      count = 0;
      counts = record { counted = inl left; line = line; short = inl (refl, spot); highs = record { depth = depth; highs = highs; cuts = subst C (sym spot) cuts; few = omega (arith, cuts) } };
      part = subst Q (sym part) (subst P (sym spot) start);
    }

-- only behind the last line is the text over
over_spot : (above : List Wait) (root : Tree) (cuts : List Cut) (frame : texts.Frame) (d : Cert) (r : Lines) (n : ℕ) (spot : Spot) → IsOver frame d (place_of above root cuts r n spot) → spot ≡ s.Over
over_spot above root cuts frame d r n s.Bpcert is = absurd is
over_spot above root cuts frame d r n s.Version is = absurd is
over_spot above root cuts frame d r n s.FirstEnd is = absurd is
over_spot above root cuts frame d r n s.Claim is = absurd is
over_spot above root cuts frame d r n s.Kind is = absurd is
over_spot above root cuts frame d r n s.OptimalValue is = absurd is
over_spot above root cuts frame d r n s.InfeasibleEnd is = absurd is
over_spot above root cuts frame d r n s.BoundValue is = absurd is
over_spot above root cuts frame d r n s.AfterBound is = absurd is
over_spot above root cuts frame d r n s.KnownValue is = absurd is
over_spot above root cuts frame d r n s.ClaimEnd is = absurd is
over_spot above root cuts frame d r n s.Point is = absurd is
over_spot above root cuts frame d r n s.Values is = absurd is
over_spot above root cuts frame d r n s.Coordinate is = absurd is
over_spot above root cuts frame d r n s.FirstCut is = absurd is
over_spot above root cuts frame d r n s.Cuts is = absurd is
over_spot above root cuts frame d r n s.Divisor is = absurd is
over_spot above root cuts frame d r n s.CutRows is = absurd is
over_spot above root cuts frame d r n s.CutCount is = absurd is
over_spot above root cuts frame d r n s.CutPairs is = absurd is
over_spot above root cuts frame d r n s.CutRow is = absurd is
over_spot above root cuts frame d r n s.CutGap is = absurd is
over_spot above root cuts frame d r n s.CutMultiplier is = absurd is
over_spot above root cuts frame d r n s.Node is = absurd is
over_spot above root cuts frame d r n s.Scale is = absurd is
over_spot above root cuts frame d r n s.Rows is = absurd is
over_spot above root cuts frame d r n s.Count is = absurd is
over_spot above root cuts frame d r n s.Pairs is = absurd is
over_spot above root cuts frame d r n s.Row is = absurd is
over_spot above root cuts frame d r n s.RowGap is = absurd is
over_spot above root cuts frame d r n s.Multiplier is = absurd is
over_spot above root cuts frame d r n s.Priced is = absurd is
over_spot above root cuts frame d r n s.Blocks is = absurd is
over_spot above root cuts frame d r n s.Block is = absurd is
over_spot above root cuts frame d r n s.LeafEnd is = absurd is
over_spot above root cuts frame d r n s.Variable is = absurd is
over_spot above root cuts frame d r n s.VariableGap is = absurd is
over_spot above root cuts frame d r n s.Place is = absurd is
over_spot above root cuts frame d r n s.SplitEnd is = absurd is
over_spot above root cuts frame d r n s.End is = absurd is
over_spot above root cuts frame d r n s.LastEnd is = absurd is
over_spot above root cuts frame d r n s.Over is = refl

-- between two tokens of a text that isn't over
pub cut_between : (above : List Wait) (root : Tree) (cuts : List Cut) (frame : Frame) (r : Lines) (number : Bool) (text : List ℕ) (line : ℕ) → Between above root cuts frame r number text → (r.spot ≡ s.Over → ⊥) → line ≡ r.line → IsFirstCertFault (frame_of frame) text line Syntax
cut_between above root cuts frame r number text line between ended at_line =
    let L : ℕ → Type 0 = λ l. IsFirstCertFault (frame_of frame) text l Syntax in
    let P : List ℕ → Type 0 = λ t. IsFirstCertFault (frame_of frame) t (line_behind text) Syntax in
    subst L (sym (at_line ∙ between.counts.line)) (subst P (append-nil text)
    (leaves_first (frame_of frame) (text ++ []) [] (line_behind text)
    (leaves_fresh (frame_of frame) (stage_of above root cuts r between.count) number text [] [] between.reached (nothing number) (λ e. e) (λ v here. tt) (λ z of_sort. (tt, λ m is. tt)) (λ d o none. ended (over_spot above root cuts (frame_of frame) d r between.count r.spot o)) (λ k x first begins. begins)))) where
      nothing : (number : Bool) → MayStand number []
      nothing true = tt
      nothing false = tt

-- within a word
pub cut_word : (above : List Wait) (root : Tree) (cuts : List Cut) (frame : Frame) (r : Lines) (text : List ℕ) (word : Word) (count line : ℕ) → StandsFor above root cuts frame r text → r.part ≡ InWord word count → line ≡ r.line → IsFirstCertFault (frame_of frame) text line Syntax
cut_word above root cuts frame r text word count line stands is at_line =
    let Q : Part → Type 0 = λ p. IsPart (frame_of frame) (stage_of above root cuts r stands.count) p text in
    let both = subst Q is stands.part in
    let some = both.0 in
    let part : IsInWord (frame_of frame) (stage_of above root cuts r stands.count) word count text = both.1 in
    let length_some : 0 < length (word_text word) = let less : count < length (word_text word) = part.within in omega arith in
    let bytes : text ≡ part.done ++ (take count (word_text word) ++ []) = part.bytes ∙ ap (λ (xs : List ℕ). part.done ++ xs) (sym (append-nil (take count (word_text word)))) in
    let P : List ℕ → Type 0 = λ t. IsFirstCertFault (frame_of frame) t line Syntax in
    let L : ℕ → Type 0 = λ l. IsFirstCertFault (frame_of frame) (part.done ++ (take count (word_text word) ++ [])) l Syntax in
    subst P (sym bytes) (subst L (sym (at_line ∙ stands.counts.line ∙ ap line_behind part.bytes))
    (leaves_first (frame_of frame) (part.done ++ (take count (word_text word) ++ [])) [] (line_behind (part.done ++ take count (word_text word)))
    (leaves_word (frame_of frame) (stage_of above root cuts r stands.count) part.number part.done [] [] word count part.reached part.comes some part.within (stands_part part.number (word_text word) [] count some length_some part.stands) tt (λ e. e))))

-- behind a minus
pub cut_minus : (above : List Wait) (root : Tree) (cuts : List Cut) (frame : Frame) (r : Lines) (text : List ℕ) (line : ℕ) → StandsFor above root cuts frame r text → r.part ≡ Minus → line ≡ r.line → IsFirstCertFault (frame_of frame) text line Syntax
cut_minus above root cuts frame r text line stands is at_line =
    let Q : Part → Type 0 = λ p. IsPart (frame_of frame) (stage_of above root cuts r stands.count) p text in
    let part : IsBehindMinus (frame_of frame) (stage_of above root cuts r stands.count) text = subst Q is stands.part in
    let S : Sort → Type 0 = λ t. IsOfSort t (negsuc 0) in
    let P : List ℕ → Type 0 = λ t. IsFirstCertFault (frame_of frame) t line Syntax in
    let L : ℕ → Type 0 = λ l. IsFirstCertFault (frame_of frame) (part.done ++ 45 ∷ []) l Syntax in
    subst P (sym part.bytes) (subst L (sym (at_line ∙ stands.counts.line ∙ ap line_behind part.bytes))
    (leaves_first (frame_of frame) (part.done ++ 45 ∷ []) [] (line_behind (part.done ++ 45 ∷ []))
    (leaves_minus (frame_of frame) (stage_of above root cuts r stands.count) part.done [] [] part.reached (subst S (sym part.of_sort) tt) tt (λ e. e))))

-- the certificate that was read
pub read_whole : (above : List Wait) (root : Tree) (cuts : List Cut) (frame : Frame) (r : Lines) (text : List ℕ) (ks : List theory_cuts.Cut) (t : theory.Tree) → StandsFor above root cuts frame r text → r.part ≡ Fresh → r.spot ≡ s.Over
    → map written_cut ks ≡ cuts → written_tree t ≡ root → IsCertText (frame_of frame) (cert_of (certificate r.claim r.point ks t)) text
read_whole above root cuts frame r text ks t stands fresh ended kept tree =
    let a : Told = told_of cuts r in
    let Q : Part → Type 0 = λ p. IsPart (frame_of frame) (stage_of above root cuts r stands.count) p text in
    let P : Spot → Type 0 = λ x. Reached (frame_of frame) (place_of above root cuts r stands.count x) false text in
    let reached : Reached (frame_of frame) (over a root) false text = subst P ended (subst Q fresh stands.part) in
    let whole = (reached.follow (whole_of a root) []).1 (refl, refl) in
    let same : reached.before ≡ tokens_of (frame_of frame) whole.version whole.written = sym (append-nil reached.before) ∙ whole.tokens in
    let C : List Token → Type 0 = AreClean in
    let clean = subst C same reached.clean in
    let cert : texts.Claim → List Cut → Tree → Cert = λ x cs y. record { claim = x; cuts = cs; tree = y } in
    let is : whole_of a root ≡ cert_of (certificate r.claim r.point ks t) =
    ap (λ (x : texts.Claim). cert x cuts root) (sym (same_claim r.claim r.point))
    ∙ ap (λ (cs : List Cut). cert (written_claim r.claim (unwrap_or (option_map (λ _. r.point) (named_value r.claim)) [])) cs root) (sym kept)
    ∙ ap (λ (x : Tree). cert (written_claim r.claim (unwrap_or (option_map (λ _. r.point) (named_value r.claim)) [])) (map written_cut ks) x) (sym tree) in
    (whole.version, record { written = whole.written; form = whole.form; clean = clean; bytes = reached.bytes ∙ ap text_of same; means = whole.means ∙ is })

-- the same as it is kept
pub taken_well : (above : List Wait) (root : Tree) (cuts : List Cut) (frame : Frame) (r : Lines) (text : List ℕ) (cert : Kept) → StandsFor above root cuts frame r text → r.part ≡ Fresh → r.spot ≡ s.Over → cert.claim ≡ r.claim → cert.point ≡ r.point
    → map written_cut cert.cuts ≡ cuts → written_tree (tree_of cert.tree) ≡ root → IsCertText (frame_of frame) (kept_cert cert) text
taken_well above root cuts frame r text cert stands fresh ended claim point kept tree =
    let P : Claim → Type 0 = λ k. IsCertText (frame_of frame) (cert_of (certificate k r.point cert.cuts (tree_of cert.tree))) text in
    let Q : List ℤ → Type 0 = λ zs. IsCertText (frame_of frame) (cert_of (certificate cert.claim zs cert.cuts (tree_of cert.tree))) text in
    subst Q (sym point) (subst P (sym claim) (read_whole above root cuts frame r text cert.cuts (tree_of cert.tree) stands fresh ended kept tree))

-- a fault at the end
pub end_fault : (above : List Wait) (root : Tree) (cuts : List Cut) (frame : Frame) (new : Lines) (text : List ℕ) (line : ℕ) (kind : Kind) (result : Result (Unit {0}) CertFault) → result ≡ Err (At line kind) → IsFirstCertFault (frame_of frame) text line kind → EndsWell above root cuts frame new text result
end_fault above root cuts frame new text line kind result is fault = let P : Result (Unit {0}) CertFault → Type 0 = λ r. EndsWell above root cuts frame new text r in subst P (sym is) fault
