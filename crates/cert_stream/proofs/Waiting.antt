-- No fault of a text is seen, for which a checker goes on.
use Rattle.std.proofs.Common.{◌≡◌, ◌⊎◌, ℕ, Bool, true, false, List, [], ◌∷◌, ◌++◌, length, take, map, Option, Some, None, Result, ℤ, negsuc, refl, sym, ap, ◌∙◌, subst, inl, inr, ⊎_elim, ◌<◌, ◌≤◌, arith, append_assoc, append-nil}
use Rattle.std.proofs.lemmas.Grind.{flat_map-append}
use Rattle.std.proofs.lemmas.List.{append_cancel_left}
use Rattle.block_program.specs.Blocked.{BlockedProgram}
use Rattle.cert_format.specs.Cert as texts
use Rattle.cert_format.specs.Cert.{Cert}
use Rattle.cert_format.specs.Text.{Kind, Token, Words, Figure, LineEnd, meant, signed_numeral, token_text, text_of, tokens_of}
use Rattle.cert_format.specs.Fault.{AreClean, Begins, EndIsSeen, HasFaultyToken, HasNoFaultyToken, HasDeepNumber, HasNoDeepNumber, Leaves, IsFollowed, IsSeenFault, line_behind}
use Rattle.cert_format.specs.Frames.{frame_of}
use Rattle.cert_format.specs.Words.{word_text}
use Rattle.cert_format.specs.Stages.{Wait, whole_of, at_bpcert, at_version, at_first_end, at_claim, at_kind, at_optimal, infeasible_end, at_bound, after_bound, at_value, claim_end, at_point, at_values, at_coordinate, at_first_cut, at_cuts, at_node, at_scale, at_rows, at_count, at_pairs, at_row, row_gap, at_multiplier, at_priced, at_blocks, at_block, leaf_end, at_variable, variable_gap, at_place, split_end, at_end, last_end, over}
use Rattle.cert_format.specs.Stages.{Stage, sort, IsOfSort, is_deep_stage, number_fault, deep_kind, behind_number, IsOf, Follows}
use Rattle.cert_format.specs.Reached.{MayStand, Reached, IsInWord, IsInNumber, IsBehindMinus, IsBehindDeepMinus}
use Rattle.cert_parser.specs.Standing.{IsPart, StandsFor}
use Rattle.cert_parser.specs.Readers.{stage_of}
use Rattle.cert_format.specs.Signed.{signed}
use Rattle.cert_format.specs.Written.{written_cut, written_tree}
use Rattle.cert_format.specs.declared.frame.Frame.{Frame}
use Rattle.cert_parser.specs.declared.lines.Lines.{Lines}
use Rattle.cert_parser.specs.declared.lines.Part.{Part}
use Rattle.cert_parser.specs.declared.lines.Part.TheVariants.{Fresh, InWord, Minus, DeepMinus, Digits}
use Rattle.cert_format.specs.declared.spots.Sort.{Sort}
use Rattle.cert_format.specs.declared.words.Word.{Word}
use Rattle.cert_format.proofs.Deep.{deep_faulty}
use Rattle.cert_format.proofs.DeepStages.{number_deep}
use Rattle.cert_format.proofs.LawProofs.{certificates_have_no_fault, faulty_same, seen_faults_are_first}
use Rattle.cert_parser.proofs.Leaving.{leaves_fresh, leaves_word, leaves_minus}
use Rattle.cert_parser.proofs.Reaching.{LeavesAt, deep_there, number_reached}
use Rattle.cert_parser.proofs.ReaderSteps.{deep_minus_leaves}
use Rattle.cert_format.proofs.StageMoves.{IsOver, goes_on_from, number_leads}
use Rattle.cert_parser.proofs.WordSteps.{stands_part}
use Rattle.cert_walk.specs.Turns.{wait_of}
use Rattle.cert_stream.specs.Checks.{IsMadeFor, StandsBy, ChecksFor, answer_by}
use Rattle.cert_stream.specs.Seen.{TellsSeen}
use Rattle.cert_stream.specs.declared.checker.Checker.{Checker}
use Rattle.cert_stream.specs.declared.fault.FeedFault.{FeedFault}
use Rattle.cert_stream.specs.declared.fault.FeedFault.TheVariants as f
use Rattle.cert_stream.proofs.Stepping.{judged_so}

-- ---- a text that begins a certificate's text

-- it doesn't leave the grammar at a byte that has come
still_begins : (frame : texts.Frame) (text p r : List ℕ) → Begins frame text → text ≡ p ++ r → Leaves frame p r → IsFollowed r → ⊥
still_begins frame text p [] begins is leaves followed = followed
still_begins frame text p (byte ∷ r) begins is leaves followed =
    let front : List ℕ = p ++ byte ∷ [] in
    leaves (record {
      version = begins.version;
      written = begins.written;
      form = begins.form;
      rest = r ++ begins.rest;
      bytes = begins.bytes ∙ ap (λ (t : List ℕ). t ++ begins.rest) (is ∙ sym (append_assoc p (byte ∷ []) r)) ∙ append_assoc front r begins.rest;
    })

-- where no token of it is at fault and no number is one of a node that is too deep, none of its faults is seen
begins_unseen : (frame : texts.Frame) (text : List ℕ) (line : ℕ) (kind : Kind) → Begins frame text → HasNoFaultyToken frame text → HasNoDeepNumber frame text
    → IsSeenFault frame text line kind → ⊥
begins_unseen frame text line kind begins no_token no_deep seen =
    ⊎_elim
    (λ faulty. no_token line kind faulty.0)
    (λ other. ⊎_elim
    (λ deep. no_deep line kind deep)
    (λ leaves. let at = leaves.3.0 in still_begins frame text at.before at.rest begins at.bytes at.leaves leaves.3.1)
    other)
    seen

-- a text that leaves the grammar by its end alone
cut_unseen : (frame : texts.Frame) (text : List ℕ) (place line : ℕ) (kind : Kind) → LeavesAt frame text place [] [] → IsSeenFault frame text line kind → ⊥
cut_unseen frame text place line kind m =
    let leaving = m.1.0 in
    let whole : leaving.before ≡ text = sym (append-nil leaving.before) ∙ ap (λ (r : List ℕ). leaving.before ++ r) (sym m.1.1) ∙ sym leaving.bytes in
    begins_unseen frame text line kind (subst (λ (t : List ℕ). Begins frame t) whole leaving.begins) m.0 (subst (λ (t : List ℕ). HasNoDeepNumber frame t) (append-nil text) m.2)

-- ---- a text that is reached

-- a place behind which a text goes on, or the place behind a whole one
over_cases : (frame : texts.Frame) (stage : Stage) → ((d : Cert) → IsOver frame d stage → ⊥) ⊎ ((c : Cert) × Follows frame c stage [])
over_cases frame at_bpcert = inl (λ d is. is)
over_cases frame at_version = inl (λ d is. is)
over_cases frame (at_first_end v) = inl (λ d is. is)
over_cases frame (at_claim v) = inl (λ d is. is)
over_cases frame (at_kind v) = inl (λ d is. is)
over_cases frame (at_optimal v) = inl (λ d is. is)
over_cases frame (infeasible_end v) = inl (λ d is. is)
over_cases frame (at_bound v) = inl (λ d is. is)
over_cases frame (after_bound v b) = inl (λ d is. is)
over_cases frame (at_value v b) = inl (λ d is. is)
over_cases frame (claim_end v k) = inl (λ d is. is)
over_cases frame (at_point v k) = inl (λ d is. is)
over_cases frame (at_values v k zs) = inl (λ d is. is)
over_cases frame (at_coordinate v k zs) = inl (λ d is. is)
over_cases frame (at_first_cut a ws) = inl (λ d is. is)
over_cases frame (at_cuts a ws) = inl (λ d is. is)
over_cases frame (at_node a ws) = inl (λ d is. is)
over_cases frame (at_scale a ws o) = inl (λ d is. is)
over_cases frame (at_rows a ws o s) = inl (λ d is. is)
over_cases frame (at_count a ws o s) = inl (λ d is. is)
over_cases frame (at_pairs a ws o s ps last n) = inl (λ d is. is)
over_cases frame (at_row a ws o s ps last n) = inl (λ d is. is)
over_cases frame (row_gap a ws o s ps r n) = inl (λ d is. is)
over_cases frame (at_multiplier a ws o s ps r n) = inl (λ d is. is)
over_cases frame (at_priced a ws o s ps) = inl (λ d is. is)
over_cases frame (at_blocks a ws o s ps ks last n) = inl (λ d is. is)
over_cases frame (at_block a ws o s ps ks last n) = inl (λ d is. is)
over_cases frame (leaf_end a ws o p) = inl (λ d is. is)
over_cases frame (at_variable a ws) = inl (λ d is. is)
over_cases frame (variable_gap a ws i) = inl (λ d is. is)
over_cases frame (at_place a ws i) = inl (λ d is. is)
over_cases frame (split_end a ws i z) = inl (λ d is. is)
over_cases frame (at_end a t) = inl (λ d is. is)
over_cases frame (last_end a t) = inl (λ d is. is)
over_cases frame (over a t) = inr (whole_of a t, (refl, refl))

-- a whole text has no fault
whole_unseen : (frame : texts.Frame) (stage : Stage) (number : Bool) (text : List ℕ) (line : ℕ) (kind : Kind) (c : Cert) → Reached frame stage number text → Follows frame c stage []
    → IsSeenFault frame text line kind → ⊥
whole_unseen frame stage number text line kind c r follows seen =
    let spells : IsOf frame c (r.before ++ []) = (r.follow c []).1 follows in
    let same : r.before ≡ tokens_of frame spells.version spells.written = sym (append-nil r.before) ∙ spells.tokens in
    let C : List Token → Type 0 = AreClean in
    certificates_have_no_fault frame spells.version (meant spells.version spells.written) text line kind
    (record { written = spells.written; form = spells.form; clean = subst C same r.clean; bytes = r.bytes ∙ ap text_of same; means = refl })
    (seen_faults_are_first frame text line kind seen)

nothing : (number : Bool) → MayStand number []
nothing true = tt
nothing false = tt

-- behind which nothing of a token has come
reached_unseen : (frame : texts.Frame) (stage : Stage) (number : Bool) (text : List ℕ) (line : ℕ) (kind : Kind) → Reached frame stage number text → IsSeenFault frame text line kind → ⊥
reached_unseen frame stage number text line kind r seen =
    ⊎_elim
    (λ going.
    let at_end : LeavesAt frame (text ++ []) (line_behind text) [] [] =
    leaves_fresh frame stage number text [] [] r (nothing number) (λ e. e) (λ v here. tt) (λ z of_sort. (tt, λ m is. tt)) (λ d is none. going d is) (λ k excess first begins. begins) in
    cut_unseen frame text (line_behind text) line kind (subst (λ (t : List ℕ). LeavesAt frame t (line_behind text) [] []) (append-nil text) at_end) seen)
    (λ whole. whole_unseen frame stage number text line kind whole.0 r whole.1 seen)
    (over_cases frame stage)

-- ---- a number whose end hasn't come

-- the token with which a text ends
text_push : (ts : List Token) (x : Token) → text_of (ts ++ x ∷ []) ≡ text_of ts ++ token_text x
text_push ts x = flat_map-append token_text ts (x ∷ []) ∙ ap (λ (t : List ℕ). text_of ts ++ t) (append-nil (token_text x))

-- it may be at fault
faulty_there : (frame : texts.Frame) (stage : Stage) (done : List ℕ) (z : ℤ) (kind : Kind) → Reached frame stage false done → IsOfSort (sort stage) z → number_fault frame stage z ≡ Some kind
    → (a : HasFaultyToken frame (done ++ signed_numeral z) (line_behind done) kind) × (a.token ≡ Figure z (number_fault frame stage z)) × (a.rest ≡ [])
faulty_there frame stage done z kind r of_sort fault =
    let x : Token = Figure z (number_fault frame stage z) in
    let more = goes_on_from frame (behind_number stage z) in
    let whole = (r.follow more.0 (x ∷ more.1)).1 ((number_leads frame more.0 stage z of_sort more.1).1 more.2) in (
      record {
        version = whole.version;
        written = whole.written;
        form = whole.form;
        before = r.before;
        token = x;
        after = more.1;
        rest = [];
        tokens = sym whole.tokens;
        clean = r.clean;
        fault = fault;
        bytes = ap (λ (t : List ℕ). t ++ signed_numeral z) r.bytes ∙ sym (text_push r.before x) ∙ sym (append-nil (text_of (r.before ++ x ∷ [])));
        ends = tt;
        line_is = ap line_behind r.bytes;
      },
      refl,
      refl,
    )

-- the end of a number isn't seen where nothing follows
end_unseen : (y : Token) (s : List ℕ) (z : ℤ) (fault : Option Kind) → y ≡ Figure z fault → s ≡ [] → EndIsSeen y s → ⊥
end_unseen (Words bytes) s z fault is none seen = cc
end_unseen (LineEnd other) s z fault is none seen = cc
end_unseen (Figure w other) [] z fault is none seen = seen
end_unseen (Figure w other) (b ∷ s) z fault is none seen = cc

-- a token at fault whose end is seen is no such number
last_unseen : (frame : texts.Frame) (text : List ℕ) (place line : ℕ) (own kind : Kind) (z : ℤ) (fault : Option Kind) (a : HasFaultyToken frame text place own) (b : HasFaultyToken frame text line kind)
    → a.token ≡ Figure z fault → a.rest ≡ [] → EndIsSeen b.token b.rest → ⊥
last_unseen frame text place line own kind z fault a b is none seen =
    let same = faulty_same frame text place line own kind a b in
    let front : text_of (a.before ++ a.token ∷ []) ≡ text_of (b.before ++ b.token ∷ []) =
    ap (λ (ts : List Token). text_of (ts ++ a.token ∷ [])) same.0 ∙ ap (λ (y : Token). text_of (b.before ++ y ∷ [])) same.1 in
    let rests : a.rest ≡ b.rest =
    append_cancel_left (text_of (a.before ++ a.token ∷ [])) a.rest b.rest (sym a.bytes ∙ b.bytes ∙ ap (λ (t : List ℕ). t ++ b.rest) (sym front)) in
    end_unseen b.token b.rest z fault (sym same.1 ∙ is) (sym rests ∙ none) seen

number_unseen : (frame : texts.Frame) (stage : Stage) (done : List ℕ) (z : ℤ) (line : ℕ) (kind : Kind) → Reached frame stage false done → IsOfSort (sort stage) z → is_deep_stage frame stage ≡ false
    → IsSeenFault frame (done ++ signed_numeral z) line kind → ⊥
number_unseen frame stage done z line kind r of_sort shallow seen = by (number_fault frame stage z) refl where
  deep_none : (own : Kind) → number_fault frame stage z ≡ Some own → HasDeepNumber frame (done ++ signed_numeral z) line kind → ⊥
  deep_none own is deep =
      let there = faulty_there frame stage done z own r of_sort is in
      let same : own ≡ kind = (deep_faulty frame (done ++ signed_numeral z) line (line_behind done) kind own deep there.0).1 in
      let wrong : true ≡ false = sym (number_deep frame stage z kind deep.excess (is ∙ ap Some same)).deep ∙ shallow in cc

  by : (fault : Option Kind) → number_fault frame stage z ≡ fault → ⊥
  by None none = reached_unseen frame (behind_number stage z) true (done ++ signed_numeral z) line kind (number_reached frame stage done z r of_sort none) seen
  by (Some own) is =
      let there = faulty_there frame stage done z own r of_sort is in
      ⊎_elim
      (λ faulty. last_unseen frame (done ++ signed_numeral z) (line_behind done) line own kind z (number_fault frame stage z) there.0 faulty.0 there.1 there.2 faulty.1)
      (λ other. ⊎_elim (λ deep. deep_none own is deep) (λ leaves. leaves.1 (line_behind done) own there.0) other)
      seen

-- ---- a text for which a reader stands

word_unseen : (frame : texts.Frame) (stage : Stage) (word : Word) (count : ℕ) (text : List ℕ) (line : ℕ) (kind : Kind) → 0 < count → IsInWord frame stage word count text
    → IsSeenFault frame text line kind → ⊥
word_unseen frame stage word count text line kind some part seen =
    let bytes = take count (word_text word) in
    let length_some : 0 < length (word_text word) = let less : count < length (word_text word) = part.within in omega arith in
    let whole : part.done ++ (bytes ++ []) ≡ text = ap (λ (xs : List ℕ). part.done ++ xs) (append-nil bytes) ∙ sym part.bytes in
    let place : ℕ = line_behind (part.done ++ bytes) in
    let at_end : LeavesAt frame (part.done ++ (bytes ++ [])) place [] [] =
    leaves_word frame stage part.number part.done [] [] word count part.reached part.comes some part.within (stands_part part.number (word_text word) [] count some length_some part.stands) tt (λ e. e) in
    cut_unseen frame text place line kind (subst (λ (t : List ℕ). LeavesAt frame t place [] []) whole at_end) seen

minus_unseen : (frame : texts.Frame) (stage : Stage) (text : List ℕ) (line : ℕ) (kind : Kind) → IsBehindMinus frame stage text → IsSeenFault frame text line kind → ⊥
minus_unseen frame stage text line kind part seen =
    let S : Sort → Type 0 = λ t. IsOfSort t (negsuc 0) in
    let place : ℕ = line_behind (part.done ++ 45 ∷ []) in
    let at_end : LeavesAt frame (part.done ++ 45 ∷ []) place [] [] =
    leaves_minus frame stage part.done [] [] part.reached (subst S (sym part.of_sort) tt) tt (λ e. e) in
    cut_unseen frame text place line kind (subst (λ (t : List ℕ). LeavesAt frame t place [] []) (sym part.bytes) at_end) seen

-- behind a minus a digit may make it the number of a node that is too deep, or of a cut that is one too many
deep_minus_unseen : (above : List Wait) (root : texts.Tree) (cuts : List texts.Cut) (frame : Frame) (r : Lines) (text : List ℕ) (line : ℕ) (kind : Kind)
    (stands : StandsFor above root cuts frame r text) → IsBehindDeepMinus (frame_of frame) (stage_of above root cuts r stands.count) text → IsSeenFault (frame_of frame) text line kind → ⊥
deep_minus_unseen above root cuts frame r text line kind stands part seen =
    let stage = stage_of above root cuts r stands.count in
    let front : List ℕ = part.done ++ 45 ∷ [] in
    let at_end : LeavesAt (frame_of frame) front (line_behind part.done) (45 ∷ []) [] = deep_minus_leaves above root cuts frame r text stands part [] [] (λ digit. digit) in
    let no_deep : HasNoDeepNumber (frame_of frame) front = subst (λ (t : List ℕ). HasNoDeepNumber (frame_of frame) t) (append-nil front) at_end.2 in
    let digit : (48 ≤ 48) × (48 ≤ 57) = (omega arith, omega arith) in
    let one_more : HasDeepNumber (frame_of frame) (front ++ 48 ∷ []) (line_behind part.done) (deep_kind stage) =
    subst (λ (t : List ℕ). HasDeepNumber (frame_of frame) t (line_behind part.done) (deep_kind stage)) (sym (append_assoc part.done (45 ∷ []) (48 ∷ [])))
    (deep_there (frame_of frame) stage part.done (45 ∷ 48 ∷ []) (line_behind part.done) part.reached part.deep (inr (refl, digit)) refl) in
    ⊎_elim
    (λ faulty. at_end.0 line kind faulty.0)
    (λ other. ⊎_elim (λ deep. no_deep line kind deep) (λ leaves. leaves.2 (48 ∷ []) (line_behind part.done) (deep_kind stage) one_more) other)
    (subst (λ (t : List ℕ). IsSeenFault (frame_of frame) t line kind) part.bytes seen)

digits_unseen : (frame : texts.Frame) (stage : Stage) (negative : Bool) (value : ℕ) (text : List ℕ) (line : ℕ) (kind : Kind) → IsInNumber frame stage negative value text
    → IsSeenFault frame text line kind → ⊥
digits_unseen frame stage negative value text line kind part seen =
    number_unseen frame stage part.done (signed negative part.number) line kind part.reached part.of_sort part.shallow
    (subst (λ (t : List ℕ). IsSeenFault frame t line kind) part.bytes seen)

part_unseen : (above : List Wait) (root : texts.Tree) (cuts : List texts.Cut) (frame : Frame) (r : Lines) (text : List ℕ) (line : ℕ) (kind : Kind) (stands : StandsFor above root cuts frame r text) (part : Part)
    → IsPart (frame_of frame) (stage_of above root cuts r stands.count) part text → IsSeenFault (frame_of frame) text line kind → ⊥
part_unseen above root cuts frame r text line kind stands Fresh p = reached_unseen (frame_of frame) (stage_of above root cuts r stands.count) false text line kind p
part_unseen above root cuts frame r text line kind stands (InWord word count) p = word_unseen (frame_of frame) (stage_of above root cuts r stands.count) word count text line kind p.0 p.1
part_unseen above root cuts frame r text line kind stands Minus p = minus_unseen (frame_of frame) (stage_of above root cuts r stands.count) text line kind p
part_unseen above root cuts frame r text line kind stands DeepMinus p = deep_minus_unseen above root cuts frame r text line kind stands p
part_unseen above root cuts frame r text line kind stands (Digits negative value) p = digits_unseen (frame_of frame) (stage_of above root cuts r stands.count) negative value text line kind p

-- ---- a text for which a checker stands

told_by : (b : BlockedProgram) (visits : Option ℕ) (c : Checker) (text : List ℕ) (fault : Option FeedFault) → c.fault ≡ fault → IsMadeFor b c → ChecksFor b visits c text
    → TellsSeen b text (answer_by fault)
told_by b visits c text None none made h = λ line kind seen.
    let so = judged_so b visits c text none h in
    let reads = so.3.reads in
    part_unseen (map wait_of so.0) (written_tree so.1) (map written_cut so.2) c.frame c.lines text line kind reads c.lines.part reads.part
    (subst (λ (x : texts.Frame). IsSeenFault x text line kind) (sym made.frame) seen)
told_by b visits c text (Some f.NoMemory) is made h = tt
told_by b visits c text (Some (f.At line kind)) is made h = subst (StandsBy b visits c text) is h

-- what is answered tells the fault that is seen, as soon as there is one
pub tells_seen : (b : BlockedProgram) (visits : Option ℕ) (c : Checker) (text : List ℕ) (result : Result (Unit {0}) FeedFault) → result ≡ answer_by c.fault → IsMadeFor b c
    → ChecksFor b visits c text → TellsSeen b text result
tells_seen b visits c text result told made h = subst (TellsSeen b text) (sym told) (told_by b visits c text c.fault refl made h)
