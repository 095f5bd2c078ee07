-- The files are answered by one status.
use Rattle.std.proofs.Common.{◌≡◌, refl, sym, ap, subst, ◌∙◌, ℕ, List, [], get_or, Option, Some}
use Rattle.std.proofs.lemmas.List.{get_or_append_left}
use Rattle.bp_theory.specs.declared.Limits.{Limits}
use Rattle.bp_theory.specs.Claims.{Certificate}
use Rattle.bp_theory.specs.declared.Cut.{Cut}
use Rattle.cert_format.specs.Fault.{IsCertText}
use Rattle.cert_format.specs.Written.{cert_of}
use Rattle.cert_text.specs.Programs.{frame_for}
use Rattle.bp_shelf.specs.Shelf.{Files}
use Rattle.block_program.specs.Blocked.{BlockedProgram, IsFormed}
use Rattle.branch_tree.specs.declared.loaded.Loaded.{Loaded}
use Rattle.frontend.specs.Front.{blocked, ends}
use Rattle.frontend.specs.Written.{Answer, stops}
use Rattle.bp_report.specs.Refusals.{merge_refusal}
use Rattle.frontend.proofs.OneFront.{one_front, plain_front}
use Rattle.frontend.proofs.Written.{HasOneStatus, one_text, no_text}
use Rattle.cmd_certificates.specs.Opens.{IsOpened, RefusesText, RefusesFile, missing, refused}
use Rattle.cmd_certificates.proofs.OneText.{one_refusal, one_certificate, opened_or_refused}
use Rattle.cmd_certificates.specs.Merges.{cut_line, IsLonger, IsFirstApart, AnswersBoth, MergesBlocked, first, second, apart, merged, Merges, stopped, went_on}

one_refused : (files : Files) (b : BlockedProgram) (name : List ℕ) (a c : Answer) → IsFormed b → RefusesFile files b name a → RefusesFile files b name c → a.status ≡ c.status
one_refused files b name a c formed (missing x) (missing y) = refl
one_refused files b name a c formed (missing x) (refused text s r there refuses) = absurd (no_text (files name) text x there)
one_refused files b name a c formed (refused text s r there refuses) (missing y) = absurd (no_text (files name) text y there)
one_refused files b name a c formed (refused text s r there refuses) (refused text' s' r' there' refuses') =
    one_refusal b text s s' r r' formed refuses (subst (λ (t : List ℕ). RefusesText b t s' r') (one_text (files name) text' text there' there) refuses')

-- a file is a start or refused as one, and not both
no_refused : (files : Files) (b : BlockedProgram) (name text : List ℕ) (from : Loaded) (a : Answer) → IsFormed b → files name ≡ Some text → IsOpened b text from
    → RefusesFile files b name a → ⊥
no_refused files b name text from a formed there start (missing x) = no_text (files name) text x there
no_refused files b name text from a formed there start (refused text' s r there' refuses) =
    opened_or_refused b text from s r formed start (subst (λ (t : List ℕ). RefusesText b t s r) (one_text (files name) text' text there' there) refuses)

-- ---- two certificates

-- lists that one other begins with have no first place apart
not_apart : (one other cuts : List Cut) (number : ℕ) → IsLonger one other cuts → IsFirstApart one other number → ⊥
not_apart one other cuts number longer found =
    let none : Cut = record { q = 0; rows = [] } in
    found.apart none
    (sym (get_or_append_left one longer.first.0 none number found.first)
    ∙ ap (λ (all : List Cut). get_or all number none) (sym longer.first.1 ∙ longer.second.1)
    ∙ get_or_append_left other longer.second.0 none number found.second)

-- two files are one pair of certificates
same_cuts : (files : Files) (b : BlockedProgram) (name text text' : List ℕ) (from from' : Loaded) → files name ≡ Some text → files name ≡ Some text'
    → (x : IsOpened b text from) (y : IsOpened b text' from') → y.cert.cuts ≡ x.cert.cuts
same_cuts files b name text text' from from' there there' x y =
    let here : IsCertText (frame_for b) (cert_of y.cert) text =
    subst (λ (t : List ℕ). IsCertText (frame_for b) (cert_of y.cert) t) (one_text (files name) text' text there' there) y.spelled in
    ap (λ (c : Certificate). c.cuts) (one_certificate b text y.cert x.cert here x.spelled y.has_point x.has_point)

both_done : (c : BlockedProgram) (one other : Certificate) (from further : Loaded) (a : Answer) → AnswersBoth c one other from further a → a.status ≡ 0
both_done c one other from further a h = ap (λ (e : Answer). e.status) h.is

-- what both certificates are answered, which are opened
pub data AnswersPair (files : Files) (b : BlockedProgram) (one other : List ℕ) : Answer → Type 0 where
  apart_at : (text more : List ℕ) (from further : Loaded) (number : ℕ) → files one ≡ Some text → files other ≡ Some more
      → (x : IsOpened b text from) → (y : IsOpened b more further) → IsFirstApart x.cert.cuts y.cert.cuts number
      → AnswersPair files b one other (stops 3 (merge_refusal (cut_line y.cert.point number)))
  merged_as : (text more : List ℕ) (from further : Loaded) (cuts : List Cut) (a : Answer) → files one ≡ Some text → files other ≡ Some more
      → (x : IsOpened b text from) → (y : IsOpened b more further) → IsLonger x.cert.cuts y.cert.cuts cuts → a.status ≡ 0 → AnswersPair files b one other a

one_pair : (files : Files) (b : BlockedProgram) (one other : List ℕ) (a c : Answer) → AnswersPair files b one other a → AnswersPair files b one other c → a.status ≡ c.status
one_pair files b one other a c (apart_at text more from further number there near x y found) (apart_at text' more' from' further' number' there' near' x' y' found') = refl
one_pair files b one other a c (apart_at text more from further number there near x y found) (merged_as text' more' from' further' cuts _ there' near' x' y' longer done) =
    absurd (not_apart x.cert.cuts y.cert.cuts cuts number
    (subst (λ (cs : List Cut). IsLonger cs y.cert.cuts cuts) (same_cuts files b one text text' from from' there there' x x')
    (subst (λ (cs : List Cut). IsLonger x'.cert.cuts cs cuts) (same_cuts files b other more more' further further' near near' y y') longer)) found)
one_pair files b one other a c (merged_as text more from further cuts _ there near x y longer done) (apart_at text' more' from' further' number there' near' x' y' found) =
    absurd (not_apart x'.cert.cuts y'.cert.cuts cuts number
    (subst (λ (cs : List Cut). IsLonger cs y'.cert.cuts cuts) (same_cuts files b one text' text from' from there' there x' x)
    (subst (λ (cs : List Cut). IsLonger x.cert.cuts cs cuts) (same_cuts files b other more' more further' further near' near y' y) longer)) found)
one_pair files b one other a c (merged_as text more from further cuts _ there near x y longer done) (merged_as text' more' from' further' cuts' _ there' near' x' y' longer' done') =
    done ∙ sym done'

-- one of three: the first is refused, or else the second, or else both are opened
pub data AnswersOne (files : Files) (b : BlockedProgram) (one other : List ℕ) (a : Answer) : Type 0 where
  refused_first : RefusesFile files b one a → AnswersOne files b one other a
  refused_second : (text : List ℕ) (from : Loaded) → files one ≡ Some text → IsOpened b text from → RefusesFile files b other a → AnswersOne files b one other a
  opened_both : (text more : List ℕ) (from further : Loaded) → files one ≡ Some text → files other ≡ Some more → IsOpened b text from → IsOpened b more further
      → AnswersPair files b one other a → AnswersOne files b one other a

answers_one : (files : Files) (b : BlockedProgram) (one other : List ℕ) (a : Answer) → MergesBlocked files b one other a → AnswersOne files b one other a
answers_one files b one other a (first _ x) = refused_first x
answers_one files b one other a (second text from _ there start x) = refused_second text from there start x
answers_one files b one other a (apart text more from further number there near x y found) =
    opened_both text more from further there near x y (apart_at text more from further number there near x y found)
answers_one files b one other a (merged text more from further c _ there near x y over h) =
    opened_both text more from further there near x y
    (merged_as text more from further over.0 a there near x y over.1 (both_done c x.cert y.cert from further a h))

one_merge : (files : Files) (b : BlockedProgram) (one other : List ℕ) (a c : Answer) → IsFormed b → MergesBlocked files b one other a → MergesBlocked files b one other c → a.status ≡ c.status
one_merge files b one other a c formed h g = by (answers_one files b one other a h) (answers_one files b one other c g)
  where
    by : AnswersOne files b one other a → AnswersOne files b one other c → a.status ≡ c.status
    by (refused_first x) (refused_first y) = one_refused files b one a c formed x y
    by (refused_first x) (refused_second text from there start y) = absurd (no_refused files b one text from a formed there start x)
    by (refused_first x) (opened_both text more from further there near start beside y) = absurd (no_refused files b one text from a formed there start x)
    by (refused_second text from there start x) (refused_first y) = absurd (no_refused files b one text from c formed there start y)
    by (refused_second text from there start x) (refused_second text' from' there' start' y) = one_refused files b other a c formed x y
    by (refused_second text from there start x) (opened_both text' more from' further there' near start' beside y) =
        absurd (no_refused files b other more further a formed near beside x)
    by (opened_both text more from further there near start beside x) (refused_first y) = absurd (no_refused files b one text from c formed there start y)
    by (opened_both text more from further there near start beside x) (refused_second text' from' there' start' y) =
        absurd (no_refused files b other more further c formed near beside y)
    by (opened_both text more from further there near start beside x) (opened_both text' more' from' further' there' near' start' beside' y) = one_pair files b one other a c x y

pub one_answer : (limits : Limits) (files : Files) (lp one other : List ℕ) (dec : Option (List ℕ)) → HasOneStatus (Merges limits files lp one other dec)
one_answer limits files lp one other dec a c (stopped s r x) (stopped s' r' y) = one_front limits files lp dec (ends s r) (ends s' r') x y
one_answer limits files lp one other dec a c (stopped s r x) (went_on b _ y h) = absurd (one_front limits files lp dec (ends s r) (blocked b) x y)
one_answer limits files lp one other dec a c (went_on b _ x h) (stopped s r y) = absurd (one_front limits files lp dec (blocked b) (ends s r) x y)
one_answer limits files lp one other dec a c (went_on b _ x h) (went_on b' _ y h') =
    let same : b' ≡ b = one_front limits files lp dec (blocked b') (blocked b) y x in
    one_merge files b one other a c (plain_front limits files lp dec (blocked b) x).0 h (subst (λ (d : BlockedProgram). MergesBlocked files d one other c) same h')
