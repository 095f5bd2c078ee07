-- A checker that is fed the bytes of a file as they are read.
use Rattle.std.proofs.Common.{◌≡◌, ◌≤◌, ◌<◌, ◌+◌, ◌^◌, refl, sym, ap, subst, ◌∙◌, ℕ, Bool, true, false, IsTrue, List, [], ◌++◌, take, drop, length, Option, Some, None, IsSome, IfSome, length-append, arith, ⊎_elim, zero, suc, get_or, ◌∷◌, Result, Ok, Err, IsOk, IsErrAnd, inl, inr}
use Rattle.std.proofs.lemmas.List.{take_all, take-append-drop, append-nil}
use Rattle.std.proofs.Math.Seq.{take-add}
use Rattle.bp_shelf.specs.Shelf.{AllShort, Files}
use Rattle.block_program.specs.Blocked.{BlockedProgram}
use Rattle.cert_stream.specs.Checks.{ChecksFor, IsMadeFor, answer_by}
use Rattle.cert_stream.specs.declared.checker.Checker.{Checker}
use Rattle.cert_stream.specs.declared.fault.FeedFault.{FeedFault}
use Rattle.cert_stream.proofs.Stepping.{fault_stays}
use Rattle.cmd_check.specs.Replies.{StandsForFront, StandsForFile}
use Rattle.std.specs.List.{Contains, FoldsTo, concat}
use Rattle.std.proofs.lemmas.Bool.{cases_lt}
use Rattle.std.proofs.lemmas.Fn.{FoldsTo-push}
use Rattle.std.proofs.lemmas.List.Elements.{Contains-append_cases, Contains-append_right}
use Rattle.std.proofs.lemmas.List.Folds.{concat-append}
use Rattle.bp_shelf.specs.declared.shelf.ShelfFault.{ShelfFault}
use Rattle.cert_format.specs.Fault.{IsSeenFault}
use Rattle.cert_format.specs.declared.fault.CertKind.{CertKind}
use Rattle.cert_text.specs.Programs.{frame_for}
use Rattle.cert_stream.proofs.Waiting.{tells_seen}
use Rattle.cmd_check.specs.Reading.{IsBeyondMending, Settles, AsksForFewest}

-- of each file the first bytes, none of them
nothing_read : (file : Option (List ℕ)) → IfSome file (λ all. [] ≡ take 0 all)
nothing_read None = tt
nothing_read (Some all) = refl

pub front_begins : (told : Bool) (file : Option (List ℕ)) (b : BlockedProgram) (visits : Option ℕ) (checker : Checker) → ChecksFor b visits checker [] → StandsForFront told file b visits checker 0
front_begins told file b visits checker h = record { text = []; stands = h; size = refl; front = λ is_told. nothing_read file }

-- the bytes behind the first ones
joined_front : (all text piece : List ℕ) (at count : ℕ) → text ≡ take at all → piece ≡ take count (drop at all) → text ++ piece ≡ take (at + count) all
joined_front all text piece at count front next =
    ap (λ (t : List ℕ). t ++ piece) front ∙ ap (λ (t : List ℕ). take at all ++ t) next ∙ sym (take-add at count all)

next_read : (file : Option (List ℕ)) (text piece : List ℕ) (at count : ℕ) → IfSome file (λ all. text ≡ take at all) → IfSome file (λ all. piece ≡ take count (drop at all))
    → IfSome file (λ all. text ++ piece ≡ take (at + count) all)
next_read None text piece at count front next = tt
next_read (Some all) text piece at count front next = joined_front all text piece at count front next

-- behind a further piece
pub front_goes_on : (told : Bool) (file : Option (List ℕ)) (b : BlockedProgram) (visits : Option ℕ) (old new : Checker) (piece : List ℕ) (at count : ℕ) → length piece ≡ count
    → (IsTrue told → IfSome file (λ all. piece ≡ take count (drop at all)))
    → ((text : List ℕ) → ChecksFor b visits old text → ChecksFor b visits new (text ++ piece))
    → StandsForFront told file b visits old at → StandsForFront told file b visits new (at + count)
front_goes_on told file b visits old new piece at count size next feeds h = record {
  text = h.text ++ piece;
  stands = feeds h.text h.stands;
  size = omega (arith, length-append h.text piece, h.size, size);
  front = λ is_told. next_read file h.text piece at count (h.front is_told) (next is_told);
}

no_file : IsSome (let o : Option (List ℕ) = None in o) → ⊥
no_file there = cc

whole_front : (file : Option (List ℕ)) (text : List ℕ) (at : ℕ) → IsSome file → IfSome file (λ all. text ≡ take at all) → IfSome file (λ all. length all ≤ at) → file ≡ Some text
whole_front None text at there front ends = absurd (no_file there)
whole_front (Some all) text at there front ends = ap (λ (t : List ℕ). let o : Option (List ℕ) = Some t in o) (sym (front ∙ take_all at all ends))

-- at the file's end
pub front_ends : (told : Bool) (file : Option (List ℕ)) (b : BlockedProgram) (visits : Option ℕ) (checker : Checker) (at : ℕ) → (IsTrue told → IsSome file)
    → (IsTrue told → IfSome file (λ all. length all ≤ at)) → StandsForFront told file b visits checker at → StandsForFile told file b visits checker
front_ends told file b visits checker at there ends h = record {
  text = h.text;
  stands = h.stands;
  there = λ is_told. whole_front file h.text at (there is_told) (h.front is_told) (ends is_told);
}

ends_later : (file : Option (List ℕ)) (at count : ℕ) → IfSome file (λ all. length all ≤ at) → IfSome file (λ all. length all ≤ at + count)
ends_later None at count ends = tt
ends_later (Some all) at count ends = omega (arith, ends)

-- at the file's end, behind a piece that was read there
pub front_read_ends : (told : Bool) (file : Option (List ℕ)) (b : BlockedProgram) (visits : Option ℕ) (checker : Checker) (at count : ℕ) → (IsTrue told → IsSome file)
    → (IsTrue told → IfSome file (λ all. length all ≤ at)) → StandsForFront told file b visits checker (at + count) → StandsForFile told file b visits checker
front_read_ends told file b visits checker at count there ends h = front_ends told file b visits checker (at + count) there (λ is_told. ends_later file at count (ends is_told)) h

-- at a fault, which no further bytes can mend
pub front_stops : (told : Bool) (file : Option (List ℕ)) (b : BlockedProgram) (visits : Option ℕ) (checker : Checker) (at : ℕ) (fault : FeedFault) → checker.fault ≡ Some fault
    → (IsTrue told → IsSome file) → StandsForFront told file b visits checker at → StandsForFile told file b visits checker
front_stops false file b visits checker at fault is there h = record { text = h.text; stands = h.stands; there = λ is_told. absurd (cc) }
front_stops true None b visits checker at fault is there h = absurd (no_file (there refl))
front_stops true (Some all) b visits checker at fault is there h =
    let front : h.text ≡ take at all = h.front refl in
    let whole : h.text ++ drop at all ≡ all = ap (λ (t : List ℕ). t ++ drop at all) front ∙ take-append-drop at all in
    record {
      text = all;
      stands = subst (ChecksFor b visits checker) whole (fault_stays b visits checker checker h.text (drop at all) fault is is h.stands);
      there = λ is_told. refl;
    }

-- a file is shorter than the limit of files
pub short_front : (files : Files) (name : List ℕ) (at : ℕ) → AllShort files → 2 ^ 62 ≤ at → IfSome (files name) (λ all. length all ≤ at)
short_front files name at short far = by (files name) refl where
  by : (file : Option (List ℕ)) → files name ≡ file → IfSome file (λ all. length all ≤ at)
  by None is = tt
  by (Some all) is = let less : length all < 2 ^ 62 = short name all is in omega (arith, less, far)

-- ---- piece by piece

-- what each call keeps, all of them keep
pub kept_along : {S X : Type 0} (asks : S → List ℕ → S → Type 0) (f : S → X) → ((p : S) (piece : List ℕ) (q : S) → asks p piece q → f q ≡ f p) → (p : S) (pieces : List (List ℕ)) (q : S) → FoldsTo asks p pieces q → f q ≡ f p
kept_along asks f each p [] q h = ap f (sym h)
kept_along asks f each p (piece ∷ pieces) q h = kept_along asks f each h.0 pieces q h.2 ∙ each p piece h.0 h.1

-- pieces were asked for, none of them empty, and the checker stands for them together
pub record HasRead {S : Type 0} (asks : S → List ℕ → S → Type 0) (told : Bool) (file : Option (List ℕ)) (b : BlockedProgram) (visits : Option ℕ) (checker : Checker) (old new : S) (count : ℕ) : Type 0 where
  pub pieces : List (List ℕ)
  pub asked : FoldsTo asks old pieces new
  pub some : Contains pieces [] → ⊥
  pub front : StandsForFront told file b visits checker count
  pub joined : front.text ≡ concat pieces

none_empty : Contains {X = List ℕ} [] [] → ⊥
none_empty h = omega (arith, h.1)

pub nothing_asked : {S : Type 0} (asks : S → List ℕ → S → Type 0) (told : Bool) (file : Option (List ℕ)) (b : BlockedProgram) (visits : Option ℕ) (checker : Checker) (s : S) (count : ℕ) → count ≡ 0
    → ChecksFor b visits checker [] → HasRead asks told file b visits checker s s count
unfolding front_begins
nothing_asked asks told file b visits checker s count start h =
    subst (λ n. HasRead asks told file b visits checker s s n) (sym start) (record {
      pieces = [];
      asked = refl;
      some = none_empty;
      front = front_begins told file b visits checker h;
      joined = refl;
    })

one_more : (pieces : List (List ℕ)) (piece : List ℕ) → concat (pieces ++ piece ∷ []) ≡ concat pieces ++ piece
one_more pieces piece = concat-append pieces (piece ∷ []) ∙ ap (λ (t : List ℕ). concat pieces ++ t) (append-nil piece)

not_empty : (piece : List ℕ) → 0 < length piece → Contains (piece ∷ []) [] → ⊥
not_empty piece some h = by piece h.0 h.1 some h.2 where
  by : (piece : List ℕ) (k : ℕ) → k < 1 → 0 < length piece → get_or (piece ∷ []) k [] ≡ [] → ⊥
  by [] k less some is = omega (arith, some)
  by (x ∷ xs) zero less some is = cc
  by (x ∷ xs) (suc k) less some is = omega (arith, less)

-- a further piece, which isn't empty
pub asked_on : {S : Type 0} (asks : S → List ℕ → S → Type 0) (told : Bool) (file : Option (List ℕ)) (b : BlockedProgram) (visits : Option ℕ) (was is : Checker) (old mid new : S) (piece : List ℕ) (at count : ℕ)
    → asks mid piece new → length piece ≡ count → 0 < count → (IsTrue told → IfSome file (λ all. piece ≡ take count (drop at all)))
    → ((text : List ℕ) → ChecksFor b visits was text → ChecksFor b visits is (text ++ piece))
    → HasRead asks told file b visits was old mid at → HasRead asks told file b visits is old new (at + count)
unfolding front_goes_on
asked_on asks told file b visits was is old mid new piece at count asked size some bytes feeds h = record {
  pieces = h.pieces ++ piece ∷ [];
  asked = FoldsTo-push asks old h.pieces mid piece new h.asked asked;
  some = λ empty. ⊎_elim h.some (not_empty piece (omega (arith, size, some))) (Contains-append_cases h.pieces (piece ∷ []) [] empty);
  front = front_goes_on told file b visits was is piece at count size bytes feeds h.front;
  joined = ap (λ (t : List ℕ). t ++ piece) h.joined ∙ sym (one_more h.pieces piece);
}

unsettled : (b : BlockedProgram) (visits : Option ℕ) (checker : Checker) (text : List ℕ) (pieces : List (List ℕ)) → checker.fault ≡ None → IsMadeFor b checker → ChecksFor b visits checker text → text ≡ concat pieces
    → (Contains pieces [] → ⊥) → Settles b pieces → ⊥
unsettled b visits checker text pieces none made stands joined some settled =
    ⊎_elim some
    (λ (there : IsBeyondMending b (concat pieces)).
    tells_seen b visits checker text (Ok tt) (ap answer_by (sym none)) made stands there.0 there.1 (subst (λ (t : List ℕ). IsSeenFault (frame_for b) t there.0 there.1) (sym joined) there.2))
    settled

-- a last piece, behind which none is asked for
pub asked_last : {S : Type 0} (asks : S → List ℕ → S → Type 0) (told : Bool) (file : Option (List ℕ)) (b : BlockedProgram) (visits : Option ℕ) (checker : Checker) (old mid new : S) (last : List ℕ) (at : ℕ)
    (result : Result (Unit {0}) ShelfFault) → checker.fault ≡ None → IsMadeFor b checker → asks mid last new → (h : HasRead asks told file b visits checker old mid at)
    → (IsOk result → Settles b (h.pieces ++ last ∷ [])) → AsksForFewest b asks old new result
asked_last asks told file b visits checker old mid new last at result none made asked h settled = record {
  pieces = h.pieces;
  last = last;
  asked = FoldsTo-push asks old h.pieces mid last new h.asked asked;
  unsettled = unsettled b visits checker h.front.text h.pieces none made h.front.stands h.joined h.some;
  settled = settled;
}

-- the file's end
pub settles_end : (b : BlockedProgram) (pieces : List (List ℕ)) (last : List ℕ) → last ≡ [] → Settles b (pieces ++ last ∷ [])
settles_end b pieces last empty = inl (Contains-append_right pieces (last ∷ []) [] (0, omega arith, empty))

-- a fault
pub settles_fault : (b : BlockedProgram) (pieces : List (List ℕ)) (text last : List ℕ) (line : ℕ) (kind : CertKind) → text ≡ concat pieces → IsSeenFault (frame_for b) (text ++ last) line kind
    → Settles b (pieces ++ last ∷ [])
settles_fault b pieces text last line kind joined seen =
    inr (line, kind, subst (λ (t : List ℕ). IsSeenFault (frame_for b) t line kind) (ap (λ (t : List ℕ). t ++ last) joined ∙ sym (one_more pieces last)) seen)

-- a call that gives a byte begins below the limit of files
pub below_limit : (at count : ℕ) → (2 ^ 62 ≤ at → count ≡ 0) → 0 < count → at < 2 ^ 62
below_limit at count far some = ⊎_elim (λ less. less) (λ more. absurd (no_byte (far more))) (cases_lt at (2 ^ 62)) where
  no_byte : count ≡ 0 → ⊥
  no_byte same = omega (arith, same, some)

-- a fault is no answer
pub fault_is_not_ok : (P : ShelfFault → Type 0) (result : Result (Unit {0}) ShelfFault) → IsErrAnd result P → IsOk result → ⊥
fault_is_not_ok P (Ok x) fault ok = fault
fault_is_not_ok P (Err e) fault ok = cc
