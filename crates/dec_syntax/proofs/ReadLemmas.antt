-- How far a text has been read: the tokens so far are without fault.
use Rattle.std.proofs.Common.{◌≡◌, ℕ, ◌≤◌, suc, zero, true, List, [], ◌∷◌, ◌++◌, length, take, drop, reverse, refl, sym, ◌∙◌, ap, subst, inl, inr, arith, Option, None, Some, Ok}
use Rattle.std.proofs.lemmas.Bool.{cases_lt, cases_order}
use Rattle.std.proofs.lemmas.List.{reverse-append, take_all}
use Rattle.std.specs.Prelude.{slice_get, option_and_then}
use Rattle.bp_model.specs.Named.{NamedProgram}
use Rattle.dec_syntax.specs.Cut.{Token, tokens}
use Rattle.dec_syntax.specs.Scan.{tokens_at}
use Rattle.dec_syntax.specs.Parts.{Part, parts, part_of, parts_before, parts_of}
use Rattle.dec_syntax.specs.Faults.{token_fault, fault_at}
use Rattle.dec_syntax.specs.State.{HasRead, StandsBefore, Takes}
use Rattle.dec_syntax.specs.declared.state.Reader.{Reader}
use Rattle.dec_syntax.specs.declared.kind.DecKind.{DecKind}
use Rattle.dec_syntax.proofs.FaultLemmas.{no_fault_past}

-- before the first token
pub read_none : (text : List ℕ) (m : NamedProgram) → HasRead text m (tokens_at text (record { at = 0; line = 1; first = true })) []
unfolding tokens_at tokens parts_before parts
read_none text m = record { place = 0; left_is = refl; earlier_is = refl; faultless = λ k l. absurd (omega arith) }

head_same : (a b : Token) (xs ys : List Token) → a ∷ xs ≡ b ∷ ys → a ≡ b
head_same a b xs ys e = cc

tail_same : (a b : Token) (xs ys : List Token) → a ∷ xs ≡ b ∷ ys → xs ≡ ys
tail_same a b xs ys e = cc

no_cons : (a : Token) (xs : List Token) → a ∷ xs ≡ [] → ⊥
no_cons a xs e = cc

-- the first of what is left
pub next_is : (ts : List Token) (i : ℕ) (token : Token) (rest : List Token) → token ∷ rest ≡ drop i ts → (slice_get ts i ≡ Some token) × (rest ≡ drop (suc i) ts)
next_is [] zero token rest e = absurd (no_cons token rest e)
next_is [] (suc i) token rest e = absurd (no_cons token rest e)
next_is (t ∷ ts) zero token rest e = (ap Some (sym (head_same token t rest ts e)), tail_same token t rest ts e)
next_is (t ∷ ts) (suc i) token rest e = next_is ts i token rest e

take_next : (ts : List Token) (i : ℕ) (token : Token) → slice_get ts i ≡ Some token → take (suc i) ts ≡ take i ts ++ (token ∷ [])
take_next [] i token e = absurd (let odd : ◌≡◌ {A = Option Token} None (Some token) = e in cc)
take_next (t ∷ ts) zero token e = let same : t ≡ token = cc in ap (λ (x : Token). x ∷ []) same
take_next (t ∷ ts) (suc i) token e = ap (λ (xs : List Token). t ∷ xs) (take_next ts i token e)

pub parts_next : (ts : List Token) (i : ℕ) (token : Token) → slice_get ts i ≡ Some token → parts_before ts (suc i) ≡ part_of (parts_before ts i) token ∷ parts_before ts i
unfolding parts_before parts
parts_next ts i token e = ap (λ (xs : List Token). parts (reverse xs)) (take_next ts i token e) ∙ ap parts (reverse-append (take i ts) (token ∷ []))

pub here : (m : NamedProgram) (ts : List Token) (i : ℕ) (token : Token) (earlier : List Part) → slice_get ts i ≡ Some token → earlier ≡ parts_before ts i → fault_at m ts i ≡ token_fault m earlier token
unfolding fault_at
here m ts i token earlier e is = ap (option_and_then (token_fault m (parts_before ts i))) e ∙ ap (λ (p : List Part). token_fault m p token) (sym is)

-- one more token without fault
pub read_more : (text : List ℕ) (m : NamedProgram) (left rest : List Token) (earlier : List Part) (token : Token) → HasRead text m left earlier → left ≡ token ∷ rest
    → token_fault m earlier token ≡ None → HasRead text m rest (part_of earlier token ∷ earlier)
read_more text m left rest earlier token h e none =
    let next = next_is (tokens text) h.place token rest (sym e ∙ h.left_is) in
    record {
      place = suc h.place;
      left_is = next.1;
      earlier_is = ap (λ (p : List Part). part_of p token ∷ p) h.earlier_is ∙ sym (parts_next (tokens text) h.place token next.0);
      faultless = λ k l. elim (cases_order k h.place) [
        | inl s ↦ ap (fault_at m (tokens text)) s ∙ here m (tokens text) h.place token earlier next.0 h.earlier_is ∙ none
        | inr (inl s) ↦ h.faultless k s
        | inr (inr s) ↦ absurd (omega arith)
      ];
    }

none_left : (ts : List Token) (i : ℕ) → [] ≡ drop i ts → length ts ≤ i
none_left [] i e = omega arith
none_left (t ∷ ts) zero e = absurd (no_cons t ts (sym e))
none_left (t ∷ ts) (suc i) e = let more : length ts ≤ i = none_left ts i e in omega arith

-- all tokens are read
pub read_all : (text : List ℕ) (m : NamedProgram) (left : List Token) (earlier : List Part) → HasRead text m left earlier → left ≡ [] → ((i : ℕ) → fault_at m (tokens text) i ≡ None) × (earlier ≡ parts_of text)
unfolding parts_before
read_all text m left earlier h e =
    let past : length (tokens text) ≤ h.place = none_left (tokens text) h.place (sym e ∙ h.left_is) in
    let none : (i : ℕ) → fault_at m (tokens text) i ≡ None = λ i. elim (cases_lt i h.place) [ inl s ↦ h.faultless i s | inr s ↦ no_fault_past m (tokens text) i (omega arith) ] in
    let same : take h.place (tokens text) ≡ take (length (tokens text)) (tokens text) = take_all h.place (tokens text) past ∙ sym (take_all (length (tokens text)) (tokens text) (omega arith)) in
    (none, h.earlier_is ∙ ap (λ (xs : List Token). parts (reverse xs)) same)

-- a token is taken without fault
pub stands_more : (text : List ℕ) (m : NamedProgram) (reader new : Reader) (left rest : List Token) (token : Token) (fault : Option DecKind) (b : StandsBefore text m reader left) → left ≡ token ∷ rest
    → Takes m new b.earlier token (Ok fault) → fault ≡ None → StandsBefore text m new rest
stands_more text m reader new left rest token fault b e taken none =
    let kept = subst (λ (o : Option DecKind). Takes m new b.earlier token (Ok o)) none taken in
    record { earlier = part_of b.earlier token ∷ b.earlier; has_read = read_more text m left rest b.earlier token b.has_read e kept.0; keeps = kept.1 }
