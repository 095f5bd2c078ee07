-- The line of a token, by how many more stand before it.
use Rattle.std.proofs.Common.{◌≡◌, ℕ, zero, suc, ◌-◌, true, false, List, [], ◌∷◌, length, refl, sym, ◌∙◌, ap, subst, arith}
use Rattle.std.specs.Prelude.{MatchBool}
use Rattle.lp_token.specs.declared.Tok.{Tok}
use Rattle.lp_token.specs.declared.fault.LpFault.{LpFault}
use Rattle.lp_token.specs.Cut.{IsGap, IsToken, is_end, CutFrom, Cut, IsNextFault}
use Rattle.lp_token.proofs.Cuts.{cut_next, cut_none, cut_sound}
use Rattle.lp_semantics.specs.Reading.{line_of}

-- what is sought of all tokens is sought of those from a place on
abbrev pub Sought : List ℕ → ℕ → ℕ → ℕ → Type 0
Sought text count place left = (tokens : List Tok) → Cut text tokens → (rest : List Tok) × CutFrom text place rest × (line_of tokens count ≡ line_of rest left)

pub seek_start : (text : List ℕ) (count place : ℕ) → place ≡ 0 → Sought text count place count
unfolding Cut
seek_start text count place e tokens h = (tokens, subst (λ k. CutFrom text k tokens) (sym e) h, refl)

pub seek_none : (text : List ℕ) (count place left : ℕ) → Sought text count place left → IsGap text place (length text) → (tokens : List Tok) → Cut text tokens → 0 ≡ line_of tokens count
seek_none text count place left s g tokens h =
    let r : (rest : List Tok) × CutFrom text place rest × (line_of tokens count ≡ line_of rest left) = s tokens h in
    sym (r.2 ∙ ap (λ (ts : List Tok). line_of ts left) (cut_none text place r.0 r.1 g))

pub seek_fault : (text : List ℕ) (count place left : ℕ) (f : LpFault) → Sought text count place left → IsNextFault text place f → (tokens : List Tok) → Cut text tokens → 0 ≡ line_of tokens count
seek_fault text count place left f s b tokens h = (let r : (rest : List Tok) × CutFrom text place rest × (line_of tokens count ≡ line_of rest left) = s tokens h in absurd (cut_sound text place r.0 f r.1 b))

pub seek_here : (text : List ℕ) (count place left : ℕ) (t : Tok) → Sought text count place left → IsGap text place t.from → IsToken text t → left ≡ 0 → (tokens : List Tok) → Cut text tokens → t.line ≡ line_of tokens count
seek_here text count place left t s g k e tokens h =
    let r : (rest : List Tok) × CutFrom text place rest × (line_of tokens count ≡ line_of rest left) = s tokens h in
    let n : (us : List Tok) × (r.0 ≡ t ∷ us) × MatchBool (is_end text t) (us ≡ []) (CutFrom text t.to us) = cut_next text place r.0 t r.1 g k in
    sym (r.2 ∙ ap (λ (ts : List Tok). line_of ts left) n.1 ∙ ap (line_of (t ∷ n.0)) e)

behind_one : (t : Tok) (us : List Tok) (left : ℕ) → (left ≡ 0 → ⊥) → line_of (t ∷ us) left ≡ line_of us (left - 1)
behind_one t us zero l = absurd (l refl)
behind_one t us (suc left) l = ap (line_of us) (let e : left ≡ suc left - 1 = omega arith in e)

pub seek_end : (text : List ℕ) (count place left : ℕ) (t : Tok) → Sought text count place left → IsGap text place t.from → IsToken text t → (left ≡ 0 → ⊥) → is_end text t ≡ true → (tokens : List Tok) → Cut text tokens → 0 ≡ line_of tokens count
seek_end text count place left t s g k l e tokens h =
    let r : (rest : List Tok) × CutFrom text place rest × (line_of tokens count ≡ line_of rest left) = s tokens h in
    let n : (us : List Tok) × (r.0 ≡ t ∷ us) × MatchBool (is_end text t) (us ≡ []) (CutFrom text t.to us) = cut_next text place r.0 t r.1 g k in
    let none : n.0 ≡ [] = subst (λ b. MatchBool b (n.0 ≡ []) (CutFrom text t.to n.0)) e n.2 in
    sym (r.2 ∙ ap (λ (ts : List Tok). line_of ts left) n.1 ∙ behind_one t n.0 left l ∙ ap (λ (ts : List Tok). line_of ts (left - 1)) none)

pub seek_more : (text : List ℕ) (count place left next : ℕ) (t : Tok) → Sought text count place left → IsGap text place t.from → IsToken text t → (left ≡ 0 → ⊥) → is_end text t ≡ false → next ≡ t.to → Sought text count next (left - 1)
seek_more text count place left next t s g k l e at tokens h =
    let r : (rest : List Tok) × CutFrom text place rest × (line_of tokens count ≡ line_of rest left) = s tokens h in
    let n : (us : List Tok) × (r.0 ≡ t ∷ us) × MatchBool (is_end text t) (us ≡ []) (CutFrom text t.to us) = cut_next text place r.0 t r.1 g k in (
      n.0,
      subst (λ p. CutFrom text p n.0) (sym at) (subst (λ b. MatchBool b (n.0 ≡ []) (CutFrom text t.to n.0)) e n.2),
      r.2 ∙ ap (λ (ts : List Tok). line_of ts left) n.1 ∙ behind_one t n.0 left l,
    )
