-- What the tokens so far leave of a text's cut.
use Rattle.std.proofs.Common.{◌≡◌, ℕ, true, false, List, [], ◌∷◌, ◌++◌, length, refl, sym, subst, append_assoc}
use Rattle.std.proofs.lemmas.List.{append-nil}
use Rattle.std.specs.Prelude.{MatchBool}
use Rattle.lp_token.specs.declared.Tok.{Tok}
use Rattle.lp_token.specs.declared.LpKind.{LpKind}
use Rattle.lp_token.specs.declared.fault.LpFault.{LpFault}
use Rattle.lp_token.specs.declared.fault.LpFault.TheVariants.{At, NoMemory}
use Rattle.lp_token.specs.Cut.{IsGap, IsToken, is_long, is_end, CutFrom, Cut, BreaksFrom, CutFault, IsCutFault, IsNextFault}
use Rattle.lp_token.specs.Scan.{BreaksHere}

-- What goes on from a place goes on from the text's beginning, behind the tokens found.
pub record Leads (text : List ℕ) (found : List Tok) (at : ℕ) : Type 0 where
  pub cut : (rest : List Tok) → CutFrom text at rest → CutFrom text 0 (found ++ rest)
  pub breaks : (rest : List Tok) (place : ℕ) (kind : LpKind) → BreaksFrom text at rest place kind → BreaksFrom text 0 (found ++ rest) place kind

pub leads_start : (text : List ℕ) → Leads text [] 0
leads_start text = record { cut = λ rest h. h; breaks = λ rest place kind h. h }

-- one more token
pub leads_more : (text : List ℕ) (found : List Tok) (at : ℕ) (t : Tok) → Leads text found at → IsGap text at t.from → IsToken text t → is_long t ≡ false → is_end text t ≡ false → Leads text (found ++ t ∷ []) t.to
unfolding CutFrom BreaksFrom
leads_more text found at t l g h s e = record {
  cut = λ rest c. subst (CutFrom text 0) (sym (append_assoc found (t ∷ []) rest)) (l.cut (t ∷ rest) (g, h, s, subst (λ b. MatchBool b (rest ≡ []) (CutFrom text t.to rest)) (sym e) c));
  breaks = λ rest place kind c. subst (λ ts. BreaksFrom text 0 ts place kind) (sym (append_assoc found (t ∷ []) rest)) (l.breaks (t ∷ rest) place kind (g, h, s, e, c));
}

-- the word `end`
pub leads_end : (text : List ℕ) (found : List Tok) (at : ℕ) (t : Tok) → Leads text found at → IsGap text at t.from → IsToken text t → is_long t ≡ false → is_end text t ≡ true → Cut text (found ++ t ∷ [])
unfolding Cut CutFrom
leads_end text found at t l g h s e = l.cut (t ∷ []) (g, h, s, subst (λ b. MatchBool b (◌≡◌ {A = List Tok} [] []) (CutFrom text t.to [])) (sym e) refl)

-- the text's end
pub leads_done : (text : List ℕ) (found : List Tok) (at : ℕ) → Leads text found at → IsGap text at (length text) → Cut text found
unfolding Cut CutFrom
leads_done text found at l g = subst (CutFrom text 0) (append-nil found) (l.cut [] g)

-- a fault
pub leads_fault : (text : List ℕ) (found : List Tok) (at : ℕ) (fault : LpFault) → Leads text found at → IsNextFault text at fault → IsCutFault text fault
unfolding CutFault BreaksFrom
leads_fault text found at (At line kind) l b = (found, b.0, subst (λ ts. BreaksFrom text 0 ts b.0 kind) (append-nil found) (l.breaks [] b.0 kind (b.1, b.2)), b.3)
leads_fault text found at NoMemory l b = absurd b

-- the fault behind a gap
pub next_fault : (text : List ℕ) (place here : ℕ) (fault : LpFault) → IsGap text place here → BreaksHere text here fault → IsNextFault text place fault
next_fault text place here (At line kind) g b = (here, g, b.1, b.0)
next_fault text place here NoMemory g b = b
