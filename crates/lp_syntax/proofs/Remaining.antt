-- What remains of a text's symbols behind the next one.
use Rattle.std.proofs.Common.{◌≡◌, ℕ, true, false, List, [], ◌∷◌, length, refl, sym, ◌∙◌, ap, subst, Some}
use Rattle.std.specs.Prelude.{MatchBool, slice_range}
use Rattle.lp_token.specs.declared.Tok.{Tok}
use Rattle.lp_token.specs.declared.fault.LpFault.{LpFault}
use Rattle.lp_token.specs.Cut.{IsGap, IsToken, is_end, CutFrom, Cut, IsNextFault}
use Rattle.lp_token.proofs.Cuts.{cut_next, cut_none, cut_sound}
use Rattle.lp_syntax.specs.declared.cursor.Cursor.{Cursor}
use Rattle.lp_syntax.specs.declared.symbol as rust
use Rattle.lp_syntax.specs.Tree.{Symbol}
use Rattle.lp_syntax.specs.TreeIn.{symbol_in}
use Rattle.lp_syntax.specs.Symbols.{symbol_of, stays_in_bounds, symbols_from, symbols}
use Rattle.lp_syntax.specs.Remaining.{Remain, IsRest}

pub remain_all : (text : List ℕ) (c : Cursor) (tokens : List Tok) → c.is_done ≡ false → c.in_bounds ≡ false → c.place.at ≡ 0 → Cut text tokens → Remain text c (symbols text tokens)
unfolding Cut symbols
remain_all text c tokens done bounds at h = record {
  tokens = tokens;
  cut = subst (λ b. MatchBool b (tokens ≡ []) (CutFrom text c.place.at tokens)) (sym done) (subst (λ k. CutFrom text k tokens) (sym at) h);
  symbols = ap (λ b. symbols_from b text tokens) (sym bounds);
}

-- the tokens there, before the end
cut_there : (text : List ℕ) (c : Cursor) (rest : List Symbol) → c.is_done ≡ false → (r : Remain text c rest) → CutFrom text c.place.at r.tokens
cut_there text c rest done r = subst (λ b. MatchBool b (r.tokens ≡ []) (CutFrom text c.place.at r.tokens)) done r.cut

-- no symbol behind the word `end`
pub rest_done : (text : List ℕ) (c : Cursor) (rest : List Symbol) → c.is_done ≡ true → Remain text c rest → rest ≡ []
rest_done text c rest done r =
    r.symbols ∙ ap (symbols_from c.in_bounds text) (subst (λ b. MatchBool b (r.tokens ≡ []) (CutFrom text c.place.at r.tokens)) done r.cut)

-- nor where the text ends
pub rest_none : (text : List ℕ) (c : Cursor) (rest : List Symbol) → c.is_done ≡ false → IsGap text c.place.at (length text) → Remain text c rest → rest ≡ []
rest_none text c rest done g r = r.symbols ∙ ap (symbols_from c.in_bounds text) (cut_none text c.place.at r.tokens (cut_there text c rest done r) g)

-- no fault
pub rest_sound : (text : List ℕ) (c : Cursor) (rest : List Symbol) (fault : LpFault) → c.is_done ≡ false → IsNextFault text c.place.at fault → Remain text c rest → ⊥
rest_sound text c rest fault done f r = cut_sound text c.place.at r.tokens fault (cut_there text c rest done r) f

-- one symbol
pub rest_some : (text : List ℕ) (c d : Cursor) (rest : List Symbol) (t : Tok) (s : rust.Symbol.Symbol) → c.is_done ≡ false → IsGap text c.place.at t.from → IsToken text t
    → symbol_in text s ≡ symbol_of c.in_bounds t.kind (slice_range text t.from t.to) → d.place.at ≡ t.to → d.in_bounds ≡ stays_in_bounds c.in_bounds (symbol_in text s) → d.is_done ≡ is_end text t
    → Remain text c rest → IsRest text rest (Some s) d
rest_some text c d rest t s done gap token same at bounds end r =
    let n : (us : List Tok) × (r.tokens ≡ t ∷ us) × MatchBool (is_end text t) (us ≡ []) (CutFrom text t.to us) = cut_next text c.place.at r.tokens t (cut_there text c rest done r) gap token in (
      symbols_from d.in_bounds text n.0,
      r.symbols ∙ ap (symbols_from c.in_bounds text) n.1
          ∙ ap (λ x. x ∷ symbols_from (stays_in_bounds c.in_bounds x) text n.0) (sym same)
          ∙ ap (λ b. symbol_in text s ∷ symbols_from b text n.0) (sym bounds),
      record {
        tokens = n.0;
        cut = subst (λ b. MatchBool b (n.0 ≡ []) (CutFrom text d.place.at n.0)) (sym end) (subst (λ k. MatchBool (is_end text t) (n.0 ≡ []) (CutFrom text k n.0)) (sym at) n.2);
        symbols = refl;
      },
    )
