-- Symbols that are names, and the symbols of tokens one by one.
use Rattle.std.proofs.Common.{◌≡◌, ℕ, Bool, true, false, List, refl, sym, ◌∙◌, ap, subst, None, Some}
use Rattle.std.specs.Prelude.{slice_range, if◌then◌else◌}
use Rattle.lp_token.specs.declared.Tok.{Tok}
use Rattle.lp_token.specs.declared.TokKind.TheVariants as kinds
use Rattle.lp_token.specs.Lexeme.{is_number, is_name, is_mark}
use Rattle.lp_token.specs.Cut.{in_comment, is_word_at, kind_at, IsToken}
use Rattle.lp_syntax.specs.declared.symbol.Symbol.{Symbol}
use Rattle.lp_syntax.specs.declared.symbol.Symbol.TheVariants as symbols
use Rattle.lp_syntax.specs.declared.tree.TextRange.{TextRange}
use Rattle.lp_syntax.specs.TreeIn.{IsNamed, IsNameOf, IsNameAt, IsNoName}

pub no_name : (t : Tok) (s : Symbol) → IsNoName s → IsNameOf t s
no_name t (symbols.Name place) h = absurd h
no_name t (symbols.Word w) h = tt
no_name t (symbols.Number n) h = tt
no_name t symbols.Infinity h = tt
no_name t (symbols.Sign s) h = tt
no_name t (symbols.Comparison c) h = tt
no_name t symbols.Colon h = tt
no_name t (symbols.Unfit kind) h = tt

pub name_of : (t : Tok) (s : Symbol) → t.kind ≡ kinds.Name → IsNameAt (record { from = t.from; to = t.to }) s → IsNameOf t s
name_of t (symbols.Name place) k h = (k, ap (λ (p : TextRange). p.from) h, ap (λ (p : TextRange). p.to) h)
name_of t (symbols.Word w) k h = tt
name_of t (symbols.Number n) k h = tt
name_of t symbols.Infinity k h = tt
name_of t (symbols.Sign s) k h = tt
name_of t (symbols.Comparison c) k h = tt
name_of t symbols.Colon k h = tt
name_of t (symbols.Unfit kind) k h = tt

-- a token of the kind Name is a name
name_token : (text : List ℕ) (t : Tok) → kind_at text t.from t.to ≡ Some t.kind → t.kind ≡ kinds.Name → is_name (slice_range text t.from t.to) ≡ true
unfolding kind_at
name_token text t e k = go (in_comment text t.from) (is_word_at text t.from t.to) (is_number (slice_range text t.from t.to)) (is_name (slice_range text t.from t.to)) (is_mark (slice_range text t.from t.to)) (e ∙ ap Some k)
  where
    go : (a b c d f : Bool) → (if a then None else (if b then Some kinds.Word else (if c then Some kinds.Number else (if d then Some kinds.Name else (if f then Some kinds.Mark else None))))) ≡ Some kinds.Name → d ≡ true
    go true b c d f h = absurd cc
    go false true c d f h = absurd cc
    go false false true d f h = absurd cc
    go false false false true f h = refl
    go false false false false true h = absurd cc
    go false false false false false h = absurd cc

pub named_symbol : (text : List ℕ) (t : Tok) (s : Symbol) → IsToken text t → IsNameOf t s → IsNamed text s
named_symbol text t (symbols.Name place) k h =
    subst (λ b. is_name (slice_range text b place.to) ≡ true) (sym h.1) (subst (λ b. is_name (slice_range text t.from b) ≡ true) (sym h.2) (name_token text t k.kind h.0))
named_symbol text t (symbols.Word w) k h = tt
named_symbol text t (symbols.Number n) k h = tt
named_symbol text t symbols.Infinity k h = tt
named_symbol text t (symbols.Sign s) k h = tt
named_symbol text t (symbols.Comparison c) k h = tt
named_symbol text t symbols.Colon k h = tt
named_symbol text t (symbols.Unfit kind) k h = tt
