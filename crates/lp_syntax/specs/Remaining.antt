-- The symbols that a reader has still before it.
use Rattle.std.specs.Prelude.{◌≡◌, ℕ, List, [], ◌∷◌, Option, None, Some, MatchBool}
use Rattle.lp_token.specs.declared.Tok.{Tok}
use Rattle.lp_token.specs.Cut.{CutFrom}
use Rattle.lp_syntax.specs.declared.cursor.Cursor.{Cursor}
use Rattle.lp_syntax.specs.declared.symbol as rust
use Rattle.lp_syntax.specs.Tree.{Symbol}
use Rattle.lp_syntax.specs.TreeIn.{symbol_in}
use Rattle.lp_syntax.specs.Symbols.{symbols_from}

-- From a cursor on the text has these symbols: those of its tokens there, or none behind the last.
pub record Remain (text : List ℕ) (cursor : Cursor) (rest : List Symbol) : Type 0 where
  pub tokens : List Tok
  pub cut : MatchBool cursor.is_done (tokens ≡ []) (CutFrom text cursor.place.at tokens)
  pub symbols : rest ≡ symbols_from cursor.in_bounds text tokens

-- The rest of a text is this symbol and what remains from a cursor on; or it is empty, where there is no symbol.
abbrev pub IsRest : List ℕ → List Symbol → Option rust.Symbol.Symbol → Cursor → Type 0
IsRest text rest None cursor = rest ≡ []
IsRest text rest (Some symbol) cursor = (more : List Symbol) × (rest ≡ symbol_in text symbol ∷ more) × Remain text cursor more
