-- Steps of the automaton on symbols that are not of one kind.
use Rattle.std.specs.Prelude.{◌≡◌, ℕ, Bool, List, [], Option, None, refl}
use Rattle.lp_syntax.specs.declared.symbol.Symbol.{Symbol}
use Rattle.lp_syntax.specs.declared.symbol.Symbol.TheVariants as symbols
use Rattle.lp_syntax.specs.declared.tree.TextRange.{TextRange}
use Rattle.lp_syntax.specs.Tree.{Name, Item, term, constant, Sum, Term, number_first, value_first}
use Rattle.lp_syntax.specs.declared.tree.Sign.{Sign}
use Rattle.lp_syntax.specs.declared.tree.Signed.{Signed}
use Rattle.lp_syntax.specs.declared.tree.Comparison.{Comparison}
use Rattle.lp_syntax.specs.declared.tree.Value.{Value}
use Rattle.lp_token.specs.declared.Section.{Section}
use Rattle.lp_syntax.specs.TreeIn.{symbol_in}
use Rattle.lp_parser.specs.Parser.{Front, Open, named, signed_by, lone, put, with_row, Within, with_bound, from_o_name, from_o_number, from_o_sum, from_r_name, from_r_sum, from_n_sum, from_r_row, from_p_bounds, from_b_signs, from_b_half}

-- no colon behind an objective's first name
pub no_label : (text : List ℕ) (b : Bool) (n : Name) (s : Symbol) → (s ≡ symbols.Colon → ⊥) → from_o_name b n (symbol_in text s) ≡ from_o_sum b None (lone (term (named None n []))) (symbol_in text s)
no_label text b n (symbols.Word w) h = refl
no_label text b n (symbols.Name m) h = refl
no_label text b n (symbols.Number k) h = refl
no_label text b n symbols.Infinity h = refl
no_label text b n (symbols.Sign s) h = refl
no_label text b n (symbols.Comparison c) h = refl
no_label text b n symbols.Colon h = absurd (h refl)
no_label text b n (symbols.Unfit kind) h = refl

-- no name behind a number of an objective
pub is_constant : (text : List ℕ) (b : Bool) (label : Option Name) (o : Open Item) (k : ℕ) (s : Symbol) → ((m : TextRange) → s ≡ symbols.Name m → ⊥) → from_o_number b label o k (symbol_in text s) ≡ from_o_sum b label (put o (λ signs. constant (signed_by k signs))) (symbol_in text s)
is_constant text b label o k (symbols.Word w) h = refl
is_constant text b label o k (symbols.Name m) h = absurd (h m refl)
is_constant text b label o k (symbols.Number n) h = refl
is_constant text b label o k symbols.Infinity h = refl
is_constant text b label o k (symbols.Sign s) h = refl
is_constant text b label o k (symbols.Comparison c) h = refl
is_constant text b label o k symbols.Colon h = refl
is_constant text b label o k (symbols.Unfit kind) h = refl

-- no colon behind a row's first name
pub no_row_label : (text : List ℕ) (f : Front) (n : Name) (s : Symbol) → (s ≡ symbols.Colon → ⊥) → from_r_name f n (symbol_in text s) ≡ from_r_sum f None (lone (named None n [])) (symbol_in text s)
no_row_label text f n (symbols.Word w) h = refl
no_row_label text f n (symbols.Name m) h = refl
no_row_label text f n (symbols.Number k) h = refl
no_row_label text f n symbols.Infinity h = refl
no_row_label text f n (symbols.Sign s) h = refl
no_row_label text f n (symbols.Comparison c) h = refl
no_row_label text f n symbols.Colon h = absurd (h refl)
no_row_label text f n (symbols.Unfit kind) h = refl

-- neither a sign nor a comparison behind a number-first row
pub next_row : (text : List ℕ) (f : Front) (label : Option Name) (v : Signed) (c : Comparison) (sum : Sum Term) (s : Symbol) → ((a : Sign) → s ≡ symbols.Sign a → ⊥) → ((d : Comparison) → s ≡ symbols.Comparison d → ⊥) → from_n_sum f label v c sum (symbol_in text s) ≡ from_r_row (with_row f (number_first label v c sum)) (symbol_in text s)
next_row text f label v c sum (symbols.Word w) h g = refl
next_row text f label v c sum (symbols.Name m) h g = refl
next_row text f label v c sum (symbols.Number n) h g = refl
next_row text f label v c sum symbols.Infinity h g = refl
next_row text f label v c sum (symbols.Sign s) h g = absurd (h s refl)
next_row text f label v c sum (symbols.Comparison d) h g = absurd (g d refl)
next_row text f label v c sum symbols.Colon h g = refl
next_row text f label v c sum (symbols.Unfit kind) h g = refl

-- neither a name nor a word at a bound
pub first_value : (text : List ℕ) (w : Within) (s : Symbol) → ((m : TextRange) → s ≡ symbols.Name m → ⊥) → ((x : Section) → s ≡ symbols.Word x → ⊥) → from_p_bounds w (symbol_in text s) ≡ from_b_signs w [] (symbol_in text s)
first_value text w (symbols.Word x) h g = absurd (g x refl)
first_value text w (symbols.Name m) h g = absurd (h m refl)
first_value text w (symbols.Number n) h g = refl
first_value text w symbols.Infinity h g = refl
first_value text w (symbols.Sign s) h g = refl
first_value text w (symbols.Comparison d) h g = refl
first_value text w symbols.Colon h g = refl
first_value text w (symbols.Unfit kind) h g = refl

-- no comparison behind a value-first bound
pub next_bound : (text : List ℕ) (w : Within) (v : Value) (c : Comparison) (n : Name) (s : Symbol) → ((d : Comparison) → s ≡ symbols.Comparison d → ⊥) → from_b_half w v c n (symbol_in text s) ≡ from_p_bounds (with_bound w (value_first v c n)) (symbol_in text s)
next_bound text w v c n (symbols.Word x) h = refl
next_bound text w v c n (symbols.Name m) h = refl
next_bound text w v c n (symbols.Number k) h = refl
next_bound text w v c n symbols.Infinity h = refl
next_bound text w v c n (symbols.Sign s) h = refl
next_bound text w v c n (symbols.Comparison d) h = absurd (h d refl)
next_bound text w v c n symbols.Colon h = refl
next_bound text w v c n (symbols.Unfit kind) h = refl
