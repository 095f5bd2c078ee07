-- What a reader of a text's symbols keeps, and what it gives.
use Rattle.std.specs.Prelude.{◌≡◌, ℕ, ◌+◌, ◌≤◌, List, map, take, drop, length, Option, None, Some, slice_get, IsFalse}
use Rattle.bp_theory.specs.declared.Limits.{Limits}
use Rattle.lp_syntax.specs.declared.symbol as symbols
use Rattle.lp_read.specs.declared.notes.ParseFault.{ParseFault}
use Rattle.lp_read.specs.declared.notes.ParseFault.TheVariants.{At, NoEnd, NoMemory}
use Rattle.lp_read.specs.declared.parse.State.{State}
use Rattle.lp_read.specs.declared.parse.Parsed.{Parsed}
use Rattle.lp_syntax.specs.Tree.{Symbol, Written, IsText, spelling}
use Rattle.lp_syntax.specs.TreeIn.{symbol_in, next_in, tree_in}
use Rattle.lp_syntax.specs.declared.cursor.Cursor.{Cursor}
use Rattle.lp_syntax.specs.Remaining.{IsRest}
use Rattle.lp_parser.specs.StageIn.{stage_in}
use Rattle.lp_parser.specs.Parser.{Stage, start, Leads}
use Rattle.lp_syntax.specs.Roles.{seen, first_of_symbols, role_fault}
use Rattle.lp_semantics.specs.Meaning.{tokens_of}
use Rattle.lp_semantics.specs.Reading.{StandsAt, AreSound, is_ended}
use Rattle.lp_read.specs.Noted.{AreNoted}

-- the first n symbols are read, up to a stage
pub record HasRead (all : List Symbol) (n : ℕ) (x : Stage) (ws : List Written) : Type 0 where
  pub leads : Leads start ws x
  pub symbols : map (λ w. w.symbol) ws ≡ take n all

-- a reader has read the first n symbols in these sites, and noted them
pub record IsReadBy (limits : Limits) (text : List ℕ) (all : List Symbol) (n : ℕ) (state : State) (ws : List Written) : Type 0 where
  pub read : HasRead all n (stage_in text state.stage) ws
  pub notes : AreNoted limits (seen (map (λ w. w.site) ws) all) state.notes
  pub sound : role_fault limits (seen (map (λ w. w.site) ws) all) ≡ None

abbrev pub IsRead : Limits → List ℕ → List Symbol → ℕ → State → Type 0
IsRead limits text all n state = (ws : List Written) × IsReadBy limits text all n state ws

-- the symbol that stands next, and the one behind it
pub record IsNext (text : List ℕ) (all : List Symbol) (n : ℕ) (symbol : symbols.Symbol.Symbol) (next : Option symbols.Symbol.Symbol) : Type 0 where
  pub here : slice_get all n ≡ Some (symbol_in text symbol)
  pub behind : first_of_symbols (drop (n + 1) all) ≡ next_in text next

-- a reader has read the first n symbols, holds the next one, if there is one, and has its cursor behind that
pub record IsReading (limits : Limits) (text : List ℕ) (all : List Symbol) (n : ℕ) (current : Option symbols.Symbol.Symbol) (cursor : Cursor) (state : State) : Type 0 where
  pub inside : n ≤ length all
  pub read : IsRead limits text all n state
  pub rest : IsRest text (drop n all) current cursor

-- the first fault of symbols, or want of memory
abbrev pub IsParseFault : Limits → List Symbol → ParseFault → Type 0
IsParseFault limits all (At i kind) = AreSound limits all i × StandsAt limits all i kind
IsParseFault limits all NoEnd = AreSound limits all (length all) × IsFalse (is_ended all)
IsParseFault limits all NoMemory = Unit {0}

-- Whatever the limits and the symbols are, one more is read up to a further state, or a fault stands at it.
unfoldable pub ReadsOn : List ℕ → ℕ → symbols.Symbol.Symbol → Option symbols.Symbol.Symbol → State → State → Type 0
ReadsOn text n symbol next state more = (limits : Limits) (all : List Symbol) → IsRead limits text all n state → IsNext text all n symbol next → IsRead limits text all (n + 1) more

unfoldable pub StopsAt : List ℕ → ℕ → symbols.Symbol.Symbol → Option symbols.Symbol.Symbol → State → ParseFault → Type 0
StopsAt text n symbol next state fault = (limits : Limits) (all : List Symbol) → IsRead limits text all n state → IsNext text all n symbol next → IsParseFault limits all fault

-- a text's tree, with what is noted of its tokens
pub record IsParsed (limits : Limits) (text : List ℕ) (all : List Symbol) (p : Parsed) : Type 0 where
  pub grammar : IsText (tree_in text p.tree)
  pub spelled : spelling (tree_in text p.tree) ≡ all
  pub roles : role_fault limits (tokens_of (tree_in text p.tree)) ≡ None
  pub notes : AreNoted limits (tokens_of (tree_in text p.tree)) p.notes
