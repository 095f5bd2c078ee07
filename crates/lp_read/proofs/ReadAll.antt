-- Reading all symbols of a text.
use Rattle.std.proofs.Common.{◌≡◌, ℕ, zero, suc, ◌+◌, ◌-◌, ◌<◌, ◌≤◌, List, [], ◌∷◌, drop, length, refl, sym, ◌∙◌, ap, subst, arith, add-one, true, false, Option, None, Some}
use Rattle.bp_theory.specs.declared.Limits.{Limits}
use Rattle.bp_theory.specs.Limits.{most_rows, most_terms, most_variables}
use Rattle.std.proofs.lemmas.Bool.{le-ltb}
use Rattle.std.specs.Prelude.{slice_get, Result, Ok, Err, IfOk, IfErr, IsErrAnd, IfSome, is_some}
use Rattle.lp_syntax.specs.declared.symbol as rust
use Rattle.lp_syntax.specs.declared.symbol.Symbol.TheVariants as marks
use Rattle.lp_syntax.specs.declared.cursor.Cursor.{Cursor}
use Rattle.lp_syntax.specs.declared.tree.Sign.{Sign}
use Rattle.lp_syntax.specs.declared.tree.Site.{Site}
use Rattle.lp_syntax.specs.declared.tree.Site.TheVariants as sites
use Rattle.lp_parser.specs.declared.stage.Stage.TheVariants as variants
use Rattle.lp_syntax.specs.declared.tree.Tree as trees
use Rattle.lp_read.specs.declared.notes.Notes.{Notes}
use Rattle.lp_read.specs.declared.notes.ParseFault.{ParseFault}
use Rattle.lp_read.specs.declared.notes.ParseFault.TheVariants.{NoEnd}
use Rattle.lp_read.specs.declared.parse.State.{State}
use Rattle.lp_read.specs.declared.parse.Parsed.{Parsed}
use Rattle.lp_token.specs.declared.Tok.{Tok}
use Rattle.lp_token.specs.Cut.{Cut, HasCut}
use Rattle.lp_syntax.specs.Tree.{Symbol, sign}
use Rattle.lp_syntax.specs.TreeIn.{symbol_in, next_in}
use Rattle.lp_syntax.specs.Symbols.{symbols}
use Rattle.lp_syntax.specs.Roles.{first_of_symbols}
use Rattle.lp_syntax.specs.Remaining.{Remain, IsRest}
use Rattle.lp_parser.specs.StageIn.{stage_in, IsFurther}
use Rattle.lp_parser.specs.Parser.{step}
use Rattle.lp_read.specs.Noted.{HaveRoom, AreNoted, are_too_many}
use Rattle.lp_read.specs.Parsing.{IsRead, IsNext, IsReading, IsParseFault, IsParsed, ReadsOn, StopsAt}
use Rattle.lp_read.proofs.Noting.{none_noted}
use Rattle.lp_read.proofs.ReadOn.{read_none, read_whole, read_unended, reads_on}

-- nothing is read at the start
pub at_start : (limits : Limits) (text : List ℕ) (all : List Symbol) (notes : Notes) → notes ≡ record { names = []; first_tokens = []; row_names = []; row_tokens = []; terms = 0; limits = limits }
    → IsRead limits text all 0 (record { stage = variants.Start; notes = notes }) × HaveRoom notes
at_start limits text all notes e = (
  read_none limits text all (record { stage = variants.Start; notes = notes }) refl (subst (λ (r : Notes). AreNoted limits [] r) (sym e) (none_noted limits)),
  subst (λ (r : Notes). HaveRoom r) (sym e) (omega arith, omega arith, omega arith),
)

-- 1 where a symbol is held
pub held : Option rust.Symbol.Symbol → ℕ
held None = 0
held (Some symbol) = 1

-- what is left grows smaller with each symbol
pub smaller : (current next : Option rust.Symbol.Symbol) (s : rust.Symbol.Symbol) (size place more : ℕ) → current ≡ Some s → IfSome next (λ _. place < more) → place ≤ more → more ≤ size
    → size - more + held next < size - place + held current
unfolding held
smaller None next s size place more e f l m = absurd cc
smaller (Some x) None s size place more e f l m = (let l : place ≤ more = l in let a : held None ≡ 0 = refl in let b : held (Some x) ≡ 1 = refl in omega arith)
smaller (Some x) (Some y) s size place more e f l m =
    let less : place < more = f in
    let a : held (Some y) ≡ 1 = refl in
    let b : held (Some x) ≡ 1 = refl in
    omega arith

-- each symbol has at least a byte
pub ahead_by_one : (next : Option rust.Symbol.Symbol) (n place more : ℕ) → n < place → IfSome next (λ _. place < more) → IfSome next (λ _. n + 1 < more)
ahead_by_one None n place more l f = tt
ahead_by_one (Some s) n place more l f = (let more_than : place < more = f in omega arith)

-- the first symbol is held
pub begins : (limits : Limits) (text : List ℕ) (notes : Notes) (current : Option rust.Symbol.Symbol) (first c : Cursor) → notes ≡ record { names = []; first_tokens = []; row_names = []; row_tokens = []; terms = 0; limits = limits }
    → ((tokens : List Tok) → Cut text tokens → Remain text first (symbols text tokens)) → ((rest : List Symbol) → Remain text first rest → IsRest text rest current c)
    → (tokens : List Tok) → Cut text tokens → IsReading limits text (symbols text tokens) 0 current c (record { stage = variants.Start; notes = notes })
begins limits text notes current first c e all next tokens cut =
    record { inside = omega arith; read = (at_start limits text (symbols text tokens) notes e).0; rest = next (symbols text tokens) (all tokens cut) }

-- the next symbol, and what is behind it
next_of : (n : ℕ) (all more : List Symbol) (s : Symbol) → drop n all ≡ s ∷ more → (slice_get all n ≡ Some s) × (drop (suc n) all ≡ more) × (n < length all)
next_of zero [] more s e = absurd cc
next_of zero (a ∷ all) more s e = (ap first_of_symbols e, ap rest_of e, omega arith)
  where
    rest_of : List Symbol → List Symbol
    rest_of [] = []
    rest_of (x ∷ xs) = xs
next_of (suc n) [] more s e = absurd cc
next_of (suc n) (a ∷ all) more s e =
    let r : (slice_get all n ≡ Some s) × (drop (suc n) all ≡ more) × (n < length all) = next_of n all more s e in
    let l : n < length all = r.2 in
    (r.0, r.1, omega arith)

-- none is left
all_read : (n : ℕ) (all : List Symbol) → drop n all ≡ [] → length all ≤ n
all_read zero [] e = omega arith
all_read zero (a ∷ all) e = absurd cc
all_read (suc n) [] e = omega arith
all_read (suc n) (a ∷ all) e = (let l : length all ≤ n = all_read n all e in omega arith)

-- the first of the rest
first_of_rest : (text : List ℕ) (rest : List Symbol) (next : Option rust.Symbol.Symbol) (c : Cursor) → IsRest text rest next c → first_of_symbols rest ≡ next_in text next
first_of_rest text rest None c h = ap first_of_symbols h
first_of_rest text rest (Some s) c h = ap first_of_symbols h.1

-- what remains behind the symbol that is held
pub remains : (limits : Limits) (text : List ℕ) (n : ℕ) (s : rust.Symbol.Symbol) (c : Cursor) (state : State) → HasCut text
    → ((tokens : List Tok) → Cut text tokens → IsReading limits text (symbols text tokens) n (Some s) c state) → (rest : List Symbol) × Remain text c rest
remains limits text n s c state h r =
    let rest : IsRest text (drop n (symbols text h.0)) (Some s) c = (r h.0 h.1).rest in
    (rest.0, rest.2)

-- the symbol that is held is the next
is_next : (limits : Limits) (text : List ℕ) (all : List Symbol) (n : ℕ) (s : rust.Symbol.Symbol) (next : Option rust.Symbol.Symbol) (c d : Cursor) (state : State) → IsReading limits text all n (Some s) c state
    → ((rest : List Symbol) → Remain text c rest → IsRest text rest next d) → IsNext text all n s next
is_next limits text all n s next c d state r f =
    let k : (slice_get all n ≡ Some (symbol_in text s)) × (drop (suc n) all ≡ r.rest.0) × (n < length all) = next_of n all r.rest.0 (symbol_in text s) r.rest.1 in
    record { here = k.0; behind = ap (λ j. first_of_symbols (drop j all)) (add-one n) ∙ ap first_of_symbols k.1 ∙ first_of_rest text r.rest.0 next d (f r.rest.0 r.rest.2) }

-- one more is read
pub goes_on : (limits : Limits) (text : List ℕ) (n : ℕ) (s : rust.Symbol.Symbol) (next : Option rust.Symbol.Symbol) (c d : Cursor) (state more : State)
    → ((tokens : List Tok) → Cut text tokens → IsReading limits text (symbols text tokens) n (Some s) c state) → ((rest : List Symbol) → Remain text c rest → IsRest text rest next d)
    → ReadsOn text n s next state more → (tokens : List Tok) → Cut text tokens → IsReading limits text (symbols text tokens) (n + 1) next d more
unfolding ReadsOn
goes_on limits text n s next c d state more r f on tokens cut =
    let all : List Symbol = symbols text tokens in
    let now : IsReading limits text all n (Some s) c state = r tokens cut in
    let k : (slice_get all n ≡ Some (symbol_in text s)) × (drop (suc n) all ≡ now.rest.0) × (n < length all) = next_of n all now.rest.0 (symbol_in text s) now.rest.1 in
    let last : n < length all = k.2 in
    let behind : drop (n + 1) all ≡ now.rest.0 = ap (λ j. drop j all) (add-one n) ∙ k.1 in
    record {
      inside = omega arith;
      read = on limits all now.read (is_next limits text all n s next c d state now f);
      rest = subst (λ (x : List Symbol). IsRest text x next d) (sym behind) (f now.rest.0 now.rest.2);
    }

-- or a fault stands there
pub stops : (limits : Limits) (text : List ℕ) (n : ℕ) (s : rust.Symbol.Symbol) (next : Option rust.Symbol.Symbol) (c d : Cursor) (state : State) (g : ParseFault)
    → ((tokens : List Tok) → Cut text tokens → IsReading limits text (symbols text tokens) n (Some s) c state) → ((rest : List Symbol) → Remain text c rest → IsRest text rest next d)
    → StopsAt text n s next state g → (tokens : List Tok) → Cut text tokens → IsParseFault limits (symbols text tokens) g
unfolding StopsAt
stops limits text n s next c d state g r f on tokens cut = on limits (symbols text tokens) (r tokens cut).read (is_next limits text (symbols text tokens) n s next c d state (r tokens cut) f)

-- at the end
pub finished : (limits : Limits) (text : List ℕ) (n : ℕ) (c : Cursor) (state : State) (result : Result Parsed ParseFault)
    → ((tokens : List Tok) → Cut text tokens → IsReading limits text (symbols text tokens) n None c state)
    → IfOk result (λ p. (state.stage ≡ variants.Done p.tree) × (p.notes ≡ state.notes)) → IfOk result (λ p. (tokens : List Tok) → Cut text tokens → IsParsed limits text (symbols text tokens) p)
finished limits text n c state (Ok p) r d = λ tokens cut.
    let now : IsReading limits text (symbols text tokens) n None c state = r tokens cut in
    read_whole limits text (symbols text tokens) n state p (all_read n (symbols text tokens) now.rest) now.inside now.read d.0 d.1
finished limits text n c state (Err f) r d = tt

pub unfinished : (limits : Limits) (text : List ℕ) (n : ℕ) (c : Cursor) (state : State) (result : Result Parsed ParseFault)
    → ((tokens : List Tok) → Cut text tokens → IsReading limits text (symbols text tokens) n None c state)
    → IfErr result (λ f. (f ≡ NoEnd) × ((tree : trees.Tree) → state.stage ≡ variants.Done tree → ⊥)) → IfErr result (λ f. (tokens : List Tok) → Cut text tokens → IsParseFault limits (symbols text tokens) f)
unfinished limits text n c state (Ok p) r d = tt
unfinished limits text n c state (Err f) r d = λ tokens cut.
    let now : IsReading limits text (symbols text tokens) n None c state = r tokens cut in
    subst (λ (g : ParseFault). IsParseFault limits (symbols text tokens) g) (sym d.0) (read_unended limits text (symbols text tokens) n state (all_read n (symbols text tokens) now.rest) now.inside now.read d.1)

-- no symbol is held at the end
pub none_held : (limits : Limits) (text : List ℕ) (n : ℕ) (current : Option rust.Symbol.Symbol) (c : Cursor) (state : State) → ((s : rust.Symbol.Symbol) → current ≡ Some s → ⊥)
    → ((tokens : List Tok) → Cut text tokens → IsReading limits text (symbols text tokens) n current c state) → (tokens : List Tok) → Cut text tokens → IsReading limits text (symbols text tokens) n None c state
none_held limits text n None c state e r = r
none_held limits text n (Some s) c state e r = absurd (e s refl)

-- there is room for all that is noted
few : (r : Notes) → HaveRoom r → are_too_many r ≡ false
few r h =
    rw (le-ltb (most_variables r.limits) (length r.names) h.0, le-ltb (most_rows r.limits) (length r.row_names) h.1, le-ltb (most_terms r.limits) r.terms h.2) refl

-- a sign behind the first symbol of an objective or a row is noted as nothing
pub sign_read : (text : List ℕ) (n : ℕ) (state more : State) (s : Sign) (next : Option rust.Symbol.Symbol) (site : Option Site) → is_some site ≡ true
    → IfSome site (λ x. step (stage_in text state.stage) (sign s) ≡ Some (x, stage_in text more.stage)) → IfSome site IsFurther → more.notes ≡ state.notes → HaveRoom state.notes
    → ReadsOn text n (marks.Sign s) next state more
sign_read text n state more s next None h e i same room = absurd cc
sign_read text n state more s next (Some sites.ObjectiveFirst) h e i same room = absurd i
sign_read text n state more s next (Some sites.RowFirst) h e i same room = absurd i
sign_read text n state more s next (Some sites.ObjectiveMore) h e i same room = reads_on text n state more (marks.Sign s) next sites.ObjectiveMore e same refl (ap are_too_many same ∙ few state.notes room)
sign_read text n state more s next (Some sites.RowMore) h e i same room = reads_on text n state more (marks.Sign s) next sites.RowMore e same refl (ap are_too_many same ∙ few state.notes room)
sign_read text n state more s next (Some sites.Listed) h e i same room = reads_on text n state more (marks.Sign s) next sites.Listed e same refl (ap are_too_many same ∙ few state.notes room)
sign_read text n state more s next (Some sites.Other) h e i same room = reads_on text n state more (marks.Sign s) next sites.Other e same refl (ap are_too_many same ∙ few state.notes room)

-- a fault that is handed on
pub handed : (r : Result Parsed ParseFault) (P : ParseFault → Type 0) (e : ParseFault) → IsErrAnd r (λ f. f ≡ e) → P e → IfErr r P
handed (Ok p) P e h k = tt
handed (Err f) P e h k = subst P (sym h) k
