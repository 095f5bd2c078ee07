-- What reading one symbol more shows.
use Rattle.std.proofs.Common.{◌≡◌, ℕ, suc, ◌+◌, ◌<◌, ◌≤◌, ◌⊎◌, true, false, List, [], ◌∷◌, ◌++◌, map, drop, length, refl, sym, ◌∙◌, ap, subst, inl, inr, arith, Option, None, Some, add-one}
use Rattle.bp_theory.specs.declared.Limits.{Limits}
use Rattle.std.proofs.lemmas.List.{map-append, length-take-le, take_all}
use Rattle.std.proofs.lemmas.Option.{slice_get_within}
use Rattle.std.proofs.lemmas.Bool.{cases_Bool, or_cases}
use Rattle.std.specs.Prelude.{slice_get, Result, Ok, Err, IfOk, IfErr}
use Rattle.lp_token.specs.declared.LpKind.{LpKind}
use Rattle.lp_token.specs.declared.LpKind.TheVariants.{Syntax, RowTwice, Limit}
use Rattle.lp_syntax.specs.declared.symbol as rust
use Rattle.lp_parser.specs.declared.stage.Stage as stages
use Rattle.lp_parser.specs.declared.stage.Stage.TheVariants as variants
use Rattle.lp_syntax.specs.declared.tree.Tree as trees
use Rattle.lp_parser.specs.declared.stage.ObjectiveStage.TheVariants as objectives
use Rattle.lp_parser.specs.declared.stage.RowStage.TheVariants as rows
use Rattle.lp_parser.specs.declared.stage.BoundStage.TheVariants as bounds
use Rattle.lp_read.specs.declared.notes.Notes.{Notes}
use Rattle.lp_read.specs.declared.notes.ParseFault.{ParseFault}
use Rattle.lp_read.specs.declared.notes.ParseFault.TheVariants.{At, NoEnd, NoMemory}
use Rattle.lp_read.specs.declared.parse.State.{State}
use Rattle.lp_read.specs.declared.parse.Parsed.{Parsed}
use Rattle.lp_syntax.specs.Tree.{Symbol, SyntaxTree, Written, IsText, spelling, sites}
use Rattle.lp_syntax.specs.declared.tree.Site.{Site}
use Rattle.lp_syntax.specs.TreeIn.{symbol_in, next_in, tree_in}
use Rattle.lp_parser.specs.StageIn.{stage_in}
use Rattle.lp_parser.specs.Parser.{Stage, start, done, step, Leads}
use Rattle.lp_syntax.specs.Roles.{Seen, seen, first_of_symbols, role_fault}
use Rattle.lp_semantics.specs.Meaning.{tokens_of}
use Rattle.lp_semantics.specs.Reading.{own_fault, StandsAt, AreSound, is_ended, is_end_word}
use Rattle.lp_read.specs.Noted.{seen_in, noted, is_repeated_in, are_too_many, IsRoleFault, AreNoted}
use Rattle.lp_read.specs.Parsing.{HasRead, IsReadBy, IsRead, IsNext, IsParseFault, IsParsed, ReadsOn, StopsAt}
use Rattle.lp_read.proofs.Noting.{notes_more, sound_more, twice_more, limit_more, seen_more, no_tokens}
use Rattle.lp_read.proofs.Reader.{reads_start, reads_more, own_stands, stuck_stands, role_stands, reads_sound, reads_text}
use Rattle.lp_read.proofs.Total.{map_length, end_done, past_end, is_end}

-- as many sites as symbols read
site_count : (all : List Symbol) (n : ℕ) (x : Stage) (ws : List Written) → HasRead all n x ws → n ≤ length all → length (map (λ w. w.site) ws) ≡ n
site_count all n x ws h l = map_length (λ w. w.site) (λ w. w.symbol) ws ∙ ap length h.symbols ∙ length-take-le n all l

seen-length : (sites : List Site) (all : List Symbol) → length sites ≤ length all → length (seen sites all) ≡ length sites
seen-length [] all l = refl
seen-length (x ∷ sites) [] l = absurd (omega arith)
seen-length (x ∷ sites) (a ∷ all) l = ap suc (seen-length sites all (omega arith))

-- the place of the next symbol is in the list
within : (text : List ℕ) (all : List Symbol) (n : ℕ) (symbol : rust.Symbol.Symbol) (next : Option rust.Symbol.Symbol) → IsNext text all n symbol next → n < length all
within text all n symbol next h = slice_get_within all n (symbol_in text symbol) h.here

sound_so_far : (limits : Limits) (text : List ℕ) (all : List Symbol) (n : ℕ) (state : State) (ws : List Written) → n ≤ length all → IsReadBy limits text all n state ws → AreSound limits all n
sound_so_far limits text all n state ws l h = reads_sound limits all n (stage_in text state.stage) ws h.read l h.sound

-- a fault of its own
pub own_at : (limits : Limits) (text : List ℕ) (all : List Symbol) (n : ℕ) (state : State) (symbol : rust.Symbol.Symbol) (next : Option rust.Symbol.Symbol) (kind : LpKind) → own_fault (symbol_in text symbol) ≡ Some kind
    → IsRead limits text all n state → IsNext text all n symbol next → IsParseFault limits all (At n kind)
own_at limits text all n state symbol next kind e h g =
    let l : n < length all = within text all n symbol next g in
    (sound_so_far limits text all n state h.0 (omega arith) h.1, own_stands limits all n (symbol_in text symbol) kind g.here e)

-- no text goes on so
pub stuck_at : (limits : Limits) (text : List ℕ) (all : List Symbol) (n : ℕ) (state : State) (symbol : rust.Symbol.Symbol) (next : Option rust.Symbol.Symbol) → own_fault (symbol_in text symbol) ≡ None → step (stage_in text state.stage) (symbol_in text symbol) ≡ None
    → IsRead limits text all n state → IsNext text all n symbol next → IsParseFault limits all (At n Syntax)
stuck_at limits text all n state symbol next o e h g =
    let l : n < length all = within text all n symbol next g in
    (sound_so_far limits text all n state h.0 (omega arith) h.1, stuck_stands limits all n (stage_in text state.stage) h.0 (symbol_in text symbol) h.1.read g.here o e)

-- the tokens with one more
one_seen : (limits : Limits) (text : List ℕ) (all : List Symbol) (n : ℕ) (state : State) (symbol : rust.Symbol.Symbol) (next : Option rust.Symbol.Symbol) (site : Site) (ws : List Written) → IsReadBy limits text all n state ws → IsNext text all n symbol next
    → seen (map (λ w. w.site) (ws ++ record { symbol = symbol_in text symbol; site = site } ∷ [])) all ≡ seen (map (λ w. w.site) ws) all ++ seen_in text (record { site = site; symbol = symbol; next = next }) ∷ []
one_seen limits text all n state symbol next site ws h g =
    let l : n < length all = within text all n symbol next g in
    let count : length (map (λ w. w.site) ws) ≡ n = site_count all n (stage_in text state.stage) ws h.read (omega arith) in
    let behind : first_of_symbols (drop (suc (length (map (λ w. w.site) ws))) all) ≡ next_in text next
    = ap (λ k. first_of_symbols (drop (suc k) all)) count ∙ ap (λ k. first_of_symbols (drop k all)) (sym (add-one n)) ∙ g.behind in
    ap (λ s. seen s all) (map-append (λ w. w.site) ws (record { symbol = symbol_in text symbol; site = site } ∷ []))
    ∙ seen_more (map (λ w. w.site) ws) all site (symbol_in text symbol) (ap (slice_get all) count ∙ g.here)
    ∙ ap (λ x. seen (map (λ w. w.site) ws) all ++ record { site = site; symbol = symbol_in text symbol; next = x } ∷ []) behind

-- how many tokens are noted
noted_count : (limits : Limits) (text : List ℕ) (all : List Symbol) (n : ℕ) (state : State) (ws : List Written) → IsReadBy limits text all n state ws → n ≤ length all → length (seen (map (λ w. w.site) ws) all) ≡ n
noted_count limits text all n state ws h l =
    let count : length (map (λ w. w.site) ws) ≡ n = site_count all n (stage_in text state.stage) ws h.read l in
    seen-length (map (λ w. w.site) ws) all (omega arith) ∙ count

-- one symbol more is read
pub read_on : (limits : Limits) (text : List ℕ) (all : List Symbol) (n : ℕ) (state more : State) (symbol : rust.Symbol.Symbol) (next : Option rust.Symbol.Symbol) (site : Site)
    → step (stage_in text state.stage) (symbol_in text symbol) ≡ Some (site, stage_in text more.stage)
    → more.notes ≡ noted state.notes n (seen_in text (record { site = site; symbol = symbol; next = next })) → is_repeated_in state.notes (seen_in text (record { site = site; symbol = symbol; next = next })) ≡ false → are_too_many more.notes ≡ false
    → IsRead limits text all n state → IsNext text all n symbol next → IsRead limits text all (n + 1) more
read_on limits text all n state more symbol next site e f a b h g =
    let l : n < length all = within text all n symbol next g in
    let tokens : List Seen = seen (map (λ w. w.site) h.0) all in
    let count : length (seen (map (λ w. w.site) h.0) all) ≡ n = noted_count limits text all n state h.0 h.1 (omega arith) in
    let w : Written = record { symbol = symbol_in text symbol; site = site } in
    let whole : seen (map (λ w. w.site) (h.0 ++ w ∷ [])) all ≡ tokens ++ seen_in text (record { site = site; symbol = symbol; next = next }) ∷ [] = one_seen limits text all n state symbol next site h.0 h.1 g in
    let same : more.notes ≡ noted state.notes (length tokens) (seen_in text (record { site = site; symbol = symbol; next = next })) = f ∙ ap (λ k. noted state.notes k (seen_in text (record { site = site; symbol = symbol; next = next }))) (sym count) in (
      h.0 ++ w ∷ [],
      record {
        read = reads_more all n (stage_in text state.stage) (stage_in text more.stage) h.0 (symbol_in text symbol) site h.1.read g.here e;
        notes = subst (λ (x : List Seen). AreNoted limits x more.notes) (sym whole) (subst (λ (r : Notes). AreNoted limits (tokens ++ seen_in text (record { site = site; symbol = symbol; next = next }) ∷ []) r) (sym same) (notes_more limits tokens state.notes (seen_in text (record { site = site; symbol = symbol; next = next })) h.1.notes));
        sound = ap (role_fault limits) whole ∙ sound_more limits tokens state.notes (seen_in text (record { site = site; symbol = symbol; next = next })) h.1.notes h.1.sound a (ap are_too_many (sym same) ∙ b);
      },
    )

-- a fault by names and counts
pub role_at : (limits : Limits) (text : List ℕ) (all : List Symbol) (n : ℕ) (state : State) (y : stages.Stage) (symbol : rust.Symbol.Symbol) (next : Option rust.Symbol.Symbol) (site : Site) (f : ParseFault) → own_fault (symbol_in text symbol) ≡ None
    → step (stage_in text state.stage) (symbol_in text symbol) ≡ Some (site, stage_in text y) → IsRoleFault state.notes n (seen_in text (record { site = site; symbol = symbol; next = next })) f
    → IsRead limits text all n state → IsNext text all n symbol next → IsParseFault limits all f
role_at limits text all n state y symbol next site NoMemory o e r h g = tt
role_at limits text all n state y symbol next site NoEnd o e r h g = absurd r
role_at limits text all n state y symbol next site (At i kind) o e r h g =
    let l : n < length all = within text all n symbol next g in
    subst (λ k. AreSound limits all k × StandsAt limits all k kind) (sym r.0) (
      sound_so_far limits text all n state h.0 (omega arith) h.1,
      role_stands limits all n (stage_in text y) (h.0 ++ record { symbol = symbol_in text symbol; site = site } ∷ []) (symbol_in text symbol) kind
          (reads_more all n (stage_in text state.stage) (stage_in text y) h.0 (symbol_in text symbol) site h.1.read g.here e) g.here o
          (ap (role_fault limits) (one_seen limits text all n state symbol next site h.0 h.1 g) ∙ fault r.1),
    )
  where
    tokens : List Seen
    tokens = seen (map (λ w. w.site) h.0) all

    count : n < length all → length (seen (map (λ w. w.site) h.0) all) ≡ n
    count l = noted_count limits text all n state h.0 h.1 (omega arith)

    fault : ((kind ≡ RowTwice) × (is_repeated_in state.notes (seen_in text (record { site = site; symbol = symbol; next = next })) ≡ true)) ⊎ ((kind ≡ Limit) × (is_repeated_in state.notes (seen_in text (record { site = site; symbol = symbol; next = next })) ≡ false) × (are_too_many (noted state.notes n (seen_in text (record { site = site; symbol = symbol; next = next }))) ≡ true))
        → role_fault limits (seen (map (λ w. w.site) h.0) all ++ seen_in text (record { site = site; symbol = symbol; next = next }) ∷ []) ≡ Some kind
    fault (inl a) = twice_more limits (seen (map (λ w. w.site) h.0) all) state.notes (seen_in text (record { site = site; symbol = symbol; next = next })) h.1.notes a.1 ∙ ap Some (sym a.0)
    fault (inr a) =
        limit_more limits (seen (map (λ w. w.site) h.0) all) state.notes (seen_in text (record { site = site; symbol = symbol; next = next })) h.1.notes h.1.sound a.1
        (ap (λ k. are_too_many (noted state.notes k (seen_in text (record { site = site; symbol = symbol; next = next })))) (count (within text all n symbol next g)) ∙ a.2) ∙ ap Some (sym a.0)

-- nothing is read yet
pub read_none : (limits : Limits) (text : List ℕ) (all : List Symbol) (state : State) → state.stage ≡ variants.Start → AreNoted limits [] state.notes → IsRead limits text all 0 state
read_none limits text all state e h = ([], record { read = subst (λ (x : stages.Stage). HasRead all 0 (stage_in text x) []) (sym e) (reads_start all); notes = h; sound = no_tokens limits })

-- all is read, up to the end
pub read_whole : (limits : Limits) (text : List ℕ) (all : List Symbol) (n : ℕ) (state : State) (p : Parsed) → length all ≤ n → n ≤ length all → IsRead limits text all n state → state.stage ≡ variants.Done p.tree → p.notes ≡ state.notes → IsParsed limits text all p
unfolding tokens_of
read_whole limits text all n state p l m h e f =
    let k : n ≡ length all = omega arith in
    let last : HasRead all (length all) (done (tree_in text p.tree)) h.0 = subst (λ (x : stages.Stage). HasRead all (length all) (stage_in text x) h.0) e (subst (λ i. HasRead all i (stage_in text state.stage) h.0) k h.1.read) in
    let r : IsText (tree_in text p.tree) × (spelling (tree_in text p.tree) ≡ all) × (sites (tree_in text p.tree) ≡ map (λ w. w.site) h.0) = reads_text all (tree_in text p.tree) h.0 last in
    let same : seen (sites (tree_in text p.tree)) (spelling (tree_in text p.tree)) ≡ seen (map (λ w. w.site) h.0) all = ap (λ x. seen x (spelling (tree_in text p.tree))) r.2 ∙ ap (seen (map (λ w. w.site) h.0)) r.1 in
    record {
      grammar = r.0;
      spelled = r.1;
      roles = ap (role_fault limits) same ∙ h.1.sound;
      notes = subst (λ (x : List Seen). AreNoted limits x p.notes) (sym same) (subst (λ (x : Notes). AreNoted limits (seen (map (λ w. w.site) h.0) all) x) (sym f) h.1.notes);
    }

-- the word `end` leads to the end
ends : (x z : Stage) (ws : List Written) → Leads x ws z → is_ended (map (λ w. w.symbol) ws) ≡ true → (t : SyntaxTree) × (z ≡ done t)
ends x z [] l h = absurd cc
ends x z (w ∷ ws) l h = elim (or_cases (is_end_word w.symbol) (is_ended (map (λ w. w.symbol) ws)) h) [
  | inr k ↦ ends l.0 z ws l.2 k
  | inl k ↦ here (end_done x (w.site, l.0) (ap (step x) (sym (is_end w.symbol k)) ∙ l.1))
]
  where
    here : (t : SyntaxTree) × (l.0 ≡ done t) → (t : SyntaxTree) × (z ≡ done t)
    here t =
        let none : ws ≡ [] = past_end t.0 ws z (subst (λ y. Leads y ws z) t.1 l.2) in
        let same : l.0 ≡ z = subst (λ us. Leads l.0 us z) none l.2 in
        (t.0, sym same ∙ t.1)

-- a stage that is none of the end
not_done : (text : List ℕ) (s : stages.Stage) (t : SyntaxTree) → ((tree : trees.Tree) → s ≡ variants.Done tree → ⊥) → stage_in text s ≡ done t → ⊥
not_done text variants.Start t h e = cc
not_done text (variants.Objective b objectives.Word) t h e = cc
not_done text (variants.Objective b (objectives.Name n)) t h e = cc
not_done text (variants.Objective b (objectives.Open label gap)) t h e = cc
not_done text (variants.Objective b (objectives.Number label gap k)) t h e = cc
not_done text (variants.Objective b (objectives.Sum label sum)) t h e = cc
not_done text (variants.Row f rows.Start) t h e = cc
not_done text (variants.Row f (rows.Name n)) t h e = cc
not_done text (variants.Row f (rows.Signs label signs)) t h e = cc
not_done text (variants.Row f (rows.Number label signs k)) t h e = cc
not_done text (variants.Row f (rows.Open label sum s signs)) t h e = cc
not_done text (variants.Row f (rows.Factor label sum s signs k)) t h e = cc
not_done text (variants.Row f (rows.Sum label sum)) t h e = cc
not_done text (variants.Row f (rows.Compared label sum c signs)) t h e = cc
not_done text (variants.Row f (rows.NumberOpen r gap)) t h e = cc
not_done text (variants.Row f (rows.NumberFactor r gap k)) t h e = cc
not_done text (variants.Row f (rows.NumberSum r sum)) t h e = cc
not_done text (variants.Row f (rows.NumberCompared label v d sum signs)) t h e = cc
not_done text (variants.Generals f parts names) t h e = cc
not_done text (variants.Binaries f parts names) t h e = cc
not_done text (variants.Bounds w bounds.Start) t h e = cc
not_done text (variants.Bounds w (bounds.Signs signs)) t h e = cc
not_done text (variants.Bounds w (bounds.Value v)) t h e = cc
not_done text (variants.Bounds w (bounds.Compared v c)) t h e = cc
not_done text (variants.Bounds w (bounds.Half v c n)) t h e = cc
not_done text (variants.Bounds w (bounds.Between v d n signs)) t h e = cc
not_done text (variants.Bounds w (bounds.Name n)) t h e = cc
not_done text (variants.Bounds w (bounds.Named n c signs)) t h e = cc
not_done text (variants.Done tree) t h e = h tree refl

-- all is read, and no word `end` stands there
pub read_unended : (limits : Limits) (text : List ℕ) (all : List Symbol) (n : ℕ) (state : State) → length all ≤ n → n ≤ length all → IsRead limits text all n state → ((tree : trees.Tree) → state.stage ≡ variants.Done tree → ⊥) → IsParseFault limits all NoEnd
read_unended limits text all n state l m h e =
    let k : n ≡ length all = omega arith in
    let whole : map (λ w. w.symbol) h.0 ≡ all = h.1.read.symbols ∙ take_all n all l in
    (subst (λ i. AreSound limits all i) k (sound_so_far limits text all n state h.0 m h.1), go (cases_Bool (is_ended all)) whole)
  where
    go : (is_ended all ≡ true) ⊎ (is_ended all ≡ false) → map (λ w. w.symbol) h.0 ≡ all → is_ended all ≡ false
    go (inr f) whole = f
    go (inl f) whole =
        let t : (t : SyntaxTree) × (stage_in text state.stage ≡ done t) = ends start (stage_in text state.stage) h.0 h.1.read.leads (ap is_ended whole ∙ f) in
        absurd (not_done text state.stage t.0 e t.1)

-- the same, whatever the symbols are
pub reads_on : (text : List ℕ) (n : ℕ) (state more : State) (symbol : rust.Symbol.Symbol) (next : Option rust.Symbol.Symbol) (site : Site)
    → step (stage_in text state.stage) (symbol_in text symbol) ≡ Some (site, stage_in text more.stage)
    → more.notes ≡ noted state.notes n (seen_in text (record { site = site; symbol = symbol; next = next })) → is_repeated_in state.notes (seen_in text (record { site = site; symbol = symbol; next = next })) ≡ false → are_too_many more.notes ≡ false
    → ReadsOn text n symbol next state more
unfolding ReadsOn
reads_on text n state more symbol next site e f a b = λ limits all h g. read_on limits text all n state more symbol next site e f a b h g

pub stops_own : (text : List ℕ) (n : ℕ) (state : State) (symbol : rust.Symbol.Symbol) (next : Option rust.Symbol.Symbol) (kind : LpKind) → own_fault (symbol_in text symbol) ≡ Some kind → StopsAt text n symbol next state (At n kind)
unfolding StopsAt
stops_own text n state symbol next kind e = λ limits all h g. own_at limits text all n state symbol next kind e h g

pub stops_stuck : (text : List ℕ) (n : ℕ) (state : State) (symbol : rust.Symbol.Symbol) (next : Option rust.Symbol.Symbol) → own_fault (symbol_in text symbol) ≡ None → step (stage_in text state.stage) (symbol_in text symbol) ≡ None → StopsAt text n symbol next state (At n Syntax)
unfolding StopsAt
stops_stuck text n state symbol next o e = λ limits all h g. stuck_at limits text all n state symbol next o e h g

pub stops_role : (text : List ℕ) (n : ℕ) (state : State) (y : stages.Stage) (symbol : rust.Symbol.Symbol) (next : Option rust.Symbol.Symbol) (site : Site) (f : ParseFault) → own_fault (symbol_in text symbol) ≡ None
    → step (stage_in text state.stage) (symbol_in text symbol) ≡ Some (site, stage_in text y) → IsRoleFault state.notes n (seen_in text (record { site = site; symbol = symbol; next = next })) f → StopsAt text n symbol next state f
unfolding StopsAt
stops_role text n state y symbol next site f o e r = λ limits all h g. role_at limits text all n state y symbol next site f o e r h g

pub stops_memory : (text : List ℕ) (n : ℕ) (state : State) (symbol : rust.Symbol.Symbol) (next : Option rust.Symbol.Symbol) → StopsAt text n symbol next state NoMemory
unfolding StopsAt
stops_memory text n state symbol next = λ limits all h g. tt

-- what advancing gives
pub advanced : (text : List ℕ) (n : ℕ) (state : State) (y : stages.Stage) (symbol : rust.Symbol.Symbol) (next : Option rust.Symbol.Symbol) (site : Site) (r : Result State ParseFault)
    → step (stage_in text state.stage) (symbol_in text symbol) ≡ Some (site, stage_in text y)
    → IfOk r (λ more. more.stage ≡ y) → IfOk r (λ more. more.notes ≡ noted state.notes n (seen_in text (record { site = site; symbol = symbol; next = next })))
    → IfOk r (λ more. (is_repeated_in state.notes (seen_in text (record { site = site; symbol = symbol; next = next })) ≡ false) × (are_too_many more.notes ≡ false))
    → IfOk r (λ more. ReadsOn text n symbol next state more)
advanced text n state y symbol next site (Ok more) e a b s = reads_on text n state more symbol next site (e ∙ ap (λ (x : stages.Stage). Some (site, stage_in text x)) (sym a)) b s.0 s.1
advanced text n state y symbol next site (Err f) e a b s = tt

pub stopped : (text : List ℕ) (n : ℕ) (state : State) (y : stages.Stage) (symbol : rust.Symbol.Symbol) (next : Option rust.Symbol.Symbol) (site : Site) (r : Result State ParseFault) → own_fault (symbol_in text symbol) ≡ None
    → step (stage_in text state.stage) (symbol_in text symbol) ≡ Some (site, stage_in text y) → IfErr r (IsRoleFault state.notes n (seen_in text (record { site = site; symbol = symbol; next = next }))) → IfErr r (λ f. StopsAt text n symbol next state f)
stopped text n state y symbol next site (Ok more) o e h = tt
stopped text n state y symbol next site (Err f) o e h = stops_role text n state y symbol next site f o e h
