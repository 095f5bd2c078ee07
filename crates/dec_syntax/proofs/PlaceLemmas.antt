-- Faultless texts list known variables and places alone.
use Rattle.std.proofs.Common.{◌≡◌, ℕ, ◌-◌, ◌<◌, ◌≤◌, suc, zero, Bool, true, false, cond, ◌&&◌, ◌||◌, List, [], ◌∷◌, ◌++◌, length, map, refl, sym, ◌∙◌, subst, arith, Option, None, Some}
use Rattle.std.proofs.lemmas.Bool.{and_parts, leb-true, both_ways}
use Rattle.std.proofs.lemmas.List.{length-map}
use Rattle.std.proofs.lemmas.List.Elements.{All-from_recursion}
use Rattle.std.specs.Prelude.{nat_le, slice_get}
use Rattle.std.specs.List.{AllByRecursion}
use Rattle.std.specs.Str.{bytes_eq}
use Rattle.bp_theory.specs.Decomposition.{Decomposition, IsPlace, HasPlaces}
use Rattle.bp_theory.specs.Limits.{most_blocks}
use Rattle.bp_model.specs.Named.{NamedProgram, IsKept}
use Rattle.bp_model.specs.Dec.{HasListed}
use Rattle.dec_syntax.specs.Cut.{Token, tokens}
use Rattle.dec_syntax.specs.Words.{has_bad_byte, keyword_of, number_of}
use Rattle.dec_syntax.specs.Parts.{Part, keyword, number, row, variable, linking, section_behind, has_come, block_count, refuses_unlisted, rows_listed, vars_listed, is_among, place_in, number_among, number_part, part_by, part_of, parts, parts_before, parts_of, decomposition_of}
use Rattle.dec_syntax.specs.Faults.{awaits_number, block_fault, part_fault, token_fault, fault_at}
use Rattle.dec_syntax.specs.declared.words.Keyword.{Keyword}
use Rattle.dec_syntax.specs.declared.words.Keyword.TheVariants.{Nblocks, Block, BlockVars}
use Rattle.dec_syntax.specs.declared.words.Section.{Section}
use Rattle.dec_syntax.specs.declared.words.Section.TheVariants.{Outside, Awaits, Rows, Vars, Links, Closed}
use Rattle.dec_syntax.specs.declared.kind.DecKind.{DecKind}
use Rattle.dec_syntax.specs.declared.kind.DecKind.TheVariants as kinds
use Rattle.dec_syntax.proofs.ReadLemmas.{parts_next, here}

-- a section lists under a known place
abbrev HasKnownPlace : ℕ → Section → Type 0
HasKnownPlace blocks (Rows place) = IsPlace blocks place
HasKnownPlace blocks (Vars place) = IsPlace blocks place
HasKnownPlace blocks _ = Unit {0}

-- while the number of blocks is awaited, its keyword has come and no block is counted
abbrev IsUncounted : (blocks : ℕ) (come : Bool) → Section → Type 0
IsUncounted blocks come (Awaits Nblocks) = (blocks ≡ 0) × (come ≡ true)
IsUncounted blocks come _ = Unit {0}

abbrev Placed : ℕ → List (List ℕ × Option ℕ) → Type 0
Placed blocks listing = AllByRecursion (λ e. IsPlace blocks e.1) listing

abbrev Listed : ℕ → ℕ → List (ℕ × Option ℕ) → Type 0
Listed vars blocks listed = AllByRecursion (λ e. (e.0 < vars) × IsPlace blocks e.1) listed

record IsSound (m : NamedProgram) (earlier : List Part) : Type 0 where
  few : block_count earlier ≤ most_blocks m.program.limits
  uncounted : has_come earlier Nblocks ≡ false → block_count earlier ≡ 0
  awaited : IsUncounted (block_count earlier) (has_come earlier Nblocks) (section_behind earlier)
  section : HasKnownPlace (block_count earlier) (section_behind earlier)
  rows : Placed (block_count earlier) (rows_listed earlier)
  vars : Listed (length m.names) (block_count earlier) (vars_listed m.names earlier)

some_none : (kind : DecKind) → ◌≡◌ {A = Option DecKind} (Some kind) None → ⊥
some_none kind e = cc

not_come : (a c : Bool) → cond a (Some kinds.Syntax) (cond c (Some kinds.Syntax) None) ≡ None → c ≡ false
not_come true c e = absurd (some_none kinds.Syntax e)
not_come false true e = absurd (some_none kinds.Syntax e)
not_come false false e = refl

passes : (t : Bool) (kind : DecKind) → cond t None (Some kind) ≡ None → t ≡ true
passes true kind e = refl
passes false kind e = absurd (some_none kind e)

keyword_sound : (m : NamedProgram) (earlier : List Part) → IsSound m earlier → (k : Keyword) → part_fault m earlier (keyword k) ≡ None → IsSound m (keyword k ∷ earlier)
unfolding section_behind has_come block_count refuses_unlisted rows_listed vars_listed
keyword_sound m earlier s Nblocks e = record {
  few = s.few;
  uncounted = λ none. absurd (both_ways true none refl);
  awaited = (s.uncounted (not_come (awaits_number (section_behind earlier)) (has_come earlier Nblocks) e), refl);
  section = tt;
  rows = s.rows;
  vars = s.vars;
}
keyword_sound m earlier s _ e = record { few = s.few; uncounted = s.uncounted; awaited = tt; section = tt; rows = s.rows; vars = s.vars }

placed_more : (n : ℕ) (listing : List (List ℕ × Option ℕ)) → Placed 0 listing → Placed n listing
placed_more n [] p = tt
placed_more n (e ∷ listing) p = (by e.1 p.0, placed_more n listing p.1)
  where
    by : (place : Option ℕ) → IsPlace 0 place → IsPlace n place
    by None h = tt
    by (Some k) h = absurd (omega arith)

listed_more : (vars n : ℕ) (listed : List (ℕ × Option ℕ)) → Listed vars 0 listed → Listed vars n listed
listed_more vars n [] p = tt
listed_more vars n (e ∷ listed) p = ((p.0.0, by e.1 p.0.1), listed_more vars n listed p.1)
  where
    by : (place : Option ℕ) → IsPlace 0 place → IsPlace n place
    by None h = tt
    by (Some k) h = absurd (omega arith)

block_known : (blocks n : ℕ) → block_fault blocks n ≡ None → n - 1 < blocks
block_known blocks n e =
    let parts : (nat_le 1 n ≡ true) × (nat_le n blocks ≡ true) = and_parts (nat_le 1 n) (nat_le n blocks) (passes (nat_le 1 n && nat_le n blocks) kinds.BlockNumber e) in
    let low : 1 ≤ n = leb-true 1 n parts.0 in
    let high : n ≤ blocks = leb-true n blocks parts.1 in
    omega arith

number_sound : (m : NamedProgram) (earlier : List Part) → IsSound m earlier → (k : Keyword) (n : ℕ) → section_behind earlier ≡ Awaits k → part_fault m earlier (number k n) ≡ None → IsSound m (number k n ∷ earlier)
unfolding section_behind has_come block_count refuses_unlisted rows_listed vars_listed
number_sound m earlier s Nblocks n is e =
    let awaited : (block_count earlier ≡ 0) × (has_come earlier Nblocks ≡ true) = subst (IsUncounted (block_count earlier) (has_come earlier Nblocks)) is s.awaited in
    record {
      few = leb-true n (most_blocks m.program.limits) (passes (nat_le n (most_blocks m.program.limits)) kinds.Limit e);
      uncounted = λ none. absurd (both_ways (has_come earlier Nblocks) none awaited.1);
      awaited = tt;
      section = tt;
      rows = placed_more n (rows_listed earlier) (subst (λ (b : ℕ). Placed b (rows_listed earlier)) awaited.0 s.rows);
      vars = listed_more (length m.names) n (vars_listed m.names earlier) (subst (λ (b : ℕ). Listed (length m.names) b (vars_listed m.names earlier)) awaited.0 s.vars);
    }
number_sound m earlier s Block n is e = record { few = s.few; uncounted = s.uncounted; awaited = tt; section = block_known (block_count earlier) n e; rows = s.rows; vars = s.vars }
number_sound m earlier s BlockVars n is e = record { few = s.few; uncounted = s.uncounted; awaited = tt; section = block_known (block_count earlier) n e; rows = s.rows; vars = s.vars }
number_sound m earlier s _ n is e = record { few = s.few; uncounted = s.uncounted; awaited = tt; section = tt; rows = s.rows; vars = s.vars }

row_sound : (m : NamedProgram) (earlier : List Part) → IsSound m earlier → (place : Option ℕ) (name : List ℕ) → section_behind earlier ≡ Rows place → IsSound m (row place name ∷ earlier)
unfolding section_behind has_come block_count refuses_unlisted rows_listed vars_listed
row_sound m earlier s place name is = record {
  few = s.few;
  uncounted = s.uncounted;
  awaited = s.awaited;
  section = s.section;
  rows = (subst (HasKnownPlace (block_count earlier)) is s.section, s.rows);
  vars = s.vars;
}

number_below : (names : List (List ℕ)) (name : List ℕ) → is_among names name ≡ true → number_among names name < length names
number_below [] name h = absurd (both_ways false refl h)
number_below (n ∷ names) name h = by (bytes_eq n name) (number_below names name) h
  where
    by : (t : Bool) → (is_among names name ≡ true → number_among names name < length names) → (t || is_among names name) ≡ true → cond t 0 (suc (number_among names name)) < suc (length names)
    by true rest e = omega arith
    by false rest e = let below : number_among names name < length names = rest e in omega arith

listed_push : (vars blocks : ℕ) (listed : List (ℕ × Option ℕ)) (e : ℕ × Option ℕ) → Listed vars blocks listed → (e.0 < vars) × IsPlace blocks e.1 → Listed vars blocks (listed ++ e ∷ [])
listed_push vars blocks [] e p h = (h, tt)
listed_push vars blocks (d ∷ listed) e p h = (p.0, listed_push vars blocks listed e p.1 h)

variable_sound : (m : NamedProgram) (earlier : List Part) → IsSound m earlier → (place : Option ℕ) (name : List ℕ) → section_behind earlier ≡ Vars place → part_fault m earlier (variable place name) ≡ None → IsSound m (variable place name ∷ earlier)
unfolding section_behind has_come block_count refuses_unlisted rows_listed vars_listed
variable_sound m earlier s place name is e = record {
  few = s.few;
  uncounted = s.uncounted;
  awaited = s.awaited;
  section = s.section;
  rows = s.rows;
  vars = listed_push (length m.names) (block_count earlier) (vars_listed m.names earlier) (number_among m.names name, place) s.vars
      (number_below m.names name (passes (is_among m.names name) kinds.UnknownVar e), subst (HasKnownPlace (block_count earlier)) is s.section);
}

linking_sound : (m : NamedProgram) (earlier : List Part) → IsSound m earlier → (name : List ℕ) → IsSound m (linking name ∷ earlier)
unfolding section_behind has_come block_count refuses_unlisted rows_listed vars_listed
linking_sound m earlier s name = record { few = s.few; uncounted = s.uncounted; awaited = s.awaited; section = s.section; rows = s.rows; vars = s.vars }

word_sound : (m : NamedProgram) (earlier : List Part) → IsSound m earlier → (section : Section) (word : List ℕ) → section_behind earlier ≡ section → part_fault m earlier (part_by None section word) ≡ None
    → IsSound m (part_by None section word ∷ earlier)
word_sound m earlier s Outside word is e = absurd (some_none kinds.Syntax e)
word_sound m earlier s Closed word is e = absurd (some_none kinds.Syntax e)
word_sound m earlier s Links word is e = linking_sound m earlier s word
word_sound m earlier s (Rows place) word is e = row_sound m earlier s place word is
word_sound m earlier s (Vars place) word is e = variable_sound m earlier s place word is e
word_sound m earlier s (Awaits k) word is e = by (number_of word) e
  where
    by : (o : Option ℕ) → part_fault m earlier (number_part k o) ≡ None → IsSound m (number_part k o ∷ earlier)
    by None f = absurd (some_none kinds.Syntax f)
    by (Some n) f = number_sound m earlier s k n is f

part_sound : (m : NamedProgram) (earlier : List Part) → IsSound m earlier → (o : Option Keyword) (word : List ℕ) → part_fault m earlier (part_by o (section_behind earlier) word) ≡ None
    → IsSound m (part_by o (section_behind earlier) word ∷ earlier)
part_sound m earlier s None word e = word_sound m earlier s (section_behind earlier) word refl e
part_sound m earlier s (Some k) word e = keyword_sound m earlier s k e

good_part : (t : Bool) (o : Option DecKind) → cond t (Some kinds.BadByte) o ≡ None → o ≡ None
good_part true o e = absurd (some_none kinds.BadByte e)
good_part false o e = e

token_sound : (m : NamedProgram) (earlier : List Part) (token : Token) → IsSound m earlier → token_fault m earlier token ≡ None → IsSound m (part_of earlier token ∷ earlier)
unfolding token_fault part_of
token_sound m earlier token s e = part_sound m earlier s (keyword_of token.first token.bytes) token.bytes (good_part (has_bad_byte token.bytes) _ e)

none_sound : (m : NamedProgram) → IsSound m []
unfolding section_behind has_come block_count refuses_unlisted rows_listed vars_listed
none_sound m = record { few = omega arith; uncounted = λ e. refl; awaited = tt; section = tt; rows = tt; vars = tt }

token_at : (ts : List Token) (i : ℕ) → i < length ts → (token : Token) × (slice_get ts i ≡ Some token)
token_at [] i l = absurd (omega arith)
token_at (t ∷ ts) zero l = (t, refl)
token_at (t ∷ ts) (suc i) l = token_at ts i (omega arith)

before_sound : (m : NamedProgram) (ts : List Token) → ((i : ℕ) → fault_at m ts i ≡ None) → (i : ℕ) → i ≤ length ts → IsSound m (parts_before ts i)
unfolding parts_before parts
before_sound m ts none zero l = none_sound m
before_sound m ts none (suc i) l =
    let token = token_at ts i (omega arith) in
    let fault : token_fault m (parts_before ts i) token.0 ≡ None = sym (here m ts i token.0 (parts_before ts i) token.1 refl) ∙ none i in
    subst (IsSound m) (sym (parts_next ts i token.0 token.1)) (token_sound m (parts_before ts i) token.0 (before_sound m ts none i (omega arith)) fault)

place_known : (blocks : ℕ) (listing : List (List ℕ × Option ℕ)) (name : List ℕ) → Placed blocks listing → IsPlace blocks (place_in listing name)
place_known blocks [] name p = tt
place_known blocks (e ∷ listing) name p = by (bytes_eq e.0 name) (place_known blocks listing name p.1)
  where
    by : (t : Bool) → IsPlace blocks (place_in listing name) → IsPlace blocks (cond t e.1 (place_in listing name))
    by true h = p.0
    by false h = h

places_known : (blocks : ℕ) (listing : List (List ℕ × Option ℕ)) (names : List (List ℕ)) → Placed blocks listing → AllByRecursion (IsPlace blocks) (map (place_in listing) names)
places_known blocks listing [] p = tt
places_known blocks listing (n ∷ names) p = (place_known blocks listing n p, places_known blocks listing names p)

-- what the decomposition that a text means keeps
pub record IsPlaced (m : NamedProgram) (d : Decomposition) : Type 0 where
  pub few : d.blocks ≤ most_blocks m.program.limits
  pub places : HasPlaces m.program d
  pub listed : HasListed m.program d

sound_placed : (m : NamedProgram) (all : List Part) → IsKept m → IsSound m all → IsPlaced m (decomposition_of m all)
sound_placed m all kept s = record {
  few = s.few;
  places = record {
    each = length-map m.row_names (place_in (rows_listed all)) ∙ kept.row_named;
    known = All-from_recursion (IsPlace (block_count all)) (map (place_in (rows_listed all)) m.row_names) (places_known (block_count all) (rows_listed all) m.row_names s.rows);
  };
  listed = All-from_recursion (λ (e : ℕ × Option ℕ). (e.0 < length m.program.spans) × IsPlace (block_count all) e.1) (vars_listed m.names all)
      (subst (λ (n : ℕ). Listed n (block_count all) (vars_listed m.names all)) kept.named s.vars);
}

-- a text without a token at fault lists known variables and places
pub faultless_placed : (text : List ℕ) (m : NamedProgram) → IsKept m → ((i : ℕ) → fault_at m (tokens text) i ≡ None) → IsPlaced m (decomposition_of m (parts_of text))
faultless_placed text m kept faultless = sound_placed m (parts_of text) kept (before_sound m (tokens text) faultless (length (tokens text)) (omega arith))
