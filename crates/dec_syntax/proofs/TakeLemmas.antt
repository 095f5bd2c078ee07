-- A reader keeps what the tokens say, token by token.
use Rattle.std.proofs.Common.{◌≡◌, ℕ, ◌-◌, ◌≤◌, ◌⊎◌, Bool, true, false, cond, not, ◌&&◌, min, List, [], ◌∷◌, ◌++◌, length, get_or, refl, sym, ◌∙◌, ap, subst, inl, inr, arith, Option, None, Some, Result, Ok, Err}
use Rattle.std.proofs.Math.ListN.{replicate}
use Rattle.std.proofs.lemmas.Bool.{and_parts, and_left, and_right, ne_eqb, leb-true, lt-leb, cases_lt}
use Rattle.std.specs.Prelude.{◌==◌, nat_le, slice_get, Contains, IfNone, IfOk}
use Rattle.std.specs.Option.{option_map}
use Rattle.std.specs.List.{list_any}
use Rattle.std.specs.declared.alloc.AllocError.{AllocError}
use Rattle.bp_theory.specs.Limits.{most_blocks}
use Rattle.bp_theory.specs.declared.Limits.{Limits}
use Rattle.bp_theory.proofs.LimitLaws.{few_blocks}
use Rattle.bp_model.specs.Named.{NamedProgram}
use Rattle.dec_syntax.specs.Cut.{token_of}
use Rattle.dec_syntax.specs.Words.{has_bad_byte, keyword_of, number_of}
use Rattle.dec_syntax.specs.Parts.{Part, keyword, number, row, variable, linking, stray, section_behind, has_come, block_count, refuses_unlisted, rows_listed, vars_listed, is_listed, number_among, part_in, part_by, part_of, number_part}
use Rattle.dec_syntax.specs.Faults.{awaits_number, is_single, names_block, keyword_fault, block_fault, number_fault, row_fault, variable_fault, part_fault, token_fault, end_fault, lacks_row}
use Rattle.dec_syntax.specs.State.{Lists, Keeps, Takes, came_in, noted, with_number}
use Rattle.dec_syntax.specs.declared.words.Keyword.{Keyword}
use Rattle.dec_syntax.specs.declared.words.Keyword.TheVariants.{Presolved, Nblocks, ConsDefaultMaster, Block, BlockVars}
use Rattle.dec_syntax.specs.declared.words.Section.{Section}
use Rattle.dec_syntax.specs.declared.words.Section.TheVariants.{Outside, Awaits, Rows, Vars, Links}
use Rattle.dec_syntax.specs.declared.kind.DecKind.{DecKind}
use Rattle.dec_syntax.specs.declared.kind.DecKind.TheVariants as kinds
use Rattle.dec_syntax.specs.declared.state.Reader.{Reader}
use Rattle.dec_syntax.specs.declared.state.Listing.{Listing}
use Rattle.dec_syntax.proofs.ListLemmas.{among_found, among_absent, map_at, places_none, listed_none, lacks_row_is}

-- rows by name
pub row_unknown : (names : List (List ℕ)) (listing : List (List ℕ × Option ℕ)) (name : List ℕ) → (Contains names name → ⊥) → Some kinds.UnknownRow ≡ row_fault names listing name
row_unknown names listing name none = sym (ap (λ (t : Bool). cond t (cond (is_listed listing name) (Some kinds.RowTwice) None) (Some kinds.UnknownRow)) (among_absent names name none))

row_there : (names : List (List ℕ)) (listing : List (List ℕ × Option ℕ)) (k : ℕ) (name : List ℕ) → slice_get names k ≡ Some name → row_fault names listing name ≡ cond (is_listed listing name) (Some kinds.RowTwice) None
row_there names listing k name e = ap (λ (t : Bool). cond t (cond (is_listed listing name) (Some kinds.RowTwice) None) (Some kinds.UnknownRow)) (among_found names k name e)

pub row_twice : (names : List (List ℕ)) (listing : List (List ℕ × Option ℕ)) (k : ℕ) (name : List ℕ) → slice_get names k ≡ Some name → is_listed listing name ≡ true → Some kinds.RowTwice ≡ row_fault names listing name
row_twice names listing k name e h = sym (row_there names listing k name e ∙ ap (λ (t : Bool). cond t (Some kinds.RowTwice) None) h)

pub row_new : (names : List (List ℕ)) (listing : List (List ℕ × Option ℕ)) (k : ℕ) (name : List ℕ) → slice_get names k ≡ Some name → is_listed listing name ≡ false → None ≡ row_fault names listing name
row_new names listing k name e h = sym (row_there names listing k name e ∙ ap (λ (t : Bool). cond t (Some kinds.RowTwice) None) h)

-- what a listing has seen
pub seen_is : (names : List (List ℕ)) (rows : Listing) (listing : List (List ℕ × Option ℕ)) (k : ℕ) (name : List ℕ) (b : Bool) → Lists names rows listing → slice_get names k ≡ Some name
    → b ≡ get_or rows.seen.items k b → b ≡ is_listed listing name
seen_is names rows listing k name b lists e is = is ∙ ap (λ (xs : List Bool). get_or xs k b) lists.seen ∙ map_at (is_listed listing) names k name b e

-- variables by name
pub variable_unknown : (names : List (List ℕ)) (name : List ℕ) → (Contains names name → ⊥) → Some kinds.UnknownVar ≡ variable_fault names name
variable_unknown names name none = sym (ap (λ (t : Bool). cond t None (Some kinds.UnknownVar)) (among_absent names name none))

pub variable_new : (names : List (List ℕ)) (k : ℕ) (name : List ℕ) → slice_get names k ≡ Some name → None ≡ variable_fault names name
variable_new names k name e = sym (ap (λ (t : Bool). cond t None (Some kinds.UnknownVar)) (among_found names k name e))

-- before the first token
pub kept_new : (m : NamedProgram) (reader : Reader) (n : ℕ) → reader.section ≡ Outside → reader.presolved ≡ false → reader.counted ≡ false → reader.defaulted ≡ false → reader.blocks ≡ 0 → reader.strict ≡ false
    → reader.limits ≡ m.program.limits → n ≡ length m.program.rows → length m.row_names ≡ length m.program.rows
    → reader.rows.places.items ≡ replicate n None → reader.rows.seen.items ≡ replicate n false → reader.listed.items ≡ [] → Keeps m reader []
unfolding section_behind has_come block_count refuses_unlisted rows_listed vars_listed
kept_new m reader n outside presolved counted defaulted blocks strict limits e named places seen none =
    let count : n ≡ length m.row_names = e ∙ sym named in
    record {
      section = outside;
      presolved = presolved;
      counted = counted;
      defaulted = defaulted;
      blocks = blocks;
      few = omega arith;
      strict = strict;
      limits = limits;
      rows = record {
        places = places ∙ ap (λ (k : ℕ). replicate {A = Option ℕ} k None) count ∙ places_none m.row_names;
        seen = seen ∙ ap (λ (k : ℕ). replicate k false) count ∙ listed_none m.row_names;
      };
      listed = none;
    }

-- the end of a text
pub end_awaiting : (m : NamedProgram) (reader : Reader) (all : List Part) → Keeps m reader all → awaits_number reader.section ≡ true → Some kinds.Syntax ≡ end_fault m all
unfolding end_fault
end_awaiting m reader all k a =
    let awaits : awaits_number (section_behind all) ≡ true = ap awaits_number (sym k.section) ∙ a in
    rw awaits refl

pub end_uncounted : (m : NamedProgram) (reader : Reader) (all : List Part) → Keeps m reader all → awaits_number reader.section ≡ false → reader.counted ≡ false → Some kinds.NoNblocks ≡ end_fault m all
unfolding end_fault
end_uncounted m reader all k a n =
    let awaits : awaits_number (section_behind all) ≡ false = ap awaits_number (sym k.section) ∙ a in
    let come : has_come all Nblocks ≡ false = sym k.counted ∙ n in
    rw (awaits, come) refl

lacks_kept : (m : NamedProgram) (reader : Reader) (all : List Part) → Keeps m reader all → list_any not reader.rows.seen.items ≡ lacks_row (rows_listed all) m.row_names
lacks_kept m reader all k = ap (list_any not) k.rows.seen ∙ lacks_row_is (rows_listed all) m.row_names

pub end_unassigned : (m : NamedProgram) (reader : Reader) (all : List Part) → Keeps m reader all → awaits_number reader.section ≡ false → reader.counted ≡ true → reader.strict ≡ true
    → list_any not reader.rows.seen.items ≡ true → Some kinds.Unassigned ≡ end_fault m all
unfolding end_fault
end_unassigned m reader all k a n s l =
    let awaits : awaits_number (section_behind all) ≡ false = ap awaits_number (sym k.section) ∙ a in
    let come : has_come all Nblocks ≡ true = sym k.counted ∙ n in
    let strict : refuses_unlisted all ≡ true = sym k.strict ∙ s in
    let lacks : lacks_row (rows_listed all) m.row_names ≡ true = sym (lacks_kept m reader all k) ∙ l in
    rw (awaits, come, strict, lacks) refl

pub end_whole : (m : NamedProgram) (reader : Reader) (all : List Part) → Keeps m reader all → awaits_number reader.section ≡ false → reader.counted ≡ true
    → (reader.strict ≡ false) ⊎ (list_any not reader.rows.seen.items ≡ false) → None ≡ end_fault m all
unfolding end_fault
end_whole m reader all k a n s =
    let awaits : awaits_number (section_behind all) ≡ false = ap awaits_number (sym k.section) ∙ a in
    let come : has_come all Nblocks ≡ true = sym k.counted ∙ n in
    let both : (refuses_unlisted all && lacks_row (rows_listed all) m.row_names) ≡ false = elim s [
      | inl e ↦ and_left (refuses_unlisted all) (lacks_row (rows_listed all) m.row_names) (sym k.strict ∙ e)
      | inr e ↦ and_right (refuses_unlisted all) (lacks_row (rows_listed all) m.row_names) (sym (lacks_kept m reader all k) ∙ e)
    ] in
    rw (awaits, come, both) refl

-- a token that is this part is taken, if its fault is that part's and the part is kept
pub taken : (m : NamedProgram) (new : Reader) (earlier : List Part) (line : ℕ) (first : Bool) (word : List ℕ) (part : Part) (fault : Option DecKind)
    → has_bad_byte word ≡ false → part_by (keyword_of first word) (section_behind earlier) word ≡ part
    → fault ≡ part_fault m earlier part → IfNone fault (Keeps m new (part ∷ earlier)) → Takes m new earlier (token_of line first word) (Ok fault)
unfolding token_fault part_of
taken m new earlier line first word part fault good is e keeps = by fault
    (e ∙ ap (part_fault m earlier) (sym is) ∙ sym (ap (λ (t : Bool). cond t (Some kinds.BadByte) (part_fault m earlier (part_by (keyword_of first word) (section_behind earlier) word))) good))
    (subst (λ (p : Part). IfNone fault (Keeps m new (p ∷ earlier))) (sym is) keeps)
  where
    by : (o : Option DecKind) → o ≡ token_fault m earlier (token_of line first word) → IfNone o (Keeps m new (part_of earlier (token_of line first word) ∷ earlier)) → Takes m new earlier (token_of line first word) (Ok o)
    by None e k = (sym e, k)
    by (Some kind) e k = sym e

pub bad_token : (m : NamedProgram) (earlier : List Part) (line : ℕ) (first : Bool) (word : List ℕ) → has_bad_byte word ≡ true → token_fault m earlier (token_of line first word) ≡ Some kinds.BadByte
unfolding token_fault
bad_token m earlier line first word h = ap (λ (t : Bool). cond t (Some kinds.BadByte) (part_fault m earlier (part_of earlier (token_of line first word)))) h

-- what a word is that is no keyword
pub plain_part : (m : NamedProgram) (reader : Reader) (earlier : List Part) (first : Bool) (word : List ℕ) (section : Section) → Keeps m reader earlier → keyword_of first word ≡ None → reader.section ≡ section
    → part_by (keyword_of first word) (section_behind earlier) word ≡ part_in section word
plain_part m reader earlier first word section k e s = ap (λ (o : Option Keyword). part_by o (section_behind earlier) word) e ∙ ap (λ (t : Section). part_in t word) (sym k.section ∙ s)

if_none : (o : Option DecKind) (P Q : Type 0) → (P → Q) → IfNone o P → IfNone o Q
if_none None P Q f p = f p
if_none (Some kind) P Q f p = tt

-- keywords
keyword_by : (section : Section) (f g : Keyword → Bool) (k : Keyword) → (is_single k && f k) ≡ (is_single k && g k) → f Nblocks ≡ g Nblocks → keyword_fault section f k ≡ keyword_fault section g k
keyword_by section f g k e n =
    ap (λ (t : Bool). cond (awaits_number section) (Some kinds.Syntax) (cond t (Some kinds.Syntax) (cond (names_block k && not (f Nblocks)) (Some kinds.NoNblocks) None))) e
    ∙ ap (λ (t : Bool). cond (awaits_number section) (Some kinds.Syntax) (cond (is_single k && g k) (Some kinds.Syntax) (cond (names_block k && not t) (Some kinds.NoNblocks) None))) n

single_same : (m : NamedProgram) (reader : Reader) (earlier : List Part) → Keeps m reader earlier → (k : Keyword) → (is_single k && came_in reader k) ≡ (is_single k && has_come earlier k)
single_same m reader earlier keeps Presolved = keeps.presolved
single_same m reader earlier keeps Nblocks = keeps.counted
single_same m reader earlier keeps ConsDefaultMaster = keeps.defaulted
single_same m reader earlier keeps _ = refl

keyword_same : (m : NamedProgram) (reader : Reader) (earlier : List Part) → Keeps m reader earlier → (k : Keyword) → keyword_fault reader.section (came_in reader) k ≡ keyword_fault (section_behind earlier) (has_come earlier) k
keyword_same m reader earlier keeps k =
    ap (λ (s : Section). keyword_fault s (came_in reader) k) keeps.section
    ∙ keyword_by (section_behind earlier) (came_in reader) (has_come earlier) k (single_same m reader earlier keeps k) keeps.counted

keyword_kept : (m : NamedProgram) (reader : Reader) (earlier : List Part) → Keeps m reader earlier → (k : Keyword) → Keeps m (noted reader k) (keyword k ∷ earlier)
unfolding section_behind has_come block_count refuses_unlisted rows_listed vars_listed
keyword_kept m reader earlier keeps Presolved = record {
  section = refl;
  presolved = refl;
  counted = keeps.counted;
  defaulted = keeps.defaulted;
  blocks = keeps.blocks;
  few = keeps.few;
  strict = keeps.strict;
  limits = keeps.limits;
  rows = keeps.rows;
  listed = keeps.listed;
}
keyword_kept m reader earlier keeps Nblocks = record {
  section = refl;
  presolved = keeps.presolved;
  counted = refl;
  defaulted = keeps.defaulted;
  blocks = keeps.blocks;
  few = keeps.few;
  strict = keeps.strict;
  limits = keeps.limits;
  rows = keeps.rows;
  listed = keeps.listed;
}
keyword_kept m reader earlier keeps ConsDefaultMaster = record {
  section = refl;
  presolved = keeps.presolved;
  counted = keeps.counted;
  defaulted = refl;
  blocks = keeps.blocks;
  few = keeps.few;
  strict = keeps.strict;
  limits = keeps.limits;
  rows = keeps.rows;
  listed = keeps.listed;
}
keyword_kept m reader earlier keeps _ = record {
  section = refl;
  presolved = keeps.presolved;
  counted = keeps.counted;
  defaulted = keeps.defaulted;
  blocks = keeps.blocks;
  few = keeps.few;
  strict = keeps.strict;
  limits = keeps.limits;
  rows = keeps.rows;
  listed = keeps.listed;
}

pub keyword_taken : (m : NamedProgram) (reader new : Reader) (earlier : List Part) (line : ℕ) (first : Bool) (word : List ℕ) (k : Keyword) (fault : Option DecKind)
    → Keeps m reader earlier → has_bad_byte word ≡ false → keyword_of first word ≡ Some k
    → fault ≡ keyword_fault reader.section (came_in reader) k → IfNone fault (new ≡ noted reader k) → Takes m new earlier (token_of line first word) (Ok fault)
keyword_taken m reader new earlier line first word k fault keeps good is e after =
    taken m new earlier line first word (keyword k) fault good
    (ap (λ (o : Option Keyword). part_by o (section_behind earlier) word) is)
    (e ∙ keyword_same m reader earlier keeps k)
    (if_none fault (new ≡ noted reader k) (Keeps m new (keyword k ∷ earlier)) (λ same. subst (λ (r : Reader). Keeps m r (keyword k ∷ earlier)) (sym same) (keyword_kept m reader earlier keeps k)) after)

-- numbers
capped : {A : Type 0} (f : ℕ → A) (v : ℕ) → (131073 ≤ v → f 131073 ≡ f v) → f (min v 131073) ≡ f v
capped f v h = elim (cases_lt v 131073) [
  | inl l ↦ (let same : min v 131073 ≡ v = omega arith in ap f same)
  | inr l ↦ (let same : min v 131073 ≡ 131073 = omega arith in ap f same ∙ h l)
]

block_past : (blocks v : ℕ) → blocks ≤ 131072 → 131073 ≤ v → block_fault blocks v ≡ Some kinds.BlockNumber
block_past blocks v few l = ap (λ (t : Bool). cond t None (Some kinds.BlockNumber)) (and_right (nat_le 1 v) (nat_le v blocks) (lt-leb v blocks (omega arith)))

count_past : (limits : Limits) (blocks v : ℕ) → 131073 ≤ v → number_fault limits blocks Nblocks v ≡ Some kinds.Limit
count_past limits blocks v l = ap (λ (t : Bool). cond t None (Some kinds.Limit)) (lt-leb v (most_blocks limits) (omega (arith, l, few_blocks limits)))

past : (limits : Limits) (blocks v : ℕ) → blocks ≤ 131072 → 131073 ≤ v → (k : Keyword) → number_fault limits blocks k 131073 ≡ number_fault limits blocks k v
past limits blocks v few l Presolved = sym (ap (λ (t : Bool). cond t None (cond (v == 1) (Some kinds.Presolved) (Some kinds.Syntax))) (ne_eqb v 0 (λ e. omega arith)) ∙ ap (λ (t : Bool). cond t (Some kinds.Presolved) (Some kinds.Syntax)) (ne_eqb v 1 (λ e. omega arith)))
past limits blocks v few l Nblocks = count_past limits blocks 131073 (omega arith) ∙ sym (count_past limits blocks v l)
past limits blocks v few l ConsDefaultMaster = sym (ap (λ (t : Bool). cond t None (Some kinds.Syntax)) (lt-leb v 1 (omega arith)))
past limits blocks v few l Block = block_past blocks 131073 few (omega arith) ∙ sym (block_past blocks v few l)
past limits blocks v few l BlockVars = block_past blocks 131073 few (omega arith) ∙ sym (block_past blocks v few l)
past limits blocks v few l _ = refl

number_same : (limits : Limits) (blocks n v : ℕ) → blocks ≤ 131072 → n ≡ min v 131073 → (k : Keyword) → number_fault limits blocks k n ≡ number_fault limits blocks k v
number_same limits blocks n v few e k = ap (number_fault limits blocks k) e ∙ capped (number_fault limits blocks k) v (λ l. past limits blocks v few l k)

-- a number without fault is the one that was read
whole : (most n v : ℕ) (kind : DecKind) (t : Bool) → most ≤ 131072 → n ≡ min v 131073 → (t ≡ true → v ≤ most) → cond t None (Some kind) ≡ None → (n ≡ v) × (v ≤ most)
whole most n v kind true few e small h = let within : v ≤ most = small refl in (omega arith, within)
whole most n v kind false few e small h = absurd (let odd : ◌≡◌ {A = Option DecKind} (Some kind) None = h in cc)

block_whole : (blocks n v : ℕ) → blocks ≤ 131072 → n ≡ min v 131073 → block_fault blocks v ≡ None → n ≡ v
block_whole blocks n v few e h = (whole blocks n v kinds.BlockNumber (nat_le 1 v && nat_le v blocks) few e (λ t. leb-true v blocks (and_parts (nat_le 1 v) (nat_le v blocks) t).1) h).0

-- the blocks that a reader has counted are at most those of the large limits
few_read : (m : NamedProgram) (reader : Reader) (earlier : List Part) → Keeps m reader earlier → reader.blocks ≤ 131072
few_read m reader earlier keeps = omega (arith, keeps.few, few_blocks m.program.limits)

number_kept : (m : NamedProgram) (reader : Reader) (earlier : List Part) (n v : ℕ) → Keeps m reader earlier → n ≡ min v 131073 → (k : Keyword) → number_fault m.program.limits reader.blocks k v ≡ None
    → Keeps m (with_number reader k n) (number k v ∷ earlier)
unfolding section_behind has_come block_count refuses_unlisted rows_listed vars_listed
number_kept m reader earlier n v keeps e Nblocks h =
    let most = most_blocks m.program.limits in
    let same = whole most n v kinds.Limit (nat_le v most) (omega (arith, few_blocks m.program.limits)) e (leb-true v most) h in
    record {
      section = refl;
      presolved = keeps.presolved;
      counted = keeps.counted;
      defaulted = keeps.defaulted;
      blocks = same.0;
      few = omega (arith, same.0, same.1);
      strict = keeps.strict;
      limits = keeps.limits;
      rows = keeps.rows;
      listed = keeps.listed;
    }
number_kept m reader earlier n v keeps e ConsDefaultMaster h = record {
  section = refl;
  presolved = keeps.presolved;
  counted = keeps.counted;
  defaulted = keeps.defaulted;
  blocks = keeps.blocks;
  few = keeps.few;
  strict = ap (λ (k : ℕ). k == 0) e ∙ capped (λ (k : ℕ). k == 0) v (λ l. sym (ne_eqb v 0 (λ z. omega arith)));
  limits = keeps.limits;
  rows = keeps.rows;
  listed = keeps.listed;
}
number_kept m reader earlier n v keeps e Block h = record {
  section = ap (λ (k : ℕ). Rows (Some (k - 1))) (block_whole reader.blocks n v (few_read m reader earlier keeps) e h);
  presolved = keeps.presolved;
  counted = keeps.counted;
  defaulted = keeps.defaulted;
  blocks = keeps.blocks;
  few = keeps.few;
  strict = keeps.strict;
  limits = keeps.limits;
  rows = keeps.rows;
  listed = keeps.listed;
}
number_kept m reader earlier n v keeps e BlockVars h = record {
  section = ap (λ (k : ℕ). Vars (Some (k - 1))) (block_whole reader.blocks n v (few_read m reader earlier keeps) e h);
  presolved = keeps.presolved;
  counted = keeps.counted;
  defaulted = keeps.defaulted;
  blocks = keeps.blocks;
  few = keeps.few;
  strict = keeps.strict;
  limits = keeps.limits;
  rows = keeps.rows;
  listed = keeps.listed;
}
number_kept m reader earlier n v keeps e _ h = record {
  section = refl;
  presolved = keeps.presolved;
  counted = keeps.counted;
  defaulted = keeps.defaulted;
  blocks = keeps.blocks;
  few = keeps.few;
  strict = keeps.strict;
  limits = keeps.limits;
  rows = keeps.rows;
  listed = keeps.listed;
}

read_number : (o : Option ℕ) (n : ℕ) → Some n ≡ option_map (λ v. min v 131073) o → (v : ℕ) × (o ≡ Some v) × (n ≡ min v 131073)
read_number None n e = absurd (let odd : ◌≡◌ {A = Option ℕ} (Some n) None = e in cc)
read_number (Some v) n e = (v, refl, cc)

no_number : (o : Option ℕ) → None ≡ option_map (λ v. min v 131073) o → o ≡ None
no_number None e = refl
no_number (Some v) e = absurd (let odd : ◌≡◌ {A = Option ℕ} None (Some (min v 131073)) = e in cc)

number_after : (m : NamedProgram) (reader new : Reader) (earlier : List Part) (n v : ℕ) (k : Keyword) (fault : Option DecKind) → Keeps m reader earlier → n ≡ min v 131073
    → fault ≡ number_fault m.program.limits reader.blocks k v → IfNone fault (new ≡ with_number reader k n) → IfNone fault (Keeps m new (number k v ∷ earlier))
number_after m reader new earlier n v k None keeps e is same = subst (λ (r : Reader). Keeps m r (number k v ∷ earlier)) (sym same) (number_kept m reader earlier n v keeps e k (sym is))
number_after m reader new earlier n v k (Some kind) keeps e is same = tt

pub number_taken : (m : NamedProgram) (reader new : Reader) (earlier : List Part) (line : ℕ) (first : Bool) (word : List ℕ) (k : Keyword) (n : ℕ) (fault : Option DecKind)
    → Keeps m reader earlier → has_bad_byte word ≡ false → keyword_of first word ≡ None → reader.section ≡ Awaits k → Some n ≡ option_map (λ v. min v 131073) (number_of word)
    → fault ≡ number_fault reader.limits reader.blocks k n → IfNone fault (new ≡ with_number reader k n) → Takes m new earlier (token_of line first word) (Ok fault)
number_taken m reader new earlier line first word k n fault keeps good none awaits is e after =
    let read = read_number (number_of word) n is in
    let fault_is : fault ≡ number_fault m.program.limits reader.blocks k read.0 =
    e ∙ ap (λ (limits : Limits). number_fault limits reader.blocks k n) keeps.limits ∙ number_same m.program.limits reader.blocks n read.0 (few_read m reader earlier keeps) read.2 k in
    taken m new earlier line first word (number k read.0) fault good
    (plain_part m reader earlier first word (Awaits k) keeps none awaits ∙ ap (number_part k) read.1)
    (fault_is ∙ ap (λ (b : ℕ). number_fault m.program.limits b k read.0) keeps.blocks)
    (number_after m reader new earlier n read.0 k fault keeps read.2 fault_is after)

-- a token that is at fault wherever it stands in its section
pub stray_taken : (m : NamedProgram) (reader new : Reader) (earlier : List Part) (line : ℕ) (first : Bool) (word : List ℕ) (section : Section) (part : Part) (kind : DecKind)
    → Keeps m reader earlier → has_bad_byte word ≡ false → keyword_of first word ≡ None → reader.section ≡ section → part_in section word ≡ part → Some kind ≡ part_fault m earlier part
    → Takes m new earlier (token_of line first word) (Ok (Some kind))
stray_taken m reader new earlier line first word section part kind keeps good none is in_section e =
    taken m new earlier line first word part (Some kind) good (plain_part m reader earlier first word section keeps none is ∙ in_section) e tt

pub no_number_taken : (m : NamedProgram) (reader new : Reader) (earlier : List Part) (line : ℕ) (first : Bool) (word : List ℕ) (k : Keyword)
    → Keeps m reader earlier → has_bad_byte word ≡ false → keyword_of first word ≡ None → reader.section ≡ Awaits k → None ≡ option_map (λ v. min v 131073) (number_of word)
    → Takes m new earlier (token_of line first word) (Ok (Some kinds.Syntax))
no_number_taken m reader new earlier line first word k keeps good none is number_is =
    stray_taken m reader new earlier line first word (Awaits k) stray kinds.Syntax keeps good none is (ap (number_part k) (no_number (number_of word) number_is)) refl

-- rows
row_kept : (m : NamedProgram) (reader : Reader) (rows : Listing) (earlier : List Part) (place : Option ℕ) (name : List ℕ) → Keeps m reader earlier → reader.section ≡ Rows place
    → Lists m.row_names rows ((name, place) ∷ rows_listed earlier) → Keeps m (record reader { rows = rows }) (row place name ∷ earlier)
unfolding section_behind has_come block_count refuses_unlisted rows_listed vars_listed
row_kept m reader rows earlier place name keeps is lists = record {
  section = keeps.section;
  presolved = keeps.presolved;
  counted = keeps.counted;
  defaulted = keeps.defaulted;
  blocks = keeps.blocks;
  few = keeps.few;
  strict = keeps.strict;
  limits = keeps.limits;
  rows = lists;
  listed = keeps.listed;
}

pub row_taken : (m : NamedProgram) (reader new : Reader) (earlier : List Part) (line : ℕ) (first : Bool) (word : List ℕ) (place : Option ℕ) (fault : Option DecKind)
    → Keeps m reader earlier → has_bad_byte word ≡ false → keyword_of first word ≡ None → reader.section ≡ Rows place
    → fault ≡ row_fault m.row_names (rows_listed earlier) word → IfNone fault (Lists m.row_names new.rows ((word, place) ∷ rows_listed earlier)) → new ≡ record reader { rows = new.rows }
    → Takes m new earlier (token_of line first word) (Ok fault)
row_taken m reader new earlier line first word place fault keeps good none is e lists others =
    taken m new earlier line first word (row place word) fault good (plain_part m reader earlier first word (Rows place) keeps none is) e
    (if_none fault (Lists m.row_names new.rows ((word, place) ∷ rows_listed earlier)) (Keeps m new (row place word ∷ earlier))
    (λ l. subst (λ (r : Reader). Keeps m r (row place word ∷ earlier)) (sym others) (row_kept m reader new.rows earlier place word keeps is l)) lists)

-- variables
variable_kept : (m : NamedProgram) (reader new : Reader) (earlier : List Part) (place : Option ℕ) (name : List ℕ) → Keeps m reader earlier
    → new.listed.items ≡ reader.listed.items ++ (number_among m.names name, place) ∷ [] → Keeps m (record reader { listed = new.listed }) (variable place name ∷ earlier)
unfolding section_behind has_come block_count refuses_unlisted rows_listed vars_listed
variable_kept m reader new earlier place name keeps e = record {
  section = keeps.section;
  presolved = keeps.presolved;
  counted = keeps.counted;
  defaulted = keeps.defaulted;
  blocks = keeps.blocks;
  few = keeps.few;
  strict = keeps.strict;
  limits = keeps.limits;
  rows = keeps.rows;
  listed = e ∙ ap (λ (xs : List (ℕ × Option ℕ)). xs ++ (number_among m.names name, place) ∷ []) keeps.listed;
}

pub variable_taken : (m : NamedProgram) (reader new : Reader) (earlier : List Part) (line : ℕ) (first : Bool) (word : List ℕ) (place : Option ℕ) (answer : Result (Option DecKind) AllocError)
    → Keeps m reader earlier → has_bad_byte word ≡ false → keyword_of first word ≡ None → reader.section ≡ Vars place
    → IfOk answer (λ fault. fault ≡ variable_fault m.names word) → IfOk answer (λ fault. IfNone fault (new ≡ record reader { listed = new.listed }))
    → IfOk answer (λ fault. IfNone fault (new.listed.items ≡ reader.listed.items ++ (number_among m.names word, place) ∷ []))
    → Takes m new earlier (token_of line first word) answer
variable_taken m reader new earlier line first word place (Ok None) keeps good none is e others entry =
    taken m new earlier line first word (variable place word) None good (plain_part m reader earlier first word (Vars place) keeps none is) e
    (subst (λ (r : Reader). Keeps m r (variable place word ∷ earlier)) (sym others) (variable_kept m reader new earlier place word keeps entry))
variable_taken m reader new earlier line first word place (Ok (Some kind)) keeps good none is e others entry =
    taken m new earlier line first word (variable place word) (Some kind) good (plain_part m reader earlier first word (Vars place) keeps none is) e tt
variable_taken m reader new earlier line first word place (Err f) keeps good none is e others entry = tt

-- names under no place
linking_kept : (m : NamedProgram) (reader : Reader) (earlier : List Part) (name : List ℕ) → Keeps m reader earlier → Keeps m reader (linking name ∷ earlier)
unfolding section_behind has_come block_count refuses_unlisted rows_listed vars_listed
linking_kept m reader earlier name keeps = record {
  section = keeps.section;
  presolved = keeps.presolved;
  counted = keeps.counted;
  defaulted = keeps.defaulted;
  blocks = keeps.blocks;
  few = keeps.few;
  strict = keeps.strict;
  limits = keeps.limits;
  rows = keeps.rows;
  listed = keeps.listed;
}

pub linking_taken : (m : NamedProgram) (reader : Reader) (earlier : List Part) (line : ℕ) (first : Bool) (word : List ℕ) (fault : Option DecKind)
    → Keeps m reader earlier → has_bad_byte word ≡ false → keyword_of first word ≡ None → reader.section ≡ Links → fault ≡ variable_fault m.names word
    → Takes m reader earlier (token_of line first word) (Ok fault)
linking_taken m reader earlier line first word None keeps good none is e =
    taken m reader earlier line first word (linking word) None good (plain_part m reader earlier first word Links keeps none is) e (linking_kept m reader earlier word keeps)
linking_taken m reader earlier line first word (Some kind) keeps good none is e =
    taken m reader earlier line first word (linking word) (Some kind) good (plain_part m reader earlier first word Links keeps none is) e tt
