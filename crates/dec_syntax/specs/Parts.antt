-- What each token of a text is, by the tokens before it.
use Rattle.std.specs.Prelude.{ℕ, ◌-◌, ◌==◌, Bool, true, false, ◌||◌, if◌then◌else◌, List, [], ◌∷◌, ◌++◌, map, take, length, reverse, Option, None, Some, suc}
use Rattle.std.specs.List.{list_any}
use Rattle.std.specs.Str.{bytes_eq}
use Rattle.bp_theory.specs.Decomposition.{Decomposition}
use Rattle.bp_model.specs.Named.{NamedProgram}
use Rattle.dec_syntax.specs.Cut.{Token, tokens}
use Rattle.dec_syntax.specs.Words.{keyword_of, number_of}
use Rattle.dec_syntax.specs.declared.words.Keyword.{Keyword}
use Rattle.dec_syntax.specs.declared.words.Keyword.TheVariants.{Presolved, Nblocks, ConsDefaultMaster, Block, MasterConss, BlockVars, MasterVars, LinkingVars}
use Rattle.dec_syntax.specs.declared.words.Section.{Section}
use Rattle.dec_syntax.specs.declared.words.Section.TheVariants.{Outside, Awaits, Rows, Vars, Links, Closed}

-- what a token is in its place: a keyword, the number of a keyword, a name of a row or of a variable listed under a
-- block (from 0) or the master, a name of a linking variable, or what nothing asks for
pub data Part : Type 0 where
  keyword : Keyword → Part
  number : Keyword → ℕ → Part
  row : Option ℕ → List ℕ → Part
  variable : Option ℕ → List ℕ → Part
  linking : List ℕ → Part
  stray : Part

-- the section that a keyword opens: the place of its number, or its names
abbrev pub opened : Keyword → Section
opened MasterConss = Rows None
opened MasterVars = Vars None
opened LinkingVars = Links
opened Presolved = Awaits Presolved
opened Nblocks = Awaits Nblocks
opened ConsDefaultMaster = Awaits ConsDefaultMaster
opened Block = Awaits Block
opened BlockVars = Awaits BlockVars

-- the section behind a keyword's number: the names of that block, or nothing more
abbrev pub numbered : Keyword → ℕ → Section
numbered Block n = Rows (Some (n - 1))
numbered BlockVars n = Vars (Some (n - 1))
numbered _ n = Closed

-- The section in which a token stands, by the last keyword or number before it. Here and below the parts before a
-- token are listed from the nearest back.
unfoldable pub section_behind : List Part → Section
section_behind [] = Outside
section_behind (keyword k ∷ earlier) = opened k
section_behind (number k n ∷ earlier) = numbered k n
section_behind (_ ∷ earlier) = section_behind earlier

-- a word in the place of a keyword's number
abbrev pub number_part : Keyword → Option ℕ → Part
number_part k None = stray
number_part k (Some n) = number k n

-- what a word that is no keyword is in a section
abbrev pub part_in : Section → List ℕ → Part
part_in Outside word = stray
part_in (Awaits k) word = number_part k (number_of word)
part_in (Rows place) word = row place word
part_in (Vars place) word = variable place word
part_in Links word = linking word
part_in Closed word = stray

-- a keyword wherever it stands, else by the section
abbrev pub part_by : Option Keyword → Section → List ℕ → Part
part_by None section word = part_in section word
part_by (Some k) section word = keyword k

-- what a token is behind others
unfoldable pub part_of : List Part → Token → Part
part_of earlier token = part_by (keyword_of token.first token.bytes) (section_behind earlier) token.bytes

-- what tokens are, from the nearest back
unfoldable pub parts : List Token → List Part
parts [] = []
parts (token ∷ before) = part_of (parts before) token ∷ parts before

-- what the tokens before a place are
unfoldable pub parts_before : List Token → ℕ → List Part
parts_before tokens i = parts (reverse (take i tokens))

-- what all tokens of a text are
abbrev pub parts_of : List ℕ → List Part
parts_of text = parts_before (tokens text) (length (tokens text))

abbrev pub same_keyword : Keyword → Keyword → Bool
same_keyword Presolved Presolved = true
same_keyword Nblocks Nblocks = true
same_keyword ConsDefaultMaster ConsDefaultMaster = true
same_keyword Block Block = true
same_keyword MasterConss MasterConss = true
same_keyword BlockVars BlockVars = true
same_keyword MasterVars MasterVars = true
same_keyword LinkingVars LinkingVars = true
same_keyword _ _ = false

-- whether a keyword stands among parts
unfoldable pub has_come : List Part → Keyword → Bool
has_come [] k = false
has_come (keyword j ∷ earlier) k = same_keyword j k || has_come earlier k
has_come (_ ∷ earlier) k = has_come earlier k

-- the number of blocks: the number of `NBLOCKS`
unfoldable pub block_count : List Part → ℕ
block_count [] = 0
block_count (number Nblocks n ∷ earlier) = n
block_count (_ ∷ earlier) = block_count earlier

-- whether rows that aren't listed are refused: the number of `CONSDEFAULTMASTER` is 0
unfoldable pub refuses_unlisted : List Part → Bool
refuses_unlisted [] = false
refuses_unlisted (number ConsDefaultMaster n ∷ earlier) = n == 0
refuses_unlisted (_ ∷ earlier) = refuses_unlisted earlier

-- the names of rows that are listed, with their places
unfoldable pub rows_listed : List Part → List (List ℕ × Option ℕ)
rows_listed [] = []
rows_listed (row place name ∷ earlier) = (name, place) ∷ rows_listed earlier
rows_listed (_ ∷ earlier) = rows_listed earlier

-- whether a name is among names
abbrev pub is_among : List (List ℕ) → List ℕ → Bool
is_among names name = list_any (λ n. bytes_eq n name) names

-- whether a name is listed
abbrev pub is_listed : List (List ℕ × Option ℕ) → List ℕ → Bool
is_listed [] name = false
is_listed (entry ∷ listing) name = if bytes_eq entry.0 name then true else is_listed listing name

-- the place under which a name is listed, or else the master
abbrev pub place_in : List (List ℕ × Option ℕ) → List ℕ → Option ℕ
place_in [] name = None
place_in (entry ∷ listing) name = if bytes_eq entry.0 name then entry.1 else place_in listing name

-- the number of a name among names, from 0
abbrev pub number_among : List (List ℕ) → List ℕ → ℕ
number_among [] name = 0
number_among (n ∷ names) name = if bytes_eq n name then 0 else suc (number_among names name)

-- the variables that are listed, with their places, in order of the text
unfoldable pub vars_listed : List (List ℕ) → List Part → List (ℕ × Option ℕ)
vars_listed names [] = []
vars_listed names (variable place name ∷ earlier) = vars_listed names earlier ++ (number_among names name, place) ∷ []
vars_listed names (_ ∷ earlier) = vars_listed names earlier

-- the decomposition that parts mean: rows that aren't listed are master rows
abbrev pub decomposition_of : NamedProgram → List Part → Decomposition
decomposition_of m all = record {
  blocks = block_count all;
  places = map (place_in (rows_listed all)) m.row_names;
  listed = vars_listed m.names all;
}
