-- Which words ask for a page of the program's own, and for which.
use Rattle.std.specs.Prelude.{ℕ, if◌then◌else◌, List, [], ◌∷◌, Option, None, Some, codes}
use Rattle.std.specs.Str.{bytes_eq}
use Rattle.notes.specs.declared.page.Page.{Page}
use Rattle.notes.specs.declared.page.Page.TheVariants.{Usage, Solve, Check, Show, Propose, Detect, Merge, Migrate, Gen, Demo, Version}

-- the words that stand alone, each with its page
abbrev pub words_alone : List (List ℕ × Page)
words_alone = (codes "help", Usage) ∷ (codes "version", Version) ∷ []

-- the commands, each with its page, which `help` and its name ask for
abbrev pub commands : List (List ℕ × Page)
commands = (codes "solve", Solve) ∷ (codes "check", Check) ∷ (codes "show", Show) ∷ (codes "propose", Propose)
    ∷ (codes "detect", Detect) ∷ (codes "merge", Merge) ∷ (codes "migrate", Migrate) ∷ (codes "gen", Gen) ∷ (codes "demo", Demo) ∷ []

-- the page that a table has for a word
abbrev pub page_in : List (List ℕ × Page) → List ℕ → Option Page
page_in [] word = None
page_in (entry ∷ table) word = if bytes_eq word entry.0 then Some entry.1 else page_in table word

-- the page that words ask for, the program's name first: no page but by one word of its own, or by `help` and a command
abbrev pub asked_page : List (List ℕ) → Option Page
asked_page [] = None
asked_page (program ∷ []) = None
asked_page (program ∷ word ∷ []) = page_in words_alone word
asked_page (program ∷ word ∷ command ∷ []) = if bytes_eq word (codes "help") then page_in commands command else None
asked_page (program ∷ word ∷ command ∷ more ∷ others) = None
