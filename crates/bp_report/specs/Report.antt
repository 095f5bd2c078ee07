-- The bytes of reports: lines of words with single spaces between, each line ended by one line feed.
use Rattle.std.specs.Prelude.{ℕ, ℤ, Bool, if◌then◌else◌, length, count_by, is_none, List, [], ◌++◌, Option, codes, decimal}
use Rattle.bp_model.specs.Named.{NamedProgram}
use Rattle.block_program.specs.Blocked.{BlockedProgram}
use Rattle.block_class.specs.Classes.{Grouping}
use Rattle.branch_tree.specs.declared.outcome.Outcome.{Outcome}
use Rattle.report_lines.specs.Lines.{count_line}
use Rattle.report_lines.specs.Searches.{ended_line, known_lines, budget_lines, outcome_lines, outcome_point}
use Rattle.report_lines.specs.Blocks.{size_lines, class_lines, shown_blocks, first_classes, proposed_line, shown_firsts}

-- ---- ended searches

-- the report of a search that ended: its first line, and a point that has the best value
abbrev pub ended_report : NamedProgram → Option (List ℤ) → List ℕ
ended_report m best = ended_line m best ++ known_lines m best

-- ---- searches that were stopped

-- the report of a search that was stopped: its first lines, and the known point
abbrev pub budget_report : NamedProgram → (steps : ℕ) (least : ℤ) → Option (List ℤ) → List ℕ
budget_report m steps least best = budget_lines m steps least best ++ known_lines m best

-- ---- outcomes

-- the report on the outcome of a search
abbrev pub solve_report : NamedProgram → (steps : ℕ) → Outcome → List ℕ
solve_report m steps o = outcome_lines m steps o ++ known_lines m (outcome_point o)

-- ---- certificates

-- the report on a certificate of so many nodes that was written anew
abbrev pub migrated_report : (nodes : ℕ) → List ℕ
migrated_report nodes = count_line (codes "migrated ") nodes

-- ---- sizes

-- the report on sizes and classes
abbrev pub show_report : BlockedProgram → Grouping → List ℕ
show_report b g = size_lines b (length g.firsts) ++ class_lines b g

-- the report on sizes and classes, followed by the lines of the blocks where they are wanted
abbrev pub show_report_with : BlockedProgram → Grouping → (blocks classes : Bool) → List ℕ
show_report_with b g blocks classes = show_report b g ++ (if blocks then shown_blocks b else (if classes then shown_firsts b g else []))

-- ---- texts that were made

-- the report on texts that were made
abbrev pub made_report : (variables rows : ℕ) → List ℕ
made_report variables rows = codes "made variables " ++ decimal variables ++ codes " rows " ++ decimal rows ++ codes "\n"

-- the report on a decomposition that was found beside master rows
abbrev pub detected_report : (blocks : ℕ) → List ℕ
detected_report blocks = codes "detected blocks " ++ decimal blocks ++ codes "\n"

-- the report on a decomposition that was proposed, by its program in blocks and the classes at the root
abbrev pub proposed_report : BlockedProgram → Grouping → List ℕ
proposed_report b g = proposed_line b.dec.blocks (first_classes b.dec.blocks g) (count_by is_none b.dec.places)
