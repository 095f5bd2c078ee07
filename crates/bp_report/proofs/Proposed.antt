-- The report on a decomposition that was proposed.
use Rattle.std.proofs.Common.{◌≡◌, ℕ, List, [], ◌++◌, ap, ◌∙◌}
use Rattle.std.specs.Prelude.{count_by, is_none}
use Rattle.block_program.specs.Blocked.{BlockedProgram}
use Rattle.block_class.specs.Classes.{Grouping}
use Rattle.report_lines.specs.Blocks.{first_classes, proposed_line}
use Rattle.bp_report.specs.Report.{proposed_report}

-- the line of a proposed decomposition by its program in blocks
pub proposed_as : (b : BlockedProgram) (g : Grouping) (blocks classes master : ℕ) (start text : List ℕ) → blocks ≡ b.dec.blocks → classes ≡ first_classes blocks g
    → master ≡ count_by is_none b.dec.places → start ≡ [] → text ≡ start ++ proposed_line blocks classes master → text ≡ proposed_report b g
proposed_as b g blocks classes master start text blocks_are classes_are master_is none is =
    is ∙ ap (λ (xs : List ℕ). xs ++ proposed_line blocks classes master) none ∙ ap (λ (n : ℕ). proposed_line n classes master) blocks_are
    ∙ ap (λ (n : ℕ). proposed_line b.dec.blocks n master) (classes_are ∙ ap (λ (n : ℕ). first_classes n g) blocks_are)
    ∙ ap (λ (n : ℕ). proposed_line b.dec.blocks (first_classes b.dec.blocks g) n) master_is
