use Rattle.std.proofs.Common.{◌∙◌, List, sym, subst}
use Rattle.bp_theory.specs.Decomposition.{Decomposition, HasLargeLinks}
use Rattle.bp_theory.specs.declared.Row.{Row}
use Rattle.bp_model.specs.Named.{NamedProgram}
use Rattle.block_program.specs.Cuts.{AreCutRows}
use Rattle.block_build.proofs.BlockingLemmas.{first_misplaced_at, none_misplaced_at, parts_bare, no_cut_rows, large_at, made_here, homes_at, kept_at}
use Rattle.block_form.proofs.check.parts_of.Goals as goal

pub source_of-requires-clause-cuts : goal.source_of-requires-clause-cuts
source_of-requires-clause-cuts c =
    subst (λ (rows : List Row). AreCutRows c.args.model.now.program rows) (sym (c.as_slice-3.ensures.value ∙ c.new-cuts.ensures.items)) (no_cut_rows c.args.model.now.program)

pub returns-in-Some-clause-fault : goal.returns-in-Some-clause-fault
returns-in-Some-clause-fault c =
    first_misplaced_at c.args.model.now.program c.args.dec.now c.in-Ok.standing.homes.items c.as_slice.result.now c.listed.result.now c.in-Some.var
    c.as_slice.ensures.value c.listed.ensures
    c.in-Ok.ensures.homes c.requires.listed c.in-Some.ensures

pub returns-then-are_large-clause-fault : goal.returns-then-are_large-clause-fault
returns-then-are_large-clause-fault c = (
  none_misplaced_at c.args.model.now.program c.args.dec.now c.in-Ok.standing.homes.items c.as_slice.result.now c.listed.result.now
      c.as_slice.ensures.value c.listed.ensures
      c.in-Ok.ensures.homes c.requires.listed
      c.in_default-first_elsewhere.ensures,
  c.if-are_large.ensures,
)

pub returns-clause-parts : goal.returns-clause-parts
returns-clause-parts c =
    parts_bare c.args.model.now c.args.dec.now c.in-Ok-made_parts.parts.0 c.in-Ok-made_parts.parts.1
    (kept_at c.args.model.now c.in-Ok-source_of.source c.in-Ok-source_of.ensures.model c.in-Ok-source_of.ensures.source) c.requires.places c.if-are_large.ensures
    (made_here c.args.model.now c.args.dec.now c.in-Ok-source_of.source c.in-Ok-made_parts.parts.0 c.in-Ok-made_parts.parts.1 c.in-Ok-source_of.ensures.model c.in-Ok-source_of.ensures.dec
    (c.in-Ok-source_of.ensures.cuts ∙ c.as_slice-3.ensures.value ∙ c.new-cuts.ensures.items) c.in-Ok-made_parts.ensures)

pub returns-clause-placed : goal.returns-clause-placed
returns-clause-placed c =
    none_misplaced_at c.args.model.now.program c.args.dec.now c.in-Ok.standing.homes.items c.as_slice.result.now c.listed.result.now
    c.as_slice.ensures.value c.listed.ensures
    c.in-Ok.ensures.homes c.requires.listed
    c.in_default-first_elsewhere.ensures
