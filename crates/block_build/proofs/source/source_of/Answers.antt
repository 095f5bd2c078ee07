use Rattle.std.proofs.Common.{◌∙◌, ◌+◌, ◌≤◌, List, ℕ, All, length, sym, ap, subst, arith}
use Rattle.std.specs.Prelude.{sum_by}
use Rattle.bp_theory.specs.Limits.{most_blocks}
use Rattle.bp_theory.specs.declared.Limits.TheVariants.{Large}
use Rattle.block_build.specs.Homes.{further, AreLinks}
use Rattle.block_build.proofs.HomeLemmas.{few_homes}
use Rattle.block_build.proofs.LargeLemmas.{few_lines_of}
use Rattle.block_build.proofs.source.source_of.Goals as goal

pub first_links-requires-clause-few : goal.first_links-requires-clause-few
first_links-requires-clause-few c =
    subst (λ (hs : List (List ℕ)). All (λ own. length own ≤ most_blocks Large) hs) (sym c.as_slice.ensures.value)
    (few_homes c.args.model.now.program c.args.dec.now c.args.standing.homes.items c.requires.standing.homes (omega (arith, c.blocks-blocks.ensures.few, c.blocks-blocks.ensures.blocks)))

pub first_links-requires-clause-end : goal.first_links-requires-clause-end
first_links-requires-clause-end c =
    omega (
      arith,
      few_lines_of c.args.model.now.program c.args.dec.now c.args.standing.homes.items c.requires.standing.homes c.requires.moderate,
      ap (λ (hs : List (List ℕ)). sum_by further hs) c.as_slice.ensures.value,
      c.rows.ensures.rows,
    )

pub columns_of-requires-clause-few : goal.columns_of-requires-clause-few
columns_of-requires-clause-few c =
    omega (
      arith,
      c.in_ok-found.ensures.end,
      ap (λ (hs : List (List ℕ)). sum_by further hs) c.as_slice.ensures.value,
      few_lines_of c.args.model.now.program c.args.dec.now c.args.standing.homes.items c.requires.standing.homes c.requires.moderate,
      c.rows.ensures.rows,
      c.requires.cuts.few,
    )

pub returns-clause-source : goal.returns-clause-source
returns-clause-source c = record {
  kept = c.rows.ensures.kept;
  places = c.requires.places;
  few = omega (arith, c.blocks-blocks.ensures.few, c.blocks-blocks.ensures.blocks);
  cuts = c.requires.cuts;
  columns = c.requires.standing.columns;
  each_column = c.requires.standing.each_column;
  homes = c.requires.standing.homes;
  links = subst (λ (n : ℕ). AreLinks n c.args.standing.homes.items c.in_ok-found.found.0.items) c.rows.ensures.rows
      (subst (λ (hs : List (List ℕ)). AreLinks c.rows.result hs c.in_ok-found.found.0.items) c.as_slice.ensures.value c.in_ok-found.ensures.links);
  end = c.in_ok-found.ensures.end ∙ ap (λ n. n + sum_by further c.as_slice.result.now) c.rows.ensures.rows
      ∙ ap (λ (hs : List (List ℕ)). length c.args.model.now.program.rows + sum_by further hs) c.as_slice.ensures.value;
  few_lines = omega (
    arith,
    c.in_ok-found.ensures.end,
    ap (λ (hs : List (List ℕ)). sum_by further hs) c.as_slice.ensures.value,
    few_lines_of c.args.model.now.program c.args.dec.now c.args.standing.homes.items c.requires.standing.homes c.requires.moderate,
    c.rows.ensures.rows,
  );
  cut_columns = λ v l. c.in_ok-cut_columns.ensures.columns v (omega (arith, l, c.in_ok-cut_columns.ensures.each, c.in_ok-cut_columns.cut_columns.ok));
  each_cut_column = omega (arith, c.in_ok-cut_columns.ensures.each, c.in_ok-cut_columns.cut_columns.ok, c.vars.ensures.vars);
}
