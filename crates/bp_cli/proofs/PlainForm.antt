-- The decomposition without a text is never refused: it has no blocks, so that nothing is misplaced and no variable links.
use Rattle.std.proofs.Common.{◌≡◌, ◌≢◌, refl, ap, ⊎_elim, ℕ, ◌≤◌, List, [], ◌∷◌, length, arith}
use Rattle.std.specs.List.{range_with_len, flat_map}
use Rattle.std.proofs.lemmas.List.{length-map}
use Rattle.bp_theory.specs.Limits.{most_variables, most_rows, most_lines}
use Rattle.bp_theory.specs.declared.Limits.{Limits}
use Rattle.bp_theory.specs.Program.{Program}
use Rattle.bp_theory.proofs.LimitLaws.{rows_are_lines}
use Rattle.bp_theory.proofs.ZipLaws.{AllZip-length}
use Rattle.bp_theory.specs.Decomposition.{ProofRow, links_of, link_count, HasLargeLinks}
use Rattle.bp_model.specs.Named.{NamedProgram}
use Rattle.bp_model.specs.Dec.{plain_of}
use Rattle.lp_syntax.specs.Tree.{SyntaxTree}
use Rattle.lp_syntax.specs.Roles.{row_names, variables}
use Rattle.lp_semantics.specs.Meaning.{TextModel, model_of, model_row, row_meaning, tokens_of}
use Rattle.lp_semantics.specs.Model.{Means, IsRowOf}
use Rattle.lp_semantics.proofs.FineProof.{within_limits}
use Rattle.lp_semantics.proofs.RowLemmas.{length-row_names}
use Rattle.block_form.specs.Checks.{HasBlockFault}
use Rattle.block_form.specs.declared.fault.BlockFault.{BlockFault}
use Rattle.block_form.specs.declared.fault.BlockFault.TheVariants.{VarPlace, Links, NoMemory}

tree_rows : (t : SyntaxTree) → length (model_of t).rows ≡ length t.rows
unfolding model_of
tree_rows t = length-map t.rows (λ r. model_row (variables (tokens_of t)) (row_meaning r))

-- the program that a text means has no more rows than may be
few_rows : (limits : Limits) (text : List ℕ) (m : NamedProgram) → Means limits text m → length m.program.rows ≤ most_rows limits
few_rows limits text m means =
    let reads = means.1 in
    let within : (length (variables (tokens_of reads.tree)) ≤ most_variables limits) × (length (row_names (tokens_of reads.tree)) ≤ most_rows limits) × _ = within_limits limits (tokens_of reads.tree) reads.text_of.roles in
    omega (
      arith,
      within.1,
      length-row_names reads.tree,
      tree_rows reads.tree,
      ap (λ (meant : TextModel). length meant.rows) reads.means,
      AllZip-length IsRowOf means.0.rows m.program.rows means.2.rows,
    )

no_links : (p : Program) (vs : List ℕ) → flat_map (links_of p (plain_of p)) vs ≡ []
no_links p [] = refl
no_links p (v ∷ vs) = no_links p vs

not_large : (p : Program) → length p.rows ≤ most_lines p.limits → HasLargeLinks p (plain_of p) → ⊥
not_large p few large =
    ⊎_elim
    (λ many.
    let none : link_count p (plain_of p) ≡ 0 = ap (λ (rows : List ProofRow). length rows) (no_links p (range_with_len 0 (length p.spans))) in
    let no : ⊥ = omega (arith, many, none, few) in no)
    (λ wide. let there = wide.2.there in let no : ⊥ = omega (arith, there) in no)
    large

pub plain_fault : (limits : Limits) (text : List ℕ) (m : NamedProgram) (fault : BlockFault) → Means limits text m → fault ≢ NoMemory → HasBlockFault m.program (plain_of m.program) fault → ⊥
plain_fault limits text m (VarPlace v) means known has = let there = has.there in omega arith
plain_fault limits text m Links means known has =
    let few : length m.program.rows ≤ most_lines m.program.limits = omega (arith, few_rows limits text m means, rows_are_lines limits, ap most_lines means.3) in
    not_large m.program few has.1
plain_fault limits text m NoMemory means known has = known refl
