-- The parts of the model, and what stands in their way.
use Rattle.std.proofs.Common.{◌≡◌, ◌∙◌, refl, [], ◌∷◌, sym, ap, subst, arith, ℕ, List, length, map, All, ◌<◌, ◌≤◌, ◌^◌}
use Rattle.bp_theory.specs.Limits.{most_digits}
use Rattle.bp_theory.specs.declared.Limits.{Limits}
use Rattle.bp_theory.proofs.LimitLaws as law
use Rattle.std.specs.Int.{w128}
use Rattle.std.proofs.lemmas.Int.{to_z-of_z, fits_signed_from_abs}
use Rattle.std.proofs.lemmas.List.{length-map}
use Rattle.bp_theory.specs.Digits.{zone_bits}
use Rattle.bp_theory.specs.declared.Row as theory
use Rattle.bp_theory.specs.declared.Span.{Span}
use Rattle.lp_token.specs.declared.Tok.{Tok}
use Rattle.lp_syntax.specs.Tree.{Name}
use Rattle.lp_syntax.specs.TreeIn.{tree_in, part_in, row_in}
use Rattle.lp_syntax.specs.Roles as roles
use Rattle.lp_semantics.specs.Meaning.{tokens_of, span_of, objective_items}
use Rattle.lp_semantics.specs.Reading.{IsTextOf}
use Rattle.lp_semantics.specs.Numbered.{table_of, ends_in, IsFirstPast, raw_terms, raw_row}
use Rattle.lp_semantics.specs.Fit.{IsFitPart, IsFitRow}
use Rattle.lp_syntax.specs.declared.tree.Row.{Row}
use Rattle.lp_syntax.specs.declared.tree.Tree.{Tree}
use Rattle.lp_semantics.specs.declared.bounds.Stated.{Stated}
use Rattle.lp_semantics.proofs.FineProof.{within_limits}
use Rattle.lp_semantics.proofs.FaultLemmas.{Tells, spans_are}
use Rattle.lp_semantics.proofs.LimitProof.{none_crossed, parts_limited}
use Rattle.lp_semantics.proofs.PartsProof.{text_fits, text_tells, refused, refused_past, variables_sound, parts_fit}
use Rattle.lp_semantics.proofs.parts_of.Goals as goal

-- the table, and how many variables it has
table_told : (limits : Limits) (text : List ℕ) (tokens : List Tok) (t : Tree) (names : List Name) (stated table : List Stated)
    → IsTextOf limits text tokens (tree_in text t) → names ≡ roles.variables (tokens_of (tree_in text t))
    → stated ≡ table_of names (map (part_in text) t.parts) → table ≡ stated → Tells (tree_in text t) table
table_told limits text tokens t names stated table h e made same = text_tells limits text tokens t names table h e (same ∙ made)

few_variables : (limits : Limits) (text : List ℕ) (tokens : List Tok) (t : Tree) (table : List Stated) → IsTextOf limits text tokens (tree_in text t) → Tells (tree_in text t) table → length table < 2 ^ 32
few_variables limits text tokens t table h tells = omega (arith, (within_limits limits (tokens_of (tree_in text t)) h.roles).0, law.few_variables limits, tells.long)

pub stated_of-requires : goal.stated_of-requires
stated_of-requires c =
    subst (All (IsFitPart c.args.text.now c.args.names)) (sym c.as_slice.ensures)
    (text_fits c.args.limits c.args.text.now c.requires.text_of.0 c.args.tree.now c.args.names c.requires.text_of.1 c.requires.variables).fit.parts

pub spans_of-requires : goal.spans_of-requires
spans_of-requires c =
    few_variables c.args.limits c.args.text.now c.requires.text_of.0 c.args.tree.now c.as_slice-2.result.now c.requires.text_of.1
    (table_told c.args.limits c.args.text.now c.requires.text_of.0 c.args.tree.now c.args.names c.in_ok-stated.stated.items c.as_slice-2.result.now c.requires.text_of.1 c.requires.variables
    (c.in_ok-stated.ensures ∙ ap (λ ps. table_of c.args.names (map (part_in c.args.text.now) ps)) c.as_slice.ensures) c.as_slice-2.ensures.value)

pub rows_of-requires : goal.rows_of-requires
rows_of-requires c =
    subst (All (IsFitRow c.args.text.now c.args.names)) (sym c.as_slice-4.ensures)
    (text_fits c.args.limits c.args.text.now c.requires.text_of.0 c.args.tree.now c.args.names c.requires.text_of.1 c.requires.variables).fit.rows

pub objective_of-requires : goal.objective_of-requires
objective_of-requires c = (text_fits c.args.limits c.args.text.now c.requires.text_of.0 c.args.tree.now c.args.names c.requires.text_of.1 c.requires.variables).fit.objective

pub returns-in-Err-clause-fault : goal.returns-in-Err-clause-fault
returns-in-Err-clause-fault c =
    refused c.args.limits (tree_in c.args.text.now c.args.tree.now) c.as_slice-2.result.now c.in-Err.fault
    (table_told c.args.limits c.args.text.now c.requires.text_of.0 c.args.tree.now c.args.names c.in_ok-stated.stated.items c.as_slice-2.result.now c.requires.text_of.1 c.requires.variables
    (c.in_ok-stated.ensures ∙ ap (λ ps. table_of c.args.names (map (part_in c.args.text.now) ps)) c.as_slice.ensures) c.as_slice-2.ensures.value)
    c.in-Err.ensures.fault

few_spans : (table : List Stated) (spans slice : List Span) → length table < 2 ^ 32 → spans ≡ map (λ s. span_of (ends_in s)) table → slice ≡ spans → length slice < 2 ^ 32
few_spans table spans slice l e same = omega (arith, l, ap length e, ap length same, length-map table (λ s. span_of (ends_in s)))

pub past_digits-requires : goal.past_digits-requires
past_digits-requires c =
    few_spans c.as_slice-2.result.now c.in-Ok.spans c.as_slice-3.result.now
    (few_variables c.args.limits c.args.text.now c.requires.text_of.0 c.args.tree.now c.as_slice-2.result.now c.requires.text_of.1
    (table_told c.args.limits c.args.text.now c.requires.text_of.0 c.args.tree.now c.args.names c.in_ok-stated.stated.items c.as_slice-2.result.now c.requires.text_of.1 c.requires.variables
    (c.in_ok-stated.ensures ∙ ap (λ ps. table_of c.args.names (map (part_in c.args.text.now) ps)) c.as_slice.ensures) c.as_slice-2.ensures.value))
    c.in-Ok.ensures.spans c.as_slice-3.ensures

pub returns-in-Some-clause-fault : goal.returns-in-Some-clause-fault
returns-in-Some-clause-fault c =
    refused_past c.args.limits (tree_in c.args.text.now c.args.tree.now) c.as_slice-2.result.now c.in-Ok.spans c.in-Some.variable
    (table_told c.args.limits c.args.text.now c.requires.text_of.0 c.args.tree.now c.args.names c.in_ok-stated.stated.items c.as_slice-2.result.now c.requires.text_of.1 c.requires.variables
    (c.in_ok-stated.ensures ∙ ap (λ ps. table_of c.args.names (map (part_in c.args.text.now) ps)) c.as_slice.ensures) c.as_slice-2.ensures.value)
    c.in-Ok.ensures.sound c.in-Ok.ensures.spans (subst (λ ss. IsFirstPast c.args.limits ss c.in-Some.variable) c.as_slice-3.ensures c.in-Some.ensures.past)

rows_made : (text : List ℕ) (names all : List Name) (rs slice : List Row) (made : List theory.Row) → names ≡ all → slice ≡ rs
    → made ≡ map (λ r. raw_row names (row_in text r)) slice → made ≡ map (raw_row all) (map (row_in text) rs)
rows_made text names all rs slice made e same h =
    h ∙ ap (map (λ r. raw_row names (row_in text r))) same ∙ along rs ∙ ap (λ ns. map (raw_row ns) (map (row_in text) rs)) e
  where
    along : (xs : List Row) → map (λ r. raw_row names (row_in text r)) xs ≡ map (raw_row names) (map (row_in text) xs)
    along [] = refl
    along (x ∷ xs) = ap (λ ys. raw_row names (row_in text x) ∷ ys) (along xs)

pub returns-clause-parts : goal.returns-clause-parts
returns-clause-parts c = record {
  names = c.in_ok-names.ensures ∙ c.requires.variables;
  row_names = c.in_ok-row_names.ensures ∙ c.requires.row_names;
  spans = c.in-Ok.ensures.spans
      ∙ spans_are (tree_in c.args.text.now c.args.tree.now) c.as_slice-2.result.now
      (table_told c.args.limits c.args.text.now c.requires.text_of.0 c.args.tree.now c.args.names c.in_ok-stated.stated.items c.as_slice-2.result.now c.requires.text_of.1 c.requires.variables
      (c.in_ok-stated.ensures ∙ ap (λ ps. table_of c.args.names (map (part_in c.args.text.now) ps)) c.as_slice.ensures) c.as_slice-2.ensures.value);
  rows = rows_made c.args.text.now c.args.names (roles.variables (tokens_of (tree_in c.args.text.now c.args.tree.now))) c.args.tree.now.rows c.as_slice-4.result.now c.in_ok-rows.rows
      c.requires.variables c.as_slice-4.ensures c.in_ok-rows.ensures;
  costs = c.in_ok-objective.ensures.costs
      ∙ ap (λ ns. raw_terms ns c.args.tree.now.maximises (objective_items (tree_in c.args.text.now c.args.tree.now))) c.requires.variables;
  constant = to_z-of_z w128 c.in_ok-objective.objective.constant (fits_signed_from_abs w128 c.in_ok-objective.objective.constant c.in_ok-objective.ensures.small)
      ∙ c.in_ok-objective.ensures.constant;
  maximises = refl;
  same_limits = refl;
}

pub returns-clause-fitting : goal.returns-clause-fitting
returns-clause-fitting c = parts_fit c.args.limits c.args.text.now c.requires.text_of.0 c.args.tree.now _ c.requires.text_of.1 (returns-clause-parts c)

pub returns-clause-limited : goal.returns-clause-limited
returns-clause-limited c = record {
  proper = none_crossed c.as_slice-2.result.now c.in-Ok.spans c.in-Ok.ensures.sound c.in-Ok.ensures.spans;
  bits = subst (λ ss. zone_bits ss ≤ most_digits c.args.limits) c.as_slice-3.ensures c.in-None.ensures.few;
  limits = parts_limited c.args.limits c.args.text.now c.requires.text_of.0 c.args.tree.now _ c.requires.text_of.1 (returns-clause-parts c);
}

pub returns-clause-sound : goal.returns-clause-sound
returns-clause-sound c =
    variables_sound c.args.limits (tree_in c.args.text.now c.args.tree.now) c.as_slice-2.result.now c.in-Ok.spans
    (table_told c.args.limits c.args.text.now c.requires.text_of.0 c.args.tree.now c.args.names c.in_ok-stated.stated.items c.as_slice-2.result.now c.requires.text_of.1 c.requires.variables
    (c.in_ok-stated.ensures ∙ ap (λ ps. table_of c.args.names (map (part_in c.args.text.now) ps)) c.as_slice.ensures) c.as_slice-2.ensures.value)
    c.in-Ok.ensures.sound c.in-Ok.ensures.spans (subst (λ ss. zone_bits ss ≤ most_digits c.args.limits) c.as_slice-3.ensures c.in-None.ensures.few)
