use Rattle.std.proofs.Common.{◌≡◌, ◌∙◌, map, ap}
use Rattle.std.proofs.lemmas.Result.{IfOk-weaker}
use Rattle.std.proofs.lemmas.List.Elements.{recursion_from_All}
use Rattle.bp_theory.specs.Sums.{round_up}
use Rattle.bp_theory.specs.Cuts.{terms_of}
use Rattle.bp_model.specs.Tidy.{as_term, nonzero}
use Rattle.cut_sums.specs.Rounding.{round_entry}
use Rattle.cut_sums.specs.Rows.{program_of, rows_in, sum_in, IsBoundedEntry}
use Rattle.cut_sums.proofs.RoundLemmas.{rounded_terms, combined_past}
use Rattle.cut_sums.proofs.rounding.rounded.Goals as goal

pub returns : goal.returns
returns c =
    let p = program_of c.args.rows.now in
    let rows = rows_in c.args.rows.now in
    let entries : c.as_slice.result.now ≡ c.in_ok-sums.sums.entries = c.as_slice.ensures.value ∙ c.in_ok-entries.ensures in
    let all : c.as_slice-2.result.now ≡ map (round_entry c.args.q) c.in_ok-sums.sums.entries =
    c.as_slice-2.ensures.value ∙ c.in_ok-all.ensures ∙ ap (map (round_entry c.args.q)) entries in
    IfOk-weaker c.kept.result (λ kept. kept.items ≡ nonzero c.as_slice-2.result.now)
    (λ coefs. map as_term coefs.items ≡ terms_of p (λ v. round_up (sum_in rows c.args.mults.now v) c.args.q))
    (λ coefs is.
    ap (map as_term) (is ∙ ap nonzero all)
    ∙ rounded_terms p (sum_in rows c.args.mults.now) c.args.q c.in_ok-sums.sums.entries c.requires.divisor c.in_ok-sums.ensures.ordered c.in_ok-sums.ensures.sums
    (λ v l. combined_past p rows v c.args.mults.now (recursion_from_All (IsBoundedEntry p rows) c.args.mults.now c.requires.entries.each) l))
    c.kept.ensures
