use Rattle.std.proofs.Common.{◌≡◌, ◌∙◌, ◌<◌, ◌≤◌, ◌^◌, ℕ, List, length, map, sym, subst, ap, arith, All, to_z, of_z}
use Rattle.std.specs.Prelude.{ℤ, unsigned_abs}
use Rattle.std.specs.Int.{w128}
use Rattle.std.proofs.lemmas.Int.{ints}
use Rattle.bp_theory.specs.Cuts.{CombinesWell}
use Rattle.bp_theory.specs.declared.Term.{Term}
use Rattle.bp_model.specs.Tidy.{as_term}
use Rattle.cut_sums.specs.Rows.{program_of, rows_in, row_in, sum_in, AreEntries}
use Rattle.std.proofs.Common.{true, false, refl}
use Rattle.std.proofs.lemmas.Result.{IfOk-weaker}
use Rattle.bp_theory.specs.Sums.{round_up}
use Rattle.bp_theory.specs.Program.{IsFeasible, KeepsActivity, MeetsRow}
use Rattle.bp_theory.specs.Cuts.{cut_row}
use Rattle.cut_sums.specs.Bounded.{row_from, IsRowFrom}
use Rattle.cut_sums.specs.Cutting.{HasFittingSigns, IsEarlierCut}
use Rattle.cut_sums.proofs.CutLemmas.{above_within, coefs_below, cut_met, fault_is, later_cut, row_of_entries}
use Rattle.cut_sums.proofs.SizeLemmas.{entries_are}
use Rattle.round_cut.proofs.cut.row_over.Goals as goal

pub signs_fit-requires-clause-entries : goal.signs_fit-requires-clause-entries
signs_fit-requires-clause-entries c =
    let s = c.args.rows.now in
    subst (AreEntries (program_of s) (rows_in s)) (sym c.as_slice-mults.ensures) (entries_are s c.args.cut.now c.requires.rows c.requires.cut)

pub rounded-requires-clause-entries : goal.rounded-requires-clause-entries
rounded-requires-clause-entries c =
    let s = c.args.rows.now in
    subst (AreEntries (program_of s) (rows_in s)) (sym c.as_slice-mults.ensures) (entries_are s c.args.cut.now c.requires.rows c.requires.cut)

pub demand-requires-clause-entries : goal.demand-requires-clause-entries
demand-requires-clause-entries c =
    let s = c.args.rows.now in
    subst (AreEntries (program_of s) (rows_in s)) (sym c.as_slice-mults.ensures) (entries_are s c.args.cut.now c.requires.rows c.requires.cut)

pub bounded_row-requires : goal.bounded_row-requires
bounded_row-requires c =
    let s = c.args.rows.now in
    let q : ℕ = c.args.cut.now.q in
    let entries = subst (AreEntries (program_of s) (rows_in s)) (sym c.as_slice-mults.ensures) (entries_are s c.args.cut.now c.requires.rows c.requires.cut) in
    let cast : to_z w128 (of_z w128 c.demand.result) ≡ c.demand.result = omega (arith, ints) in
    let told : c.round_up-above.result ≡ round_up c.demand.result q = c.round_up-above.ensures ∙ ap (λ z. round_up z q) cast in
    let small : unsigned_abs c.round_up-above.result ≤ 2 ^ 116 =
    subst (λ (z : ℤ). unsigned_abs z ≤ 2 ^ 116) (sym told)
    (above_within (program_of s) (rows_in s) c.as_slice-mults.result.now c.demand.result q entries c.requires.cut.divides c.requires.cut.small.divisor c.demand.ensures) in
    let back : to_z w128 (of_z w128 c.round_up-above.result) ≡ c.round_up-above.result = omega (arith, ints) in
    record {
      above = subst (λ (z : ℤ). unsigned_abs z ≤ 2 ^ 116) (sym back) small;
      below = subst (λ (es : List (ℕ × ℤ)). All (λ e. e.0 < length (program_of s).spans) es) (sym c.as_slice.ensures.value)
          (coefs_below (program_of s) (λ v. round_up (sum_in (rows_in s) c.as_slice-mults.result.now v) q) c.in-Ok.coefs.items c.in-Ok.ensures);
    }

pub returns : goal.returns
returns c =
    let s = c.args.rows.now in
    let p = program_of s in
    let cut = c.args.cut.now in
    let ms = c.as_slice-mults.result.now in
    let result = c.bounded_row.result in
    let entries = subst (AreEntries p (rows_in s)) (sym c.as_slice-mults.ensures) (entries_are s cut c.requires.rows c.requires.cut) in
    let signs : HasFittingSigns (rows_in s) cut =
    subst (λ (ms : List (ℕ × ℤ)). All (λ m. CombinesWell (row_in s m.0) m.1) ms) c.as_slice-mults.ensures (c.if-not-signs_fit.ensures.0 refl) in
    let terms : List Term = map as_term c.as_slice.result.now in
    let above : ℤ = to_z w128 (of_z w128 c.round_up-above.result) in
    let back : to_z w128 (of_z w128 c.round_up-above.result) ≡ c.round_up-above.result = omega (arith, ints) in
    let cast : to_z w128 (of_z w128 c.demand.result) ≡ c.demand.result = omega (arith, ints) in
    let told : above ≡ round_up c.demand.result cut.q = back ∙ c.round_up-above.ensures ∙ ap (λ z. round_up z cut.q) cast in
    let is : row_from p above terms ≡ cut_row p (rows_in s) cut =
    row_of_entries p (rows_in s) cut ms c.demand.result above terms c.as_slice-mults.ensures entries c.demand.ensures told
    (ap (map as_term) c.as_slice.ensures.value ∙ c.in-Ok.ensures) in
    record {
      row = IfOk-weaker result (IsRowFrom p above terms) (λ row. row ≡ cut_row p (rows_in s) cut) (λ row h. h.is ∙ is) c.bounded_row.ensures.row;
      signs = IfOk-weaker result (IsRowFrom p above terms) (λ row. HasFittingSigns (rows_in s) cut) (λ row h. signs) c.bounded_row.ensures.row;
      kept = IfOk-weaker result (IsRowFrom p above terms) (IsEarlierCut p)
          (λ row h. subst (IsEarlierCut p) (sym (h.is ∙ is)) (later_cut p (rows_in s) cut (subst (KeepsActivity p) (h.is ∙ is) h.kept)))
          c.bounded_row.ensures.row;
      met = IfOk-weaker result (IsRowFrom p above terms) (λ row. (x : List ℤ) → IsFeasible p x → All (MeetsRow x) s.earlier.now → MeetsRow x row)
          (λ row h x feasible met. subst (MeetsRow x) (sym (h.is ∙ is))
          (cut_met p s.b.now.dec s.earlier.now cut x c.requires.rows.formed.kept.closed c.requires.rows.earlier c.requires.cut signs feasible met))
          c.bounded_row.ensures.row;
      fault = fault_is p (rows_in s) cut (row_from p above terms) result is signs c.bounded_row.ensures.fault;
    }

pub returns-then-not-signs_fit-clause-fault : goal.returns-then-not-signs_fit-clause-fault
returns-then-not-signs_fit-clause-fault c all =
    let both : false ≡ true =
    c.if-not-signs_fit.ensures.1 (subst (λ (ms : List (ℕ × ℤ)). All (λ m. CombinesWell (row_in c.args.rows.now m.0) m.1) ms) (sym c.as_slice-mults.ensures) all) in
    absurd (cc)
