use Rattle.std.proofs.Common.{ℕ, Bool, List, [], ◌∷◌, ◌++◌, Option, map, length, ap, sym, ◌∙◌, arith}
use Rattle.std.specs.Prelude.{is_some}
use Rattle.std.specs.List.{range_with_len}
use Rattle.std.proofs.lemmas.List.FromFn.{map-range_with_len_more}
use Rattle.bp_theory.specs.Blocking.{row_at}
use Rattle.bp_theory.specs.declared.MasterRow.{MasterRow}
use Rattle.bp_model.specs.Named.{NamedProgram}
use Rattle.cert_text.proofs.program.master_rows.Goals as goal

pub loop-row-preserved : goal.loop-row-preserved
loop-row-preserved c =
    let named : ℕ → Bool = λ row. is_some (row_at c.args.b.now.blocking row) in
    c.in_ok-push.ensures.added
    ∙ ap (λ (ms : List Bool). ms ++ c.is_some.result ∷ []) c.loop-row.invariant
    ∙ ap (λ (t : Bool). map named (range_with_len 0 c.loop-row.row) ++ t ∷ []) (c.is_some.ensures ∙ ap (λ (o : Option MasterRow). is_some o) c.master_row.ensures)
    ∙ sym (map-range_with_len_more named 0 c.loop-row.row c.loop-row.row (omega arith))

pub returns : goal.returns
returns c =
    let named : ℕ → Bool = λ row. is_some (row_at c.args.b.now.blocking row) in
    let rows = ap (λ (m : NamedProgram). length m.program.rows) c.model.ensures.model in
    c.loop-row.invariant
    ∙ ap (λ (n : ℕ). map named (range_with_len 0 n)) (omega (arith, c.loop-row-test.false, c.loop-row.auto.row-end, c.rows-rows.ensures.rows, rows))
