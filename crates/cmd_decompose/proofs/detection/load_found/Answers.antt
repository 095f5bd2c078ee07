use Rattle.std.proofs.Common.{◌≡◌, ◌∙◌, ◌+◌, refl, sym, subst, ap, ℕ, Bool, IsTrue, List, Some, IfOk, IfErr, IsSome, IfSome, take}
use Rattle.bp_theory.specs.Limits.{most_bytes}
use Rattle.bp_shelf.specs.Shelf.{Files}
use Rattle.bp_shelf.specs.declared.shelf.ShelfFault.TheVariants.{Missing}
use Rattle.frontend.specs.Written.{draft_answer, IsTextHalt}
use Rattle.frontend.proofs.Fronts.{past_limits}
use Rattle.frontend.proofs.Written.{lp_halts}
use Rattle.cmd_decompose.specs.Detects.{RowsCome, Detects, missing_lp, faulty_lp}
use Rattle.cmd_decompose.proofs.Lifted.{front_halts, still_missing, list_found, list_halted, list_counts}
use Rattle.cmd_decompose.proofs.detection.load_found.Goals as goal

pub returns-in_err-model-clause-halted : goal.returns-in_err-model-clause-halted
returns-in_err-model-clause-halted g c = λ told.
    lp_halts c.args.limits (Detects c.args.limits (g.F.Shelf.file c.args.shelf.now) c.args.lp.now c.args.rows.now) (g.F.Shelf.file c.args.shelf.now c.args.lp.now) c.in_err-model.field-0.0
    c.from_residual.result missing_lp faulty_lp c.from_residual.ensures.1 (c.in_err-model.ensures.halted told)

pub returns-in_err-list-clause-halted : goal.returns-in_err-list-clause-halted
returns-in_err-list-clause-halted g c = λ told.
    let still : IsTrue (g.F.Shelf.tells c.load_model.new.shelf) = subst (λ (b : Bool). IsTrue b) (sym c.in_ok-model.ensures.told) told in
    front_halts c.args.limits (g.F.Shelf.file c.args.shelf.now) c.args.lp.now c.args.rows.now c.in_ok-model.model c.in_err-list.field-0.0 c.from_residual-in_err-list.result
    c.from_residual-in_err-list.ensures.1 (c.in_ok-model.ensures.model told)
    (λ (is : c.in_err-list.field-0.0 ≡ Missing). ap (λ (files : Files). files c.args.rows.now) (sym c.in_ok-model.ensures.files) ∙ c.in_err-list.ensures.missing still (still_missing c.in_err-list.field-0.0 is))

pub returns-clause-found : goal.returns-clause-found
returns-clause-found g c = λ told.
    let still : IsTrue (g.F.Shelf.tells c.load_model.new.shelf) = subst (λ (b : Bool). IsTrue b) (sym c.in_ok-model.ensures.told) told in
    let list = c.in_ok-list.list in
    list_found c.args.limits (g.F.Shelf.file c.args.shelf.now) c.args.lp.now c.args.rows.now c.in_ok-model.model list.items c.found_in.result (most_bytes c.limits.result + 1)
    (past_limits c.in_ok-model.model.program.limits c.limits.result c.limits.ensures) (c.in_ok-model.ensures.model told)
    (subst (λ (files : Files). IsSome (files c.args.rows.now)) c.in_ok-model.ensures.files (c.in_ok-list.ensures.found still refl))
    (subst (λ (files : Files). IfSome (files c.args.rows.now) (λ all. list.items ≡ take (most_bytes c.limits.result + 1) all)) c.in_ok-model.ensures.files (c.in_ok-list.ensures.bytes still))
    (subst (λ (t : List ℕ). IfOk c.found_in.result (λ f. RowsCome c.in_ok-model.model (Some t) (draft_answer f))) c.deref.ensures.value c.found_in.ensures.found)

pub returns-clause-halted : goal.returns-clause-halted
returns-clause-halted g c = λ told.
    let still : IsTrue (g.F.Shelf.tells c.load_model.new.shelf) = subst (λ (b : Bool). IsTrue b) (sym c.in_ok-model.ensures.told) told in
    let list = c.in_ok-list.list in
    list_halted c.args.limits (g.F.Shelf.file c.args.shelf.now) c.args.lp.now c.args.rows.now c.in_ok-model.model list.items c.found_in.result (most_bytes c.limits.result + 1)
    (past_limits c.in_ok-model.model.program.limits c.limits.result c.limits.ensures) (c.in_ok-model.ensures.model told)
    (subst (λ (files : Files). IsSome (files c.args.rows.now)) c.in_ok-model.ensures.files (c.in_ok-list.ensures.found still refl))
    (subst (λ (files : Files). IfSome (files c.args.rows.now) (λ all. list.items ≡ take (most_bytes c.limits.result + 1) all)) c.in_ok-model.ensures.files (c.in_ok-list.ensures.bytes still))
    (subst (λ (t : List ℕ). IfErr c.found_in.result (IsTextHalt (RowsCome c.in_ok-model.model (Some t)))) c.deref.ensures.value c.found_in.ensures.halted)

pub returns-clause-cause : goal.returns-clause-cause
returns-clause-cause g c =
    list_counts (RowsCome c.in_ok-model.model (Some c.deref.result.now)) c.found_in.result (g.F.Shelf.read_faults c.args.shelf.now) (g.F.Shelf.read_faults c.read_text.new.shelf) c.found_in.ensures.halted
    (c.in_ok-list.ensures.cause ∙ c.in_ok-model.ensures.cause)
