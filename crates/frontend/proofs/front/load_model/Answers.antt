use Rattle.std.proofs.Common.{◌+◌, refl, subst, List, ℕ, IfOk, IfErr}
use Rattle.bp_theory.specs.Limits.{most_bytes}
use Rattle.lp_semantics.specs.Model.{Means}
use Rattle.frontend.specs.Halts.{IsLpHalt}
use Rattle.frontend.proofs.Fronts.{past_limits, models, halted_models}
use Rattle.frontend.proofs.front.load_model.Goals as goal

pub returns-clause-model : goal.returns-clause-model
returns-clause-model g c = λ told.
    models c.args.limits (g.F.Shelf.file c.args.shelf.now c.args.lp.now) c.in_ok-text.text.items c.model_of.result (most_bytes c.args.limits + 1) (past_limits c.args.limits c.args.limits refl)
    (c.in_ok-text.ensures.found told refl) (c.in_ok-text.ensures.bytes told)
    (subst (λ (t : List ℕ). IfOk c.model_of.result (Means c.args.limits t)) c.deref.ensures.value c.model_of.ensures.model)

pub returns-clause-halted : goal.returns-clause-halted
returns-clause-halted g c = λ told.
    halted_models c.args.limits (g.F.Shelf.file c.args.shelf.now c.args.lp.now) c.in_ok-text.text.items c.model_of.result (most_bytes c.args.limits + 1) (past_limits c.args.limits c.args.limits refl)
    (c.in_ok-text.ensures.found told refl) (c.in_ok-text.ensures.bytes told)
    (subst (λ (t : List ℕ). IfErr c.model_of.result (IsLpHalt c.args.limits t)) c.deref.ensures.value c.model_of.ensures.halted)
