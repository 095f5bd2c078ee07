use Rattle.std.proofs.Common.{◌≡◌, ◌∙◌, ℕ, ap, sym, subst, Some, [], ◌∷◌, ◌++◌}
use Rattle.std.specs.Prelude.{slice_get, Contains}
use Rattle.dec_syntax.proofs.ListLemmas.{number_found}
use Rattle.dec_syntax.proofs.TakeLemmas.{variable_unknown, variable_new}
use Rattle.dec_syntax.proofs.state.Reader.list_variable.Goals as goal

pub returns-in_default-var_of-clause-fault : goal.returns-in_default-var_of-clause-fault
returns-in_default-var_of-clause-fault c = variable_unknown c.args.m.now.names c.args.name.now
    (λ there. c.in_default-var_of.ensures.absent (subst (Contains c.args.m.now.names) (sym c.in-Ok.ensures.cases.0) there))

pub returns-clause-fault : goal.returns-clause-fault
returns-clause-fault c =
    let found : slice_get c.args.m.now.names c.in-Some.var ≡ Some c.args.name.now = c.in-Some.ensures.found ∙ ap Some c.in-Ok.ensures.cases.0 in
    variable_new c.args.m.now.names c.in-Some.var c.args.name.now found

pub returns-clause-entry : goal.returns-clause-entry
returns-clause-entry c =
    let found : slice_get c.args.m.now.names c.in-Some.var ≡ Some c.args.name.now = c.in-Some.ensures.found ∙ ap Some c.in-Ok.ensures.cases.0 in
    c.in_ok-push.ensures.items ∙ ap (λ (n : ℕ). c.args.self.now.listed.items ++ (n, c.args.place) ∷ []) (sym (number_found c.args.m.now.names c.in-Some.var c.args.name.now c.requires.kept.distinct found))
