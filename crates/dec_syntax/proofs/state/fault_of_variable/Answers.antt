use Rattle.std.proofs.Common.{◌≡◌, ◌∙◌, ap, sym, subst, Some}
use Rattle.std.specs.Prelude.{slice_get, Contains}
use Rattle.dec_syntax.proofs.TakeLemmas.{variable_unknown, variable_new}
use Rattle.dec_syntax.proofs.state.fault_of_variable.Goals as goal

pub returns-in-None : goal.returns-in-None
returns-in-None c = variable_unknown c.args.m.now.names c.args.name.now
    (λ there. c.in-None.ensures.absent (subst (Contains c.args.m.now.names) (sym c.in-Ok.ensures.cases.0) there))

pub returns-in-Some : goal.returns-in-Some
returns-in-Some c =
    let found : slice_get c.args.m.now.names c.in-Some.field-0 ≡ Some c.args.name.now = c.in-Some.ensures.found ∙ ap Some c.in-Ok.ensures.cases.0 in
    variable_new c.args.m.now.names c.in-Some.field-0 c.args.name.now found
