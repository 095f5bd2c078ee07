-- What the table finds among its strings is found among their bytes.
use Rattle.std.proofs.Common.{◌≡◌, sym, subst, slice_get, Some, IfNone, Contains}
use Rattle.name_table.proofs.NameLemmas.{text_found, text_absent}
use Rattle.name_table.proofs.table.NameTable.place_of.Goals as goal

pub returns-in_err-place-clause-absent : goal.returns-in_err-place-clause-absent
returns-in_err-place-clause-absent c =
    subst (λ r. IfNone r (Contains c.args.self.now c.args.name.now → ⊥)) (sym c.from_residual.ensures)
    (λ there. text_absent c.args.name.now c.self.inside.table.keys (sym c.in_err-place.ensures.found) (subst (λ names. Contains names c.args.name.now) (sym c.self.view_is) there))

pub returns-clause-found : goal.returns-clause-found
returns-clause-found c =
    subst (λ names. slice_get names c.in_ok-place.place ≡ Some c.args.name.now) c.self.view_is
    (text_found c.args.name.now c.self.inside.table.keys c.in_ok-place.place c.in_ok-place.ensures.within (sym c.in_ok-place.ensures.index))
