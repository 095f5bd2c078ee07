use Rattle.std.proofs.Common.{◌+◌, refl, subst, sym, List, ℕ, Option, Bor, IfOk, IfErr}
use Rattle.std.specs.Option.{option_map}
use Rattle.bp_theory.specs.Limits.{most_bytes}
use Rattle.dec_read.specs.Reading.{ReadsDecomposition}
use Rattle.frontend.specs.Front.{HasDec}
use Rattle.frontend.specs.Halts.{IsDecHalt, DecHalts}
use Rattle.frontend.proofs.Fronts.{past_limits, decs, halted_decs}
use Rattle.frontend.proofs.front.load_dec.Goals as goal

pub returns-in_ok-text-in-Some-clause-dec : goal.returns-in_ok-text-in-Some-clause-dec
returns-in_ok-text-in-Some-clause-dec g c = λ told.
    let files = g.F.Shelf.file c.args.shelf.now in
    subst (λ (o : Option (Bor (List ℕ))). IfOk c.dec_of.result (HasDec files c.args.model.now (option_map (λ name. name.now) o))) (sym c.in-Some.is)
    (decs files c.args.model.now c.in-Some.name.now c.in_ok-text-in-Some.text.items c.dec_of.result (most_bytes c.limits.result + 1)
    (past_limits c.args.model.now.program.limits c.limits.result c.limits.ensures)
    (c.in_ok-text-in-Some.ensures.found told refl) (c.in_ok-text-in-Some.ensures.bytes told)
    (subst (λ (t : List ℕ). IfOk c.dec_of.result (ReadsDecomposition t c.args.model.now)) c.deref.ensures.value c.dec_of.ensures.dec))

pub returns-in_ok-text-in-Some-clause-halted : goal.returns-in_ok-text-in-Some-clause-halted
returns-in_ok-text-in-Some-clause-halted g c = λ told.
    let files = g.F.Shelf.file c.args.shelf.now in
    subst (λ (o : Option (Bor (List ℕ))). IfErr c.dec_of.result (DecHalts files c.args.model.now (option_map (λ name. name.now) o))) (sym c.in-Some.is)
    (halted_decs files c.args.model.now c.in-Some.name.now c.in_ok-text-in-Some.text.items c.dec_of.result (most_bytes c.limits.result + 1)
    (past_limits c.args.model.now.program.limits c.limits.result c.limits.ensures)
    (c.in_ok-text-in-Some.ensures.found told refl) (c.in_ok-text-in-Some.ensures.bytes told)
    (subst (λ (t : List ℕ). IfErr c.dec_of.result (IsDecHalt t c.args.model.now)) c.deref.ensures.value c.dec_of.ensures.halted))
