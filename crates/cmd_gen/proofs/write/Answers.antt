use Rattle.std.proofs.Common.{◌≡◌, sym, subst, Bool, IsTrue, ℕ, List, Some}
use Rattle.bp_shelf.specs.Shelf.{Writes}
use Rattle.cmd_gen.proofs.Writes.{second_write}
use Rattle.cmd_gen.proofs.write.Goals as goal

pub returns-clause-files : goal.returns-clause-files
returns-clause-files g c = λ told.
    let between = g.F.Shelf.file c.replace.new.self in
    let now = g.F.Shelf.file c.replace-2.new.self in
    let first = c.in_ok-replace.ensures.files told in
    let still : IsTrue (g.F.Shelf.tells c.replace.new.self) = subst (λ (t : Bool). IsTrue t) (sym c.in_ok-replace.ensures.told) told in
    second_write c.args.lp.now c.args.dec.now c.args.made.now.lp.items c.args.made.now.dec.items (g.F.Shelf.file c.args.shelf.now) between now c.replace-2.result
    (subst (λ (t : List ℕ). between c.args.lp.now ≡ Some t) c.deref.ensures.value first.0) first.1
    (subst (λ (t : List ℕ). Writes c.args.dec.now t between now c.replace-2.result) c.deref-2.ensures.value (c.replace-2.ensures.files still))
