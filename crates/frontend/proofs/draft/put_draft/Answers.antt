use Rattle.std.proofs.Common.{subst, ℕ, List}
use Rattle.frontend.specs.Endings.{WritesText}
use Rattle.frontend.proofs.draft.put_draft.Goals as goal

pub returns-clause-writes : goal.returns-clause-writes
returns-clause-writes g c =
    subst (λ (text : List ℕ). WritesText (g.F.Shelf.tells c.args.shelf.now) c.args.name.now text (g.F.Shelf.file c.args.shelf.now) (g.F.Shelf.file c.write_text.new.shelf)
    (g.F.Shelf.write_faults c.args.shelf.now) (g.F.Shelf.write_faults c.write_text.new.shelf) c.args.draft.reply c.write_text.result) c.deref.ensures.value c.write_text.ensures.writes
