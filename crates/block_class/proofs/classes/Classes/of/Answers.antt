-- Each block is the same as its class's first.
use Rattle.std.proofs.Common.{List, ℕ, sym, subst}
use Rattle.search_laws.specs.Spread.{AreClasses}
use Rattle.block_class.proofs.GroupLemmas.{classes_shared}
use Rattle.block_class.proofs.classes.Classes.of.Goals as goal

pub returns-clause-shared : goal.returns-clause-shared
returns-clause-shared c =
    subst (λ (classes : List ℕ). AreClasses c.args.zone.now c.args.b.now.blocking classes c.from_vec-2.result) (sym c.from_vec.ensures)
    (subst (λ (firsts : List ℕ). AreClasses c.args.zone.now c.args.b.now.blocking c.in_ok-classes.classes.items firsts) (sym c.from_vec-2.ensures)
    (classes_shared c.args.zone.now c.args.b.now.blocking _ c.in_ok-classes.ensures.classes))
