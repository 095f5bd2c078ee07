use Rattle.std.proofs.Common.{◌≡◌, ◌∷◌, take, map, false}
use Rattle.lp_syntax.specs.TreeIn.{term_in}
use Rattle.lp_semantics.specs.Numbered.{raw_term, turned_by}
use Rattle.lp_semantics.proofs.terms.terms_of.Given as goal

abbrev pub invariant-loop-sign : goal.invariant-loop-sign
invariant-loop-sign l =
    l.terms ≡ raw_term l.names false (term_in l.text l.sum.first)
    ∷ map (λ m. raw_term l.names (turned_by false m.0) (term_in l.text m.1)) (take l.sign-index l.sign-items)
