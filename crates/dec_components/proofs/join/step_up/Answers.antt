use Rattle.std.proofs.Common.{◌≡◌, ℕ, length, get_or, arith}
use Rattle.dec_components.proofs.TreeLemmas.{step_keeps, set_tied, set_forest, set_sound, set_roots, step_sound}
use Rattle.dec_components.proofs.join.step_up.Goals as goal

pub returns-clause-sound : goal.returns-clause-sound
returns-clause-sound c = λ p master are.
    let parents = c.args.parents.now in
    set_sound p master parents c.args.row (get_or parents (get_or parents c.args.row 0) 0) c.requires.there
    (step_sound p master parents c.args.row c.requires.forest c.requires.there are) are

pub returns-clause-joined : goal.returns-clause-joined
returns-clause-joined c = λ p master are. step_sound p master c.args.parents.now c.args.row c.requires.forest c.requires.there are
