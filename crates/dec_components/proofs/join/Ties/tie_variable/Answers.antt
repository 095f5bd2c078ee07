use Rattle.std.proofs.Common.{◌≡◌, ◌<◌, ℕ, List, length, get_or, arith, sym, ◌∙◌, ap, subst}
use Rattle.dec_components.specs.Forest.{KeepsTied, IsSound, HasHome, Extends, AreParents}
use Rattle.dec_components.proofs.ChainLemmas.{joined_by}
use Rattle.dec_components.proofs.TreeLemmas.{whole_slice, new_home, known_home}
use Rattle.dec_components.proofs.join.Ties.tie_variable.Goals as goal

pub tie-requires-clause-one_there : goal.tie-requires-clause-one_there
tie-requires-clause-one_there c =
    let known = known_home c.args.self.now.homes.items c.args.var c.in-Some.home c.index.result.now c.requires.variable_there c.index.ensures c.in-Some.is in
    omega (arith, c.requires.ready.within c.args.var c.in-Some.home known, ap length c.deref_mut.ensures.value)

pub returns-in-Some-clause-extends : goal.returns-in-Some-clause-extends
returns-in-Some-clause-extends c =
    let old = c.args.self.now.parents.items in
    let new = c.tie.new.parents in
    let same : length new ≡ length old = omega (arith, ap length c.deref_mut.ensures.value) in
    let keeps : KeepsTied old new = subst (λ (xs : List ℕ). KeepsTied xs new) c.deref_mut.ensures.value c.tie.ensures.keeps in
    subst (λ (xs : List ℕ). Extends old c.args.self.now.homes.items xs c.args.self.now.homes.items) (sym (whole_slice c.args.self.now.parents.len new old same (omega arith)))
    (record { tied = keeps; known = λ v h e. e })

pub returns-in-Some-clause-home : goal.returns-in-Some-clause-home
returns-in-Some-clause-home c =
    let old = c.args.self.now.parents.items in
    let new = c.tie.new.parents in
    let same : length new ≡ length old = omega (arith, ap length c.deref_mut.ensures.value) in
    subst (λ (xs : List ℕ). HasHome xs c.args.self.now.homes.items c.args.row c.args.var) (sym (whole_slice c.args.self.now.parents.len new old same (omega arith)))
    (record {
      home = c.in-Some.home;
      known = known_home c.args.self.now.homes.items c.args.var c.in-Some.home c.index.result.now c.requires.variable_there c.index.ensures c.in-Some.is;
      tied = c.tie.ensures.tied;
    })

pub returns-in-Some-clause-sound : goal.returns-in-Some-clause-sound
returns-in-Some-clause-sound c = λ p master out has sound.
    let old = c.args.self.now.parents.items in
    let new = c.tie.new.parents in
    let same : length new ≡ length old = omega (arith, ap length c.deref_mut.ensures.value) in
    let known = known_home c.args.self.now.homes.items c.args.var c.in-Some.home c.index.result.now c.requires.variable_there c.index.ensures c.in-Some.is in
    let joined = joined_by p master c.in-Some.home c.args.row c.args.var (sound.known.outside c.args.var c.in-Some.home known) out (sound.known.has c.args.var c.in-Some.home known) has in
    let before : AreParents p master c.deref_mut.result.now = subst (AreParents p master) (sym c.deref_mut.ensures.value) sound.forest in
    subst (λ (xs : List ℕ). IsSound p master xs c.args.self.now.homes.items) (sym (whole_slice c.args.self.now.parents.len new old same (omega arith)))
    (record { forest = c.tie.ensures.sound p master joined before; known = sound.known })

pub returns-in-None-clause-home : goal.returns-in-None-clause-home
returns-in-None-clause-home c = new_home c.args.self.now.parents.items c.args.self.now.homes.items c.args.row c.args.var c.requires.variable_there
