use Rattle.std.proofs.Common.{◌≡◌, ◌<◌, ℕ, List, length, get_or, arith, sym, ◌∙◌, ap, subst, inl, inr}
use Rattle.std.specs.Prelude.{pos}
use Rattle.std.proofs.lemmas.Bool.{cases_eq}
use Rattle.block_build.proofs.GatherLemmas.{any_default}
use Rattle.bp_theory.specs.declared.Term.{Term}
use Rattle.dec_components.specs.Forest.{HasHome}
use Rattle.dec_components.proofs.TreeLemmas.{ready_same, extends_more, home_later, term_of_row, home_of_row}
use Rattle.dec_components.proofs.join.Ties.tie_row.Goals as goal

zero_term : Term
zero_term = record { var = 0; coef = pos 0 }

pub loop-at-preserved : goal.loop-at-preserved
unfolding zero_term
loop-at-preserved c =
    let before = c.loop-at.invariant in
    let tie = c.tie_variable.ensures in
    let old = c.loop-at.self in
    let new = c.tie_variable.new.self in
    let terms = c.as_slice-terms.result.now in
    let low : c.loop-at.at < length terms = omega arith in
    record {
      ready = ready_same (length old.parents.items) (length old.homes.items) (length c.args.m.now.program.rows) (length c.args.m.now.program.spans) new.parents.items new.homes.items
          before.ready.each_row before.ready.each_variable tie.ready;
      extends = extends_more c.args.self.now.parents.items old.parents.items new.parents.items c.args.self.now.homes.items old.homes.items new.homes.items before.extends tie.extends;
      homes = λ i d l. elim (cases_eq i c.loop-at.at) [
        | inl same ↦ subst (λ (x : ℕ). HasHome new.parents.items new.homes.items c.args.row (get_or terms x d).var) (sym same)
            (subst (λ (t : Term). HasHome new.parents.items new.homes.items c.args.row t.var) (any_default terms c.loop-at.at zero_term d low) tie.home)
        | inr apart ↦ home_later old.parents.items new.parents.items old.homes.items new.homes.items c.args.row (get_or terms i d).var tie.extends (before.homes i d (omega (arith, l, apart)))
      ];
      sound = λ master out sound. tie.sound c.args.m.now.program master out
          (term_of_row c.args.m.now c.args.row c.loop-at.at zero_term c.row.result.now terms c.requires.kept c.row.ensures c.as_slice-terms.ensures low) (before.sound master out sound);
    }

pub returns-clause-homes : goal.returns-clause-homes
returns-clause-homes c = λ v has.
    home_of_row c.args.m.now.program c.args.row v c.row.result.now c.as_slice-terms.result.now c.loop-at.self.parents.items c.loop-at.self.homes.items c.row.ensures c.as_slice-terms.ensures
    has (λ i d l. c.loop-at.invariant.homes i d (omega (arith, l)))
