use Rattle.std.proofs.Common.{◌≡◌, ◌<◌, ℕ, List, length, get_or, arith, sym, ◌∙◌, ap, subst, inl, inr, false}
use Rattle.std.proofs.lemmas.Bool.{cases_eq}
use Rattle.dec_components.specs.Joined.{HasVariable, IsOutside}
use Rattle.dec_components.specs.Forest.{HasHome}
use Rattle.dec_components.proofs.TreeLemmas.{homes_tie, home_later, unmarked_outside, marked_inside}
use Rattle.dec_components.proofs.join.tied_rows.Goals as goal

pub loop-row-init : goal.loop-row-init
loop-row-init c = record {
  ready = c.in_ok-ties.ensures.ready;
  homes = λ master is r v l. absurd (omega arith);
  sound = λ master is. c.in_ok-ties.ensures.sound master;
}

pub returns-clause-tied : goal.returns-clause-tied
returns-clause-tied c = λ master is.
    let sound = c.loop-row.invariant.sound master is in
    let homes = c.loop-row.invariant.homes master is in
    record {
      forest = sound.forest;
      tied = λ r s o q shares. homes_tie c.loop-row.ties.parents.items c.loop-row.ties.homes.items r s shares.var
          (homes r shares.var (omega (arith, o.there, c.rows-row-end.ensures.rows)) o shares.first)
          (homes s shares.var (omega (arith, q.there, c.rows-row-end.ensures.rows)) q shares.second);
    }

pub loop-row-preserved-then-marks-row : goal.loop-row-preserved-then-marks-row
loop-row-preserved-then-marks-row c = record {
  ready = c.loop-row.invariant.ready;
  homes = λ master is r v l out has. elim (cases_eq r c.loop-row.row) [
    | inl same ↦ absurd (marked_inside c.args.m.now.program master c.args.marks.now c.loop-row.row false is (omega (arith, c.rows-row-end.ensures.rows)) c.if-marks-row.true (subst (IsOutside c.args.m.now.program master) same out))
    | inr apart ↦ c.loop-row.invariant.homes master is r v (omega (arith, l, apart)) out has
  ];
  sound = c.loop-row.invariant.sound;
}

pub loop-row-preserved : goal.loop-row-preserved
loop-row-preserved c =
    let p = c.args.m.now.program in
    let old = c.loop-row.ties in
    let new = c.tie_row.new.self in
    let low : c.loop-row.row < length p.rows = omega (arith, c.rows-row-end.ensures.rows) in
    record {
      ready = c.tie_row.ensures.ready;
      homes = λ master is r v l out has. elim (cases_eq r c.loop-row.row) [
        | inl same ↦ subst (λ (x : ℕ). HasHome new.parents.items new.homes.items x v) (sym same) (c.tie_row.ensures.homes v (subst (λ (x : ℕ). HasVariable p x v) same has))
        | inr apart ↦ home_later old.parents.items new.parents.items old.homes.items new.homes.items r v c.tie_row.ensures.extends (c.loop-row.invariant.homes master is r v (omega (arith, l, apart)) out has)
      ];
      sound = λ master is. c.tie_row.ensures.sound master (unmarked_outside p master c.args.marks.now c.loop-row.row false is low c.if-marks-row.false) (c.loop-row.invariant.sound master is);
    }
