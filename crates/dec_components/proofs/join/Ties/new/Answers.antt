use Rattle.std.proofs.Common.{◌≡◌, ◌≤◌, ◌<◌, ℕ, length, get_or, arith, sym, ◌∙◌, ap, inl}
use Rattle.dec_components.proofs.NumberLemmas.{no_some}
use Rattle.dec_components.proofs.join.Ties.new.Goals as goal

pub returns-clause-ready : goal.returns-clause-ready
returns-clause-ready c = record {
  each_row = c.in_ok-parents.ensures.each ∙ c.rows.ensures.rows;
  each_variable = c.in_ok-homes.ensures.each ∙ c.vars.ensures.vars;
  forest = λ r l. omega (arith, c.in_ok-parents.ensures.own r l);
  within = λ v h e. absurd (no_some h (sym (c.in_ok-homes.ensures.none v) ∙ e));
}

pub returns-clause-sound : goal.returns-clause-sound
returns-clause-sound c = λ master. record {
  forest = record { each = c.in_ok-parents.ensures.each ∙ c.rows.ensures.rows; parent = λ r l. inl (c.in_ok-parents.ensures.own r l) };
  known = record {
    outside = λ v h e. absurd (no_some h (sym (c.in_ok-homes.ensures.none v) ∙ e));
    has = λ v h e. absurd (no_some h (sym (c.in_ok-homes.ensures.none v) ∙ e));
  };
}
