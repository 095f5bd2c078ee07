use Rattle.std.proofs.Common.{refl, sym, subst, Option}
use Rattle.branch_tree.specs.declared.loaded.Loaded.{Loaded}
use Rattle.search_outcome.specs.Endings.{GoesOnAt}
use Rattle.cmd_solve.specs.Crews.{BeginsAt}
use Rattle.cmd_solve.proofs.crew.search_together.Goals as goal

pub returns-in_ok-outcome-in-None-clause-events : goal.returns-in_ok-outcome-in-None-clause-events
returns-in_ok-outcome-in-None-clause-events c = record {
  goes_on = subst (λ (from : Option Loaded). GoesOnAt c.args.b.now from c.in_ok-outcome-in-None.outcome) (sym c.in-None.is) tt;
  has_events = record {
    start = c.in_ok-start-in-None.start;
    begins = subst (λ (from : Option Loaded). BeginsAt c.args.b.now from c.in_ok-start-in-None.start) (sym c.in-None.is) c.in_ok-start-in-None.ensures.fresh;
    run = c.in_ok-outcome-in-None.ensures.run;
  };
}

pub returns-in_ok-outcome-in-Some-clause-events : goal.returns-in_ok-outcome-in-Some-clause-events
returns-in_ok-outcome-in-Some-clause-events c = record {
  goes_on = subst (λ (from : Option Loaded). GoesOnAt c.args.b.now from c.in_ok-outcome-in-Some.outcome) (sym c.in-Some.is) c.in_ok-outcome-in-Some.ensures.goes_on;
  has_events = record {
    start = c.in-Some.start;
    begins = subst (λ (from : Option Loaded). BeginsAt c.args.b.now from c.in-Some.start) (sym c.in-Some.is) refl;
    run = c.in_ok-outcome-in-Some.ensures.run;
  };
}
