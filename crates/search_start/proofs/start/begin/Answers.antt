use Rattle.search_start.proofs.Beginning.{afresh_can}
use Rattle.search_start.proofs.start.begin.Goals as goal

pub returns-in_ok-begin_afresh-in-None-clause-usable : goal.returns-in_ok-begin_afresh-in-None-clause-usable
returns-in_ok-begin_afresh-in-None-clause-usable g c =
    afresh_can c.args.b c.args.leaf c.args.cuts c.in_ok-begin_afresh-in-None.field-0 c.in_ok-begin_afresh-in-None.ensures
