-- Each stage goes on as its function does.
use Rattle.lp_parser.proofs.step.Goals as goal

pub returns-in-Start : goal.returns-in-Start
returns-in-Start c = rw c.in-Start.is (c.from_start.ensures c.args.bytes.now)

pub returns-in-Objective : goal.returns-in-Objective
returns-in-Objective c = rw c.in-Objective.is (c.from_objective.ensures c.args.bytes.now)

pub returns-in-Row : goal.returns-in-Row
returns-in-Row c = rw c.in-Row.is (c.from_row.ensures c.args.bytes.now)

pub returns-in-Generals : goal.returns-in-Generals
returns-in-Generals c = rw c.in-Generals.is (c.from_generals.ensures c.args.bytes.now)

pub returns-in-Binaries : goal.returns-in-Binaries
returns-in-Binaries c = rw c.in-Binaries.is (c.from_binaries.ensures c.args.bytes.now)

pub returns-in-Bounds : goal.returns-in-Bounds
returns-in-Bounds c = rw c.in-Bounds.is c.from_bound.ensures
