-- Each stage goes on as its function does.
use Rattle.lp_parser.proofs.bound.from_bound.Goals as goal

pub returns-in-Start : goal.returns-in-Start
returns-in-Start c = rw c.in-Start.is (c.from_start.ensures c.args.bytes.now)

pub returns-in-Signs : goal.returns-in-Signs
returns-in-Signs c = rw c.in-Signs.is (c.from_signs.ensures c.args.bytes.now)

pub returns-in-Value : goal.returns-in-Value
returns-in-Value c = rw c.in-Value.is (c.from_value.ensures c.args.bytes.now)

pub returns-in-Compared : goal.returns-in-Compared
returns-in-Compared c = rw c.in-Compared.is (c.from_compared.ensures c.args.bytes.now)

pub returns-in-Half : goal.returns-in-Half
returns-in-Half c = rw c.in-Half.is (c.from_half.ensures c.args.bytes.now)

pub returns-in-Between : goal.returns-in-Between
returns-in-Between c = rw c.in-Between.is (c.from_between.ensures c.args.bytes.now)

pub returns-in-Named : goal.returns-in-Named
returns-in-Named c = rw c.in-Named.is (c.from_named.ensures c.args.bytes.now)

pub returns-in-Name : goal.returns-in-Name
returns-in-Name c = rw c.in-Name.is c.from_name.ensures
