use Rattle.search_laws.proofs.PartsProof.{parts_suffice_lem}
use Rattle.knapsack_table.proofs.splits.parts.Goals as goal

pub returns-clause-whole : goal.returns-clause-whole
returns-clause-whole c = parts_suffice_lem.whole c.args.w c.split.result c.split.ensures

pub returns-clause-each : goal.returns-clause-each
returns-clause-each c v l = parts_suffice_lem.each c.args.w c.split.result v c.split.ensures l
