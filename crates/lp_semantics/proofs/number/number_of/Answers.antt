-- The number found is the name's, and a number of the list.
use Rattle.lp_syntax.specs.TreeIn.{name_in}
use Rattle.lp_semantics.proofs.NameNumbers.{number_found}
use Rattle.lp_semantics.proofs.number.number_of.Goals as goal

pub returns-clause-number : goal.returns-clause-number
returns-clause-number c =
    (number_found c.args.names.now c.place_of_bytes.result c.unwrap.result c.bytes_at.result.now (name_in c.args.text.now c.args.place.now)
    c.place_of_bytes.ensures.distinct c.place_of_bytes.ensures.found c.unwrap.ensures c.bytes_at.ensures).0

pub returns-clause-there : goal.returns-clause-there
returns-clause-there c =
    (number_found c.args.names.now c.place_of_bytes.result c.unwrap.result c.bytes_at.result.now (name_in c.args.text.now c.args.place.now)
    c.place_of_bytes.ensures.distinct c.place_of_bytes.ensures.found c.unwrap.ensures c.bytes_at.ensures).1
