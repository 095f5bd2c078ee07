use Rattle.std.proofs.Common.{◌≡◌, rules}
use Rattle.block_program.proofs.BlockLemmas.{root_zone}
use Rattle.block_program.proofs.zone.Zone.root.Goals as goal

pub returns-clause-zone : goal.returns-clause-zone
returns-clause-zone c =
    let is : c.from_vec.result ≡ c.args.b.now.named.program.spans = search rules in
    root_zone c.args.b.now.named.program.spans c.from_vec.result c.model.ensures.formed.kept.proper is
