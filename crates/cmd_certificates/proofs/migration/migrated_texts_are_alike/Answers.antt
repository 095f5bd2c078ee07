use Rattle.cmd_certificates.proofs.Alike.{read_alike, judged_alike}
use Rattle.cmd_certificates.proofs.migration.migrated_texts_are_alike.Goals as goal

pub returns : goal.returns
returns c = record { read = read_alike; judged = judged_alike }
