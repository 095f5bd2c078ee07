use Rattle.std.proofs.Common.{[], refl, ap, map}
use Rattle.cert_parser.specs.Builders.{waits_of}
use Rattle.cert_format.specs.Written.{written_cut}
use Rattle.cert_parser.proofs.ReaderFacts.{builds_on}
use Rattle.cert_parser.proofs.reader.Reader.new.Goals as goal

pub returns : goal.returns
returns c = λ frame. builds_on frame c.new.result c.new.result [] (waits_of c.new-3.result.items) _ _ [] _ [] refl (ap waits_of c.new-3.ensures.items) refl (ap (map written_cut) c.new-2.ensures) (c.new.ensures.stands _ frame)
