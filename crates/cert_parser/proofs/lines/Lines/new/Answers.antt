use Rattle.std.proofs.Common.{refl}
use Rattle.cert_parser.proofs.Finishing.{begins_well}
use Rattle.cert_parser.proofs.lines.Lines.new.Goals as goal

pub returns-clause-stands : goal.returns-clause-stands
returns-clause-stands c = λ root frame. begins_well root frame _ refl refl refl refl refl c.new-2.ensures.items refl
