-- The parts with one more, each as its text has it.
use Rattle.std.proofs.Common.{[], ◌∷◌}
use Rattle.std.proofs.lemmas.List.{map-append}
use Rattle.lp_syntax.specs.TreeIn.{part_in}
use Rattle.lp_parser.proofs.stage.behind_part.Goals as goal

pub returns : goal.returns
returns c = λ text. rw (← map-append (part_in text) c.args.parts (c.args.part ∷ []), ← c.in_ok-push.ensures.added) (c.from_word.ensures text)
