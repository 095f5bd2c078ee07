use Rattle.std.proofs.Common.{refl}
use Rattle.crew_steps.proofs.Events.{made_crew, made_room}
use Rattle.crew_steps.proofs.crew.Crew.make.Goals as goal

pub returns-clause-kept : goal.returns-clause-kept
returns-clause-kept c =
    made_crew c.args.b.now c.args.from c.args.workers _ c.blocks-2.ensures.formed c.requires.loaded
    (record { grove = refl; best = c.kept_from-best.ensures; hands = c.in_ok-hands.ensures; events = c.new.ensures.items })

pub invariant_of-result : goal.invariant_of-result
invariant_of-result c =
    ((c.args.b.now, returns-clause-kept c), made_room c.args.workers _ _ c.in_ok-hands.hands.items c.in_ok-hands.ensures c.new.ensures.len)
