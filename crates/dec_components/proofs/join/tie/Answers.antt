use Rattle.std.proofs.Common.{◌≡◌, ◌<◌, ◌≤◌, ℕ, length, get_or, arith, sym, ◌∙◌, ap}
use Rattle.std.proofs.Math.ListN.{set}
use Rattle.dec_components.proofs.ChainLemmas.{joined_back}
use Rattle.dec_components.proofs.TreeLemmas.{keeps_more, tied_later, tied_more, tied_back, set_tied, root_keeps, set_sound, roots_joined, under}
use Rattle.dec_components.proofs.join.tie.Goals as goal

pub returns-then-first-second-clause-keeps : goal.returns-then-first-second-clause-keeps
returns-then-first-second-clause-keeps c =
    let one = c.root_of-first in
    let two = c.root_of-second in
    let there : two.result < length two.new.parents = omega arith in
    keeps_more c.args.parents.now one.new.parents (set two.new.parents two.result one.result) one.ensures.keeps
    (keeps_more one.new.parents two.new.parents (set two.new.parents two.result one.result) two.ensures.keeps (root_keeps two.new.parents two.result one.result there two.ensures.root))

pub returns-then-first-second-clause-tied : goal.returns-then-first-second-clause-tied
returns-then-first-second-clause-tied c =
    let one = c.root_of-first in
    let two = c.root_of-second in
    let there : two.result < length two.new.parents = omega arith in
    let now = set two.new.parents two.result one.result in
    let keeps = root_keeps two.new.parents two.result one.result there two.ensures.root in
    let a = tied_later two.new.parents now c.args.one one.result keeps (tied_later one.new.parents two.new.parents c.args.one one.result two.ensures.keeps one.ensures.tied) in
    let b = tied_later two.new.parents now c.args.other two.result keeps two.ensures.tied in
    tied_more now c.args.one one.result c.args.other a (tied_back now c.args.other one.result (tied_more now c.args.other two.result one.result b (set_tied two.new.parents two.result one.result there)))

pub returns-then-first-second-clause-sound : goal.returns-then-first-second-clause-sound
returns-then-first-second-clause-sound c = λ p master joined are.
    let one = c.root_of-first in
    let two = c.root_of-second in
    let there : two.result < length two.new.parents = omega arith in
    let are1 = one.ensures.sound p master are in
    let are2 = two.ensures.sound p master are1 in
    let roots = roots_joined p master c.args.one c.args.other one.result two.result joined (one.ensures.joined p master are) (two.ensures.joined p master are1) in
    set_sound p master two.new.parents two.result one.result there
    (under p master two.result one.result (omega arith) (joined_back p master one.result two.result roots)) are2

pub returns-else-first-second-clause-keeps : goal.returns-else-first-second-clause-keeps
returns-else-first-second-clause-keeps c =
    let one = c.root_of-first in
    let two = c.root_of-second in
    let there : one.result < length two.new.parents = omega arith in
    let root = two.ensures.roots one.result (omega arith) one.ensures.root in
    keeps_more c.args.parents.now one.new.parents (set two.new.parents one.result two.result) one.ensures.keeps
    (keeps_more one.new.parents two.new.parents (set two.new.parents one.result two.result) two.ensures.keeps (root_keeps two.new.parents one.result two.result there root))

pub returns-else-first-second-clause-tied : goal.returns-else-first-second-clause-tied
returns-else-first-second-clause-tied c =
    let one = c.root_of-first in
    let two = c.root_of-second in
    let there : one.result < length two.new.parents = omega arith in
    let root = two.ensures.roots one.result (omega arith) one.ensures.root in
    let now = set two.new.parents one.result two.result in
    let keeps = root_keeps two.new.parents one.result two.result there root in
    let a = tied_later two.new.parents now c.args.one one.result keeps (tied_later one.new.parents two.new.parents c.args.one one.result two.ensures.keeps one.ensures.tied) in
    let b = tied_later two.new.parents now c.args.other two.result keeps two.ensures.tied in
    tied_more now c.args.one one.result c.args.other a
    (tied_more now one.result two.result c.args.other (set_tied two.new.parents one.result two.result there) (tied_back now c.args.other two.result b))

pub returns-else-first-second-clause-sound : goal.returns-else-first-second-clause-sound
returns-else-first-second-clause-sound c = λ p master joined are.
    let one = c.root_of-first in
    let two = c.root_of-second in
    let there : one.result < length two.new.parents = omega arith in
    let are1 = one.ensures.sound p master are in
    let are2 = two.ensures.sound p master are1 in
    let roots = roots_joined p master c.args.one c.args.other one.result two.result joined (one.ensures.joined p master are) (two.ensures.joined p master are1) in
    set_sound p master two.new.parents one.result two.result there (under p master one.result two.result (omega arith) roots) are2
