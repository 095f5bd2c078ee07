use Rattle.std.proofs.Common.{◌≡◌, ◌∙◌, sym, subst, ap, Some}
use Rattle.std.specs.Prelude.{option_map}
use Rattle.std.specs.List.{slice_get}
use Rattle.std.specs.Map.Iter.{deref_pair}
use Rattle.std.proofs.lemmas.Iterator.Consumers.{nth_from_yields_List, YieldsList-from_rest}
use Rattle.open_nodes.specs.Queues.{Entries, IsEntryAt}
use Rattle.open_nodes.proofs.Places.{entry_at_place}
use Rattle.open_nodes.proofs.queue.LeafQueue.at_place.Goals as goal

pub returns-in-Some-clause-some : goal.returns-in-Some-clause-some
returns-in-Some-clause-some c =
    let place : option_map deref_pair c.nth.result ≡ slice_get c.self.inside.entries.entries c.args.place =
    nth_from_yields_List c.nth.result c.nth.new.self c.args.place c.nth.ensures.ran (YieldsList-from_rest c.self.inside.entries.entries c.iter.ensures.rest) in
    let found : slice_get c.self.inside.entries.entries c.args.place ≡ Some (c.in-Some.key.now, c.in-Some.path.now) =
    sym place ∙ ap (option_map deref_pair) c.in-Some.is in
    subst (λ (es : Entries). IsEntryAt es c.args.place c.in-Some.key.now.0 c.in-Some.key.now.1 c.in-Some.path.now) c.self.view_is
    (entry_at_place c.self.inside.entries.entries c.args.place (c.in-Some.key.now, c.in-Some.path.now) c.iter.ensures.ordered found)
