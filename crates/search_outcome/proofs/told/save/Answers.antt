use Rattle.std.proofs.Common.{sym, subst, Option, List, ℕ, Bor}
use Rattle.std.specs.Option.{option_map}
use Rattle.search_outcome.specs.Outcomes.{IsSaved, IsPartOf, AsBeforeOr}
use Rattle.search_outcome.proofs.Outcomes.{is_saved, is_part}
use Rattle.frontend.specs.Answers.{FilesStand}
use Rattle.search_outcome.proofs.told.save.Goals as goal

pub returns-in-Some-clause-saved : goal.returns-in-Some-clause-saved
returns-in-Some-clause-saved g c = λ told ok.
    let files = g.F.Shelf.file c.write_stream.new.shelf in
    subst (λ (cert : Option (Bor (List ℕ))). IsSaved c.args.b.now c.args.outcome.now (option_map (λ name. name.now) cert) files) (sym c.in-Some.is)
    (is_saved c.args.b.now c.requires.ends.0 c.args.outcome.now c.in-Some.name.now (g.F.Shelf.file c.args.shelf.now) files c.write_stream.result
    c.requires.ends.1 (c.write_stream.ensures.files told) ok)

pub returns-in-Some-clause-part : goal.returns-in-Some-clause-part
returns-in-Some-clause-part g c = λ told want.
    let before = g.F.Shelf.file c.args.shelf.now in
    let files = g.F.Shelf.file c.write_stream.new.shelf in
    subst (λ (cert : Option (Bor (List ℕ))). AsBeforeOr (IsPartOf c.args.b.now c.args.outcome.now) (option_map (λ name. name.now) cert) before files) (sym c.in-Some.is)
    (is_part c.args.b.now c.requires.ends.0 c.args.outcome.now c.in-Some.name.now before files c.write_stream.result c.requires.ends.1 (c.write_stream.ensures.files told) want)

pub returns-in-Some-clause-files : goal.returns-in-Some-clause-files
returns-in-Some-clause-files g c = λ told.
    let before = g.F.Shelf.file c.args.shelf.now in
    let files = g.F.Shelf.file c.write_stream.new.shelf in
    subst (λ (cert : Option (Bor (List ℕ))). FilesStand (option_map (λ name. name.now) cert) before files) (sym c.in-Some.is) (c.write_stream.ensures.files told).others
