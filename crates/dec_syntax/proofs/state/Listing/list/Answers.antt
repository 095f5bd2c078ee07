use Rattle.std.proofs.Common.{◌≡◌, ◌∙◌, ℕ, ap, sym, subst, arith, true, Bool, Some, List, Option}
use Rattle.std.proofs.Math.ListN.{set}
use Rattle.std.specs.Prelude.{slice_get, Contains}
use Rattle.dec_syntax.specs.Parts.{is_listed, place_in}
use Rattle.dec_syntax.proofs.ListLemmas.{number_inside, map_update}
use Rattle.dec_syntax.proofs.TakeLemmas.{row_unknown, row_twice, row_new, seen_is}
use Rattle.dec_syntax.proofs.state.Listing.list.Goals as goal

pub returns-in_default-row_of-clause-fault : goal.returns-in_default-row_of-clause-fault
returns-in_default-row_of-clause-fault c = λ listing lists. row_unknown c.args.m.now.row_names listing c.args.name.now
    (λ there. c.in_default-row_of.ensures.absent (subst (Contains c.args.m.now.row_names) (sym c.in-Ok.ensures.cases.0) there))

pub index-requires : goal.index-requires
index-requires c = omega (arith, number_inside c.args.m.now.row_names c.in-Some.row _ c.in-Some.ensures.found, c.requires.room.seen, c.args.self.now.seen.ok.0)

pub returns-then-index-clause-fault : goal.returns-then-index-clause-fault
returns-then-index-clause-fault c = λ listing lists.
    let found : slice_get c.args.m.now.row_names c.in-Some.row ≡ Some c.args.name.now = c.in-Some.ensures.found ∙ ap Some c.in-Ok.ensures.cases.0 in
    row_twice c.args.m.now.row_names listing c.in-Some.row c.args.name.now found
    (sym (seen_is c.args.m.now.row_names c.args.self.now listing c.in-Some.row c.args.name.now c.index.result.now lists found c.index.ensures) ∙ c.if-index.true)

pub index_mut-requires : goal.index_mut-requires
index_mut-requires c = omega (arith, number_inside c.args.m.now.row_names c.in-Some.row _ c.in-Some.ensures.found, c.requires.room.seen, c.args.self.now.seen.ok.0)

pub index_mut-requires-2 : goal.index_mut-requires-2
index_mut-requires-2 c = omega (arith, number_inside c.args.m.now.row_names c.in-Some.row _ c.in-Some.ensures.found, c.requires.room.places, c.args.self.now.places.ok.0)

pub returns-clause-fault : goal.returns-clause-fault
returns-clause-fault c = λ listing lists.
    let found : slice_get c.args.m.now.row_names c.in-Some.row ≡ Some c.args.name.now = c.in-Some.ensures.found ∙ ap Some c.in-Ok.ensures.cases.0 in
    row_new c.args.m.now.row_names listing c.in-Some.row c.args.name.now found
    (sym (seen_is c.args.m.now.row_names c.args.self.now listing c.in-Some.row c.args.name.now c.index.result.now lists found c.index.ensures) ∙ c.if-index.false)

pub returns-clause-listed : goal.returns-clause-listed
returns-clause-listed c = λ listing lists.
    let found : slice_get c.args.m.now.row_names c.in-Some.row ≡ Some c.args.name.now = c.in-Some.ensures.found ∙ ap Some c.in-Ok.ensures.cases.0 in
    record {
      places = ap (λ (xs : List (Option ℕ)). set xs c.in-Some.row c.args.place) lists.places
          ∙ sym (map_update (place_in listing) c.args.place c.args.m.now.row_names c.in-Some.row c.args.name.now c.requires.kept.rows_distinct found);
      seen = ap (λ (xs : List Bool). set xs c.in-Some.row true) lists.seen
          ∙ sym (map_update (is_listed listing) true c.args.m.now.row_names c.in-Some.row c.args.name.now c.requires.kept.rows_distinct found);
    }
