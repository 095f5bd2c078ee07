use Rattle.std.proofs.Common.{refl, ◌≡◌, ◌∙◌, ℕ, ap, sym, subst, arith, true, get_or, Bool, Some, List, Option}
use Rattle.std.proofs.Math.ListN.{set}
use Rattle.std.specs.Prelude.{slice_get, Contains}
use Rattle.dec_syntax.proofs.ListLemmas.{among_absent, number_inside}
use Rattle.dec_write.proofs.RowsLemmas.{name_unknown, name_twice, name_new, seen_is, keeps_more}
use Rattle.dec_write.proofs.rows.Listing.list.Goals as goal

pub returns-in_default-row_of : goal.returns-in_default-row_of
returns-in_default-row_of c = λ earlier keeps. name_unknown c.args.m.now.row_names earlier c.args.name.now
    (among_absent c.args.m.now.row_names c.args.name.now (λ there. c.in_default-row_of.ensures.absent (subst (Contains c.args.m.now.row_names) (sym c.in-Ok.ensures.cases.0) there)))

pub index-requires : goal.index-requires
index-requires c = omega (arith, number_inside c.args.m.now.row_names c.in-Some.row _ c.in-Some.ensures.found, c.requires.room, c.args.self.now.seen.ok.0)

pub returns-then-index : goal.returns-then-index
returns-then-index c = λ earlier keeps.
    let found : slice_get c.args.m.now.row_names c.in-Some.row ≡ Some c.args.name.now = c.in-Some.ensures.found ∙ ap Some c.in-Ok.ensures.cases.0 in
    name_twice c.args.m.now.row_names earlier c.args.name.now c.in-Some.row found
    (sym (seen_is c.args.m.now.row_names c.args.self.now earlier c.in-Some.row c.args.name.now c.index.result.now keeps found) ∙ sym c.index.ensures ∙ c.if-index.true)

pub index_mut-requires : goal.index_mut-requires
index_mut-requires c = omega (arith, number_inside c.args.m.now.row_names c.in-Some.row _ c.in-Some.ensures.found, c.requires.room, c.args.self.now.seen.ok.0)

pub returns : goal.returns
returns c = λ earlier keeps.
    let found : slice_get c.args.m.now.row_names c.in-Some.row ≡ Some c.args.name.now = c.in-Some.ensures.found ∙ ap Some c.in-Ok.ensures.cases.0 in (
      name_new c.args.m.now.row_names earlier c.args.name.now c.in-Some.row found
          (sym (seen_is c.args.m.now.row_names c.args.self.now earlier c.in-Some.row c.args.name.now c.index.result.now keeps found) ∙ sym c.index.ensures ∙ c.if-index.false),
      keeps_more c.args.m.now.row_names c.args.self.now _ earlier c.args.name.now c.in-Some.row c.requires.kept.rows_distinct found refl c.in_ok-push.ensures.items keeps,
    )
