use Rattle.std.proofs.Common.{◌∙◌, sym, inl, inr}
use Rattle.lp_token.proofs.WordPlaces.{NoWord, kind_word, word_longest, plain_found, plain_longest, plain_nothing}
use Rattle.lp_token.proofs.cut.token_end.Goals as goal
use Rattle.lp_token.proofs.cut.token_end.Goals.{then-place+in_default, else-place}

pub returns-in-Some-clause-found : goal.returns-in-Some-clause-found
returns-in-Some-clause-found c =
    let found = c.in-Some.ensures.found in
    (found.0, kind_word c.args.bytes.now c.args.place.at c.in-Some.end c.requires.clear (sym c.requires.place.fresh_is ∙ c.if-place.true) found.1)

pub returns-in-Some-clause-longest : goal.returns-in-Some-clause-longest
returns-in-Some-clause-longest c =
    let found = c.in-Some.ensures.found in
    word_longest c.args.bytes.now c.args.place.at c.in-Some.end c.requires.clear found.1 found.0 c.in-Some.ensures.longest

pub returns-clause-found : goal.returns-clause-found
returns-clause-found c =
    let none : NoWord c.args.bytes.now c.args.place.at = elim c.if-place.branch [ then-place+in_default w ↦ inr w.in_default.ensures.none | else-place w ↦ inl (sym c.requires.place.fresh_is ∙ w.if-place.false) ] in
    plain_found c.args.bytes.now c.args.place.at c.plain_end.result c.requires.clear none c.plain_end.ensures.found

pub returns-clause-longest : goal.returns-clause-longest
returns-clause-longest c =
    let none : NoWord c.args.bytes.now c.args.place.at = elim c.if-place.branch [ then-place+in_default w ↦ inr w.in_default.ensures.none | else-place w ↦ inl (sym c.requires.place.fresh_is ∙ w.if-place.false) ] in
    plain_longest c.args.bytes.now c.args.place.at c.plain_end.result c.requires.clear none c.plain_end.ensures.longest

pub returns-clause-none : goal.returns-clause-none
returns-clause-none c =
    let none : NoWord c.args.bytes.now c.args.place.at = elim c.if-place.branch [ then-place+in_default w ↦ inr w.in_default.ensures.none | else-place w ↦ inl (sym c.requires.place.fresh_is ∙ w.if-place.false) ] in
    plain_nothing c.args.bytes.now c.args.place.at c.plain_end.result c.requires.clear none c.plain_end.ensures.none
