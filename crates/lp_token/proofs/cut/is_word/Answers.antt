use Rattle.std.proofs.Common.{◌∙◌, sym, ap, not}
use Rattle.std.specs.Prelude.{◌&&◌, is_some}
use Rattle.lp_token.proofs.WordPlaces.{word_test}
use Rattle.lp_token.proofs.cut.is_word.Goals as goal

pub returns-then-is_some : goal.returns-then-is_some
returns-then-is_some c = ap (λ t. t && not c.colon_follows.result) (sym c.if-is_some.true ∙ c.is_some.ensures ∙ ap is_some c.section_of.ensures) ∙ word_test c.args.bytes.now c.args.from c.args.to c.colon_follows.result c.requires.stop c.colon_follows.ensures
