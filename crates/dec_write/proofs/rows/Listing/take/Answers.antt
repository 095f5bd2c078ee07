use Rattle.std.proofs.Common.{◌≡◌, ◌∙◌, false, sym}
use Rattle.dec_syntax.specs.Words.{has_bad_byte}
use Rattle.dec_syntax.proofs.ListLemmas.{plain_is_text}
use Rattle.dec_write.proofs.rows.Listing.take.Goals as goal

pub list-requires-clause-text : goal.list-requires-clause-text
list-requires-clause-text c = plain_is_text c.args.word.now (sym c.if-holds_bad_byte.ensures)
