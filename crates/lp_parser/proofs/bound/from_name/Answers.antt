-- A name behind a name is looked at as it stands in the text.
use Rattle.std.proofs.Common.{◌≡◌, ap, ◌∙◌}
use Rattle.lp_syntax.specs.Tree.{is_free}
use Rattle.lp_syntax.specs.TreeIn.{name_in}
use Rattle.lp_parser.proofs.bound.from_name.Goals as goal

pub returns-in-Name : goal.returns-in-Name
returns-in-Name c =
    let free : c.is_free-free.result ≡ is_free (name_in c.args.bytes.now c.in-Name.word) = c.is_free-free.ensures ∙ ap is_free c.bytes_at.ensures in
    rw (c.in-Name.is, ← free) (c.free_word.ensures c.args.bytes.now)
