-- All line feeds stand before the end.
use Rattle.std.proofs.Common.{◌+◌, length, List, ℕ, ap, sym, ◌∙◌, arith}
use Rattle.std.proofs.lemmas.List.{take_all}
use Rattle.std.specs.Prelude.{count_by}
use Rattle.lp_token.specs.Cut.{is_line_feed, line_at}
use Rattle.lp_read.proofs.read.last_line.Goals as goal

pub returns : goal.returns
unfolding line_at
returns c = ap (λ (n : ℕ). 1 + n) (c.line_feeds.ensures.count ∙ ap (λ (xs : List ℕ). count_by is_line_feed xs) (sym (take_all (length c.args.bytes.now) c.args.bytes.now (omega arith))))
