-- A run is minus where its minuses are odd.
use Rattle.std.proofs.Common.{◌∙◌, ap, ◌%◌, nat_eq}
use Rattle.lp_semantics.proofs.SignLemmas.{odd_minuses}
use Rattle.lp_semantics.proofs.number.is_negative_run.Goals as goal

pub returns : goal.returns
returns c = ap (λ n. nat_eq (n % 2) 1) c.minuses.ensures ∙ odd_minuses c.args.signs.now
