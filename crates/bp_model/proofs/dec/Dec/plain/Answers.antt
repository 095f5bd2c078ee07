use Rattle.std.proofs.Common.{◌≡◌, ◌∙◌, List, ap, map, None, Option, ℕ}
use Rattle.bp_theory.specs.declared.Row.{Row}
use Rattle.bp_model.proofs.DecLemmas.{plain_made}
use Rattle.bp_model.proofs.dec.Dec.plain.Goals as goal

pub returns-clause-places : goal.returns-clause-places
returns-clause-places c =
    plain_made c.args.model.now.program c.from_vec.result c.new.result
    (c.from_vec.ensures ∙ c.in_ok-places.ensures ∙ ap (λ (rows : List Row). map {B = Option ℕ} (λ row. None) rows) c.all_rows.ensures.rows)
