use Rattle.std.proofs.Common.{rules}
use Rattle.cmd_check.proofs.Fronts.{kept_along}
use Rattle.cmd_check.proofs.feed_file.Goals as goal

pub returns-clause-files : goal.returns-clause-files
returns-clause-files g c =
    let asked = c.feed_pieces.ensures.fewest.asked in
    let same = kept_along _ (λ p. p.shelf.ghost_name) (λ p piece q h. h.0) _ _ _ asked in
    let files = kept_along _ (λ p. g.F.Shelf.file p.shelf.now) (λ p piece q h. h.1) _ _ _ asked in
    search (rules, same, files)

pub returns-clause-cause : goal.returns-clause-cause
returns-clause-cause g c =
    let same = kept_along _ (λ p. p.shelf.ghost_name) (λ p piece q h. h.0) _ _ _ c.feed_pieces.ensures.fewest.asked in
    let cause = c.feed_pieces.ensures.cause in
    search (rules, same, cause)

pub returns-clause-writes : goal.returns-clause-writes
returns-clause-writes g c =
    let asked = c.feed_pieces.ensures.fewest.asked in
    let same = kept_along _ (λ p. p.shelf.ghost_name) (λ p piece q h. h.0) _ _ _ asked in
    let writes = kept_along _ (λ p. g.F.Shelf.write_faults p.shelf.now) (λ p piece q h. h.2) _ _ _ asked in
    search (rules, same, writes)
