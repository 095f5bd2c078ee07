use Rattle.std.proofs.Common.{◌∙◌, ◌+◌, ◌++◌, ◌∷◌, [], List, ℕ, refl, sym, ap, append_assoc}
use Rattle.std.specs.Prelude.{ℤ, pos}
use Rattle.std.proofs.lemmas.List.FromFn.{map-range_with_len_more}
use Rattle.block_build.specs.Homes.{link_entries}
use Rattle.block_build.proofs.source.push_links.Goals as goal

pub loop-i-preserved : goal.loop-i-preserved
loop-i-preserved c =
    let first = c.args.first in
    let i = c.loop-i.i in
    let old : List (ℕ × ℤ) = c.args.coefs.now.items in
    c.in_ok-push.ensures.items
    ∙ ap (λ (es : List (ℕ × ℤ)). es ++ (first + i, pos 1) ∷ []) c.loop-i.invariant
    ∙ append_assoc old (link_entries first i) ((first + i, pos 1) ∷ [])
    ∙ ap (λ (es : List (ℕ × ℤ)). old ++ es) (sym (map-range_with_len_more (λ n. (n, pos 1)) first i (first + i) refl))
