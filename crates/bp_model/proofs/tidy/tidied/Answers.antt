use Rattle.std.proofs.Common.{◌≡◌, ◌+◌, ◌<◌, ◌^◌, ℕ, List, map, length, All, sym, subst, refl}
use Rattle.std.specs.Prelude.{ℤ, unsigned_abs}
use Rattle.bp_model.specs.Tidy.{as_term, pair_limit}
use Rattle.bp_model.proofs.TidyLemmas.{tidied_below, pairs_below, limit-as_term, small_sums}
use Rattle.bp_model.proofs.tidy.tidied.Goals as goal

pub fits-requires : goal.fits-requires
fits-requires c =
    let items = c.in_ok-sums.sums.items in
    let n = length c.args.spans.now in
    subst (λ (es : List (ℕ × ℤ)). All (λ e. e.0 < n) es) (sym c.as_slice.ensures.value)
    (pairs_below n items (tidied_below n c.args.terms.now (map as_term items) c.in_ok-sums.ensures c.requires.below))

pub terms_of-requires : goal.terms_of-requires
terms_of-requires c =
    let items = c.in_ok-sums.sums.items in
    let small = subst (λ (es : List (ℕ × ℤ)). c.args.base + pair_limit c.args.spans.now es < 2 ^ 62) c.as_slice.ensures.value (c.if-not-fits.ensures.0 refl) in
    subst (λ (es : List (ℕ × ℤ)). All (λ e. unsigned_abs e.1 < 2 ^ 62) es) (sym c.as_slice-2.ensures.value)
    (small_sums c.args.spans.now c.args.base items small)
