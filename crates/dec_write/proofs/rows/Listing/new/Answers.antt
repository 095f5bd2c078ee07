use Rattle.std.proofs.Common.{◌≡◌, ◌<◌, ℕ, false, subst, List, length, refl, sym, ◌∙◌, ap, arith}
use Rattle.std.specs.Prelude.{All}
use Rattle.std.proofs.Math.ListN.{replicate}
use Rattle.dec_write.proofs.RowsLemmas.{seen_none}
use Rattle.dec_write.proofs.rows.Listing.new.Goals as goal

pub returns : goal.returns
returns c = λ names same. record {
  seen = c.in_ok-seen.ensures ∙ ap (λ (n : ℕ). replicate n false) (sym same) ∙ seen_none names;
  rows = c.new.ensures.items;
  below = subst (All (λ (r : ℕ). r < length names)) (sym c.new.ensures.items) (λ k d l. absurd (omega arith));
}
