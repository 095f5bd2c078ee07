-- What an answer's gap and what is short mean.
use Rattle.std.proofs.Common.{◌≡◌, ◌↔◌, sym, subst, ◌∙◌, List, zip, ap}
use Rattle.std.specs.Prelude.{ℕ, ℤ, pos, ◌+ℤ◌, ◌*ℤ◌, ◌≤ℤ◌}
use Rattle.search_laws.specs.Master.{FitsTimes, one_weight, weighted_cost, gap, short}
use Rattle.search_laws.proofs.MasterProof.{gap_bounds_lem, short_is_none_lem}
use Rattle.master_lp.specs.declared.answer.MasterAnswer.{MasterAnswer}
use Rattle.master_gap.specs.Restricted.{Restricted, IsModest}
use Rattle.master_lp.specs.Answer.{IsAnswer, IsNearBest}

no_less : {n m : ℕ} → pos n ≡ pos m → n ≡ m
no_less e = cc

pub near_best : (m : Restricted) (a : MasterAnswer) → IsModest m → IsAnswer m a → IsNearBest m a
near_best m a modest answer = record {
  near = λ n others sizes fits.
      subst (λ g. (pos n *ℤ weighted_cost (zip m.cols a.weights.items)) ≤ℤ (pos one_weight *ℤ weighted_cost (zip m.cols others) +ℤ pos n *ℤ g))
      (sym answer.gap_is)
      (gap_bounds_lem m.cols m.rows m.counts a.weights.items a.mults.items a.convex.items modest.known answer.mults.signs answer.convex n others sizes fits);
  fits = (
    (λ none. (short_is_none_lem m.rows m.counts (zip m.cols a.weights.items)).0 (no_less (sym answer.short_is ∙ none))),
    (λ fits. answer.short_is ∙ ap pos ((short_is_none_lem m.rows m.counts (zip m.cols a.weights.items)).1 fits)),
  );
}
