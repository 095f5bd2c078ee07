use Rattle.std.proofs.Common.{◌≡◌, ◌++◌}
use Rattle.std.specs.Prelude.{slice_index}
use Rattle.std.specs.List.{range_with_len, flat_map}
use Rattle.bp_gen.specs.Generator.{place, plus_before, product}
use Rattle.bp_gen.proofs.push_costs.Given as goal

abbrev pub invariant-loop-job : goal.invariant-loop-job
invariant-loop-job l = l.text.items ≡ l.initial.text.items ++ flat_map (λ job. plus_before (place l.size l.agent job) ++ product (slice_index l.costs (place l.size l.agent job)) l.agent job) (range_with_len 0 l.job)
