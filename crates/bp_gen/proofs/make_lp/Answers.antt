use Rattle.std.proofs.Common.{◌≡◌, ◌∙◌, ap, List, ℕ, ◌++◌}
use Rattle.std.specs.List.{range_with_len, flat_map}
use Rattle.bp_gen.specs.Generator.{weights, costs, cost_terms, job_line, capacity_line, names_line}
use Rattle.bp_gen.proofs.Pushed.{joined}
use Rattle.bp_gen.proofs.make_lp.Goals as goal

pub returns : goal.returns
returns c =
    let cost_list : c.deref.result.now ≡ costs c.args.seed c.args.size = c.deref.ensures.value ∙ c.in_ok-weights.ensures.costs in
    let weight_list : c.deref-2.result.now ≡ weights c.args.seed c.args.size = c.deref-2.ensures.value ∙ c.in_ok-weights.ensures.weights in
    joined (flat_map (cost_terms (costs c.args.seed c.args.size) c.args.size) (range_with_len 0 4)) (flat_map job_line (range_with_len 0 c.args.size))
    (flat_map (capacity_line (weights c.args.seed c.args.size) c.args.size) (range_with_len 0 4)) (flat_map (names_line c.args.size) (range_with_len 0 4))
    c.in_ok-text.text.items c.push_objective.new.text.items c.extend_from_slice.new.self.items c.push_job_lines.new.text.items c.push_capacity_lines.new.text.items
    c.extend_from_slice-2.new.self.items c.push_names_lines.new.text.items c.extend_from_slice-3.new.self.items
    c.in_ok-text.ensures.items
    (c.in_ok-push_objective.ensures
    ∙ ap (λ (cs : List ℕ). c.in_ok-text.text.items ++ flat_map (cost_terms cs c.args.size) (range_with_len 0 4)) cost_list)
    c.in_ok-extend_from_slice.ensures.items c.in_ok-push_job_lines.ensures
    (c.in_ok-push_capacity_lines.ensures
    ∙ ap (λ (ws : List ℕ). c.push_job_lines.new.text.items ++ flat_map (capacity_line ws c.args.size) (range_with_len 0 4)) weight_list)
    c.in_ok-extend_from_slice-2.ensures.items c.in_ok-push_names_lines.ensures c.in_ok-extend_from_slice-3.ensures.items
