-- The number or its opposite, by the sign of the run.
use Rattle.std.proofs.Common.{◌≡◌, ◌∙◌, sym, arith, neg_ℤ, pos}
use Rattle.std.proofs.lemmas.Int.{ints, to_z_pos}
use Rattle.std.specs.Int.{w64}
use mir.Val.{to_z, of_z}
use Rattle.std.specs.Prelude.{◌-ℤ◌, ℕ, ◌<◌, ◌^◌}
use Rattle.lp_semantics.proofs.SignLemmas.{turned_back, turned_over, same_truth, other_truth}
use Rattle.lp_semantics.proofs.number.signed_number.Goals as goal

opposite : (n : ℕ) → n < 2 ^ 62 → to_z w64 (of_z w64 (pos 0 -ℤ to_z w64 n)) ≡ neg_ℤ (pos n)
opposite n l = omega (arith, ints)

pub returns-then-is_negative_run-turned-clause-value : goal.returns-then-is_negative_run-turned-clause-value
returns-then-is_negative_run-turned-clause-value c =
    to_z_pos w64 c.args.size (omega arith)
    ∙ sym (turned_back c.args.turned c.args.signs.now c.args.size
    (sym c.is_negative_run.ensures ∙ same_truth c.is_negative_run.result c.args.turned c.if-is_negative_run-turned.true))

pub returns-then-is_negative_run-turned-clause-small : goal.returns-then-is_negative_run-turned-clause-small
returns-then-is_negative_run-turned-clause-small c = omega (arith, ints)

pub returns-else-is_negative_run-turned-clause-value : goal.returns-else-is_negative_run-turned-clause-value
returns-else-is_negative_run-turned-clause-value c =
    opposite c.args.size c.requires
    ∙ sym (turned_over c.args.turned c.args.signs.now c.args.size
    (sym c.is_negative_run.ensures ∙ other_truth c.is_negative_run.result c.args.turned c.if-is_negative_run-turned.false))

pub returns-else-is_negative_run-turned-clause-small : goal.returns-else-is_negative_run-turned-clause-small
returns-else-is_negative_run-turned-clause-small c = omega (arith, ints)
