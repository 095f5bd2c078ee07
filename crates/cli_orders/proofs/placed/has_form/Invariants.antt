use Rattle.std.proofs.Common.{◌≡◌, drop, false}
use Rattle.cli_orders.specs.Orders.{is_amount_from}
use Rattle.cli_orders.proofs.placed.has_form.Given as goal

-- what is left goes on as the whole does
abbrev pub invariant-loop-byte : goal.invariant-loop-byte
invariant-loop-byte l = is_amount_from l.pointed l.digit (drop l.byte-index l.bytes) ≡ is_amount_from false false l.bytes
