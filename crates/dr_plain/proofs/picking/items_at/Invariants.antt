use Rattle.std.proofs.Common.{◌+◌, ◌-◌, ◌≤◌, length, vec_len, vec_capacity}
use Rattle.dr_plain.proofs.PickSteps.{Picking}
use Rattle.dr_plain.proofs.picking.items_at.Given as goal

abbrev pub invariant-indices : goal.invariant-indices
invariant-indices g l = record {
  room : vec_len l.found + (length l.indices - l.index-index) ≤ vec_capacity l.found;
  picked : Picking l.items l.indices l.found.items l.index-index;
}
