use Rattle.std.proofs.Common.{◌+◌, ◌-◌, ◌≤◌, length, vec_len, vec_capacity}
use Rattle.dr_plain.proofs.PickSteps.{Picking}
use Rattle.dr_page.proofs.picking.pick_items.Given as goal

abbrev pub invariant-indices : goal.invariant-indices
invariant-indices g l = record {
  room : vec_len l.out + (length l.indices - l.index-index) ≤ vec_capacity l.out;
  picked : Picking l.items l.indices l.out.items l.index-index;
}
