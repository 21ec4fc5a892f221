use Rattle.std.proofs.Common.{◌^◌, ◌<◌}
use Rattle.dr_json.proofs.SizeLemmas.{SlotsLeft, InstancesLeft}
use Rattle.dr_json.proofs.size.+size.Given as goal

abbrev pub invariant-instances_size-loop-instance : goal.invariant-instances_size-loop-instance
invariant-instances_size-loop-instance l = record { left : InstancesLeft l.instances l.instance-index l.total; instances_fit : l.total.instances < 2 ^ 64; bytes_fit : l.total.text_bytes < 2 ^ 64 }

abbrev pub invariant-slots_size-loop-slot : goal.invariant-slots_size-loop-slot
invariant-slots_size-loop-slot l = record { left : SlotsLeft l.slots l.slot-index l.total; instances_fit : l.total.instances < 2 ^ 64; bytes_fit : l.total.text_bytes < 2 ^ 64 }
