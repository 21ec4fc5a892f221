use Rattle.dr_scan.proofs.UsedLeaves.{found_are_leaves, named_are_leaves, used_are_leaves}
use Rattle.dr_scan.proofs.laws.named_and_used_are_leaves.Goals as goal

pub returns : goal.returns
returns c = record { found = found_are_leaves; named = named_are_leaves; used = used_are_leaves }
