use Rattle.dr_paths.proofs.LeavesOnce.{leaves_come_once}
use Rattle.dr_paths.proofs.leaf_laws.query_leaves_come_once.Goals as goal

pub returns : goal.returns
returns c = leaves_come_once
