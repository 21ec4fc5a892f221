use Rattle.std.proofs.Common.{arith}
use Rattle.dr_load.proofs.PutLemmas.{path_is_copy}
use Rattle.dr_load.proofs.copies.copy_path.Goals as goal

pub returns : goal.returns
returns c =
    let e = path_is_copy c.args.leaves.now c.args.tablet c.args.copy c.placement_among-leaf.result c.index-leaves-leaf.result c.as_str.result.now c.as_str.ensures.value c.index-leaves-leaf.is c.placement_among-leaf.ensures.leaf (omega arith) in
    rw (← e) c.tablet_path.ensures
