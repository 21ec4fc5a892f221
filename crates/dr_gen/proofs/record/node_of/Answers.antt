use Rattle.std.proofs.Common.{rules}
use Rattle.dr_gen.specs.Generator.{record_of}
use Rattle.dr_gen.proofs.record.node_of.Goals as goal

pub returns : goal.returns
unfolding record_of
returns c = search rules
