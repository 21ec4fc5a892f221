use Rattle.dr_formats.proofs.OpenLeavesLemmas.{open_part_has_open_leaves}
use Rattle.dr_formats.proofs.file_laws.open_part_has_open_leaves.Goals as goal

pub returns : goal.returns
returns c = open_part_has_open_leaves
