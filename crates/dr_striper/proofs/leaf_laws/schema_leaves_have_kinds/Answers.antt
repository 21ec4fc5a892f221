use Rattle.dr_striper.proofs.SchemaLeafLemmas.{schema_leaves_are}
use Rattle.dr_striper.proofs.leaf_laws.schema_leaves_have_kinds.Goals as goal

pub returns : goal.returns
returns c = schema_leaves_are
