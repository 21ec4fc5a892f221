use Rattle.dr_meaning.proofs.HasShapesLemmas.{records_have_shapes, rows_have_shapes, kept_have_shapes}
use Rattle.dr_meaning.proofs.BindingLemmas.{values_have_types}
use Rattle.dr_meaning.proofs.binding_laws.values_have_types.Goals as goal

pub returns : goal.returns
returns c = record { values = values_have_types; records = records_have_shapes; rows = rows_have_shapes; kept = kept_have_shapes }
