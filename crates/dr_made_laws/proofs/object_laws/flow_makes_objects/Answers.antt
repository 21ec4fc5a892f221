use Rattle.dr_made_laws.proofs.RecordObjects.{flow_makes_objects, whole_flow_makes_objects}
use Rattle.dr_made_laws.proofs.object_laws.flow_makes_objects.Goals as goal

pub returns : goal.returns
returns c = record { cut = flow_makes_objects; whole = whole_flow_makes_objects }
