use Rattle.dr_meaning.proofs.BoundPartsLemmas.{items_are_kept, condition_is_kept}
use Rattle.dr_meaning.proofs.binding_laws.bound_query_keeps_syntax.Goals as goal

pub returns : goal.returns
returns c = record { items = items_are_kept; condition = condition_is_kept }
