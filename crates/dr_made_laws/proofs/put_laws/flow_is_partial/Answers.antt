use Rattle.dr_made_laws.proofs.FlowPartialLemmas.{flow_is_partial, whole_flow_is_partial, nothing_is_partial}
use Rattle.dr_made_laws.proofs.put_laws.flow_is_partial.Goals as goal

pub returns : goal.returns
returns c = record { cut = flow_is_partial; whole = whole_flow_is_partial; nothing = nothing_is_partial }
