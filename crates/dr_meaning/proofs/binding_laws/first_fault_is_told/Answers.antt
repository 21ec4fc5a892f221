use Rattle.dr_meaning.proofs.BindingFaultLemmas.{first_fault_is_told, bound_without_fault}
use Rattle.dr_meaning.proofs.binding_laws.first_fault_is_told.Goals as goal

pub returns : goal.returns
returns c = record { told = first_fault_is_told; bound = bound_without_fault }
