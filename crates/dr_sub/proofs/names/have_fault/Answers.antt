use Rattle.dr_sub.proofs.NameLemmas.{fault_there}
use Rattle.dr_sub.proofs.names.have_fault.Goals as goal

pub returns : goal.returns
returns c = fault_there c.args.earlier.now c.args.names.now c.has_refused.result c.if-names-gt-GREATEST_DEPTH.false c.has_refused.ensures
