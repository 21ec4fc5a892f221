use Rattle.dr_stages.proofs.BoundLemmas.{plans_are_bound, orders_fit}
use Rattle.dr_stages.proofs.laws.plans_of_texts_are_bound.Goals as goal

pub returns-clause-bound : goal.returns-clause-bound
returns-clause-bound c = plans_are_bound

pub returns-clause-orders : goal.returns-clause-orders
returns-clause-orders c = orders_fit
