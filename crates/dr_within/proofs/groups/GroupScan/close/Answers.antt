use Rattle.dr_within.proofs.BehindLemmas.{if_ok}
use Rattle.dr_within.proofs.groups.GroupScan.close.Goals as goal

pub returns-clause-partial : goal.returns-clause-partial
returns-clause-partial c = if_ok c.close.result _ _ (λ x f p ls ts ms b. f p _ _ _ _ b.made) c.close.ensures.partial
