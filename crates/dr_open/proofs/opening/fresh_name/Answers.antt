use Rattle.dr_open.proofs.NameLemmas.{name_added}
use Rattle.dr_open.proofs.opening.fresh_name.Goals as goal

pub returns-after-is_fresh-clause-names : goal.returns-after-is_fresh-clause-names
returns-after-is_fresh-clause-names c =
    λ names h q g. name_added c.in-Some.short.now q.now c.args.name.now names _ _ c.in-Some.ensures.text (c.in_ok-is_fresh-in-Some.ensures.updates.0 q) (h q g)
