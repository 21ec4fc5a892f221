use Rattle.std.proofs.Common.{◌∙◌}
use Rattle.dr_planning.proofs.RuleLemmas.{grouped_value}
use Rattle.dr_planning.proofs.rules.is_grouped.Goals as goal

pub returns-in-Value : goal.returns-in-Value
returns-in-Value c = λ fs ls ks t h k. c.is_some.ensures
    ∙ grouped_value fs ls ks t c.args.term.now c.in-Value.value c.key_place.result (λ e x. c.key_place.ensures fs ls ks e x k) c.in-Value.is h
