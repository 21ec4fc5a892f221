use Rattle.std.proofs.Common.{ap, ◌∙◌, sym, map, take}
use Rattle.std.proofs.lemmas.List.{take-map}
use Rattle.dr_meaning.specs.Record.{bool_value, int_value}
use Rattle.dr_levels.specs.Dense.{values_view}
use Rattle.dr_levels.proofs.values.Values.truncate.Goals as goal

pub returns-in-Bools-clause-values : goal.returns-in-Bools-clause-values
returns-in-Bools-clause-values c = ap (map bool_value) c.truncate.ensures.items ∙ sym (take-map bool_value c.args.count c.in-Bools.truths.items) ∙ ap (λ v. take c.args.count (values_view v)) (sym c.in-Bools.is)

pub returns-in-Integers-clause-values : goal.returns-in-Integers-clause-values
returns-in-Integers-clause-values c = ap (map int_value) c.truncate-in-Integers.ensures.items ∙ sym (take-map int_value c.args.count c.in-Integers.numbers.items) ∙ ap (λ v. take c.args.count (values_view v)) (sym c.in-Integers.is)
