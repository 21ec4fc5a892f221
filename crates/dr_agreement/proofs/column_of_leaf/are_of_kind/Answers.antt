use Rattle.std.proofs.Common.{◌∙◌, ap, sym}
use Rattle.std.specs.List.{list_all}
use Rattle.dr_meaning.specs.Record.{is_of_kind}
use Rattle.dr_nested.specs.Views.{kind_view}
use Rattle.dr_levels.specs.Lent.{lent_values}
use Rattle.dr_levels.specs.declared.values_ref.ValuesRef.{ValuesRef}
use Rattle.dr_agreement.proofs.AloneLemmas.{numbers_of_kind, truths_of_kind, texts_of_kind}
use Rattle.dr_agreement.proofs.column_of_leaf.are_of_kind.Goals as goal

pub returns-in-Integers : goal.returns-in-Integers
returns-in-Integers c = c.are_numbers_of.ensures ∙ (numbers_of_kind c.args.kind c.in-Integers.numbers.now ∙ ap (λ (v : ValuesRef). list_all (is_of_kind (kind_view c.args.kind)) (lent_values v)) (sym c.in-Integers.is))

pub returns-in-Bools : goal.returns-in-Bools
returns-in-Bools c = truths_of_kind c.args.kind c.args.values c.in-Bools.field-0 c.in-Bools.is c.requires

pub returns-in-Texts : goal.returns-in-Texts
returns-in-Texts c = texts_of_kind c.args.kind c.args.values c.in-Texts.bytes c.in-Texts.places c.in-Texts.is c.requires
