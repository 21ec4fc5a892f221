use Rattle.std.proofs.Common.{◌∙◌, ap, ap₂, sym}
use Rattle.dr_levels.specs.Views.{triplets_view, triplets_form}
use Rattle.dr_partials.specs.Accumulators.{counted, join}
use Rattle.dr_group.specs.Views.{accumulator_view}
use Rattle.dr_group.specs.ManyTaken.{many_view, take_each_by}
use Rattle.dr_group.specs.TakenValues.{take_each}
use Rattle.dr_group.specs.declared.gathering.Gathering.{Gathering}
use Rattle.dr_group.specs.declared.many.Many.{Many}
use Rattle.dr_group.proofs.TakenLemmas.{becomes_ok}
use Rattle.dr_group.proofs.ManyLemmas.{rows_each, values_each, nulls_each, texts_lent, if_values}
use Rattle.dr_group.proofs.accumulator.Accumulator.take_many.Goals as goal

pub take_values-requires : goal.take_values-requires
take_values-requires c = texts_lent (triplets_form c.in-Values-Column.column).kind c.values.result c.values.ensures.kind

pub returns-in-Rows-default : goal.returns-in-Rows-default
returns-in-Rows-default c =
    let x = accumulator_view c.args.self.now in
    let vs = many_view c.args.many in
    becomes_ok c.take_rows.result x (accumulator_view c.take_rows.new.self) (join x (counted c.len.result)) (take_each_by c.args.gathering vs x) c.take_rows.ensures
    (ap (λ n. join x (counted n)) c.len.ensures ∙ rows_each vs x ∙ ap (λ (k : Gathering). take_each_by k vs x) (sym c.in-Rows-default.is-0))

pub returns-in-Values-Column : goal.returns-in-Values-Column
returns-in-Values-Column c =
    let x = accumulator_view c.args.self.now in
    if_values c.take_values.result _ _ _ c.take_values.ensures
    (ap (take_each x) c.values.ensures.values ∙ values_each c.in-Values-Column.field-0-0 (triplets_view c.in-Values-Column.column) x
    ∙ ap₂ (λ (k : Gathering) (m : Many). take_each_by k (many_view m) x) (sym c.in-Values-Column.is-0) (sym c.in-Values-Column.is-1))

pub returns-in-Values-Nulls : goal.returns-in-Values-Nulls
returns-in-Values-Nulls c =
    let x = accumulator_view c.args.self.now in
    nulls_each c.in-Values-Nulls.field-0-0 c.in-Values-Nulls.field-0-1 x
    ∙ ap₂ (λ (k : Gathering) (m : Many). take_each_by k (many_view m) x) (sym c.in-Values-Nulls.is-0) (sym c.in-Values-Nulls.is-1)
