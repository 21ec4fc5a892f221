use Rattle.std.proofs.Common.{◌∙◌, sym, ap}
use Rattle.std.proofs.lemmas.List.{length-map}
use Rattle.std.proofs.lemmas.Result.{IfOk-weaker}
use Rattle.dr_cells.specs.Rows.{rows_shape, rows_view}
use Rattle.dr_cells.specs.Views.{cells_view}
use Rattle.dr_cells.proofs.ReadingLemmas.{rows_length}
use Rattle.dr_levels.specs.Views.{columns_view}
use Rattle.dr_nested.specs.SchemaView.{schema_view}
use Rattle.dr_plan.specs.Planned.{plan_leaves}
use Rattle.dr_sub_meaning.specs.ResultRecords.{record_of, records_of}
use Rattle.dr_stages.proofs.StageLemmas.{all_fit, plan_leaves_are}
use Rattle.dr_stages.proofs.objects.partial_of_objects.Goals as goal

pub columns_of_objects-requires-clause-leaves : goal.columns_of_objects-requires-clause-leaves
columns_of_objects-requires-clause-leaves c =
    let s = schema_view c.args.schema.now in
    (s.fields, plan_leaves_are s c.args.plan.now c.requires.planned)

pub columns_of_objects-requires-clause-fits : goal.columns_of_objects-requires-clause-fits
columns_of_objects-requires-clause-fits c =
    let s = schema_view c.args.schema.now in
    all_fit s.fields (plan_leaves c.args.plan.now) (records_of (rows_view c.args.rows.now)) (plan_leaves_are s c.args.plan.now c.requires.planned) c.requires.records

pub partial_of_columns-requires-clause-have : goal.partial_of_columns-requires-clause-have
partial_of_columns-requires-clause-have c =
    let r = c.args.rows.now in
    let columns = ap columns_view c.deref.ensures.value ∙ c.in_ok-columns.ensures in
    (records_of (rows_view r), (c.requires.records, length-map (rows_view r) record_of ∙ rows_length (rows_shape r) r.count (cells_view r.cells), sym columns))

pub returns-clause-partial : goal.returns-clause-partial
returns-clause-partial c =
    let r = c.args.rows.now in
    let columns = ap columns_view c.deref.ensures.value ∙ c.in_ok-columns.ensures in
    IfOk-weaker c.partial_of_columns.result _ _ (λ x e. e (records_of (rows_view r)) (c.requires.records, length-map (rows_view r) record_of ∙ rows_length (rows_shape r) r.count (cells_view r.cells), sym columns))
    c.partial_of_columns.ensures.partial
