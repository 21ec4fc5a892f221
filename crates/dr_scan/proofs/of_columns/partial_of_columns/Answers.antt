use Rattle.std.proofs.lemmas.Result.{IfOk-weaker}
use Rattle.dr_nested.specs.SchemaView.{schema_view}
use Rattle.dr_scan.proofs.of_columns.partial_of_columns.Goals as goal

pub returns-in-Some-clause-partial : goal.returns-in-Some-clause-partial
returns-in-Some-clause-partial c =
    IfOk-weaker c.partial_side_by_side.result _ _ (λ x e. e (schema_view c.args.schema.now) c.requires.planned) c.partial_side_by_side.ensures.partial
