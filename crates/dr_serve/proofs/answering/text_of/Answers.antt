use Rattle.std.specs.Prelude.{string_bytes}
use Rattle.std.proofs.lemmas.Result.{IfOk-weaker}
use Rattle.dr_cells.specs.Rows.{rows_view}
use Rattle.dr_group.specs.Partials.{partial_view}
use Rattle.dr_nested.specs.SchemaView.{schema_view}
use Rattle.dr_serve.proofs.AnswerLemmas.{result_prints}
use Rattle.dr_serve.proofs.answering.text_of.Goals as goal

pub returns : goal.returns
returns c =
    IfOk-weaker c.result_text.result _ _
    (λ t e n R are stands. result_prints (schema_view c.args.schema.now) n c.args.plans.now R (partial_view c.args.partial) (rows_view c.in_ok-rows.rows) (string_bytes t) are stands c.in_ok-rows.ensures.rows e)
    c.result_text.ensures
