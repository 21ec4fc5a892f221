use Rattle.std.proofs.lemmas.Result.{IfOk-weaker}
use Rattle.dr_cells.specs.Rows.{rows_view}
use Rattle.dr_group.specs.Partials.{partial_view}
use Rattle.dr_nested.specs.SchemaView.{schema_view}
use Rattle.dr_stages.proofs.OrderLemmas.{order_within}
use Rattle.dr_stages.proofs.ResultLemmas.{result_is_finished}
use Rattle.dr_stages.proofs.result.result_of.Goals as goal

pub arranged-requires : goal.arranged-requires
arranged-requires c =
    let m = c.requires.stands in
    order_within (schema_view c.args.schema.now) m.0 c.args.plans.now c.in_ok-rows.rows m.2 (c.in_ok-rows.ensures.shape c.in_ok-outermost.ensures.of_plan)

pub returns : goal.returns
returns c =
    let s = schema_view c.args.schema.now in
    record {
      rows = IfOk-weaker c.arranged.result _ _
          (λ r e. result_is_finished s c.args.plans.now (partial_view c.args.partial) (partial_view c.in_ok-outermost.outermost) (rows_view c.in_ok-rows.rows) (rows_view r) c.in_ok-outermost.ensures.partial c.in_ok-rows.ensures.rows e) c.arranged.ensures.rows;
    }
