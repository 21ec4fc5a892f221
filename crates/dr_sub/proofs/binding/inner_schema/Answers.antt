use Rattle.std.proofs.Common.{◌≡◌, true}
use Rattle.std.specs.Prelude.{option_map}
use Rattle.dr_ordered.specs.Orders.{order_view}
use Rattle.dr_sql.specs.Views.{select_view}
use Rattle.dr_sub_meaning.specs.NestedBinding.{is_arranged}
use Rattle.dr_sub.proofs.NestedLemmas.{arranged_refused, inner_given, schema_refused, not_arranged, by_order, by_limit}
use Rattle.dr_sub.proofs.binding.inner_schema.Goals as goal
use Rattle.dr_sub.proofs.binding.inner_schema.Goals.{then-is_some-via-then-is_some, then-is_some-via-else-is_some+then-is_some-2}

pub returns-then-is_some : goal.returns-then-is_some
returns-then-is_some c =
    let p = select_view c.args.select.now in
    let a : is_arranged p ≡ true = elim c.then-is_some.branch [
      | then-is_some-via-then-is_some w ↦ by_order c.args.select.now c.is_some.result c.is_some.ensures w.if-is_some.true
      | then-is_some-via-else-is_some+then-is_some-2 w ↦ by_limit c.args.select.now w.is_some-else-is_some.result w.is_some-else-is_some.ensures w.if-is_some-2.true
    ] in
    record { inner = λ s q b others. arranged_refused s q p c.args.plan.now (option_map order_view c.in_ok-bind_order.field-0) b c.in_ok-bind_order.ensures a others }

pub returns-in-Ok : goal.returns-in-Ok
returns-in-Ok c =
    let a = not_arranged c.args.select.now c.is_some.result c.is_some-else-is_some.result c.is_some.ensures c.if-is_some.false c.is_some-else-is_some.ensures c.if-is_some-2.false in
    record { inner = λ s q b. inner_given s q (select_view c.args.select.now) c.args.plan.now (option_map order_view c.in_ok-bind_order.field-0) c.result_schema.result c.in-Ok.schema b c.in_ok-bind_order.ensures a (c.result_schema.ensures.schema s q b) c.in-Ok.is }

pub returns-in-Err : goal.returns-in-Err
returns-in-Err c =
    let a = not_arranged c.args.select.now c.is_some.result c.is_some-else-is_some.result c.is_some.ensures c.if-is_some.false c.is_some-else-is_some.ensures c.if-is_some-2.false in
    record { inner = λ s q b. schema_refused s q (select_view c.args.select.now) c.args.plan.now (option_map order_view c.in_ok-bind_order.field-0) c.result_schema.result c.in-Err.fault c.fault_of_result.result b c.in_ok-bind_order.ensures a (c.result_schema.ensures.schema s q b) c.in-Err.is c.fault_of_result.ensures }
