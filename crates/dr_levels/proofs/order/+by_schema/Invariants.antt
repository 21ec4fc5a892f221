use Rattle.std.proofs.Common.{◌≡◌, ◌++◌, map, drop}
use Rattle.dr_meaning.specs.Automaton as automaton
use Rattle.dr_nested.specs.Views.{fields_view}
use Rattle.dr_levels.specs.Orders.{pick_view}
use Rattle.dr_levels.proofs.OrderLemmas.{shifted}
use Rattle.dr_levels.proofs.order.+by_schema.Given as goal

-- the fields from this one on are still to be gone through
abbrev pub invariant-add_group_by_schema-fields : goal.invariant-add_group_by_schema-fields
invariant-add_group_by_schema-fields l =
    l.order.items ++ automaton.schema_order_in (fields_view (drop l.place l.fields.items)) (shifted l.place (map pick_view l.picks))
    ≡ l.fn.order.items ++ automaton.schema_order_in (fields_view l.fields.items) (map pick_view l.picks)
