use Rattle.std.proofs.Common.{◌≡◌, ◌++◌, map, drop}
use Rattle.dr_meaning.specs.Automaton as automaton
use Rattle.dr_nested.specs.Views.{fields_view}
use Rattle.dr_levels.specs.Orders.{pick_view}
use Rattle.dr_levels.proofs.OrderLemmas.{shifted}
use Rattle.dr_levels.proofs.order.+far.Given as goal

-- the fields from this one on are still to be gone through
abbrev pub invariant-add_group_far-fields : goal.invariant-add_group_far-fields
invariant-add_group_far-fields l =
    l.order.items ++ automaton.far_order (fields_view (drop l.place l.fields.items)) (shifted l.place (map pick_view l.picks))
    ≡ l.fn.order.items ++ automaton.far_order (fields_view l.fields.items) (map pick_view l.picks)
