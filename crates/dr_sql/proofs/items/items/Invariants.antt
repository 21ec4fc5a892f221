use Rattle.std.proofs.Common.{◌≡◌, ◌-◌, ◌≤◌, length}
use Rattle.dr_meaning.specs.Parse as parse
use Rattle.dr_sub_meaning.specs.NestedParse as nested
use Rattle.dr_sql.specs.Productions.{items_at}
use Rattle.dr_sql.specs.Reads.{unread}
use Rattle.dr_sql.specs.Views.{items_view}
use Rattle.dr_sql.proofs.items.items.Given as goal

-- the items so far, with those that are left, are the query's
abbrev pub invariant-items : goal.invariant-items
invariant-items l =
    (items_at l.fn.depth (unread l.fn.cursor) ≡ parse.further_elements parse.begins_item (nested.item l.fn.depth) (256 - length l.items.items) (items_view l.items) (unread l.cursor))
    × (length l.items.items ≤ 256)

abbrev pub decreases-items : goal.decreases-items
decreases-items l = 256 - length l.items.items
