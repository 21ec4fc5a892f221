use Rattle.std.proofs.Common.{◌≡◌, drop}
use Rattle.dr_cells.specs.Shapes.{lists_view}
use Rattle.dr_cells.specs.PlanShapes.{append_shapes}
use Rattle.dr_print.specs.Quoted.{lists_in_quotes, quoted_lists_view}
use Rattle.dr_print.proofs.quoting.+quoting.Given as goal

-- the lists from this one on are still to join
abbrev pub invariant-quote_lists-lists : goal.invariant-quote_lists-lists
invariant-quote_lists-lists l = append_shapes (quoted_lists_view l.quotes.items) (lists_in_quotes (lists_view (drop l.list-index l.lists.items))) ≡ lists_in_quotes (lists_view l.lists.items)
