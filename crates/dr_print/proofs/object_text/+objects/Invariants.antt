use Rattle.std.proofs.Common.{drop, string_bytes}
use Rattle.dr_cells.specs.Results.{read_object}
use Rattle.dr_cells.specs.Views.{cells_view}
use Rattle.dr_print.specs.Quoted.{quoted_view, quoted_lists_view}
use Rattle.dr_print.proofs.PartLemmas.{Lists, Times}
use Rattle.dr_print.proofs.object_text.+objects.Given as goal

-- the lists from this one on are still to join
abbrev pub invariant-push_lists-lists : goal.invariant-push_lists-lists
invariant-push_lists-lists l =
    Lists (quoted_lists_view l.lists.items) (quoted_lists_view (drop l.number l.lists.items)) (drop l.counts (cells_view l.cells)) l.number (drop l.at (cells_view l.cells)) (drop l.inner (cells_view l.cells)) l.behind
    (string_bytes l.fn.text) (string_bytes l.text)

-- the objects from this one on are still to join
abbrev pub invariant-push_objects-objects : goal.invariant-push_objects-objects
invariant-push_objects-objects l =
    Times (read_object (quoted_view l.shape)) l.count l.number (drop l.at (cells_view l.cells)) (drop l.next (cells_view l.cells)) (string_bytes l.fn.text) (string_bytes l.text)
