use Rattle.std.proofs.Common.{map, drop, length, ◌-◌}
use Rattle.dr_nested.specs.PathView.{path_view}
use Rattle.dr_nested.specs.Selected.{Selects}
use Rattle.dr_nested.specs.SelectionView.{selection_view}
use Rattle.dr_nested.specs.declared.path.Path.{Path}
use Rattle.dr_nested.proofs.selection.select.Given as goal

-- the last fields are selected, as many as were gone through
abbrev pub invariant-fields : goal.invariant-fields
invariant-fields l = Selects (selection_view l.selection) (map (λ (p : Path). (path_view p).path) (drop (length l.fields - l.done) l.fields))
