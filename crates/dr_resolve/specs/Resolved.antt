-- What a field that was found stands for.
use Rattle.std.specs.Prelude.{ℕ, List, map}
use denote.Ref.{Bor}
use Rattle.dr_meaning.specs.Schema as tree
use Rattle.dr_meaning.specs.Path as paths
use Rattle.dr_nested.specs.Views.{kind_view, fields_view}
use Rattle.dr_nested.specs.PathView.{step_view}
use Rattle.dr_resolve.specs.declared.resolving.End.{End}
use Rattle.dr_resolve.specs.declared.resolving.Found.{Found}

abbrev pub end_view : End → tree.Shape
end_view (End.Group fs) = tree.group (fields_view (fs.now).items)
end_view (End.Leaf k) = tree.leaf (kind_view k)

abbrev pub found_view : Found → paths.Found
found_view f = record { path = map step_view f.steps.items; shape = end_view f.end }
