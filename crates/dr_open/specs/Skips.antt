-- What fields that were passed stand for.
use Rattle.std.specs.Prelude.{List, map, drop}
use Rattle.dr_meta.specs.declared.file.SchemaItem.{SchemaItem}
use Rattle.dr_meta.specs.Views.{item_view}
use Rattle.dr_open.specs.Places.{Passed}
use Rattle.dr_open.specs.declared.skipping.Skipped.{Skipped}

-- so many leaves, and the elements behind so many
abbrev pub skip_view : Skipped → List SchemaItem → Passed
skip_view s items = record { leaves = s.leaves; behind = map item_view (drop s.elements items) }
