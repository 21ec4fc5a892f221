use Rattle.std.proofs.Common.{◌≡◌, ◌≤◌, ◌∷◌, map, drop}
use Rattle.std.specs.Prelude.{option_map, Some}
use Rattle.dr_formats.specs.FileSchema.{file_schema}
use Rattle.dr_meta.specs.Views.{item_view}
use Rattle.dr_meta.specs.OneTree.{count_leaves, leaves_left, and_leaves, still_open}
use Rattle.dr_meta.proofs.one_tree.leaves_below.Given as goal

-- the leaves so far, and those of the elements from this one on, are the schema's
abbrev pub invariant-items : goal.invariant-items
invariant-items l =
    (l.leaves ≤ l.item-index)
    × (and_leaves (Some l.leaves) (leaves_left (still_open l.groups.items) (map item_view (drop l.item-index l.rest))) ≡ option_map count_leaves (file_schema (item_view l.fn.root ∷ map item_view l.rest)))
