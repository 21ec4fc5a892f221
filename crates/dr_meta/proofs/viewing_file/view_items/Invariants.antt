use Rattle.std.proofs.Common.{map}
use Rattle.dr_formats.specs.Metadata.{view_element}
use Rattle.dr_compact.specs.Views.{tree_view}
use Rattle.dr_meta.specs.Views.{item_view}
use Rattle.dr_meta.proofs.EachLemmas.{Seen}
use Rattle.dr_meta.proofs.viewing_file.view_items.Given as goal

abbrev pub invariant-items : goal.invariant-items
invariant-items l = Seen tree_view view_element l.trees l.tree-index (map item_view l.items.items)
