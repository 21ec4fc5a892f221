use Rattle.std.proofs.Common.{◌≡◌, List, drop}
use Rattle.std.specs.List.{list_any}
use Rattle.dr_meaning.specs.Schema.{Fields}
use Rattle.dr_meaning.specs.Path.{Leaf}
use Rattle.dr_meaning.specs.Query.{Levels}
use Rattle.dr_meaning.specs.Binding as binding
use Rattle.dr_planning.specs.NamedLevels.{joined, levels_view}
use Rattle.dr_resolve.specs.Items.{AreItems, IsItem}
use Rattle.dr_planning.proofs.rules.is_list_name.Given as goal

-- no list to one of the others so far has the name
abbrev pub invariant-others : goal.invariant-others
invariant-others l = (fs : Fields) (ls : List Leaf) (tree : Levels) (b : binding.BoundItem) (ds : List binding.BoundItem) → levels_view l.levels ≡ joined tree → IsItem fs ls b l.item → AreItems fs ls ds l.others
    → list_any (binding.has_name_of_list tree l.is_record_query b) ds ≡ list_any (binding.has_name_of_list tree l.is_record_query b) (drop l.other-index ds)
