-- What the types and faults of this crate stand for.
use Rattle.std.specs.Prelude.{◌≡◌, List, map, Option, Some, None, Result, Ok, Err, ⊤}
use Rattle.dr_meaning.specs.Path as path
use Rattle.dr_meaning.specs.Record as record_tree
use Rattle.dr_meaning.specs.Column.{Triplet, column}
use Rattle.dr_nested.specs.PathView.{step_view, paths_view}
use Rattle.dr_nested.specs.Views.{node_view}
use Rattle.dr_nested.specs.declared.path.Path.{Path}
use Rattle.dr_nested.specs.declared.record.Node.{Node}
use Rattle.dr_levels.specs.Views.{triplets_view}
use Rattle.dr_assemble.specs.Restoring as restoring
use Rattle.dr_assemble.specs.declared.strip.Strip.{Strip}
use Rattle.dr_walk.specs.declared.fault.AssembleFault.{AssembleFault}

abbrev pub strip_view : Strip → restoring.Strip
strip_view s = record { rest = map step_view s.rest.now; triplets = triplets_view s.triplets }

abbrev pub strips_view : List Strip → List restoring.Strip
strips_view ss = map strip_view ss

abbrev pub nodes_view : List Node → List record_tree.Node
nodes_view ns = map node_view ns

-- the columns of nodes at some leaves
abbrev pub columns_at : List Path → List Node → List (List Triplet)
columns_at ps ns = map (λ (p : List path.Step). column p (nodes_view ns)) (paths_view ps)

-- the answer is what is restored, or bad data where nothing is; want of memory may come in place of either
abbrev pub Restores : {A B : Type 0} → (A → B) → Option B → Result A AssembleFault → Type 0
Restores see meant (Ok a) = meant ≡ Some (see a)
Restores see meant (Err AssembleFault.BadData) = meant ≡ None
Restores see meant (Err AssembleFault.NoMemory) = ⊤
