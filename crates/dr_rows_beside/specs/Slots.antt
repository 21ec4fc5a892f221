-- What the slots of rows hold.
use Rattle.std.specs.Prelude.{◌≡◌, ℕ, List, [], ◌∷◌, map}
use Rattle.std.specs.List.{slice_get}
use Rattle.dr_meaning.specs.Path.{Leaf}
use Rattle.dr_meaning.specs.Record.{Node}
use Rattle.dr_meaning.specs.Rows.{value_at}
use Rattle.dr_plan.specs.Views.{path_of}
use Rattle.dr_rows_beside.specs.Rows.{Row, in_slot}

-- in each row the slots of these leaves are their values in a node
abbrev pub EachSlot : List Leaf → List ℕ → List Row → List Node → Type 0
EachSlot ls [] rs ms = Unit {0}
EachSlot ls (k ∷ ks) rs ms = (in_slot k rs ≡ map (value_at (path_of (slice_get ls k))) ms) × EachSlot ls ks rs ms
