-- A scan of groups behind some moves: what it has made of them.
use Rattle.std.specs.Prelude.{ℕ, zero, suc, List, [], ◌∷◌, map, length, replicate, Bool, true, ◌||◌, nat_le, nat_lt, Option, None, Some, ◌++◌}
use Rattle.dr_meaning.specs.Path.{Leaf, paths_of_leaves}
use Rattle.dr_meaning.specs.Record.{Node}
use Rattle.dr_meaning.specs.Expression.{longest_chain}
use Rattle.dr_meaning.specs.Walk.{Move}
use Rattle.dr_kept_laws.specs.GroupFlow.{Reading, all_fired, all_left, left_with}
use Rattle.dr_kept_laws.specs.Counting.{Numbers}
use Rattle.dr_kept_laws.specs.Frames.{Frames}
use Rattle.dr_made_laws.specs.LastRead.{paths_at}
use Rattle.dr_levels.specs.Views.{move_view}
use Rattle.dr_levels.specs.declared.moves.Move.{Move as CodeMove}
use Rattle.dr_partials.specs.Putting.{Put}
use Rattle.dr_plan.specs.Planned.{Planned}
use Rattle.dr_condition.specs.Parted.{WatchedParts}
use Rattle.dr_condition.specs.RowValues.{read_of}
use Rattle.dr_condition.specs.Conditions.{HasWatched, watch_in}
use Rattle.dr_condition.specs.Watching.{pruned_behind}
use Rattle.dr_within.specs.Takings.{Take, leaves_of, fires_at, put_read}
use Rattle.dr_within.specs.Firings.{Fires}
use Rattle.dr_within.specs.FramedMoves.{framed_behind}
use Rattle.dr_within.specs.Framing.{Holds}
use Rattle.dr_within.specs.Rows.{HasRead, IsOfLeaf}
use Rattle.dr_within.specs.declared.groups.GroupScan.{GroupScan}
use Rattle.dr_within.specs.declared.row.Row.{Row}

-- ---- the readings of takings

-- a reading for the rows of the longest chain of the leaves on which a taking depends
abbrev pub reading_at : List Leaf → List ℕ → Take → Reading Put
reading_at ls keys t = record {
  leaf = fires_at keys t;
  fires = put_read keys t;
  level = longest_chain (paths_at (paths_of_leaves ls) (leaves_of keys t));
  means = λ (row : Node). put_read keys t (read_of ls row);
}

abbrev pub readings_at : List Leaf → List ℕ → List Take → List (Reading Put)
readings_at ls keys ts = map (reading_at ls keys) ts

-- ---- what is known

-- of the outermost so many open branches whether they are known to be kept, the innermost of them first, where so many are on the chain and so many
-- of these have a true row
abbrev pub settled_of : ℕ → ℕ → ℕ → List Bool
settled_of along hit zero = []
settled_of along hit (suc i) = (nat_le along i || nat_lt i hit) ∷ settled_of along hit i

-- of all that are open
abbrev pub settled_by : Numbers → List Bool
settled_by n = settled_of n.along n.hit n.depth

-- of each of so many open branches whether it is known to be kept, the innermost first
abbrev pub settled_behind : Option WatchedParts → ℕ → List Move → List Bool
settled_behind None n ms = replicate n true
settled_behind (Some w) n ms = settled_by (pruned_behind w ms).numbers

-- ---- what was made

abbrev pub frames_behind : Option WatchedParts → List (Reading Put) → List Move → Frames Put
frames_behind W xs ms = framed_behind (all_fired xs) (left_with (all_left xs)) W ms

-- a scan for a plan with these leaves, by these takings, behind these moves
pub record IsBehind (p : Planned) (ls : List Leaf) (ts : List Take) (ms : List Move) (g : GroupScan) : Type 0 where
  pub fires : Fires (length ls) g.keys.now ts g.firing
  pub watched : HasWatched g.condition ms
  pub made : Holds p (length g.keys.now) (frames_behind (watch_in g.condition) (readings_at ls g.keys.now ts) ms).made
      (settled_behind (watch_in g.condition) (length (frames_behind (watch_in g.condition) (readings_at ls g.keys.now ts) ms).marks) ms)
      (frames_behind (watch_in g.condition) (readings_at ls g.keys.now ts) ms).marks g.frames

-- it is behind the next move as well, where the row holds what was read last
abbrev pub GoesBehind : Row → CodeMove → GroupScan → GroupScan → Type 0
GoesBehind row m g g' = (p : Planned) (ls : List Leaf) (ts : List Take) (ms : List Move) → IsBehind p ls ts ms g → HasRead (length ls) ms row
    → IsOfLeaf (length ls) (move_view m) → IsBehind p ls ts (ms ++ move_view m ∷ []) g'

-- what a scan makes of these moves, for a plan with these leaves, by these takings
abbrev pub puts_behind : List Leaf → List Take → GroupScan → List Move → List Put
puts_behind ls ts g ms = (frames_behind (watch_in g.condition) (readings_at ls g.keys.now ts) ms).made
