-- Laws of seats: each kind of step keeps the rule, and what it tells. A step sets the views of the seats that take part.
use Rattle.std.specs.Prelude.{◌≡◌, ◌≢◌, ℕ, ◌+◌, ◌<◌, true, false, List, [], ◌∷◌, ◌++◌, length, slice_set}
use mathlib.Core.Option.{some}
use lib.ListN.{get_elem?}
use Rattle.dr_dispatch.specs.Seen.{has_place, AreOfHistory}
use Rattle.dr_dispatch.specs.Seats.{keeper_at, spent, handed, gathered, passed, keeper_of, newcomer_of, looked, added, drawing, MetFits, IsKept, AreDrawn}
use Rattle.dr_dispatch.specs.declared.event.Event.{Event}
use Rattle.dr_dispatch.specs.declared.seen.PassShown.{PassShown}
use Rattle.dr_dispatch.specs.declared.seen.SeatView.{SeatView}

-- the seat k has the view v, and keeps the history
pub record IsKeeperAt (views : List SeatView) (k : ℕ) (v : SeatView) : Type 0 where
  pub there : get_elem? views k ≡ some v
  pub keeps : v.keeps ≡ true

-- one seat that keeps the empty history
abbrev pub FirstKeeps : Type 0
FirstKeeps = IsKept (keeper_at [] ∷ []) 0

-- the keeper knows how long the history is, and how what it met fits to it
abbrev pub KeeperKnows : Type 0
KeeperKnows = (views : List SeatView) (count k : ℕ) (v : SeatView) → IsKept views count → IsKeeperAt views k v
    → (length v.seen ≡ count) × MetFits v.seen v.own v.met

-- a look of the keeper
abbrev pub LookKeeps : Type 0
LookKeeps = (views : List SeatView) (count k : ℕ) (v : SeatView) → IsKept views count → IsKeeperAt views k v → IsKept (slice_set views k (looked v)) count

-- the keeper adds an event, and the count is one more
abbrev pub AddKeeps : Type 0
AddKeeps = (views : List SeatView) (count k : ℕ) (v : SeatView) (e : Event) → IsKept views count → IsKeeperAt views k v
    → IsKept (slice_set views k (added count e v)) (count + 1)

-- the keeper's seat joins a pass's
abbrev pub HandKeeps : Type 0
HandKeeps = (views : List SeatView) (count k : ℕ) (v : SeatView) (other : ℕ) (w : SeatView) → IsKept views count → get_elem? views k ≡ some v
    → other ≢ k → IsKeeperAt views other w
    → IsKept (slice_set (slice_set views k (handed v w)) other spent) count

-- a pass's seat joins the keeper's
abbrev pub GatherKeeps : Type 0
GatherKeeps = (views : List SeatView) (count k : ℕ) (v : SeatView) (other : ℕ) (w : SeatView) → IsKept views count → IsKeeperAt views k v → other ≢ k
    → get_elem? views other ≡ some w
    → IsKept (slice_set (slice_set views k (gathered v w)) other spent) count

-- the keeper's seat is split from a pass's
abbrev pub PassKeeps : Type 0
PassKeeps = (views : List SeatView) (count k : ℕ) (v : SeatView) → IsKept views count → IsKeeperAt views k v
    → IsKept (slice_set views k (passed v) ++ keeper_of v ∷ []) count

-- a new pass's seat is split from any
abbrev pub NewcomerKeeps : Type 0
NewcomerKeeps = (views : List SeatView) (count k : ℕ) (v : SeatView) → IsKept views count → get_elem? views k ≡ some v
    → IsKept (slice_set views k v ++ newcomer_of v ∷ []) count

-- passes that the keeper met are of its history
abbrev pub MetAreOfHistory : Type 0
MetAreOfHistory = (history : List Event) (own : List ℕ) (met : List PassShown) → MetFits history own met → AreOfHistory history met

-- a pass draws a tablet, which no history and no keeper has to do with
abbrev pub DrawingKeeps : Type 0
DrawingKeeps = (views : List SeatView) (count k : ℕ) (v : SeatView) (n : ℕ) → IsKept views count → get_elem? views k ≡ some v → v.keeps ≡ false
    → IsKept (slice_set views k (drawing n v)) count

-- one seat that drew nothing
abbrev pub NoneAreDrawn : Type 0
NoneAreDrawn = (tablets : ℕ) → AreDrawn tablets (keeper_at [] ∷ []) 0

-- what a seat drew is below the next to be drawn
abbrev pub DrawnAreBelow : Type 0
DrawnAreBelow = (tablets : ℕ) (views : List SeatView) (next k : ℕ) (v : SeatView) (t : ℕ) → AreDrawn tablets views next → get_elem? views k ≡ some v
    → has_place t v.drawn ≡ true → t < next

-- the next tablet is drawn, and the next to be drawn is one more
abbrev pub DrawingIsDrawn : Type 0
DrawingIsDrawn = (tablets : ℕ) (views : List SeatView) (next k : ℕ) (v : SeatView) → AreDrawn tablets views next → get_elem? views k ≡ some v → next < tablets
    → AreDrawn tablets (slice_set views k (drawing next v)) (next + 1)

-- a step of a seat that drew what it drew before: a look, an event, or what is left to it of a split
abbrev pub OthersAreDrawn : Type 0
OthersAreDrawn = (tablets : ℕ) (views : List SeatView) (next k : ℕ) (v w : SeatView) → AreDrawn tablets views next → get_elem? views k ≡ some v → w.drawn ≡ v.drawn
    → AreDrawn tablets (slice_set views k w) next

-- a seat that is split off drew nothing
abbrev pub SplitsAreDrawn : Type 0
SplitsAreDrawn = (tablets : ℕ) (views : List SeatView) (next : ℕ) (w : SeatView) → AreDrawn tablets views next → w.drawn ≡ []
    → AreDrawn tablets (views ++ w ∷ []) next

-- what a seat drew that joins another, the other drew, and the spent one nothing
abbrev pub JoinsAreDrawn : Type 0
JoinsAreDrawn = (tablets : ℕ) (views : List SeatView) (next k : ℕ) (v : SeatView) (other : ℕ) (w both : SeatView) → AreDrawn tablets views next → get_elem? views k ≡ some v
    → other ≢ k → get_elem? views other ≡ some w → both.drawn ≡ v.drawn ++ w.drawn
    → AreDrawn tablets (slice_set (slice_set views k both) other spent) next
