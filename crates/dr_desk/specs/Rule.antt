-- The rule of the table beside the lock.
use Rattle.std.specs.Prelude.{◌≡◌, ℕ, ◌<◌, ◌==◌, true, List, [], ◌∷◌, length, if◌then◌else◌}
use mathlib.Core.Option.{some}
use Rattle.atomic_table.specs.Table.{State, Step, Me}
use Rattle.atomic_table.specs.Seated.{TableId}
use Rattle.dr_dispatch.specs.Seen.{has_place, Ascends}
use Rattle.dr_dispatch.specs.Seats.{shown, keeper_at, pass_at, looked, added, drawing, MetFits, IsKept, AreDrawn}
use Rattle.dr_dispatch.specs.declared.event.Event.{Event}
use Rattle.dr_dispatch.specs.declared.seen.SeatView.{SeatView}

-- the name of no table
abbrev pub no_table : TableId
no_table = record { words = 0; slots = 0; views_name = 0; atom = 0; block = 0; offset = 0; slot_names = [] }

-- the words are the number of events and the next tablet to be drawn, and the seats keep both rules
pub record Holds (tablets : ℕ) (s : State Event SeatView) : Type 0 where
  pub count : ℕ
  pub next : ℕ
  pub words : s.words ≡ count ∷ next ∷ []
  pub kept : IsKept s.views count
  pub drawn : AreDrawn tablets s.views next

-- a look of the keeper tells that what it met fits to the history
abbrev pub LookTells : Step Event → Me Event SeatView → ℕ → Me Event SeatView → Type 0
LookTells s me found after = (after ≡ (looked me.0, me.1)) × MetFits me.0.seen me.0.own me.0.met

-- the event that was said was added
abbrev pub AddTells : Step Event → Me Event SeatView → ℕ → Me Event SeatView → Type 0
AddTells s me found after = (e : Event) × (s.said ≡ some e) × (after ≡ (added s.first e me.0, me.1))

-- a draw wins where the number found is the one that was said, and then draws it; what the seat drew before is below the number found
abbrev pub DrawTells : Step Event → Me Event SeatView → ℕ → Me Event SeatView → Type 0
DrawTells s me found after =
    (after ≡ (if found == s.first then drawing s.first me.0 else me.0, me.1)) × ((t : ℕ) → has_place t me.0.drawn ≡ true → t < found)

-- a seat of this table, without slots, that a pass rests on, which knows that `next` is the next tablet to be drawn, or was once
pub record IsPassSeat (table seat : TableId) (me : Me Event SeatView) (next : ℕ) : Type 0 where
  pub of_table : seat ≡ table
  pub rests : me ≡ (pass_at (shown me.0), [])
  pub ascends : Ascends 0 me.0.own (length me.0.seen)
  pub climbs : Ascends 0 me.0.drawn next

-- a seat of this table, without slots, that keeps the history
abbrev pub IsKeeperSeat : TableId → TableId → Me Event SeatView → List Event → Type 0
IsKeeperSeat table seat me history = (seat ≡ table) × (me ≡ (keeper_at history, []))
