-- What lies under the lock.
use Rattle.std.specs.Prelude.{List, None, Some}
use Rattle.std.specs.declared.option.Option.{Option}
use Rattle.atomic_table.specs.Seated.{TableId}
use Rattle.atomic_table.specs.declared.shared.Seat.{Seat}
use Rattle.dr_dispatch.specs.declared.event.Event.{Event}
use Rattle.dr_dispatch.specs.declared.seen.SeatView.{SeatView}
use Rattle.dr_desk.specs.Rule.{IsKeeperSeat}

-- the seat is there, and keeps the board's history
abbrev pub HasKeeper : TableId → Option (Seat Event SeatView) → List Event → Type 0
HasKeeper table None history = ⊥
HasKeeper table (Some seat) history = IsKeeperSeat table seat.table_id seat.me history
