-- What is ahead where a run is partly read.
use Rattle.std.specs.Prelude.{◌≡◌, ◌⊎◌, ◌<◌, ◌≤◌, ℕ, ◌+◌, ◌-◌, ◌*◌, ◌^◌, List, Option, None, ⊤}
use Rattle.std.specs.Coded.{×_prop, Unit-prop, le_prop}
use Rattle.dr_formats.specs.LittleEndian.{bytes_for}
use Rattle.dr_hybrid.specs.declared.unread.Unread.{Unread}
use Rattle.dr_hybrid.specs.Ahead.{repeat_ahead, groups_ahead}

-- the next so many values of what is unread, and of the runs behind it
abbrev pub unread_ahead : Unread → ℕ → ℕ → List ℕ → Option (List ℕ)
unread_ahead (Unread.Repeat v left) width n bytes = repeat_ahead width v left n bytes
unread_ahead (Unread.Packed groups read) width n bytes = groups_ahead width groups read n bytes
unread_ahead Unread.Short width n bytes = None

-- a value fits the bytes that it stands in; of groups, no more values are read than they have, and of the first fewer than it has
abbrev pub IsBegun : ℕ → Unread → Type 0
IsBegun width (Unread.Repeat v left) = v < 2 ^ (8 * bytes_for width)
IsBegun width (Unread.Packed groups read) = (read < 8) × (read ≤ 8 * groups)
IsBegun width Unread.Short = ⊤

-- it is so in one way
pub IsBegun-prop : (width : ℕ) (u : Unread) → IsProp (IsBegun width u)
IsBegun-prop width (Unread.Repeat v left) = le_prop
IsBegun-prop width (Unread.Packed groups read) = ×_prop le_prop le_prop
IsBegun-prop width Unread.Short = Unit-prop

-- of groups, no more values are read than they have, and of the first fewer than it has
abbrev pub IsInGroups : Unread → Type 0
IsInGroups (Unread.Repeat v left) = ⊤
IsInGroups (Unread.Packed groups read) = (read < 8) × (read ≤ 8 * groups)
IsInGroups Unread.Short = ⊤

-- so many values are left and are read at once: of groups, those of one that is begun, or of whole ones
abbrev pub HasMore : Unread → ℕ → Type 0
HasMore (Unread.Repeat v left) k = k ≤ left
HasMore (Unread.Packed groups read) k = (k ≤ 8 * groups - read) × ((read ≡ 0) ⊎ (read + k ≤ 8))
HasMore Unread.Short k = k ≡ 0

-- the bytes had runs for all that was asked
abbrev pub IsOpen : Unread → Type 0
IsOpen (Unread.Repeat v left) = ⊤
IsOpen (Unread.Packed groups read) = ⊤
IsOpen Unread.Short = ⊥

-- none is left
abbrev pub IsOver : Unread → Type 0
IsOver (Unread.Repeat v left) = left ≡ 0
IsOver (Unread.Packed groups read) = groups ≡ 0
IsOver Unread.Short = ⊤
