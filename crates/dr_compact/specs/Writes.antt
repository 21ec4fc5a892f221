-- What came of writing, against what the definitions say.
use Rattle.std.specs.Prelude.{◌≡◌, ℕ, zero, suc, ℤ, pos, negsuc, nat_lt, if◌then◌else◌, List, [], ◌∷◌, ◌++◌, length, Option, Some, None, Result, Ok, Err}
use Rattle.dr_formats.specs.Compact.{Item, item_bytes, items_bytes, list_header_bytes}
use Rattle.dr_memory.specs.declared.NoMemory.{NoMemory}
use Rattle.dr_compact.specs.Views.{SeenValues, items_from}
use Rattle.dr_meaning.specs.Lists.{BeginsWith}

-- the bytes were joined to those before; where memory ran out, some of them may have been
abbrev pub Writes : List ℕ → List ℕ → List ℕ → Result (Unit {0}) NoMemory → Type 0
Writes bytes before now (Ok _) = now ≡ before ++ bytes
Writes bytes before now (Err _) = BeginsWith before now

-- the bytes of the first of values
abbrev pub first_bytes : List Item → List ℕ
first_bytes [] = []
first_bytes (x ∷ xs) = item_bytes x

-- the bytes of a list or a set
abbrev pub values_bytes : SeenValues → List ℕ
values_bytes v = list_header_bytes (length v.values) v.element ++ items_bytes (items_from v.values)

-- the step from the last id, where the short form of a field's header has room for it
abbrev pub short_delta : ℤ → Option ℕ
short_delta (pos zero) = None
short_delta (pos (suc d)) = if nat_lt d 15 then Some (suc d) else None
short_delta (negsuc d) = None
