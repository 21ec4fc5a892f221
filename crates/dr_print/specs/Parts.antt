-- Parts of a text, put one behind another.
use Rattle.std.specs.Prelude.{ℕ, List, [], ◌∷◌, ◌++◌, drop, Bool, ◌&&◌, ◌==◌, not, nat_le, Option, None}
use Rattle.dr_meaning.specs.Record.{Value}
use Rattle.dr_meaning.specs.Print.{cell_text}
use Rattle.dr_cells.specs.Results.{ResultCell, value_cell, count_cell, first_value}

-- the value of a cell
abbrev pub own_value : ResultCell → Option Value
own_value (value_cell v) = v
own_value (count_cell n) = None

-- the members of these names, which are in quotes already, by their cells
abbrev pub value_members : List (List ℕ) → List ResultCell → List (List ℕ)
value_members [] cs = []
value_members (n ∷ ns) cs = (n ++ cell_text (first_value cs)) ∷ value_members ns (drop 1 cs)

-- whether a byte stands in quotes as it is
abbrev pub is_plain : ℕ → Bool
is_plain x = nat_le 32 x && not (x == 34) && not (x == 92)
