-- The partial of rows without keys, of which nothing is known but how many they are.
use Rattle.std.specs.Prelude.{ℕ, [], ◌∷◌, map, Option, Some, None}
use Rattle.dr_meaning.specs.Query.{Aggregate, Selection, objects, groups, Query}
use Rattle.dr_partials.specs.Accumulators.{Accumulator, counted, empty_accumulator}
use Rattle.dr_partials.specs.Partials.{Partial, lines, grouped}
use Rattle.dr_group.specs.Gathering.{gatherings_of}
use Rattle.dr_group.specs.Groups.{keyless_group}

-- COUNT(*) has counted them, and an aggregate of values has taken none
abbrev pub gathered_of_rows : ℕ → Option Aggregate → Accumulator
gathered_of_rows n None = counted n
gathered_of_rows n (Some a) = empty_accumulator a

-- their one group; no lines
abbrev pub selected_of_rows : ℕ → Selection → Partial
selected_of_rows n (objects items) = lines []
selected_of_rows n (groups keys items) = grouped (keyless_group (map (gathered_of_rows n) (gatherings_of items)) ∷ [])

abbrev pub partial_of_rows : ℕ → Query → Partial
partial_of_rows n q = selected_of_rows n q.selection
