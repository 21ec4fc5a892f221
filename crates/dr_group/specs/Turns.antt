-- Which of two lists of groups, each ascending, has the first group.
use Rattle.std.specs.Prelude.{List, [], ◌∷◌}
use Rattle.std.specs.Ordering.{match_ordering}
use Rattle.dr_meaning.specs.Query.{tuple_order}
use Rattle.dr_partials.specs.Partials.{Group}
use Rattle.dr_group.specs.declared.turn.Turn.{Turn}

-- the one whose first key tuple is less, or both
abbrev pub turn_of : List Group → List Group → Turn
turn_of [] [] = Turn.End
turn_of (g ∷ gs) [] = Turn.Mine
turn_of [] (h ∷ hs) = Turn.Theirs
turn_of (g ∷ gs) (h ∷ hs) = match_ordering (tuple_order g.keys h.keys) Turn.Mine Turn.Both Turn.Theirs
