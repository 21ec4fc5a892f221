-- The selected leaves behind the fields of a group.
use Rattle.std.specs.Prelude.{ℕ, List, [], ◌∷◌, ◌==◌, if◌then◌else◌}
use Rattle.dr_meaning.specs.Path as path
use Rattle.dr_meaning.specs.Automaton as automaton
use Rattle.dr_nested.specs.PathView.{lent_path}
use Rattle.dr_levels.specs.declared.order.Pick.{Pick}

-- the rest of a selected leaf's path, and its place in the selection
abbrev pub pick_view : Pick → automaton.Pick
pick_view p = record { rest = lent_path p.rest; index = p.index }

-- a pick that goes through the field at a place, before others
abbrev pub pick_at : ℕ → List path.Step → ℕ → List automaton.Pick → List automaton.Pick
pick_at k [] i F = F
pick_at k (s ∷ p) i F = if s.place == k then record { rest = p; index = i } ∷ F else F

-- the picks that go through the field at a place of a group, behind it
abbrev pub picks_at : ℕ → List automaton.Pick → List automaton.Pick
picks_at k [] = []
picks_at k (f ∷ F) = pick_at k f.rest f.index (picks_at k F)
