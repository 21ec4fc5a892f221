-- The levels of a schema with the names from level to level joined by dots.
use Rattle.std.specs.Prelude.{ℕ, suc, List, [], ◌∷◌, ◌++◌, map, string_bytes}
use Rattle.std.specs.List.{join_with_byte}
use Rattle.dr_meaning.specs.Schema.{Repetition, required, optional, repeated, Fields, no_fields, field, Shape, leaf, group}
use Rattle.dr_meaning.specs.Path as path
use Rattle.dr_meaning.specs.Query.{Levels, no_levels, deeper}
use Rattle.dr_nested.specs.PathView.{step_view}
use Rattle.dr_planning.specs.declared.listed.Listed.{Listed, fold-Listed}
use Rattle.dr_planning.specs.declared.listed.Listed.TheOpen.{Listed-F}

-- levels, each by its name from the level above, its path, the levels below it, and the levels beside it
pub data NamedLevels : Type 0 where
  no_named : NamedLevels
  named : List ℕ → List path.Step → NamedLevels → NamedLevels → NamedLevels

-- levels, with the names on the way to each joined by dots
abbrev pub joined : Levels → NamedLevels
joined no_levels = no_named
joined (deeper names p below others) = named (join_with_byte 46 names) p (joined below) (joined others)

abbrev pub append_named : NamedLevels → NamedLevels → NamedLevels
append_named no_named ls = ls
append_named (named n p below ks) ls = named n p below (append_named ks ls)

-- ---- the view of the code's levels

-- a level below which all has been seen
pub record SeenLevel : Type 0 where
  pub name : List ℕ
  pub path : List path.Step
  pub below : NamedLevels

abbrev pub named_of : List SeenLevel → NamedLevels
named_of [] = no_named
named_of (l ∷ ls) = named l.name l.path l.below (named_of ls)

abbrev pub level_step : Listed-F SeenLevel → SeenLevel
level_step l = record { name = string_bytes l.name; path = map step_view l.path.items; below = named_of l.below.items }

abbrev pub level_view : Listed → SeenLevel
level_view = fold-Listed SeenLevel level_step

abbrev pub levels_view : List Listed → NamedLevels
levels_view ls = named_of (map level_view ls)

-- ---- the levels of a schema, with one text for the names on the way

-- a repeated field is a level of its own; any other passes on the levels below it
abbrev pub as_named : Repetition → List ℕ → List path.Step → NamedLevels → NamedLevels → NamedLevels
as_named required t p own passed = passed
as_named optional t p own passed = passed
as_named repeated t p own passed = named t p own no_named

abbrev mutual
  -- the next levels in a group below the path p, whose first field has the place i; t is the names since the level above, with a dot behind each
  pub fields_named : Fields → ℕ → List ℕ → List path.Step → NamedLevels
  fields_named no_fields i t p = no_named
  fields_named (field n r s fs) i t p = append_named
      (as_named r (t ++ n) (p ++ record { place = i; repetition = r } ∷ [])
      (shape_named s [] (p ++ record { place = i; repetition = r } ∷ []))
      (shape_named s ((t ++ n) ++ 46 ∷ []) (p ++ record { place = i; repetition = r } ∷ [])))
      (fields_named fs (suc i) t p)

  pub shape_named : Shape → List ℕ → List path.Step → NamedLevels
  shape_named (leaf k) t p = no_named
  shape_named (group fs) t p = fields_named fs 0 t p

-- the next levels of one field, by its own path and the names to it
abbrev pub field_named : Repetition → Shape → List ℕ → List path.Step → NamedLevels
field_named r s t p = as_named r t p (shape_named s [] p) (shape_named s (t ++ 46 ∷ []) p)
