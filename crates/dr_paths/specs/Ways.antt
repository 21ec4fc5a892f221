-- The way to a field of a schema, and the leaves below it.
use Rattle.std.specs.Prelude.{ℕ, suc, List, [], ◌∷◌, ◌++◌, map, string_bytes}
use Rattle.dr_meaning.specs.Schema.{Fields, no_fields, field, Shape, leaf, group}
use Rattle.dr_meaning.specs.Path.{Step, Leaf}
use Rattle.dr_nested.specs.PathView.{step_view}
use Rattle.dr_paths.specs.declared.way.Way as code

-- the names and the steps on the way
pub record Passed : Type 0 where
  pub names : List (List ℕ)
  pub steps : List Step

abbrev pub way_view : code.Way → Passed
way_view w = record { names = map string_bytes w.names.items; steps = map step_view w.steps.items }

abbrev pub root_way : Passed
root_way = record { names = []; steps = [] }

-- one field further
abbrev pub way_below : Passed → List ℕ → Step → Passed
way_below w n s = record { names = w.names ++ n ∷ []; steps = w.steps ++ s ∷ [] }

abbrev mutual
  -- the leaves of a group to which this is the way, and whose first field has the place i
  pub fields_leaves : Passed → Fields → ℕ → List Leaf
  fields_leaves w no_fields i = []
  fields_leaves w (field n r s fs) i = shape_leaves (way_below w n (record { place = i; repetition = r })) s ++ fields_leaves w fs (suc i)

  -- the leaves of a field to which this is the way
  pub shape_leaves : Passed → Shape → List Leaf
  shape_leaves w (leaf k) = record { names = w.names; path = w.steps; kind = k } ∷ []
  shape_leaves w (group fs) = fields_leaves w fs 0
