-- How the rows of a chain are gone through: instance by instance, with the values of the leaves in the row at hand.
use Rattle.std.specs.Prelude.{◌≡◌, List, [], ◌∷◌, ◌++◌, ◌==◌, if◌then◌else◌, Option, Some, None, ℕ, map, take, drop, option_map}
use Rattle.dr_meaning.specs.Path.{Step}
use Rattle.dr_meaning.specs.Record.{Value, Instances, no_instances, instance, Instance, instances_in}
use Rattle.dr_meaning.specs.Rows.{value_in}
use Rattle.dr_rows.specs.Known.{Known}
use Rattle.dr_rows.specs.Views.{lent_instance, lent_cells}
use Rattle.dr_rows.specs.declared.instance_ref.InstanceRef.{InstanceRef}
use Rattle.dr_nested.specs.PathView.{step_view, paths_view}
use Rattle.dr_nested.specs.declared.path.Path.{Path}
use Rattle.dr_nested.specs.declared.path.Step.{Step as CodeStep}
use Rattle.dr_levels.specs.declared.triplet.ValueRef.{ValueRef}

-- what a path has behind another one that it begins with
abbrev pub behind : List Step → List Step → Option (List Step)
behind [] p = Some p
behind (s ∷ q) [] = None
behind (s ∷ q) (t ∷ p) = if s.place == t.place then behind q p else None

-- the value at the rest of a leaf's path below an instance; a leaf that is not below it keeps its value
abbrev pub filled_one : Option (List Step) → Instance → Option Value → Option Value
filled_one None x v = v
filled_one (Some p) x v = value_in p x

-- the values of leaves, with those below an instance at the end of a path taken from it
abbrev pub filled : List Step → Instance → List (List Step) → List (Option Value) → List (Option Value)
filled q x [] vs = []
filled q x (p ∷ ps) [] = []
filled q x (p ∷ ps) (v ∷ vs) = filled_one (behind q p) x v ∷ filled q x ps vs

-- the rows of each instance
abbrev pub for_each : (Instance → List Known) → Instances → List Known
for_each f no_instances = []
for_each f (instance x xs) = f x ++ for_each f xs

-- a row without an instance of the next field
abbrev pub for_some : (Instance → List Known) → List (Option Value) → Instances → List Known
for_some f vs no_instances = record { values = vs; end = None } ∷ []
for_some f vs (instance x xs) = for_each f (instance x xs)

-- the rows of the rest of a chain below an instance that stands at the end of its first steps, where the leaves have these values
abbrev pub rows_below : List (List Step) → List Step → List Step → Instance → List (Option Value) → List Known
rows_below leaves q [] x vs = record { values = filled q x leaves vs; end = Some x } ∷ []
rows_below leaves q (s ∷ p) x vs = for_some (λ y. rows_below leaves (q ++ s ∷ []) p y (filled q x leaves vs)) (filled q x leaves vs) (instances_in s.place x)

-- the same where the instance may be absent: then one row
abbrev pub rows_from_end : List (List Step) → List Step → List Step → List (Option Value) → Option Instance → List Known
rows_from_end leaves q p vs None = record { values = vs; end = None } ∷ []
rows_from_end leaves q p vs (Some x) = rows_below leaves q p x vs

-- values that differ only at the leaves below the end of a path
abbrev pub Keeps : List (List Step) → List Step → List (Option Value) → List (Option Value) → Type 0
Keeps leaves q vs us = (x : Instance) → filled q x leaves us ≡ filled q x leaves vs

-- the rows of a chain below an instance at the end of its first so many steps, where the leaves have these values, and where it may be absent
abbrev pub rows_under : List Path → List CodeStep → ℕ → List (Option ValueRef) → InstanceRef → List Known
rows_under leaves chain depth vs x = rows_below (paths_view leaves) (map step_view (take depth chain)) (map step_view (drop depth chain)) (lent_instance x) (lent_cells vs)

abbrev pub rows_under_end : List Path → List CodeStep → ℕ → List (Option ValueRef) → Option InstanceRef → List Known
rows_under_end leaves chain depth vs o = rows_from_end (paths_view leaves) (map step_view (take depth chain)) (map step_view (drop depth chain)) (lent_cells vs) (option_map lent_instance o)
