-- The rows of what a condition keeps, told by the record itself: those of its rows whose instances on the condition's chain have a true row.
use Rattle.std.specs.Prelude.{List, [], ◌∷◌, ◌++◌, map, Bool, ◌==◌, if◌then◌else◌, Option, Some, None}
use Rattle.std.specs.List.{list_any}
use Rattle.dr_meaning.specs.Path.{Step}
use Rattle.dr_meaning.specs.Record.{Node, Instances, no_instances, instance, Instance, atom, inner, single, instances_at, put_at}
use Rattle.dr_meaning.specs.Rows.{rows}

-- all rows of a path, where some row of the chain is true
abbrev pub rows_where_any : List Step → List Step → (Node → Bool) → Node → List Node
rows_where_any p c test n = if list_any test (rows c n) then rows p n else []

-- the kept rows of an instance, given those of a node; it is tested in the row that it makes of the record
abbrev pub kept_instance_rows : ((Node → Bool) → Node → List Node) → (Instance → Node) → (Node → Bool) → Instance → List Instances
kept_instance_rows f row test (atom v) = if test (row (atom v)) then single (atom v) ∷ [] else []
kept_instance_rows f row test (inner n) = map (λ m. single (inner m)) (f (λ m. test (row (inner m))) n)

-- those of several instances, one after another
abbrev pub each_kept_rows : (Instance → List Instances) → Instances → List Instances
each_kept_rows f no_instances = []
each_kept_rows f (instance x xs) = f x ++ each_kept_rows f xs

-- the kept rows of a field's instances; where there is none, the row in which it is absent, if that is true
abbrev pub kept_field_rows : Bool → (Instance → List Instances) → Instances → List Instances
kept_field_rows true_here f no_instances = if true_here then no_instances ∷ [] else []
kept_field_rows true_here f (instance x xs) = each_kept_rows f (instance x xs)

-- the rows of a path of which a condition's chain and its test of whole rows keep each branch: as far as both go through the same fields
-- instance by instance, and from there all, where some row of the chain is true
abbrev pub kept_rows : List Step → List Step → (Node → Bool) → Node → List Node
kept_rows [] c test n = rows_where_any [] c test n
kept_rows (s ∷ p) [] test n = rows_where_any (s ∷ p) [] test n
kept_rows (s ∷ p) (t ∷ c) test n = if s.place == t.place
    then map (λ xs. put_at t.place xs n)
    (kept_field_rows (test n) (kept_instance_rows (kept_rows p c) (λ x. put_at t.place (single x) n) test) (instances_at t.place n))
    else rows_where_any (s ∷ p) (t ∷ c) test n

-- the rows of a path in what is left of a record; none where nothing is
abbrev pub rows_left : List Step → Option Node → List Node
rows_left p None = []
rows_left p (Some m) = rows p m
