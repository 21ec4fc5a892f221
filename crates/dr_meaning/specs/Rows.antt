-- Rows: a record cut to at most one instance of each field on a path, and the value of a path in it.
use Rattle.std.specs.Prelude.{List, [], ◌∷◌, ◌++◌, map, Bool, true, false, Option, Some, None}
use Rattle.dr_meaning.specs.Path.{Step}
pub use Rattle.dr_meaning.specs.Record.{single}
use Rattle.dr_meaning.specs.Record.{Value, Node, Instances, no_instances, instance, Instance, atom, inner, instances_at, instances_in, put_at}

-- the rows of one instance, given those of a node
abbrev pub instance_rows : (Node → List Node) → Instance → List Instances
instance_rows f (atom v) = single (atom v) ∷ []
instance_rows f (inner n) = map (λ m. single (inner m)) (f n)

abbrev pub each_instance_rows : (Node → List Node) → Instances → List Instances
each_instance_rows f no_instances = []
each_instance_rows f (instance x xs) = instance_rows f x ++ each_instance_rows f xs

-- the rows of a field's instances; where there is none, one row in which it is absent
abbrev pub field_rows : (Node → List Node) → Instances → List Instances
field_rows f no_instances = no_instances ∷ []
field_rows f (instance x xs) = each_instance_rows f (instance x xs)

-- the rows of a path: for each choice of instances of the fields on it, the record with these alone
abbrev pub rows : List Step → Node → List Node
rows [] n = n ∷ []
rows (s ∷ p) n = map (λ xs. put_at s.place xs n) (field_rows (rows p) (instances_at s.place n))

abbrev pub first_value : (Instance → Option Value) → Instances → Option Value
first_value f no_instances = None
first_value f (instance x xs) = f x

abbrev pub value_in : List Step → Instance → Option Value
value_in [] (atom v) = Some v
value_in [] (inner n) = None
value_in (s ∷ p) x = first_value (value_in p) (instances_in s.place x)

-- the value of a path in a row: NULL (none) where anything on the path is absent
abbrev pub value_at : List Step → Node → Option Value
value_at p row = value_in p (inner row)

abbrev pub first_present : (Instance → Bool) → Instances → Bool
first_present f no_instances = false
first_present f (instance x xs) = f x

abbrev pub is_present_in : List Step → Instance → Bool
is_present_in [] x = true
is_present_in (s ∷ p) x = first_present (is_present_in p) (instances_in s.place x)

-- whether the field at the path's end is there in a row
abbrev pub is_present : List Step → Node → Bool
is_present p row = is_present_in p (inner row)
