-- Columns: the values of a leaf with their repetition and definition levels (Dremel 2010, section 4.1).
use Rattle.std.specs.Prelude.{ℕ, ◌+◌, List, [], ◌∷◌, ◌++◌, Option, Some, None}
use Rattle.dr_meaning.specs.Schema.{repetition_count, definition_count}
use Rattle.dr_meaning.specs.Path.{Step}
use Rattle.dr_meaning.specs.Record.{Value, Node, Instances, no_instances, instance, Instance, atom, inner, instances_in}

-- a repetition level, a definition level, and the value where the definition level is the path's greatest
pub record Triplet : Type 0 where
  pub repetition : ℕ
  pub definition : ℕ
  pub value : Option Value

abbrev pub triplet : ℕ → ℕ → Option Value → Triplet
triplet r d v = record { repetition = r; definition = d; value = v }

abbrev pub value_of : Instance → Option Value
value_of (atom v) = Some v
value_of (inner n) = None

-- the columns of later instances, each begun at their field's level
abbrev pub each_later : (ℕ → Instance → List Triplet) → ℕ → Instances → List Triplet
each_later column_of later no_instances = []
each_later column_of later (instance x xs) = column_of later x ++ each_later column_of later xs

-- no instance gives NULL at the levels reached; the first instance begins at the level that led here, later ones at their field's
abbrev pub spread : (ℕ → Instance → List Triplet) → ℕ → ℕ → ℕ → Instances → List Triplet
spread column_of later d r no_instances = triplet r d None ∷ []
spread column_of later d r (instance x xs) = column_of r x ++ each_later column_of later xs

-- the column of the rest of a path in an instance, below this many repeated fields, with this definition level, begun at the repetition level r
abbrev pub instance_column : List Step → ℕ → ℕ → ℕ → Instance → List Triplet
instance_column [] level d r x = triplet r d (value_of x) ∷ []
instance_column (s ∷ p) level d r x = spread (instance_column p (level + repetition_count s.repetition) (d + definition_count s.repetition))
    (level + repetition_count s.repetition) d r (instances_in s.place x)

-- the column of a record
abbrev pub record_column : List Step → Node → List Triplet
record_column p n = instance_column p 0 0 0 (inner n)

-- the column of a list of records: theirs, one after another
abbrev pub column : List Step → List Node → List Triplet
column p [] = []
column p (n ∷ ns) = record_column p n ++ column p ns
