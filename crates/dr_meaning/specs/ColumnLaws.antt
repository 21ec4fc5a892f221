-- What the columns of a list of records say of these records.
use Rattle.std.specs.Prelude.{◌≡◌, ◌≤◌, max, List, map, length, true}
use Rattle.std.specs.List.{list_all}
use Rattle.dr_meaning.specs.Schema.{Fields}
use Rattle.dr_meaning.specs.Path.{Step, is_leaf_path}
use Rattle.dr_meaning.specs.Record.{Node, is_record, project, instance_count}
use Rattle.dr_meaning.specs.Column.{record_column, column}

-- records of a schema, as many, with equal columns at these leaves, have equal projections to them
abbrev pub ColumnsDetermineProjection : Type 0
ColumnsDetermineProjection = (fs : Fields) (F : List (List Step)) → list_all (is_leaf_path fs) F ≡ true → (R S : List Node)
    → list_all (is_record fs) R ≡ true → list_all (is_record fs) S ≡ true → length R ≡ length S
    → map (λ (p : List Step). column p R) F ≡ map (λ (p : List Step). column p S) F → map (project F) R ≡ map (project F) S

-- the column of a record has at most as many triplets as the record has instances, or one
abbrev pub ColumnIsShort : Type 0
ColumnIsShort = (p : List Step) (n : Node) → length (record_column p n) ≤ max 1 (instance_count n)
