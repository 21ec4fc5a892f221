-- What aggregates take, and at the rows of which leaf.
use Rattle.std.specs.Prelude.{◌≡◌, ◌<◌, ℕ, zero, suc, List, [], ◌∷◌, ◌++◌, map, length, replicate, Bool, true, false, not, ◌||◌, ◌==◌, if◌then◌else◌, Option, Some, None}
use Rattle.std.specs.List.{list_all, flat_map}
use Rattle.dr_meaning.specs.Path.{Step}
use Rattle.dr_meaning.specs.Record.{Value}
use Rattle.dr_meaning.specs.Column.{Triplet}
use Rattle.dr_partials.specs.Putting.{Put}
use Rattle.dr_plan.specs.declared.aggregate.Aggregate.{Aggregate}
use Rattle.dr_scalar.specs.Leaves.{expr_leaves, greatest}
use Rattle.dr_scalar.specs.OverSlots.{expr_over}
use Rattle.dr_scalar.specs.Slots.{slot_value}
use Rattle.dr_group.specs.Groups.{put_of}
use Rattle.dr_beside.specs.Neighbours.{column_at}
use Rattle.dr_rows_beside.specs.declared.source.Beside.{Beside}
use Rattle.dr_columns.specs.declared.taking.Taking.{Taking}
use Rattle.dr_columns.specs.declared.firing.Fired.{Fired}
use Rattle.dr_rows_beside.specs.Rows.{Row, source_view, is_fed, is_apart, all_apart}
use Rattle.dr_rows_beside.specs.RecordRows.{rows_of}
use Rattle.dr_rows_beside.specs.ExprRows.{value_in}
use Rattle.dr_columns.specs.RowPuts.{groups_in, puts_in}
use Rattle.dr_rows_beside.specs.Sources.{all_beside, is_numbered}

-- ---- what is taken

-- the aggregate of a number
pub record Take : Type 0 where
  pub number : ℕ
  pub aggregate : Aggregate

abbrev pub taking_view : Taking → Take
taking_view t = record { number = t.number; aggregate = t.aggregate.now }

abbrev pub takings_view : List Taking → List Take
takings_view ts = map taking_view ts

-- the leaves that an aggregate reads
abbrev pub aggregate_leaves : Aggregate → List ℕ
aggregate_leaves Aggregate.Rows = []
aggregate_leaves (Aggregate.Of f e) = expr_leaves e

-- they are all among so many
abbrev pub are_numbered : ℕ → List Aggregate → Bool
are_numbered n A = list_all (λ (a : Aggregate). list_all (is_numbered n) (aggregate_leaves a)) A

-- ---- where it is taken

-- at the last leaf of the keys' and its own; none where it reads none
abbrev pub taken_at : List ℕ → Aggregate → Option ℕ
taken_at ks a = greatest (ks ++ aggregate_leaves a)

abbrev pub same_leaf : Option ℕ → Option ℕ → Bool
same_leaf None None = true
same_leaf None (Some j) = false
same_leaf (Some i) None = false
same_leaf (Some i) (Some j) = i == j

-- an aggregate of a number, if it takes at this leaf, or at none
abbrev pub one_taking : List ℕ → Option ℕ → ℕ → Aggregate → List Take
one_taking ks o i a = if same_leaf (taken_at ks a) o then record { number = i; aggregate = a } ∷ [] else []

-- those of aggregates, of which the first is the ith, that take at this leaf, or at none
abbrev pub takings_at : List ℕ → Option ℕ → ℕ → List Aggregate → List Take
takings_at ks o i [] = []
takings_at ks o i (a ∷ A) = if same_leaf (taken_at ks a) o then record { number = i; aggregate = a } ∷ takings_at ks o (suc i) A else takings_at ks o (suc i) A

-- the leaves that are read of its rows: the keys' and those of what is taken
abbrev pub read_of : List ℕ → List Take → List ℕ
read_of ks ts = ks ++ flat_map (λ (t : Take). aggregate_leaves t.aggregate) ts

-- whether nothing is taken
abbrev pub is_nothing : List Take → Bool
is_nothing [] = true
is_nothing (t ∷ ts) = false

-- ---- each leaf

-- a leaf, those that are read beside it, what is taken at its rows, and whether they are of use: for that, or for the groups
pub record Fires : Type 0 where
  pub leaf : ℕ
  pub beside : List Beside
  pub takings : List Take
  pub needed : Bool

abbrev pub fired_view : Fired → Fires
fired_view f = record { leaf = f.source.leaf; beside = f.source.beside.items; takings = takings_view f.takings.items; needed = f.is_needed }

-- at this leaf, by the numbers of the keys' leaves
abbrev pub fires_at : List (List Step) → List ℕ → List Aggregate → ℕ → Fires
fires_at F ks A k = record {
  leaf = k;
  beside = all_beside F k [] (read_of ks (takings_at ks (Some k) 0 A));
  takings = takings_at ks (Some k) 0 A;
  needed = not (is_nothing (takings_at ks (Some k) 0 A)) || same_leaf (greatest ks) (Some k);
}

-- the first so many numbers
abbrev pub first_numbers : ℕ → List ℕ
first_numbers zero = []
first_numbers (suc n) = first_numbers n ++ n ∷ []

-- at each of so many
abbrev pub fires_of : List (List Step) → List ℕ → List Aggregate → ℕ → List Fires
fires_of F ks A n = map (fires_at F ks A) (first_numbers n)

-- its rows in some columns
abbrev pub fired_rows : List (List Triplet) → Fires → List Row
fired_rows C f = rows_of f.leaf f.beside C

-- a leaf whose rows can be read of these columns; it isn't among those beside it, which are different ones
pub record CanFire (C : List (List Triplet)) (f : Fires) : Type 0 where
  pub leaf : f.leaf < length C
  pub apart : is_apart f.leaf (map (source_view C) f.beside) ≡ true
  pub different : all_apart (map (source_view C) f.beside) ≡ true
  pub fed : list_all (is_fed (column_at C f.leaf) (length C)) (map (source_view C) f.beside) ≡ true

-- those whose rows are of use can be read
abbrev pub CanFireEach : List (List Triplet) → List Fires → Type 0
CanFireEach C [] = Unit {0}
CanFireEach C (f ∷ fs) = (f.needed ≡ true → CanFire C f) × CanFireEach C fs

-- ---- what is put

abbrev pub puts_by : List ℕ → List Row → ℕ → Aggregate → List Put
puts_by ks rs i Aggregate.Rows = puts_in ks i (λ (r : Row). None) rs
puts_by ks rs i (Aggregate.Of f e) = puts_in ks i (value_in e) rs

-- of rows, by what is taken
abbrev pub taking_puts : List ℕ → List Row → Take → List Put
taking_puts ks rs t = puts_by ks rs t.number t.aggregate

-- of rows that are read at a leaf: their groups, then what is taken
abbrev pub read_puts : List ℕ → List Row → List Take → List Put
read_puts ks rs ts = groups_in ks rs ++ flat_map (taking_puts ks rs) ts

-- of each leaf whose rows are of use, by the rows that are read of a leaf with those beside it
abbrev pub fired_read_puts : List ℕ → (ℕ → List Beside → List Row) → Fires → List Put
fired_read_puts ks read f = if f.needed then read_puts ks (read f.leaf f.beside) f.takings else []

-- of the rows of a leaf in some columns: their groups, then what is taken
abbrev pub source_puts : List ℕ → List (List Triplet) → Fires → List Put
source_puts ks C f = groups_in ks (fired_rows C f) ++ flat_map (taking_puts ks (fired_rows C f)) f.takings

abbrev pub fired_puts : List ℕ → List (List Triplet) → Fires → List Put
fired_puts ks C f = if f.needed then source_puts ks C f else []

-- the value of what reads no leaf
abbrev pub leafless_value : Aggregate → Option Value
leafless_value Aggregate.Rows = None
leafless_value (Aggregate.Of f e) = expr_over (slot_value []) e

-- of so many records, by what reads no leaf
abbrev pub record_puts : ℕ → Take → List Put
record_puts n t = replicate n (put_of [] (Some (record { aggregate = t.number; value = leafless_value t.aggregate })))

-- where something does: their one group, then that
abbrev pub end_puts : ℕ → List Take → List Put
end_puts n [] = []
end_puts n (t ∷ ts) = put_of [] None ∷ flat_map (record_puts n) (t ∷ ts)
