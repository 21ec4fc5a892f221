-- What a striper holds, and how it changes.
use Rattle.std.specs.Prelude.{◌≡◌, List, Result, Ok, Err, Bool}
use Rattle.std.specs.List.{list_all}
use Rattle.dr_meaning.specs.Path.{Step, Leaf}
use Rattle.dr_meaning.specs.Record.{Node, no_slots, Instance, atom, inner}
use Rattle.dr_meaning.specs.Column.{Triplet, record_column}
use Rattle.dr_memory.specs.declared.NoMemory.{NoMemory}
use Rattle.dr_striper.specs.Records.{columns_in}
use Rattle.dr_striper.specs.Views.{nulls, twigs_view}
use Rattle.dr_levels.specs.Columns.{takes}
use Rattle.dr_striper.specs.Striping.{gained, leaves_of, leaf_form}
use Rattle.dr_striper.specs.declared.making.Striper.{Striper}
use Rattle.dr_nested.specs.PathView.{paths_view}

-- the columns so far
abbrev pub striped : Striper → List (List Triplet)
striped s = columns_in (paths_view s.fields.now) (nulls s.levels.items) (twigs_view s.branches.items)

-- its leaves
abbrev pub striped_leaves : Striper → List Leaf
striped_leaves s = leaves_of s.fields.now

-- a leaf takes what a record gives it
abbrev pub fits_leaf : Node → Leaf → Bool
fits_leaf n l = list_all (takes (leaf_form l)) (record_column l.path n)

-- the paths of its leaves
abbrev pub striped_paths : Striper → List (List Step)
striped_paths s = paths_view s.fields.now

-- the record that an instance is; a leaf's value is none
abbrev pub record_in : Instance → Node
record_in (atom v) = no_slots
record_in (inner n) = n

abbrev pub IsRecord : Instance → Type 0
IsRecord x = x ≡ inner (record_in x)

-- each column gained the record's; where memory was wanting, none did
abbrev pub AddsRecord : Node → List (List Step) → List (List Triplet) → List (List Triplet) → Result (Unit {0}) NoMemory → Type 0
AddsRecord n F before after (Ok done) = after ≡ gained (λ p. record_column p n) F before
AddsRecord n F before after (Err e) = after ≡ before
