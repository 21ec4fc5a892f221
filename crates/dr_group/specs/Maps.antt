-- What a map of groups stands for.
use Rattle.std.specs.Prelude.{◌≡◌, ℕ, List, [], map, Option, Some, option_map, Result}
use Rattle.std.specs.List.{slice_get}
use Rattle.dr_memory.specs.declared.NoMemory.{NoMemory}
use Rattle.dr_meaning.specs.Record.{Value}
use Rattle.dr_meaning.specs.Query.{Aggregate, GroupItem}
use Rattle.dr_partials.specs.Partials as meant
use Rattle.dr_partials.specs.Putting.{Put, put_group}
use Rattle.dr_group.specs.Distinct.{tuples_of}
use Rattle.dr_group.specs.Gathering.{Becomes, gathering_view, gatherings_of}
use Rattle.dr_group.specs.Groups.{group_view, put_of, taken_view}
use Rattle.dr_group.specs.declared.group.Taken.{Taken}
use Rattle.dr_group.specs.declared.group_map.GroupMap.{GroupMap}

-- the groups in the order of their key tuples
abbrev pub in_order : List meant.Group → List meant.Group
in_order gs = meant.merge_groups gs []

-- the groups, ascending
abbrev pub groups_view : GroupMap → List meant.Group
groups_view m = in_order (map group_view m.groups.items)

-- what its aggregates gather
abbrev pub gatherings_view : GroupMap → List (Option Aggregate)
gatherings_view m = map gathering_view m.gatherings.items

-- the key tuples of the groups by their numbers
abbrev pub tuples_view : GroupMap → List (List (Option Value))
tuples_view m = tuples_of (map group_view m.groups.items)

-- the groups by their numbers
abbrev pub groups_in : GroupMap → List meant.Group
groups_in m = map group_view m.groups.items

-- the groups have become those with this put, by the items that they are for; or nothing has changed
abbrev pub PutsInto : List GroupItem → Put → GroupMap → GroupMap → Result (Unit {0}) NoMemory → Type 0
PutsInto items one m m' result = Becomes (groups_view m) (groups_view m') (put_group items one (groups_view m)) result

-- the same of what is taken into the group of a number: it is put with the group's key tuple, whatever items the groups are for
abbrev pub PutsAt : ℕ → Option Taken → GroupMap → GroupMap → Result (Unit {0}) NoMemory → Type 0
PutsAt number t m m' result = (items : List GroupItem) (tuple : List (Option Value)) → gatherings_of items ≡ gatherings_view m
    → slice_get (tuples_view m) number ≡ Some tuple → PutsInto items (put_of tuple (option_map taken_view t)) m m' result

-- a cell for the ith aggregate is put with the key tuple of the group of a number, whatever items the groups are for
abbrev pub PutsCellAt : ℕ → ℕ → Option Value → GroupMap → GroupMap → Result (Unit {0}) NoMemory → Type 0
PutsCellAt number i v m m' result = (items : List GroupItem) (tuple : List (Option Value)) → gatherings_of items ≡ gatherings_view m
    → slice_get (tuples_view m) number ≡ Some tuple → PutsInto items (put_of tuple (Some (record { aggregate = i; value = v }))) m m' result
