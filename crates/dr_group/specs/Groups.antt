-- Groups that are held, and their places in the order of key tuples.
use Rattle.std.specs.Prelude.{ℕ, List, [], map, get_or, slice_set, Option, option_map, Result}
use Rattle.dr_memory.specs.declared.NoMemory.{NoMemory}
use Rattle.dr_meaning.specs.Record.{Value}
use Rattle.dr_partials.specs.Partials as meant
use Rattle.dr_partials.specs.Accumulators as accumulators
use Rattle.dr_partials.specs.Putting as putting
use Rattle.dr_levels.specs.declared.triplet.ValueRef.{ValueRef}
use Rattle.dr_group.specs.Views.{accumulator_view, cell_view, lent_cell}
use Rattle.dr_group.specs.declared.accumulator.Accumulator.{Accumulator}
use Rattle.dr_group.specs.Gathering.{Becomes, taken_by}
use Rattle.dr_group.specs.declared.gathering.Gathering.{Gathering}
use Rattle.dr_group.specs.declared.group.Group.{Group}
use Rattle.dr_group.specs.declared.group.Taken.{Taken}

-- what accumulators stand for
abbrev pub accumulators_view : List Accumulator → List accumulators.Accumulator
accumulators_view xs = map accumulator_view xs

-- what a group stands for
abbrev pub group_view : Group → meant.Group
group_view g = record { keys = map cell_view g.keys.items; accumulators = accumulators_view g.accumulators.items }

-- a group that stands where there is none
abbrev pub no_group : meant.Group
no_group = record { keys = []; accumulators = [] }

-- the group of all rows
abbrev pub keyless_group : List accumulators.Accumulator → meant.Group
keyless_group xs = record { keys = []; accumulators = xs }

-- the group of this number
abbrev pub group_at : List Group → ℕ → meant.Group
group_at gs i = get_or (map group_view gs) i no_group

-- the groups of these numbers
abbrev pub picked : List Group → List ℕ → List meant.Group
picked gs is = map (group_at gs) is

-- what is taken stands for this
abbrev pub taken_view : Taken → putting.Taken
taken_view t = record { aggregate = t.aggregate; value = lent_cell t.value }

-- what is put
abbrev pub put_view : List (Option ValueRef) → Option Taken → putting.Put
put_view key taken = record { keys = map lent_cell key; taken = option_map taken_view taken }

-- a value that is put with a key tuple
abbrev pub put_of : List (Option Value) → Option putting.Taken → putting.Put
put_of tuple taken = record { keys = tuple; taken = taken }

-- ---- what is put into a group

-- the group with other accumulators
abbrev pub with_accumulators : meant.Group → List accumulators.Accumulator → meant.Group
with_accumulators g xs = record { keys = g.keys; accumulators = xs }

-- the group of a number takes a value
abbrev pub taken_at : List Gathering → ℕ → Option putting.Taken → List meant.Group → List meant.Group
taken_at ks k t gs = slice_set gs k (with_accumulators (get_or gs k no_group) (taken_by ks t (get_or gs k no_group).accumulators))

-- accumulators have taken what is taken, if anything; or nothing has changed
abbrev pub TakesInto : List Gathering → Option Taken → List Accumulator → List Accumulator → Result (Unit {0}) NoMemory → Type 0
TakesInto ks t before after result = Becomes (accumulators_view before) (accumulators_view after) (taken_by ks (option_map taken_view t) (accumulators_view before)) result
