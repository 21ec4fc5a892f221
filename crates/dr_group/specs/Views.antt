-- What accumulators and cells stand for.
use Rattle.std.specs.Prelude.{Option, option_map}
use Rattle.dr_meaning.specs.Record as record_tree
use Rattle.dr_nested.specs.Views.{value_view}
use Rattle.dr_nested.specs.declared.record.Value.{Value}
use Rattle.dr_levels.specs.Views.{lent_value}
use Rattle.dr_levels.specs.declared.triplet.ValueRef.{ValueRef}
use Rattle.dr_partials.specs.Accumulators as meant
use Rattle.dr_group.specs.declared.accumulator.Accumulator.{Accumulator}

-- a value or NULL, lent or held
abbrev pub lent_cell : Option ValueRef → Option record_tree.Value
lent_cell v = option_map lent_value v

-- a held value, or NULL
abbrev pub cell_view : Option Value → Option record_tree.Value
cell_view v = option_map value_view v

-- what an accumulator stands for
abbrev pub accumulator_view : Accumulator → meant.Accumulator
accumulator_view (Accumulator.Count n) = meant.counted n
accumulator_view (Accumulator.Sum s) = meant.summed s
accumulator_view (Accumulator.Least v) = meant.least_of (cell_view v)
accumulator_view (Accumulator.Greatest v) = meant.greatest_of (cell_view v)
