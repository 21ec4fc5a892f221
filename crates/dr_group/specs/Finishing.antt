-- The rows of groups as cells.
use Rattle.std.specs.Prelude.{List, [], ◌∷◌, drop, Option, None}
use Rattle.std.specs.List.{flat_map}
use Rattle.dr_meaning.specs.Record.{Value}
use Rattle.dr_meaning.specs.Query.{nth_value}
use Rattle.dr_partials.specs.Accumulators.{Accumulator, result_of}
use Rattle.dr_partials.specs.Partials.{Group}
use Rattle.dr_plan.specs.declared.plan.GroupTerm.{GroupTerm}
use Rattle.dr_plan.specs.declared.plan.GroupItem.{GroupItem}
use Rattle.dr_cells.specs.Results.{ResultCell, value_cell}

-- what the first accumulator gives; NULL where there is none
abbrev pub first_result : List Accumulator → Option Value
first_result [] = None
first_result (x ∷ xs) = result_of x

-- a key, or what the next accumulator gives
abbrev pub value_of_term : GroupTerm → List (Option Value) → List Accumulator → Option Value
value_of_term (GroupTerm.Key k) t xs = nth_value t k
value_of_term (GroupTerm.Aggregate a) t xs = first_result xs

-- the accumulators of the items behind
abbrev pub behind_term : GroupTerm → List Accumulator → List Accumulator
behind_term (GroupTerm.Key k) xs = xs
behind_term (GroupTerm.Aggregate a) xs = drop 1 xs

-- the values of a group's row
abbrev pub row_cells : List GroupItem → List (Option Value) → List Accumulator → List ResultCell
row_cells [] t xs = []
row_cells (i ∷ is) t xs = value_cell (value_of_term i.term t xs) ∷ row_cells is t (behind_term i.term xs)

-- the cells of a group's row
abbrev pub group_cells : List GroupItem → Group → List ResultCell
group_cells items g = row_cells items g.keys g.accumulators

-- the cells of the rows of groups
abbrev pub all_row_cells : List GroupItem → List Group → List ResultCell
all_row_cells items gs = flat_map (group_cells items) gs
