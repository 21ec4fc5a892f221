-- Puts into groups, one after another.
use Rattle.std.specs.Prelude.{◌≡◌, ℕ, List, [], ◌∷◌, ◌++◌, Option}
use Rattle.dr_meaning.specs.Path.{Step}
use Rattle.dr_meaning.specs.Record.{Value, Node}
use Rattle.dr_meaning.specs.Query.{GroupItem, groups, Query}
use Rattle.dr_partials.specs.Partials.{Group, grouped}
use Rattle.dr_partials.specs.Putting.{Put, put_group, put_all, puts_of_rows}
use Rattle.dr_partials.specs.Together.{PutTheSame}
use Rattle.dr_partials.specs.Readings.{puts_of_groups}

abbrev pub put_each : List GroupItem → List Put → List Group → List Group
put_each items [] gs = gs
put_each items (p ∷ ps) gs = put_each items ps (put_group items p gs)

-- a query's groups become that
abbrev pub GroupsBecome : Type 0
GroupsBecome = (q : Query) (keys : List (List Step)) (items : List GroupItem) (ps : List Put) (gs : List Group) → q.selection ≡ groups keys items
    → put_all q ps (grouped gs) ≡ grouped (put_each items ps gs)

-- where values are put of rows, and then more, it is of no account that the rows' groups are put before
abbrev pub SourceGroupsFirst : Type 0
SourceGroupsFirst = (q : Query) (keys : List (List Step)) (i : ℕ) (value : Node → Option Value) (ns : List Node) (more : List Put)
    → PutTheSame q (puts_of_groups keys ns ++ (puts_of_rows keys i value ns ++ more)) (puts_of_rows keys i value ns ++ more)
