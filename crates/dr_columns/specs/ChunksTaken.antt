-- What is put of what a plan's condition leaves of records makes of the partial of others that of both.
use Rattle.std.specs.Prelude.{◌≡◌, ℕ, List, [], ◌++◌, length, true, None}
use Rattle.std.specs.List.{list_all, flat_map, filter_map}
use Rattle.std.specs.declared.alloc.Global.{Global}
use Rattle.std.specs.declared.vec.Vec.{Vec}
use Rattle.dr_meaning.specs.Schema.{Schema}
use Rattle.dr_meaning.specs.Path.{Step, Leaf, paths_of_leaves, chain_end}
use Rattle.dr_meaning.specs.Record.{Node, is_record}
use Rattle.dr_meaning.specs.Rows.{rows}
use Rattle.dr_meaning.specs.Kept.{kept}
use Rattle.dr_partials.specs.Partials.{empty_partial}
use Rattle.dr_partials.specs.Putting.{Put, put_all, puts_of}
use Rattle.dr_plan.specs.Planned.{IsOfSchema, plan_leaves, plan_view, planned_query}
use Rattle.dr_plan.specs.declared.aggregate.Aggregate.{Aggregate}
use Rattle.dr_plan.specs.declared.plan.GroupItem.{GroupItem}
use Rattle.dr_plan.specs.declared.plan.Plan.{Plan}
use Rattle.dr_plan.specs.declared.plan.Selection.{Selection}
use Rattle.dr_rows_beside.specs.declared.source.Beside.{Beside}
use Rattle.dr_rows_beside.specs.Rows.{Row}
use Rattle.dr_rows_beside.specs.RecordRows.{AreBeside}
use Rattle.dr_rows_beside.specs.Slots.{EachSlot}
use Rattle.dr_rows_beside.specs.Sources.{AreReadBeside}
use Rattle.dr_columns.specs.Takings.{Fires, Take, fires_of, fired_read_puts, end_puts, takings_at}

-- ---- a plan of groups

pub record IsOfGroups (s : Schema) (p : Plan) (keys : Vec ℕ Global) (aggregates : Vec Aggregate Global) (items : Vec GroupItem Global) : Type 0 where
  pub of_schema : IsOfSchema s p
  pub selects : p.selection ≡ Selection.Groups keys aggregates items

-- what its condition leaves of records
abbrev pub left_by : Plan → List Node → List Node
left_by p S = filter_map (kept (planned_query (plan_view p)).condition) S

-- ---- what is put

-- the rows that are read of a leaf with those beside it are as many as those of its chain in some nodes, and their slots hold the values there
abbrev pub ReadsRows : List Leaf → (ℕ → List Beside → List Row) → List Node → Type 0
ReadsRows ls read N = (k : ℕ) (p : List Step) (bs : List Beside) (js : List ℕ) → AreBeside (paths_of_leaves ls) k p bs → AreReadBeside k bs js
    → (length (read k bs) ≡ length (flat_map (rows (chain_end p)) N)) × EachSlot ls js (read k bs) (flat_map (rows (chain_end p)) N)

-- all that is put of a chunk that leaves so many records, by the rows that are read
abbrev pub chunk_puts : List ℕ → (ℕ → List Beside → List Row) → List Fires → List Take → ℕ → List Put
chunk_puts ks read fs ends n = flat_map (fired_read_puts ks read) fs ++ end_puts n ends

abbrev pub planned_puts : Plan → Vec ℕ Global → Vec Aggregate Global → (ℕ → List Beside → List Row) → ℕ → List Put
planned_puts p keys aggregates read n =
    chunk_puts keys.items read (fires_of (paths_of_leaves (plan_leaves p)) keys.items aggregates.items (length (plan_leaves p))) (takings_at keys.items None 0 aggregates.items) n

abbrev pub ChunksArePut : Type 0
ChunksArePut = (s : Schema) (p : Plan) (keys : Vec ℕ Global) (aggregates : Vec Aggregate Global) (items : Vec GroupItem Global) (R S : List Node) (read : ℕ → List Beside → List Row) (n : ℕ)
    → IsOfGroups s p keys aggregates items → list_all (is_record s.fields) S ≡ true → ReadsRows (plan_leaves p) read (left_by p S) → n ≡ length (left_by p S)
    → put_all (planned_query (plan_view p)) (planned_puts p keys aggregates read n) (put_all (planned_query (plan_view p)) (puts_of (planned_query (plan_view p)) R) (empty_partial (planned_query (plan_view p))))
    ≡ put_all (planned_query (plan_view p)) (puts_of (planned_query (plan_view p)) (R ++ S)) (empty_partial (planned_query (plan_view p)))
