-- What a plan makes of the moves of a walk: groups, objects, or nothing.
use Rattle.std.specs.Prelude.{◌≡◌, ℕ, ⊤, List, true}
use Rattle.std.specs.List.{list_all}
use Rattle.dr_meaning.specs.Schema.{Schema}
use Rattle.dr_meaning.specs.Record.{Node, is_record}
use Rattle.dr_meaning.specs.Walk.{Move}
use Rattle.dr_partials.specs.Partials.{empty_partial, partial_of}
use Rattle.dr_plan.specs.Planned.{plan_view, planned_query}
use Rattle.dr_plan.specs.declared.plan.Plan.{Plan}
use Rattle.dr_within.specs.Scanning.{Scans, open_in_scan}
use Rattle.dr_within.specs.ObjectScanning.{ScansObjects, HasScannedAll, open_in_objects}
use Rattle.dr_scan.specs.declared.making.Making.{Making}

-- it has made what a plan makes of these moves; nothing, where of any records the plan keeps none
abbrev pub Makes : Schema → Plan → List Move → Making → Type 0
Makes s p ms Making.Nothing = (R : List Node) → list_all (is_record s.fields) R ≡ true → empty_partial (planned_query (plan_view p)) ≡ partial_of s.fields (planned_query (plan_view p)) R
Makes s p ms (Making.Groups g) = Scans s p ms g
Makes s p ms (Making.Objects o) = ScansObjects s p ms o

-- its moves are the walk of records
abbrev pub HasMadeAll : Making → Type 0
HasMadeAll Making.Nothing = ⊤
HasMadeAll (Making.Groups g) = ⊤
HasMadeAll (Making.Objects o) = HasScannedAll o

-- how many branches are open for the condition
abbrev pub open_in : Making → ℕ
open_in Making.Nothing = 0
open_in (Making.Groups g) = open_in_scan g
open_in (Making.Objects o) = open_in_objects o
