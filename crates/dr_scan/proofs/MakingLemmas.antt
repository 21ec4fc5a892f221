-- What a plan makes of moves, one by one.
use Rattle.std.proofs.Common.{◌≡◌, ◌≤◌, ◌<◌, List, true, arith}
use Rattle.std.specs.Prelude.{is_some}
use Rattle.std.specs.List.{list_all}
use Rattle.dr_meaning.specs.Schema.{Schema, depth, greatest_depth}
use Rattle.dr_meaning.specs.Path.{paths_of_leaves}
use Rattle.dr_meaning.specs.Record.{Node, is_record}
use Rattle.dr_meaning.specs.Walk.{Move, walk, no_record}
use Rattle.dr_meaning.specs.WalkLaws.{open_after_moves}
use Rattle.dr_plan.specs.Planned.{IsOfSchema, plan_leaves}
use Rattle.dr_plan.specs.declared.plan.Plan.{Plan}
use Rattle.dr_condition.proofs.OpenLemmas.{few_are_watched}
use Rattle.dr_scan.specs.Makings.{Makes, HasMadeAll, open_in}
use Rattle.dr_scan.specs.declared.making.Making.{Making}

-- one instance is open for each level at most
pub may_make : (s : Schema) (p : Plan) (ms : List Move) (m : Making) → depth s.fields ≤ greatest_depth → is_some (open_after_moves s.fields (plan_leaves p) no_record ms) ≡ true → Makes s p ms m → open_in m < 64
may_make s p ms Making.Nothing deep nests h = omega arith
may_make s p ms (Making.Groups g) deep nests h = few_are_watched s.fields (plan_leaves p) ms g.groups.condition deep nests h.behind.watched
may_make s p ms (Making.Objects o) deep nests h = few_are_watched s.fields (plan_leaves p) ms o.condition deep nests h.behind.watched

-- where its moves are the walk of records
pub made_all : (s : Schema) (p : Plan) (R : List Node) (m : Making) → IsOfSchema s p → list_all (is_record s.fields) R ≡ true → Makes s p (walk s.fields (paths_of_leaves (plan_leaves p)) R) m → HasMadeAll m
made_all s p R Making.Nothing h r makes = tt
made_all s p R (Making.Groups g) h r makes = tt
made_all s p R (Making.Objects o) h r makes = (s, p, R, h, r, makes)
