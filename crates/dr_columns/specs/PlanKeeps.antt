-- What a plan's condition keeps, in code.
use Rattle.std.specs.Prelude.{◌≡◌, [], true, false}
use Rattle.dr_plan.specs.Planned.{plan_leaves}
use Rattle.dr_plan.specs.declared.plan.Plan.{Plan}
use Rattle.dr_meaning.specs.Path.{paths_of_leaves}
use Rattle.dr_condition.specs.Parted.{constants_hold}
use Rattle.dr_rows_beside.specs.Makings.{reading, IsKeepingOf}
use Rattle.dr_columns.specs.declared.keeps.Keeps.{Keeps}

-- all where all tests are true without a leaf; nothing where one that reads none isn't true; else what those that read leaves keep
abbrev pub KeepsFor : Plan → Keeps → Type 0
KeepsFor p Keeps.All = (constants_hold p.test.items ≡ true) × (reading p.test.items ≡ [])
KeepsFor p Keeps.Nothing = constants_hold p.test.items ≡ false
KeepsFor p (Keeps.Tested k) = (constants_hold p.test.items ≡ true) × IsKeepingOf (paths_of_leaves (plan_leaves p)) p.test.items k
