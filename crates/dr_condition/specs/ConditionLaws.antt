-- What the condition of a plan comes to.
use Rattle.std.specs.Prelude.{◌≡◌, ◌<◌, ◌≤◌, ℕ, List, [], ◌∷◌, ◌++◌, Bool, true, false, Option, None, Some, is_some}
use Rattle.std.specs.List.{list_all}
use Rattle.dr_meaning.specs.Schema.{Schema, Fields, depth, greatest_depth}
use Rattle.dr_meaning.specs.Path.{Step, Leaf, paths_of_leaves, chain_end}
use Rattle.dr_meaning.specs.Record.{Node, is_record}
use Rattle.dr_meaning.specs.Expression.{Expression}
use Rattle.dr_meaning.specs.Kept.{kept, kept_along}
use Rattle.dr_meaning.specs.Query.{Query}
use Rattle.dr_meaning.specs.Walk.{Move, walk, no_record}
use Rattle.dr_meaning.specs.WalkLaws.{open_after_moves}
use Rattle.dr_moves.specs.Condition.{Watch}
use Rattle.dr_kept_laws.specs.Parts.{pruning_tells}
use Rattle.dr_kept_laws.specs.Telling.{told}
use Rattle.dr_kept_laws.specs.TellingLaws.{StandsFor}
use Rattle.dr_plan.specs.Planned.{plan_view, plan_leaves, planned_query}
use Rattle.dr_plan.specs.PlanOf.{IsPlanOf}
use Rattle.dr_plan.specs.declared.plan.Plan.{Plan}
use Rattle.dr_condition.specs.Parted.{WatchedParts}
use Rattle.dr_condition.specs.Watching.{pruned_behind}
use Rattle.dr_condition.specs.Conditions.{HasWatched, open_for}
use Rattle.dr_condition.specs.PlanConditions.{WatchesPlan, plan_constants_hold}
use Rattle.dr_condition.specs.declared.condition.Condition.{Condition}

-- what a watch stands for that keeps of records what a condition keeps
abbrev pub WatchKeeps : Fields → List (List Step) → Watch → Option Expression → Type 0
WatchKeeps fs F w c = (path : List Step) × (K : List ℕ) × (test : Node → Bool) × StandsFor fs F w path K test
    × ((n : Node) → is_record fs n ≡ true → kept c n ≡ kept_along (chain_end path) test n)

-- the same of what is watched of a plan; where nothing is, each record is kept whole
abbrev pub Keeps : Schema → Plan → Option WatchedParts → Type 0
Keeps s p None = (n : Node) → is_record s.fields n ≡ true → kept (planned_query (plan_view p)).condition n ≡ Some n
Keeps s p (Some w) = WatchKeeps s.fields (paths_of_leaves (plan_leaves p)) w.watch (planned_query (plan_view p)).condition

-- what is watched of a plan of a query keeps what the query's condition keeps
abbrev pub WatchedKeepsQuery : Type 0
WatchedKeepsQuery = (s : Schema) (q : Query) (p : Plan) → IsPlanOf s q p → (W : Option WatchedParts) → WatchesPlan s p W → Keeps s p W

-- where a test that reads no leaf isn't true nothing is kept
abbrev pub NeverTrueKeepsNothing : Type 0
NeverTrueKeepsNothing = (s : Schema) (q : Query) (p : Plan) → IsPlanOf s q p → plan_constants_hold p ≡ false
    → (n : Node) → is_record s.fields n ≡ true → kept (planned_query (plan_view p)).condition n ≡ None

-- along the walk of records the parts tell what is told of the condition as one
abbrev pub PartsTellWatch : Type 0
PartsTellWatch = (s : Schema) (q : Query) (p : Plan) → IsPlanOf s q p → (w : WatchedParts) → WatchesPlan s p (Some w)
    → (R : List Node) → list_all (is_record s.fields) R ≡ true
    → (ms rest : List Move) (m : Move) → walk s.fields (paths_of_leaves (plan_leaves p)) R ≡ ms ++ m ∷ rest
    → pruning_tells w.watch (pruned_behind w ms) m ≡ told w.watch ms m

-- behind moves that nest a condition may step
abbrev pub FewAreWatched : Type 0
FewAreWatched = (fs : Fields) (ls : List Leaf) (ms : List Move) (c : Condition) → depth fs ≤ greatest_depth
    → is_some (open_after_moves fs ls no_record ms) ≡ true → HasWatched c ms → open_for c < 64
