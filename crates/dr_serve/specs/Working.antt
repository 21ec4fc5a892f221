-- What workers have to do, and when what one finds is true of its tablet.
use Rattle.std.specs.Prelude.{◌≡◌, ◌==◌, ℕ, true, List, [], ◌∷◌, map, Option}
use Rattle.std.specs.List.{list_any}
use Rattle.dr_meaning.specs.Query.{Query}
use Rattle.dr_formats.specs.TableFile.{Table}
use Rattle.dr_outside.specs.Link.{Files, LinkShown}
use Rattle.dr_outside.specs.declared.cause.Cause.{Cause}
use Rattle.dr_dispatch.specs.Job.{Job, leaves_at}
use Rattle.dr_dispatch.specs.declared.event.Hand.{Hand}
use Rattle.dr_partials.specs.Rewriting.{leaf_query}
use Rattle.dr_plan.specs.PlanOf.{ForQuery}
use Rattle.dr_plan.specs.Planned.{plan_leaves, plan_view}
use Rattle.dr_plan.specs.declared.plan.Plan.{Plan}
use Rattle.dr_group.specs.Partials.{partial_view, IsPartialOf}
use Rattle.dr_group.specs.declared.partial.Partial.{Partial}
use Rattle.dr_reading.specs.Causes.{RisesApart}
use Rattle.dr_reading.specs.Held.{held_by_all}
use Rattle.dr_reading.specs.Left.{IsCauseAt}
use Rattle.dr_reading.specs.Scan.{Copy, copy_in, copy_paths, tablets_of}
use Rattle.dr_reading.specs.Pieces.{copies_at}
use Rattle.dr_reading.specs.Truth.{TabletTruth, IsTrueOf}
use Rattle.dr_scan.specs.Scans.{StandsForRecords}
use Rattle.dr_serve.specs.declared.found.Found.{Found}

-- the leaves of a tablet's copies, in the order in which they are tried
abbrev pub directories_of : List Copy → List ℕ
directories_of cs = map (λ (c : Copy). c.directory) cs

-- the leaves of each tablet
abbrev pub table_leaves : Table → List (List ℕ)
table_leaves t = map directories_of (tablets_of t)

-- the job of a table: each tablet on the leaves of its copies
abbrev pub table_job : Table → ℕ → Job
table_job t lag = record { leaves = table_leaves t; lag = lag }

-- the tablet has a copy on the leaf
abbrev pub IsOnLeaf : Table → ℕ → ℕ → Type 0
IsOnLeaf t tablet leaf = list_any (λ l. l == leaf) (leaves_at (table_leaves t) tablet) ≡ true

-- the path of a hand's copy
abbrev pub hand_path : Table → Hand → List ℕ
hand_path t h = (copy_in t.leaves h.tablet h.leaf).path

-- the truth of a tablet where these links are there
abbrev pub truth_by : Table → Query → List (Option Files) → ℕ → TabletTruth
truth_by t q links tablet =
    record { schema = t.schema; query = leaf_query q; held = held_by_all links (copy_paths (copies_at (tablets_of t) tablet)) }

-- a partial is one of the plan, stands for some records, and is true of a tablet where these links are there
pub record IsPiece (t : Table) (plan : Plan) (links : List (Option Files)) (tablet : ℕ) (p : Partial) : Type 0 where
  pub of_plan : IsPartialOf (plan_view plan) p
  pub records : ForQuery t.schema plan (λ q. StandsForRecords t.schema q (partial_view p))
  pub truth : ForQuery t.schema plan (λ q. IsTrueOf (truth_by t q links tablet) (partial_view p))

-- so of what a worker found
abbrev pub IsPieceFound : Table → Plan → List (Option Files) → ℕ → Found → Type 0
IsPieceFound t plan links tablet f = IsPiece t plan links tablet f.partial

abbrev pub found : ℕ → Partial → Found
found t p = record { tablet = t; partial = p }

-- what is true of a tablet may come from this link: a piece that is true where this link alone is there is true
abbrev pub TakesFrom : Table → Plan → (ℕ → Found → Type 0) → Option Files → Type 0
TakesFrom t plan is_true held = (tablet : ℕ) (p : Partial) → IsPiece t plan (held ∷ []) tablet p → is_true tablet (found tablet p)

-- a cause is justified at a hand's copy
abbrev pub IsCauseFor : Table → Plan → LinkShown → Hand → Cause → Type 0
IsCauseFor t plan link h c = IsCauseAt t.schema (plan_leaves plan) link (hand_path t h) c

-- and where it is a failed read, the link's count rose by it
abbrev pub IsRisenFor : Table → Plan → LinkShown → LinkShown → Hand → Cause → Type 0
IsRisenFor t plan link now h c = IsCauseFor t plan link h c × RisesApart link.faults (c ∷ []) now.faults
