-- What a plan makes of a walk over columns that are there as a whole.
use Rattle.std.specs.Prelude.{◌≡◌, ℕ, ⊤, List, [], length, Bool, Result, Ok, Err}
use Rattle.dr_meaning.specs.Schema.{Schema}
use Rattle.dr_meaning.specs.Column.{Triplet}
use Rattle.dr_moves.specs.Leading.{columns_of}
use Rattle.dr_plan.specs.Planned.{IsOfSchema, plan_leaves}
use Rattle.dr_plan.specs.declared.plan.Plan.{Plan}
use Rattle.dr_walk.specs.declared.fault.AssembleFault.{AssembleFault}
use Rattle.dr_walk.specs.declared.level_walk.LevelWalk.{LevelWalk}
use Rattle.dr_within.specs.Rows.{HasLast}
use Rattle.dr_within.specs.declared.last_read.LastRead.{LastRead}
use Rattle.dr_scan.specs.Makings.{Makes}
use Rattle.dr_scan.specs.Streamed.{IsStreamed, IsWholeScan}
use Rattle.dr_scan.specs.declared.making.Making.{Making}
use Rattle.dr_scan.specs.declared.stretch.Stretch.{Stretch}

-- of so many records with these columns of a plan's leaves a walk gave no move yet, nothing was made of it, and nothing was read
pub record IsBeforeAll (s : Schema) (p : Plan) (rows : ℕ) (w : LevelWalk) (cs : List (List Triplet)) (m : Making) (r : LastRead) : Type 0 where
  pub planned : IsOfSchema s p
  pub streamed : (ended : List Bool) → IsStreamed s p rows (columns_of cs) ended [] w (columns_of cs)
  pub makes : Makes s p [] m
  pub reads : HasLast (length (plan_leaves p)) [] r

abbrev pub MayMakeWhole : LevelWalk → List (List Triplet) → Making → LastRead → Type 0
MayMakeWhole w cs m r = (s : Schema) × (p : Plan) × (rows : ℕ) × IsBeforeAll s p rows w cs m r

-- at the end it is made of the walk over all of them
abbrev pub EndsWhole : Schema → Plan → ℕ → List (List Triplet) → Making → Result Stretch AssembleFault → Type 0
EndsWhole s p rows cs m (Ok Stretch.Ended) = (ended : List Bool) × IsWholeScan s p rows (columns_of cs) ended m
EndsWhole s p rows cs m (Ok (Stretch.Wants i)) = ⊤
EndsWhole s p rows cs m (Err e) = ⊤

abbrev pub MakesWhole : LevelWalk → List (List Triplet) → Making → LastRead → Making → Result Stretch AssembleFault → Type 0
MakesWhole w cs before r m result = (s : Schema) (p : Plan) (rows : ℕ) → IsBeforeAll s p rows w cs before r → EndsWhole s p rows cs m result
