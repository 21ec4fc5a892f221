use Rattle.std.proofs.Common.{ℕ, List}
use Rattle.dr_meaning.specs.Schema.{Schema}
use Rattle.dr_meaning.specs.Walk.{Move}
use Rattle.dr_moves.specs.Leading.{Left}
use Rattle.dr_plan.specs.Planned.{IsOfSchema}
use Rattle.dr_plan.specs.declared.plan.Plan.{Plan}
use Rattle.dr_walk.specs.Checking.{rest_at}
use Rattle.dr_walk.specs.Batches.{Shrinks}
use Rattle.dr_scan.specs.Streamed.{IsScanned}
use Rattle.dr_scan.proofs.stretch.make_stretch.Given as goal

-- over whatever columns it began, it goes on over them
abbrev pub invariant-moves : goal.invariant-moves
invariant-moves l = record {
  goes : (s : Schema) (p : Plan) (rows : ℕ) (given : Left) (ms : List Move) → IsOfSchema s p → IsScanned s p rows given l.ended ms l.initial.walk (rest_at l.initial.rests) l.initial.making l.initial.row
      → (ns : List Move) × IsScanned s p rows given l.ended ns l.walk (rest_at l.rests) l.making l.row;
  shrinks : Shrinks (rest_at l.initial.rests) (rest_at l.rests);
}
