use Rattle.std.specs.Prelude.{Ok}
use Rattle.dr_meaning.specs.Schema.{Schema}
use Rattle.dr_file.specs.declared.opened.Opened.{Opened}
use Rattle.dr_plan.specs.Planned.{plan_leaves}
use Rattle.dr_plan.specs.declared.plan.Plan.{Plan}
use Rattle.dr_scan.specs.FileRecords.{IsFaultOf}
use Rattle.dr_scan.specs.Chunked.{IsChunked}
use Rattle.dr_scan.specs.Served.{ReadsLeaves}
use Rattle.dr_scan.proofs.take_chunks.take_chunks.Given as goal

-- of what the streams gave the columns of some records were taken, and the link served each call
abbrev pub invariant-chunks : goal.invariant-chunks
invariant-chunks g l = record {
  at : (s : Schema) (p : Plan) (o : Opened) → IsChunked s p (g.L.Link.shows l.initial.link).held o l.initial.streams.items l.initial.chunks l.initial.read → IsChunked s p (g.L.Link.shows l.link).held o l.streams.items l.chunks l.read;
  reads : (s : Schema) (p : Plan) (o : Opened) → IsChunked s p (g.L.Link.shows l.initial.link).held o l.initial.streams.items l.initial.chunks l.initial.read
      → ReadsLeaves (Ok (tt {0})) (λ bytes. IsFaultOf bytes s (plan_leaves p)) o (plan_leaves p) (g.L.Link.shows l.initial.link) (g.L.Link.shows l.link);
}
