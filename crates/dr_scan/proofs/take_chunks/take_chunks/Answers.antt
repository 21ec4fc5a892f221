use Rattle.std.proofs.Common.{◌≡◌, ℕ, List, refl, sym, subst}
use Rattle.std.specs.Prelude.{Option, Some, Ok}
use Rattle.dr_outside.specs.Link.{Files}
use Rattle.dr_file.specs.declared.file_fault.FileFault.{FileFault}
use Rattle.dr_plan.specs.Planned.{plan_leaves}
use Rattle.dr_scan.specs.FileRecords.{IsFaultOf}
use Rattle.dr_scan.specs.Chunked.{GoesOrEnds, IsChunked}
use Rattle.dr_scan.proofs.ServedLemmas.{reads_nothing, reads_then, reads_value, reads_refused, reads_fault}
use Rattle.dr_scan.proofs.take_chunks.take_chunks.Goals as goal

pub chunks-init : goal.chunks-init
chunks-init g c = record { at = λ s p o h. h; reads = λ s p o h. reads_nothing (tt {0}) (λ bytes. IsFaultOf bytes s (plan_leaves p)) o (plan_leaves p) (g.L.Link.shows c.args.link.now) }

pub go_on-requires : goal.go_on-requires
go_on-requires g c = let q = c.requires in (q.0, q.1, q.2, c.chunks.invariant.at q.0 q.1 q.2 q.3)

pub returns-in_err-end-clause-reads : goal.returns-in_err-end-clause-reads
returns-in_err-end-clause-reads g c = λ s p o h.
    let F = plan_leaves p in
    let C : (bytes : List ℕ) → FileFault → Type 0 = λ bytes. IsFaultOf bytes s F in
    let between = g.L.Link.shows c.chunks.link in
    let after = g.L.Link.shows c.go_on.new.link in
    reads_then (tt {0}) _ C C o F (g.L.Link.shows c.args.link.now) between after (c.chunks.invariant.reads s p o h)
    (reads_fault _ c.in_err-end.field-0.0 C C o F between after c.from_residual.ensures.1 (λ bytes told f. f) (c.in_err-end.ensures.reads s p o (c.chunks.invariant.at s p o h)))

pub returns-in-Some-clause-ends : goal.returns-in-Some-clause-ends
returns-in-Some-clause-ends g c = λ s p o h.
    let new = c.go_on.new in
    let goes = subst (GoesOrEnds s p (g.L.Link.shows c.chunks.link).held o new.streams.items new.chunks new.read) c.in-Some.is (c.in_ok-end.ensures.goes s p o (c.chunks.invariant.at s p o h)) in
    subst (λ (held : Option Files). GoesOrEnds s p held o new.streams.items new.chunks new.read (Some c.in-Some.end)) (c.chunks.invariant.reads s p o h).link.same goes

pub returns-in-Some-clause-reads : goal.returns-in-Some-clause-reads
returns-in-Some-clause-reads g c = λ s p o h.
    let F = plan_leaves p in
    let C : (bytes : List ℕ) → FileFault → Type 0 = λ bytes. IsFaultOf bytes s F in
    let between = g.L.Link.shows c.chunks.link in
    let after = g.L.Link.shows c.go_on.new.link in
    reads_then (tt {0}) (Ok c.in-Some.end) C C o F (g.L.Link.shows c.args.link.now) between after (c.chunks.invariant.reads s p o h)
    (reads_value c.in_ok-end.field-0 c.in-Some.end C C o F between after (c.in_ok-end.ensures.reads s p o (c.chunks.invariant.at s p o h)))

pub chunks-preserved : goal.chunks-preserved
chunks-preserved g c =
    let new = c.go_on.new in
    let between = g.L.Link.shows c.chunks.link in
    let after = g.L.Link.shows c.go_on.new.link in
    record {
      at = λ s p o h.
          let a = c.chunks.invariant.at s p o h in
          let goes = subst (GoesOrEnds s p between.held o new.streams.items new.chunks new.read) c.in-None.is (c.in_ok-end.ensures.goes s p o a) in
          subst (λ (held : Option Files). IsChunked s p held o new.streams.items new.chunks new.read) (sym (c.in_ok-end.ensures.reads s p o a).link.same) goes;
      reads = λ s p o h.
          let F = plan_leaves p in
          let C : (bytes : List ℕ) → FileFault → Type 0 = λ bytes. IsFaultOf bytes s F in
          reads_then (tt {0}) (Ok (tt {0})) C C o F (g.L.Link.shows c.args.link.now) between after (c.chunks.invariant.reads s p o h)
          (reads_value c.in_ok-end.field-0 (tt {0}) C C o F between after (c.in_ok-end.ensures.reads s p o (c.chunks.invariant.at s p o h)));
    }

pub returns-clause-reads : goal.returns-clause-reads
returns-clause-reads g c = λ s p o h.
    let F = plan_leaves p in
    let C : (bytes : List ℕ) → FileFault → Type 0 = λ bytes. IsFaultOf bytes s F in
    reads_refused (tt {0}) FileFault.NoMemory C C o F (g.L.Link.shows c.args.link.now) (g.L.Link.shows c.chunks.link) refl (λ bytes told. tt) (c.chunks.invariant.reads s p o h)
