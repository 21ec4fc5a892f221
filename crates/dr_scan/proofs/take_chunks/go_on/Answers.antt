use Rattle.std.proofs.Common.{◌≡◌, ◌∙◌, ℕ, List, length, refl, sym, ap, subst, arith}
use Rattle.std.specs.Prelude.{Ok, Option, Some, None}
use Rattle.dr_file.specs.OpenedFiles.{rows_of, is_link_fault}
use Rattle.dr_file.specs.declared.file_fault.FileFault.{FileFault}
use Rattle.dr_columns.specs.Chunks.{ComesTo}
use Rattle.dr_columns.specs.declared.chunks.Step.{Step}
use Rattle.dr_plan.specs.Planned.{plan_leaves}
use Rattle.dr_scan.specs.FileRecords.{IsFaultOf}
use Rattle.dr_scan.proofs.RecordsLemmas.{assembled_alone, columns_fault}
use Rattle.dr_walk.specs.declared.fault.AssembleFault.{AssembleFault}
use Rattle.dr_scan.specs.Chunked.{IsChunked}
use Rattle.dr_scan.proofs.ChunkedLemmas.{leaves_each, stepped, none_stepped}
use Rattle.dr_scan.proofs.ServedLemmas.{reads_nothing, reads_refused, reads_fault, reads_value}
use Rattle.dr_scan.proofs.take_chunks.go_on.Goals as goal

pub step-requires : goal.step-requires
step-requires g c = let q = c.requires in (q.0, q.1, rows_of q.2, q.3.given, q.3.records, q.3.taken)

pub returns-in_err-step-clause-reads : goal.returns-in_err-step-clause-reads
returns-in_err-step-clause-reads g c = λ s p o h.
    let link = g.L.Link.shows c.args.link.now in
    let F = plan_leaves p in
    let C : (bytes : List ℕ) → FileFault → Type 0 = λ bytes. IsFaultOf bytes s F in
    reads_fault {A = Unit {0}} _ FileFault.NoMemory C C o F link link c.from_residual.ensures.1 (λ bytes told f. f) (reads_refused (tt {0}) FileFault.NoMemory C C o F link link refl (λ bytes told. tt) (reads_nothing (tt {0}) C o F link))

pub returns-in-Took-clause-goes : goal.returns-in-Took-clause-goes
returns-in-Took-clause-goes g c = λ s p o h.
    let t = subst (ComesTo s p (rows_of o) h.given c.step.new.self) c.in-Took.is (c.in_ok-step.ensures.step s p (rows_of o) h.given h.records h.taken) in
    stepped s p _ o c.args.streams.now.items c.args.chunks.now c.step.new.self c.args.read.now t.0 h t.1 c.step.ensures.forms c.step.ensures.ends

pub returns-in-Took-clause-reads : goal.returns-in-Took-clause-reads
returns-in-Took-clause-reads g c = λ s p o h. reads_nothing _ _ o (plan_leaves p) (g.L.Link.shows c.args.link.now)

pub refill-requires-clause-within : goal.refill-requires-clause-within
refill-requires-clause-within g c =
    let q = c.requires in
    let h = q.3 in
    let t = subst (ComesTo q.0 q.1 (rows_of q.2) h.given c.step.new.self) c.in-Wants.is (c.in_ok-step.ensures.step q.0 q.1 (rows_of q.2) h.given h.records h.taken) in
    let n = h.streams.as_many in
    omega (arith, n, t.2)

pub refill-requires-clause-forms : goal.refill-requires-clause-forms
refill-requires-clause-forms g c = c.step.ensures.forms ∙ c.requires.3.of_streams.forms

pub returns-in_err-count-in-Wants-clause-reads : goal.returns-in_err-count-in-Wants-clause-reads
returns-in_err-count-in-Wants-clause-reads g c = λ s p o h.
    let F = plan_leaves p in
    let e = c.in_err-count-in-Wants.field-0.0 in
    reads_fault _ e _ (λ bytes. IsFaultOf bytes s F) o F (g.L.Link.shows c.args.link.now) (g.L.Link.shows c.refill.new.link) c.from_residual-in_err-count-in-Wants.ensures.1
    (λ bytes told f. columns_fault bytes s F o e told.0 (leaves_each s.fields F h.taken.for_plan.of_schema) f) (c.in_err-count-in-Wants.ensures.reads o F h.given h.streams)

pub returns-in_ok-count-in-Wants-clause-goes : goal.returns-in_ok-count-in-Wants-clause-goes
returns-in_ok-count-in-Wants-clause-goes g c = λ s p o h.
    let xs = c.args.streams.now.items in
    let held = (g.L.Link.shows c.args.link.now).held in
    let t = subst (ComesTo s p (rows_of o) h.given c.step.new.self) c.in-Wants.is (c.in_ok-step.ensures.step s p (rows_of o) h.given h.records h.taken) in
    let k = stepped s p held o xs c.args.chunks.now c.step.new.self c.args.read.now t.0 h t.1 c.step.ensures.forms c.step.ensures.ends in
    subst (IsChunked s p held o c.refill.new.streams.items c.refill.new.chunks) (sym c.add.ensures) (c.in_ok-count-in-Wants.ensures.chunked s p o c.args.read.now k t.3)

pub returns-in_ok-count-in-Wants-clause-reads : goal.returns-in_ok-count-in-Wants-clause-reads
returns-in_ok-count-in-Wants-clause-reads g c = λ s p o h.
    reads_value _ _ _ _ o (plan_leaves p) _ _ (c.in_ok-count-in-Wants.ensures.reads o (plan_leaves p) h.given h.streams)

pub returns-in-Long-clause-goes : goal.returns-in-Long-clause-goes
returns-in-Long-clause-goes g c = λ s p o h.
    let t = subst (ComesTo s p (rows_of o) h.given c.step.new.self) c.in-Long.is (c.in_ok-step.ensures.step s p (rows_of o) h.given h.records h.taken) in
    (stepped s p _ o c.args.streams.now.items c.args.chunks.now c.step.new.self c.args.read.now t.0 h t.1 c.step.ensures.forms c.step.ensures.ends, t.2)

pub returns-in-Long-clause-reads : goal.returns-in-Long-clause-reads
returns-in-Long-clause-reads g c = λ s p o h. reads_nothing _ _ o (plan_leaves p) (g.L.Link.shows c.args.link.now)

pub returns-in-Ended-clause-goes : goal.returns-in-Ended-clause-goes
returns-in-Ended-clause-goes g c = λ s p o h.
    let t = subst (ComesTo s p (rows_of o) h.given c.step.new.self) c.in-Ended.is (c.in_ok-step.ensures.step s p (rows_of o) h.given h.records h.taken) in
    (stepped s p _ o c.args.streams.now.items c.args.chunks.now c.step.new.self c.args.read.now t.0 h t.1 c.step.ensures.forms c.step.ensures.ends, t.2)

pub returns-in-Ended-clause-reads : goal.returns-in-Ended-clause-reads
returns-in-Ended-clause-reads g c = λ s p o h. reads_nothing _ _ o (plan_leaves p) (g.L.Link.shows c.args.link.now)

pub returns-in-NoneHave-clause-reads : goal.returns-in-NoneHave-clause-reads
returns-in-NoneHave-clause-reads g c = λ s p o h.
    let link = g.L.Link.shows c.args.link.now in
    let F = plan_leaves p in
    let C : (bytes : List ℕ) → FileFault → Type 0 = λ bytes. IsFaultOf bytes s F in
    let none = subst (ComesTo s p (rows_of o) h.given c.step.new.self) c.in-NoneHave.is (c.in_ok-step.ensures.step s p (rows_of o) h.given h.records h.taken) in
    reads_refused (tt {0}) _ C C o F link link (ap is_link_fault c.file_fault.ensures ∙ assembled_alone AssembleFault.BadData)
    (λ bytes told. subst (IsFaultOf bytes s F) (sym c.file_fault.ensures) (none_stepped s p link.held o c.args.streams.now.items c.args.chunks.now c.step.new.self c.args.read.now h none c.step.ensures.forms c.step.ensures.ends bytes told))
    (reads_nothing (tt {0}) C o F link)
