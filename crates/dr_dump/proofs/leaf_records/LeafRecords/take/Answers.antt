use Rattle.std.proofs.Common.{◌≢◌, ◌∙◌, ◌++◌, List, [], ◌∷◌, true, true≢false, refl, sym, ap, subst, arith}
use Rattle.std.specs.Prelude.{Ok, Err, Option}
use Rattle.dr_meaning.specs.Column.{Triplet}
use Rattle.dr_meaning.specs.OneColumn.{starts, begins_record}
use Rattle.dr_formats.specs.Opening.{leaf_cause}
use Rattle.dr_outside.specs.Link.{Files}
use Rattle.dr_levels.specs.Views.{column_view}
use Rattle.dr_file.specs.OpenedFiles.{IsColumnFault}
use Rattle.dr_file.specs.Streams.{stream_form}
use Rattle.dr_file.specs.declared.file_fault.FileFault.{FileFault}
use Rattle.dr_dump.specs.Leaves.{rest_of, IsLeafRecords}
use Rattle.dr_dump.proofs.RestLemmas.{passed_on, refilled_on, fewer_on, taken_all, begun_passed, begun_refilled}
use Rattle.dr_dump.proofs.ReadsLemmas.{reads_nothing, reads_then, reads_value, reads_refused, reads_failed}
use Rattle.dr_dump.proofs.leaf_records.LeafRecords.take.Goals as goal

pub batches-init : goal.batches-init
batches-init g c =
    let empty = c.column-column.ensures.empty in
    record {
      at = λ o F leaf front h. subst (λ (ts : List Triplet). IsLeafRecords (g.L.Link.shows c.args.link.now).held o F leaf (front ++ (ts ++ rest_of c.args.self.now)) c.args.self.now) (sym empty) h;
      few = omega (arith, ap starts empty);
      form = sym c.column-column.ensures.form;
      begins = λ b e. (ap begins_record empty, λ none. (b, e));
      reads = λ o F leaf front h. reads_nothing o F (leaf ∷ []) (λ bytes e. IsColumnFault e (leaf_cause bytes leaf)) tt (g.L.Link.shows c.args.link.now);
    }

pub returns-in-Ok-true-clause-taken : goal.returns-in-Ok-true-clause-taken
returns-in-Ok-true-clause-taken g c = λ o F l front h.
    let p = c.in-Ok-true.ensures.passed in
    let held = (g.L.Link.shows c.args.link.now).held in
    let at = passed_on held o F l front c.batches.self c.pass.new.self _ _ _ _ _ p c.pass.ensures.stream c.pass.ensures.ended (c.batches.invariant.at o F l front h) in
    taken_all held o F l front c.args.records c.args.self.now c.batches.self c.pass.new.self _ _ _ _ _ p c.in-Ok-true.field-0-test
    (fewer_on c.batches.self c.pass.new.self _ _ c.args.records _ _ _ p c.batches.invariant.few) at
    (λ b e. begun_passed c.batches.self c.pass.new.self _ _ _ _ _ p c.pass.ensures.ended (c.batches.invariant.begins b e))

pub returns-in-Ok-true-clause-reads : goal.returns-in-Ok-true-clause-reads
returns-in-Ok-true-clause-reads g c = λ o F l front h.
    reads_value o F (l ∷ []) (λ bytes e. IsColumnFault e (leaf_cause bytes l)) tt c.pass.new.out _ _ (c.batches.invariant.reads o F l front h)

pub returns-in-Err-clause-reads : goal.returns-in-Err-clause-reads
returns-in-Err-clause-reads g c = λ o F l front h.
    reads_refused o F (l ∷ []) (λ bytes e. IsColumnFault e (leaf_cause bytes l)) tt FileFault.NoMemory _ _ refl (λ bytes t. tt) (c.batches.invariant.reads o F l front h)

pub returns-clause-reads : goal.returns-clause-reads
returns-clause-reads g c = λ o F l front h.
    reads_refused o F (l ∷ []) (λ bytes e. IsColumnFault e (leaf_cause bytes l)) tt FileFault.NoMemory _ _ refl (λ bytes t. tt) (c.batches.invariant.reads o F l front h)

pub returns-in-Err-refill-clause-reads : goal.returns-in-Err-refill-clause-reads
returns-in-Err-refill-clause-reads g c = λ o F l front h.
    let p = c.in-Ok-false.ensures.passed in
    let held = (g.L.Link.shows c.args.link.now).held in
    let so_far = c.batches.invariant.reads o F l front h in
    let at = passed_on held o F l front c.batches.self c.pass.new.self _ _ _ _ _ p c.pass.ensures.stream c.pass.ensures.ended (c.batches.invariant.at o F l front h) in
    let now = subst (λ (x : Option Files). IsLeafRecords x o F l (front ++ (column_view c.pass.new.out ++ rest_of c.pass.new.self)) c.pass.new.self) (sym so_far.link.same) at in
    reads_then o F (l ∷ []) (λ bytes e. IsColumnFault e (leaf_cause bytes l)) tt (Err c.in-Err-refill.fault) _ _ _ so_far
    (reads_failed o F (l ∷ []) (λ bytes e. IsColumnFault e (leaf_cause bytes l)) c.in-Err-refill.fault _ _ (c.in-Err-refill.ensures.reads o F l _ now))

pub batches-preserved : goal.batches-preserved
batches-preserved g c =
    let p = c.in-Ok-false.ensures.passed in
    let held = (g.L.Link.shows c.args.link.now).held in
    let goes : c.in-Ok-false.field-0 ≢ true = λ z. true≢false (sym z ∙ c.in-Ok-false.field-0-test) in
    let was = c.batches.self in
    let passed = c.pass.new.self in
    record {
      at = λ o F leaf front h.
          let so_far = c.batches.invariant.reads o F leaf front h in
          let at = passed_on held o F leaf front was passed _ _ _ _ _ p c.pass.ensures.stream c.pass.ensures.ended (c.batches.invariant.at o F leaf front h) in
          refilled_on held o F leaf front (column_view c.pass.new.out) passed c.refill.new.self (p.goes_on goes).0
          (λ given k.
          subst (λ (x : Option Files). IsLeafRecords x o F leaf (given ++ rest_of c.refill.new.self) c.refill.new.self) so_far.link.same
          (c.in-Ok.ensures.filled o F leaf given (subst (λ (x : Option Files). IsLeafRecords x o F leaf given passed) (sym so_far.link.same) k))) at;
      few = fewer_on was passed _ _ c.args.records _ _ _ p c.batches.invariant.few;
      form = c.refill.ensures.form ∙ (ap stream_form c.pass.ensures.stream ∙ (c.batches.invariant.form ∙ sym c.pass.ensures.form));
      begins = λ b e. begun_refilled was passed c.refill.new.self _ _ _ _ _ p goes c.pass.ensures.ended (c.batches.invariant.begins b e);
      reads = λ o F leaf front h.
          let so_far = c.batches.invariant.reads o F leaf front h in
          let at = passed_on held o F leaf front was passed _ _ _ _ _ p c.pass.ensures.stream c.pass.ensures.ended (c.batches.invariant.at o F leaf front h) in
          let now = subst (λ (x : Option Files). IsLeafRecords x o F leaf (front ++ (column_view c.pass.new.out ++ rest_of passed)) passed) (sym so_far.link.same) at in
          reads_then o F (leaf ∷ []) (λ bytes e. IsColumnFault e (leaf_cause bytes leaf)) tt (Ok tt) _ _ _ so_far (c.in-Ok.ensures.reads o F leaf _ now);
    }
