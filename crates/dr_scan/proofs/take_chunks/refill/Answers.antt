use Rattle.std.proofs.Common.{◌≡◌, ◌∙◌, ◌<◌, ℕ, List, length, refl, sym, ap, ap₂, subst, arith}
use Rattle.std.specs.Prelude.{slice_set}
use Rattle.std.proofs.lemmas.List.{length-map}
use Rattle.dr_levels.specs.Views.{column_form, column_view}
use Rattle.dr_agreement.proofs.AtHandLemmas.{kept_of_more}
use Rattle.dr_file.specs.OpenedFiles.{rows_of}
use Rattle.dr_file.specs.declared.file_fault.FileFault.{FileFault}
use Rattle.dr_scan.specs.FileRecords.{IsColumnsFault}
use Rattle.dr_scan.specs.Chunked.{batch_forms, same_streams}
use Rattle.dr_scan.specs.declared.leaf_stream.LeafStream.{LeafStream}
use Rattle.dr_scan.proofs.ChunkedLemmas.{leaves_count, hands_same, streams_count, lent_form, lent_joined, more_chunked, end_here}
use Rattle.dr_scan.proofs.HandingLemmas.{forms_set, parts_set, same_leaf_streams}
use Rattle.dr_scan.proofs.ServedLemmas.{reads_nothing, reads_refused, reads_fault, reads_value}
use Rattle.dr_scan.proofs.take_chunks.refill.Goals as goal

pub lend_batch-requires-clause-within : goal.lend_batch-requires-clause-within
lend_batch-requires-clause-within g c = let n = leaves_count c.args.streams.now.items c.args.chunks.now c.requires.forms in omega (arith, n, c.requires.within)

pub lend_batch-requires-clause-form : goal.lend_batch-requires-clause-form
lend_batch-requires-clause-form g c = lent_form c.args.streams.now.items c.args.chunks.now c.args.leaf c.index_mut.result.now c.requires.forms c.requires.within c.index_mut.ensures.value

pub returns-in_err-kept-clause-reads : goal.returns-in_err-kept-clause-reads
returns-in_err-kept-clause-reads g c = λ o F given h.
    let s = g.L.Link.shows c.args.link.now in
    let C : (bytes : List ℕ) → FileFault → Type 0 = λ bytes. IsColumnsFault bytes F in
    reads_fault {A = Unit {0}} _ FileFault.NoMemory C C o F s s c.from_residual.ensures.1 (λ bytes told f. f) (reads_refused (tt {0}) FileFault.NoMemory C C o F s s refl (λ bytes told. tt) (reads_nothing (tt {0}) C o F s))

pub returns-in_err-count-clause-reads : goal.returns-in_err-count-clause-reads
returns-in_err-count-clause-reads g c = λ o F given h.
    let before = g.L.Link.shows c.args.link.now in
    let xs = c.args.streams.now.items in
    let k = c.args.leaf in
    let u = c.lend_batch.new.stream in
    let C : (bytes : List ℕ) → FileFault → Type 0 = λ bytes. IsColumnsFault bytes F in
    let lent = parts_set xs k c.index_mut.result.now u c.index_mut.ensures.value (ap₂ (λ a b. (a, b)) c.lend_batch.ensures.stream.0 c.lend_batch.ensures.stream.1) in
    reads_fault _ c.in_err-count.field-0.0 C C o F before (g.L.Link.shows c.read_at.new.link) c.from_residual-in_err-count.ensures.1 (λ bytes told f. f)
    (c.in_err-count.ensures.reads o F given (same_leaf_streams before.held o F given xs (slice_set xs k u) h lent))

pub returns-clause-reads : goal.returns-clause-reads
returns-clause-reads g c = λ o F given h.
    let before = g.L.Link.shows c.args.link.now in
    let xs = c.args.streams.now.items in
    let k = c.args.leaf in
    let u = c.lend_batch.new.stream in
    let C : (bytes : List ℕ) → FileFault → Type 0 = λ bytes. IsColumnsFault bytes F in
    let lent = parts_set xs k c.index_mut.result.now u c.index_mut.ensures.value (ap₂ (λ a b. (a, b)) c.lend_batch.ensures.stream.0 c.lend_batch.ensures.stream.1) in
    c.in_ok-count.ensures.reads o F given (same_leaf_streams before.held o F given xs (slice_set xs k u) h lent)

pub take_back_batch-requires-clause-within : goal.take_back_batch-requires-clause-within
take_back_batch-requires-clause-within g c =
    let n = leaves_count c.args.streams.now.items c.args.chunks.now c.requires.forms in
    let m = hands_same c.args.chunks.now c.lend_batch.new.chunks c.in_ok-kept.ensures.lent.forms in
    omega (arith, n, m, c.requires.within)

pub take_back_batch-requires-clause-form : goal.take_back_batch-requires-clause-form
take_back_batch-requires-clause-form g c =
    let xs = c.args.streams.now.items in
    let k = c.args.leaf in
    let t = c.index_mut.result.now in
    let u = c.lend_batch.new.stream in
    let ys = c.read_at.new.streams.items in
    let v = c.index_mut-2.result.now in
    let lent = c.in_ok-kept.ensures.lent in
    let a = c.in_ok-count.ensures.read in
    let forms = c.read_at.ensures.forms ∙ forms_set xs k t u c.index_mut.ensures.value c.lend_batch.ensures.form in
    let n = streams_count xs ys forms in
    let m : k < length ys = omega (arith, n, c.requires.within) in
    lent_form ys c.lend_batch.new.chunks k v (lent.forms ∙ (c.requires.forms ∙ sym forms)) m c.index_mut-2.ensures.value

pub take_back_batch-requires-clause-kept : goal.take_back_batch-requires-clause-kept
take_back_batch-requires-clause-kept g c =
    let xs = c.args.streams.now.items in
    let k = c.args.leaf in
    let t = c.index_mut.result.now in
    let u = c.lend_batch.new.stream in
    let ys = c.read_at.new.streams.items in
    let v = c.index_mut-2.result.now in
    let lent = c.in_ok-kept.ensures.lent in
    let a = c.in_ok-count.ensures.read in
    let forms = c.read_at.ensures.forms ∙ forms_set xs k t u c.index_mut.ensures.value c.lend_batch.ensures.form in
    let n = streams_count xs ys forms in
    let m : k < length ys = omega (arith, n, c.requires.within) in
    kept_of_more (column_view u.batch) a.more (column_view v.batch) c.in_ok-kept.kept lent.is_kept (lent_joined _ xs ys k c.in_ok-count.count u v a c.requires.within m c.index_mut-2.ensures.value)

pub returns-clause-chunked : goal.returns-clause-chunked
returns-clause-chunked g c = λ s p o read h goes_on.
    let xs = c.args.streams.now.items in
    let k = c.args.leaf in
    let t = c.index_mut.result.now in
    let u = c.lend_batch.new.stream in
    let ys = c.read_at.new.streams.items in
    let v = c.index_mut-2.result.now in
    let lent = c.in_ok-kept.ensures.lent in
    let a = c.in_ok-count.ensures.read in
    let forms = c.read_at.ensures.forms ∙ forms_set xs k t u c.index_mut.ensures.value c.lend_batch.ensures.form in
    let n = streams_count xs ys forms in
    let m : k < length ys = omega (arith, n, c.requires.within) in
    let w = c.take_back_batch.new.stream in
    let x = c.args.chunks.now in
    let back = c.take_back_batch.ensures in
    let joined = lent_joined (g.L.Link.shows c.args.link.now).held xs ys k c.in_ok-count.count u v a c.requires.within m c.index_mut-2.ensures.value in
    more_chunked s p (g.L.Link.shows c.args.link.now).held o xs (slice_set xs k u) ys (slice_set ys k w) x c.lend_batch.new.chunks c.take_back_batch.new.chunks k read c.in_ok-count.count (column_view u.batch) c.in_ok-kept.kept h
    (parts_set xs k t u c.index_mut.ensures.value (ap₂ (λ a b. (a, b)) c.lend_batch.ensures.stream.0 c.lend_batch.ensures.stream.1)) lent a
    (parts_set ys k v w c.index_mut-2.ensures.value (ap₂ (λ a b. (a, b)) back.stream.0 back.stream.1)) (forms_set ys k v w c.index_mut-2.ensures.value back.form ∙ forms) c.requires.within
    (λ now more. back.added s p (rows_of o) h.given now h.records x (column_view u.batch) a.more h.taken lent joined goes_on more) (back.ended ∙ sym (end_here ys k v m c.index_mut-2.ensures.value)) back.ends back.forms
