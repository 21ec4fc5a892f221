use Rattle.std.proofs.Common.{List, ℕ, ◌-◌, refl, sym, ap₂, subst, arith}
use Rattle.dr_formats.specs.Opening.{leaf_cause, leaf_ranges}
use Rattle.dr_formats.specs.File.{leaves_read}
use Rattle.std.specs.List.{flat_map}
use Rattle.std.specs.Prelude.{◌∷◌, []}
use Rattle.dr_levels.specs.Views.{column_view}
use Rattle.dr_outside.specs.Telling.{TellsFile, AsksOnly}
use Rattle.dr_chunk.specs.Ranges.{is_read_inside}
use Rattle.dr_file.specs.OpenedFiles.{IsColumnFault, path_of}
use Rattle.dr_file.specs.declared.opened.Opened.{Opened}
use Rattle.dr_file.proofs.LeavingLemmas.{same_fault_leaves, value_leaves}
use Rattle.dr_scan.proofs.ColumnsLemmas.{err_is}
use Rattle.dr_scan.proofs.StreamLemmas.{joined_length, stream_read}
use Rattle.dr_scan.proofs.leaf_stream.LeafStream.read_on.Goals as goal

pub overflow_sub-result : goal.overflow_sub-result
overflow_sub-result g c = let m = joined_length (column_view c.args.self.now.batch) (column_view c.next.new.out) c.in_ok-some.ensures.front in omega (arith, c.len-before.ensures, c.len.ensures, m)

pub returns-clause-read : goal.returns-clause-read
returns-clause-read g c =
    let next = c.in_ok-some.ensures in
    stream_read (g.L.Link.shows c.args.link.now).held (column_view c.args.self.now.batch) (column_view c.next.new.out) c.args.self.now _ c.in_ok-some.some _ refl refl
    (ap₂ (λ (n m : ℕ). n - m) c.len.ensures c.len-before.ensures) c.next.ensures.file refl next.front next.fills next.refused (λ o F l given h bytes told.
    next.more bytes l given (h.of bytes told) (subst (λ (x : Opened). TellsFile (g.L.Link.shows c.args.link.now).held (path_of x) bytes) (sym h.file) told.1))

pub returns-in_err-some-clause-cause : goal.returns-in_err-some-clause-cause
returns-in_err-some-clause-cause g c = λ o F l given bytes h told.
    let at = subst (λ (x : Opened). TellsFile (g.L.Link.shows c.args.link.now).held (path_of x) bytes) (sym h.file) told.1 in
    err_is (λ e. IsColumnFault e (leaf_cause bytes l)) _ c.in_err-some.field-0.0 c.from_residual.ensures.1 (c.in_err-some.ensures.cause bytes l given (h.of bytes told) at)

pub returns-in_err-some-clause-link : goal.returns-in_err-some-clause-link
returns-in_err-some-clause-link g c = λ well. same_fault_leaves _ c.in_err-some.field-0.0 _ _ _ c.from_residual.ensures.1 (c.in_err-some.ensures.link well)

pub returns-clause-link : goal.returns-clause-link
returns-clause-link g c = λ well. value_leaves c.in_ok-some.some _ _ _ _ (c.in_ok-some.ensures.link well)

pub returns-in_err-some-clause-asked : goal.returns-in_err-some-clause-asked
returns-in_err-some-clause-asked g c = λ o F l given bytes f h told e.
    subst (λ (x : Opened). AsksOnly (is_read_inside (path_of x) (flat_map (leaf_ranges f) (leaves_read f (l ∷ [])))) (g.L.Link.shows c.args.link.now).asked (g.L.Link.shows c.next.new.link).asked) h.file
    (c.next.ensures.asked bytes l f (h.of bytes told).leaf e)

pub returns-clause-asked : goal.returns-clause-asked
returns-clause-asked g c = λ o F l given bytes f h told e.
    subst (λ (x : Opened). AsksOnly (is_read_inside (path_of x) (flat_map (leaf_ranges f) (leaves_read f (l ∷ [])))) (g.L.Link.shows c.args.link.now).asked (g.L.Link.shows c.next.new.link).asked) h.file
    (c.next.ensures.asked bytes l f (h.of bytes told).leaf e)
