use Rattle.std.proofs.Common.{ℕ, Option, refl, sym, ap, subst, ◌∙◌, arith, map}
use Rattle.std.proofs.lemmas.List.{map-append}
use Rattle.std.specs.Prelude.{◌∷◌, []}
use Rattle.dr_levels.specs.Views.{column_view}
use Rattle.dr_outside.specs.Link.{Files}
use Rattle.std.specs.List.{flat_map}
use Rattle.dr_formats.specs.File.{leaves_read}
use Rattle.dr_formats.specs.Opening.{leaf_ranges}
use Rattle.dr_outside.specs.Telling.{TellsFile}
use Rattle.dr_chunk.specs.Ranges.{is_read_inside}
use Rattle.dr_chunk.proofs.AskLemmas.{asks_then}
use Rattle.dr_scan.proofs.FewLemmas.{one_more_short, one_more_length, one_more_counted, taken_counted}
use Rattle.dr_scan.proofs.AskedLemmas.{leaf_asked}
use Rattle.dr_file.specs.Asking.{is_for_path}
use Rattle.dr_file.specs.OpenedFiles.{HasCounts, path_of}
use Rattle.dr_scan.specs.FileRecords.{IsColumnsFault}
use Rattle.dr_scan.proofs.ColumnsLemmas.{leaf_there, one_more, all_columns, one_fault, err_is, no_read_fault, read_fault_is}
use Rattle.dr_table.specs.Counting.{counted}
use Rattle.dr_scan.proofs.file_columns.read_columns.Goals as goal

pub returns-in_err-column-clause-cause : goal.returns-in_err-column-clause-cause
returns-in_err-column-clause-cause g c = λ bytes F o n t.
    let l = leaf_there F c.leaves.index (omega (arith, c.leaves-test.true, n)) in
    let now = subst (λ (h : Option Files). TellsFile h (path_of c.args.opened.now) bytes) (sym c.leaves.invariant.1) t in
    err_is (IsColumnsFault bytes F) _ c.in_err-column.field-0.0 c.from_residual.ensures.1 (one_fault bytes F c.leaves.index l.0 c.in_err-column.field-0.0 l.1 (c.in_err-column.ensures.cause bytes F l.0 o l.1 now))

pub returns-in_err-column-clause-link : goal.returns-in_err-column-clause-link
returns-in_err-column-clause-link g c =
    let new = (g.L.Link.shows c.column.new.link).faults in
    let link = c.in_err-column.ensures.link in
    let inv = c.leaves.invariant in
    let only = c.from_residual.ensures.1 in
    record {
      same = link.same ∙ inv.1;
      counts = err_is (HasCounts (g.L.Link.shows c.args.link.now).faults new) _ c.in_err-column.field-0.0 only (subst (λ (n : ℕ). HasCounts n new c.in_err-column.field-0.0) inv.2 link.counts);
      calm = λ h. link.calm (read_fault_is _ c.in_err-column.field-0.0 only h) ∙ inv.2;
      steady = λ bytes serves.
          let now = subst (λ (h : Option Files). TellsFile h (path_of c.args.opened.now) bytes) (sym inv.1) serves.2.1 in
          no_read_fault _ c.in_err-column.field-0.0 only (link.steady bytes (serves.0, serves.1, (inv.3 serves.2.0, now)));
      stays_steady = λ s. link.stays_steady (inv.3 s);
    }

pub leaves-preserved : goal.leaves-preserved
leaves-preserved g c = (
  λ bytes F o n t.
      let l = leaf_there F c.leaves.index (omega (arith, c.leaves-test.true, n)) in
      let now = subst (λ (h : Option Files). TellsFile h (path_of c.args.opened.now) bytes) (sym c.leaves.invariant.1) t in
      one_more bytes F c.leaves.index _ _ l.0 (column_view c.in_ok-column.column) (c.leaves.invariant.0 bytes F o n t) l.1 (c.in_ok-column.ensures.column bytes F l.0 o l.1 now)
      (ap (map column_view) c.in-Ok.ensures.items ∙ map-append column_view c.leaves.columns.items (c.in_ok-column.column ∷ [])),
  c.column.ensures.link.same ∙ c.leaves.invariant.1,
  c.in_ok-column.ensures.link.calm refl ∙ c.leaves.invariant.2,
  λ s. c.column.ensures.link.stays_steady (c.leaves.invariant.3 s),
  one_more_short _ _ (column_view c.in_ok-column.column) c.leaves.invariant.4 c.in_ok-column.ensures.few (ap (map column_view) c.in-Ok.ensures.items ∙ map-append column_view c.leaves.columns.items (c.in_ok-column.column ∷ [])),
  λ bytes F f o n e.
      let l = leaf_there F c.leaves.index (omega (arith, c.leaves-test.true, n)) in
      asks_then (is_read_inside (path_of c.args.opened.now) (flat_map (leaf_ranges f) (leaves_read f F))) _ _ _ (c.leaves.invariant.5 bytes F f o n e)
      (leaf_asked (path_of c.args.opened.now) f F c.leaves.index l.0 _ _ l.1 (c.column.ensures.asked bytes F l.0 f o l.1 e)),
  one_more_counted _ _ (column_view c.in_ok-column.column) _ _ _ c.leaves.invariant.6 (c.saturating_add-triplets.ensures ∙ ap (counted c.leaves.triplets) c.len.ensures) (ap (map column_view) c.in-Ok.ensures.items ∙ map-append column_view c.leaves.columns.items (c.in_ok-column.column ∷ [])),
  asks_then (is_for_path (path_of c.args.opened.now)) _ _ _ c.leaves.invariant.7 c.column.ensures.paths,
  one_more_length _ _ c.in_ok-column.column c.leaves.index c.leaves.invariant.8 c.in-Ok.ensures.items,
)

pub returns-clause-columns : goal.returns-clause-columns
returns-clause-columns g c = λ bytes F o n t. all_columns bytes F c.leaves.index _ (c.leaves.invariant.0 bytes F o n t) (omega (arith, c.leaves-test.false, n))

pub returns-in_err-column-clause-asked : goal.returns-in_err-column-clause-asked
returns-in_err-column-clause-asked g c = λ bytes F f o n e.
    let l = leaf_there F c.leaves.index (omega (arith, c.leaves-test.true, n)) in
    asks_then (is_read_inside (path_of c.args.opened.now) (flat_map (leaf_ranges f) (leaves_read f F))) _ _ _ (c.leaves.invariant.5 bytes F f o n e)
    (leaf_asked (path_of c.args.opened.now) f F c.leaves.index l.0 _ _ l.1 (c.column.ensures.asked bytes F l.0 f o l.1 e))

pub returns-in-Err-clause-asked : goal.returns-in-Err-clause-asked
returns-in-Err-clause-asked g c = λ bytes F f o n e.
    let l = leaf_there F c.leaves.index (omega (arith, c.leaves-test.true, n)) in
    asks_then (is_read_inside (path_of c.args.opened.now) (flat_map (leaf_ranges f) (leaves_read f F))) _ _ _ (c.leaves.invariant.5 bytes F f o n e)
    (leaf_asked (path_of c.args.opened.now) f F c.leaves.index l.0 _ _ l.1 (c.column.ensures.asked bytes F l.0 f o l.1 e))

pub returns-clause-counted : goal.returns-clause-counted
returns-clause-counted g c = taken_counted _ _ _ _ c.add.ensures c.leaves.invariant.6

pub returns-in_err-column-clause-paths : goal.returns-in_err-column-clause-paths
returns-in_err-column-clause-paths g c = asks_then (is_for_path (path_of c.args.opened.now)) _ _ _ c.leaves.invariant.7 c.column.ensures.paths

pub returns-in-Err-clause-paths : goal.returns-in-Err-clause-paths
returns-in-Err-clause-paths g c = asks_then (is_for_path (path_of c.args.opened.now)) _ _ _ c.leaves.invariant.7 c.column.ensures.paths
