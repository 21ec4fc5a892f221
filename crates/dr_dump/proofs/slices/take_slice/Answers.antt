use Rattle.std.proofs.Common.{◌≡◌, ◌∷◌, [], ◌∙◌, ℕ, length, map, refl, ap, subst, arith}
use Rattle.std.specs.Prelude.{Ok, Err, Option}
use Rattle.std.proofs.lemmas.List.{map-append}
use Rattle.dr_meaning.specs.Column.{column}
use Rattle.dr_levels.specs.Views.{column_view, columns_view}
use Rattle.dr_outside.specs.Link.{Files}
use Rattle.dr_file.specs.declared.file_fault.FileFault.{FileFault}
use Rattle.dr_scan.specs.FileRecords.{IsColumnsFault}
use Rattle.dr_dump.specs.Leaves.{IsTaken}
use Rattle.dr_dump.specs.Slices.{AreTaken}
use Rattle.dr_dump.proofs.ReadsLemmas.{reads_then, reads_value, reads_refused, reads_failed, reads_one}
use Rattle.dr_dump.proofs.TakenLemmas.{next_leaf, one_taken}
use Rattle.dr_dump.proofs.slices.take_slice.Goals as goal

pub returns-in-Err-push-clause-reads : goal.returns-in-Err-push-clause-reads
returns-in-Err-push-clause-reads g c = λ o F R h.
    let inv = c.leaves.invariant in
    let so_far = inv.reads o F R h in
    let n = next_leaf (g.L.Link.shows c.args.link.now).held (g.L.Link.shows c.leaves.link).held o F R c.args.records c.leaves.index c.args.leaves.now.items c.leaves.leaves.items (columns_view c.leaves.columns.items) so_far.link.same h (inv.taken o F R h)
    (omega (arith, c.leaves-test.true, c.len-index-end.ensures, c.args.leaves.now.ok.0)) in
    let one = reads_one o F c.leaves.index n.leaf (Ok c.in-Ok.column) _ _ n.at (c.in-Ok.ensures.reads o F n.leaf n.stands (column n.leaf.path R) n.is n.of) in
    reads_refused o F F (λ bytes. IsColumnsFault bytes F) c.in-Ok.column FileFault.NoMemory _ _ refl (λ bytes t. tt) (reads_then o F F (λ bytes. IsColumnsFault bytes F) tt (Ok c.in-Ok.column) _ _ _ so_far one)

pub returns-in-Err-clause-reads : goal.returns-in-Err-clause-reads
returns-in-Err-clause-reads g c = λ o F R h.
    let inv = c.leaves.invariant in
    let so_far = inv.reads o F R h in
    let n = next_leaf (g.L.Link.shows c.args.link.now).held (g.L.Link.shows c.leaves.link).held o F R c.args.records c.leaves.index c.args.leaves.now.items c.leaves.leaves.items (columns_view c.leaves.columns.items) so_far.link.same h (inv.taken o F R h)
    (omega (arith, c.leaves-test.true, c.len-index-end.ensures, c.args.leaves.now.ok.0)) in
    let one = reads_one o F c.leaves.index n.leaf (Err c.in-Err.fault) _ _ n.at (c.in-Err.ensures.reads o F n.leaf n.stands (column n.leaf.path R) n.is n.of) in
    reads_failed o F F (λ bytes. IsColumnsFault bytes F) c.in-Err.fault _ _ (reads_then o F F (λ bytes. IsColumnsFault bytes F) tt (Err c.in-Err.fault) _ _ _ so_far one)

pub leaves-preserved : goal.leaves-preserved
leaves-preserved g c = record {
  taken = λ o F R h.
      let inv = c.leaves.invariant in
      let held = (g.L.Link.shows c.args.link.now).held in
      let xs = c.args.leaves.now.items in
      let k = c.args.records in
      let so_far = inv.reads o F R h in
      let t = inv.taken o F R h in
      let n = next_leaf held (g.L.Link.shows c.leaves.link).held o F R k c.leaves.index xs c.leaves.leaves.items (columns_view c.leaves.columns.items) so_far.link.same h t
      (omega (arith, c.leaves-test.true, c.len-index-end.ensures, c.args.leaves.now.ok.0)) in
      let y = c.in-Ok.ensures.taken o F n.leaf n.stands (column n.leaf.path R) n.is n.of in
      one_taken held o F n.leaf R k c.leaves.index n.stands y.0 xs c.leaves.leaves.items c.take_at.new.leaves.items (columns_view c.leaves.columns.items) (columns_view c.push.new.self.items) (column_view c.in-Ok.column) t n.at n.was y.1
      (subst (λ (z : Option Files). IsTaken z o F n.leaf (column n.leaf.path R) k n.stands y.0 (column_view c.in-Ok.column)) so_far.link.same y.2)
      (ap (map column_view) c.in-Ok-push.ensures.items ∙ map-append column_view c.leaves.columns.items (c.in-Ok.column ∷ []));
  reads = λ o F R h.
      let inv = c.leaves.invariant in
      let so_far = inv.reads o F R h in
      let n = next_leaf (g.L.Link.shows c.args.link.now).held (g.L.Link.shows c.leaves.link).held o F R c.args.records c.leaves.index c.args.leaves.now.items c.leaves.leaves.items (columns_view c.leaves.columns.items) so_far.link.same h (inv.taken o F R h)
      (omega (arith, c.leaves-test.true, c.len-index-end.ensures, c.args.leaves.now.ok.0)) in
      let one = reads_one o F c.leaves.index n.leaf (Ok c.in-Ok.column) _ _ n.at (c.in-Ok.ensures.reads o F n.leaf n.stands (column n.leaf.path R) n.is n.of) in
      reads_value o F F (λ bytes. IsColumnsFault bytes F) c.in-Ok.column tt _ _ (reads_then o F F (λ bytes. IsColumnsFault bytes F) tt (Ok c.in-Ok.column) _ _ _ so_far one);
}

pub returns-clause-taken : goal.returns-clause-taken
returns-clause-taken g c = λ o F R h.
    let m = h.as_many in
    let all : c.leaves.index ≡ length F = omega (arith, m, c.leaves-test.false, c.leaves.auto.index-end, c.len-index-end.ensures, c.args.leaves.now.ok.0) in
    subst (λ (n : ℕ). AreTaken (g.L.Link.shows c.args.link.now).held o F R c.args.records n c.args.leaves.now.items c.leaves.leaves.items (columns_view c.leaves.columns.items)) all (c.leaves.invariant.taken o F R h)

pub returns-clause-reads : goal.returns-clause-reads
returns-clause-reads g c = λ o F R h. reads_value o F F (λ bytes. IsColumnsFault bytes F) tt c.leaves.columns _ _ (c.leaves.invariant.reads o F R h)
