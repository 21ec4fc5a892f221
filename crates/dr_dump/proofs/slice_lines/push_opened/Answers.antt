use Rattle.std.proofs.Common.{◌∙◌, List, length, map, refl, sym, ap, subst, string_bytes, arith}
use Rattle.std.specs.Prelude.{Ok, Err, Option}
use Rattle.std.specs.List.{list_all}
use Rattle.std.proofs.lemmas.List.{length-map}
use Rattle.dr_meaning.specs.Column.{Triplet}
use Rattle.dr_levels.specs.Views.{columns_view}
use Rattle.dr_nested.specs.Views.{fields_view}
use Rattle.dr_nested.specs.SchemaView.{schema_view}
use Rattle.dr_nested.specs.PathView.{path_view}
use Rattle.dr_outside.specs.Link.{Files}
use Rattle.dr_outside.specs.declared.cause.Cause.{Cause}
use Rattle.dr_file.specs.OpenedFiles.{is_link_fault}
use Rattle.dr_file.specs.declared.file_fault.FileFault.{FileFault}
use Rattle.dr_scan.specs.FileRecords.{IsColumnsFault, IsFaultOf}
use Rattle.dr_scan.proofs.RecordsLemmas.{columns_fault, assembled_alone, have_leaf_paths}
use Rattle.dr_dump.specs.Lines.{is_passed}
use Rattle.dr_dump.specs.Slices.{AreBehind, AreTaken}
use Rattle.dr_dump.proofs.ReadsLemmas.{reads_nothing, reads_then, reads_value, reads_refused, reads_failed, reads_saying}
use Rattle.dr_dump.proofs.PrintedLemmas.{printed_none, printed_more, printed_all, printed_too_few, no_slice, slice_fault, lead_to_leaves, printed_by_leaves, none_by_leaves}
use Rattle.dr_dump.proofs.slice_lines.push_opened.Goals as goal

pub slices-init : goal.slices-init
slices-init g c =
    let F = map path_view c.args.fields.now in
    let link = g.L.Link.shows c.args.link.now in
    record {
      printed = printed_none (schema_view c.args.schema.now) F link.held c.args.opened.now c.rows-left.result (string_bytes c.args.text.now) c.in-Ok.leaves.items c.rows-left.ensures.rows (c.in-Ok.ensures link.held F (length-map c.args.fields.now path_view));
      reads = reads_nothing c.args.opened.now F F (λ bytes. IsFaultOf bytes (schema_view c.args.schema.now) F) tt link;
    }

pub push_lines-requires : goal.push_lines-requires
push_lines-requires g c = have_leaf_paths _ c.args.fields.now c.requires.leaves

pub returns-in-Err-take_slice-clause-reads : goal.returns-in-Err-take_slice-clause-reads
returns-in-Err-take_slice-clause-reads g c =
    let s = schema_view c.args.schema.now in
    let F = map path_view c.args.fields.now in
    let o = c.args.opened.now in
    let link = g.L.Link.shows c.args.link.now in
    let was = g.L.Link.shows c.slices.link in
    let now = g.L.Link.shows c.take_slice.new.link in
    let inv = c.slices.invariant in
    let p = inv.printed in
    let behind = subst (λ (h : Option Files). AreBehind h o F p.records c.slices.leaves.items) (sym inv.reads.link.same) p.behind in
    let slice = reads_saying o F F (λ bytes. IsColumnsFault bytes F) (λ bytes. IsFaultOf bytes s F) (Err c.in-Err-take_slice.fault) was now (λ bytes told e k. columns_fault bytes s F o e told.0 c.requires.leaves k) (c.in-Err-take_slice.ensures.reads o F p.records behind) in
    reads_failed o F F (λ bytes. IsFaultOf bytes s F) c.in-Err-take_slice.fault link now (reads_then o F F (λ bytes. IsFaultOf bytes s F) tt (Err c.in-Err-take_slice.fault) link was now inv.reads slice)

pub returns-in-Err-push_lines-clause-reads : goal.returns-in-Err-push_lines-clause-reads
returns-in-Err-push_lines-clause-reads g c =
    let s = schema_view c.args.schema.now in
    let fs = fields_view c.args.schema.now.fields.items in
    let F = map path_view c.args.fields.now in
    let o = c.args.opened.now in
    let link = g.L.Link.shows c.args.link.now in
    let was = g.L.Link.shows c.slices.link in
    let now = g.L.Link.shows c.take_slice.new.link in
    let inv = c.slices.invariant in
    let p = inv.printed in
    let xs = c.slices.leaves.items in
    let ys = c.take_slice.new.leaves.items in
    let k = c.min-records.result in
    let C = columns_view c.deref.result.now in
    let behind = subst (λ (h : Option Files). AreBehind h o F p.records xs) (sym inv.reads.link.same) p.behind in
    let slice = reads_saying o F F (λ bytes. IsColumnsFault bytes F) (λ bytes. IsFaultOf bytes s F) (Ok c.in-Ok-take_slice.columns) was now (λ bytes told e k. columns_fault bytes s F o e told.0 c.requires.leaves k) (c.in-Ok-take_slice.ensures.reads o F p.records behind) in
    let all = reads_then o F F (λ bytes. IsFaultOf bytes s F) tt (Ok c.in-Ok-take_slice.columns) link was now inv.reads slice in
    let taken = subst (λ (D : List (List Triplet)). AreTaken link.held o F p.records k (length F) xs ys D) (sym (ap columns_view c.deref.ensures.value))
    (subst (λ (h : Option Files). AreTaken h o F p.records k (length F) xs ys (columns_view c.in-Ok-take_slice.columns.items)) inv.reads.link.same (c.in-Ok-take_slice.ensures.taken o F p.records behind)) in
    reads_refused o F F (λ bytes. IsFaultOf bytes s F) c.in-Ok-take_slice.columns c.file_fault.result link now (ap is_link_fault c.file_fault.ensures ∙ assembled_alone c.in-Err-push_lines.fault)
    (λ bytes told. subst (IsFaultOf bytes s F) (sym c.file_fault.ensures) (slice_fault bytes s F c.in-Err-push_lines.fault
    (λ e. no_slice bytes s F link.held o c.slices.left k (string_bytes c.args.text.now) (string_bytes c.slices.text) xs ys C c.requires.leaves (lead_to_leaves fs c.args.fields.now c.requires.leaves) p taken
    (none_by_leaves fs c.args.fields.now C k (c.in-Err-push_lines.ensures.refused (ap Err e))) (omega (arith, c.min-records.ensures)) told)))
    all

pub returns-then-are_passed-clause-lines : goal.returns-then-are_passed-clause-lines
returns-then-are_passed-clause-lines g c =
    let s = schema_view c.args.schema.now in
    let fs = fields_view c.args.schema.now.fields.items in
    let F = map path_view c.args.fields.now in
    let o = c.args.opened.now in
    let held = (g.L.Link.shows c.args.link.now).held in
    let inv = c.slices.invariant in
    let p = inv.printed in
    let xs = c.slices.leaves.items in
    let ys = c.take_slice.new.leaves.items in
    let k = c.min-records.result in
    let C = columns_view c.deref.result.now in
    let before = string_bytes c.args.text.now in
    let middle = string_bytes c.slices.text in
    let after = string_bytes c.push_lines.new.text in
    let behind = subst (λ (h : Option Files). AreBehind h o F p.records xs) (sym inv.reads.link.same) p.behind in
    let taken = subst (λ (D : List (List Triplet)). AreTaken held o F p.records k (length F) xs ys D) (sym (ap columns_view c.deref.ensures.value))
    (subst (λ (h : Option Files). AreTaken h o F p.records k (length F) xs ys (columns_view c.in-Ok-take_slice.columns.items)) inv.reads.link.same (c.in-Ok-take_slice.ensures.taken o F p.records behind)) in
    printed_all s F held o p.records k before after xs ys C p.behind taken
    (printed_more s F held o c.slices.left 0 k before middle after xs ys C p taken (printed_by_leaves fs c.args.fields.now C k middle after c.in-Ok-push_lines.ensures.lines) (omega (arith, c.min-records.ensures)) (omega (arith, c.if-left-eq0.true)))
    (sym (ap (list_all is_passed) c.deref-then-left-eq0.ensures.value) ∙ (sym c.are_passed.ensures ∙ c.if-are_passed.true))

pub returns-then-are_passed-clause-reads : goal.returns-then-are_passed-clause-reads
returns-then-are_passed-clause-reads g c =
    let s = schema_view c.args.schema.now in
    let F = map path_view c.args.fields.now in
    let o = c.args.opened.now in
    let link = g.L.Link.shows c.args.link.now in
    let was = g.L.Link.shows c.slices.link in
    let now = g.L.Link.shows c.take_slice.new.link in
    let inv = c.slices.invariant in
    let p = inv.printed in
    let behind = subst (λ (h : Option Files). AreBehind h o F p.records c.slices.leaves.items) (sym inv.reads.link.same) p.behind in
    let slice = reads_saying o F F (λ bytes. IsColumnsFault bytes F) (λ bytes. IsFaultOf bytes s F) (Ok c.in-Ok-take_slice.columns) was now (λ bytes told e k. columns_fault bytes s F o e told.0 c.requires.leaves k) (c.in-Ok-take_slice.ensures.reads o F p.records behind) in
    reads_value o F F (λ bytes. IsFaultOf bytes s F) c.in-Ok-take_slice.columns tt link now (reads_then o F F (λ bytes. IsFaultOf bytes s F) tt (Ok c.in-Ok-take_slice.columns) link was now inv.reads slice)

pub returns-then-left-eq0-clause-reads : goal.returns-then-left-eq0-clause-reads
returns-then-left-eq0-clause-reads g c =
    let s = schema_view c.args.schema.now in
    let fs = fields_view c.args.schema.now.fields.items in
    let F = map path_view c.args.fields.now in
    let o = c.args.opened.now in
    let link = g.L.Link.shows c.args.link.now in
    let was = g.L.Link.shows c.slices.link in
    let now = g.L.Link.shows c.take_slice.new.link in
    let inv = c.slices.invariant in
    let p = inv.printed in
    let xs = c.slices.leaves.items in
    let ys = c.take_slice.new.leaves.items in
    let k = c.min-records.result in
    let C = columns_view c.deref.result.now in
    let before = string_bytes c.args.text.now in
    let middle = string_bytes c.slices.text in
    let after = string_bytes c.push_lines.new.text in
    let behind = subst (λ (h : Option Files). AreBehind h o F p.records xs) (sym inv.reads.link.same) p.behind in
    let slice = reads_saying o F F (λ bytes. IsColumnsFault bytes F) (λ bytes. IsFaultOf bytes s F) (Ok c.in-Ok-take_slice.columns) was now (λ bytes told e k. columns_fault bytes s F o e told.0 c.requires.leaves k) (c.in-Ok-take_slice.ensures.reads o F p.records behind) in
    let all = reads_then o F F (λ bytes. IsFaultOf bytes s F) tt (Ok c.in-Ok-take_slice.columns) link was now inv.reads slice in
    let taken = subst (λ (D : List (List Triplet)). AreTaken link.held o F p.records k (length F) xs ys D) (sym (ap columns_view c.deref.ensures.value))
    (subst (λ (h : Option Files). AreTaken h o F p.records k (length F) xs ys (columns_view c.in-Ok-take_slice.columns.items)) inv.reads.link.same (c.in-Ok-take_slice.ensures.taken o F p.records behind)) in
    let last = printed_more s F link.held o c.slices.left 0 k before middle after xs ys C p taken (printed_by_leaves fs c.args.fields.now C k middle after c.in-Ok-push_lines.ensures.lines) (omega (arith, c.min-records.ensures)) (omega (arith, c.if-left-eq0.true)) in
    let some = sym (ap (list_all is_passed) c.deref-then-left-eq0.ensures.value) ∙ (sym c.are_passed.ensures ∙ c.if-are_passed.false) in
    reads_refused o F F (λ bytes. IsFaultOf bytes s F) c.in-Ok-take_slice.columns (FileFault.Why Cause.BadData) link now refl
    (λ bytes told. printed_too_few bytes s F link.held o before after ys c.requires.leaves (lead_to_leaves fs c.args.fields.now c.requires.leaves) last some told) all

pub slices-preserved : goal.slices-preserved
slices-preserved g c =
    let s = schema_view c.args.schema.now in
    let fs = fields_view c.args.schema.now.fields.items in
    let F = map path_view c.args.fields.now in
    let o = c.args.opened.now in
    let link = g.L.Link.shows c.args.link.now in
    let was = g.L.Link.shows c.slices.link in
    let now = g.L.Link.shows c.take_slice.new.link in
    let inv = c.slices.invariant in
    let p = inv.printed in
    let xs = c.slices.leaves.items in
    let ys = c.take_slice.new.leaves.items in
    let k = c.min-records.result in
    let C = columns_view c.deref.result.now in
    let before = string_bytes c.args.text.now in
    let middle = string_bytes c.slices.text in
    let after = string_bytes c.push_lines.new.text in
    let behind = subst (λ (h : Option Files). AreBehind h o F p.records xs) (sym inv.reads.link.same) p.behind in
    let slice = reads_saying o F F (λ bytes. IsColumnsFault bytes F) (λ bytes. IsFaultOf bytes s F) (Ok c.in-Ok-take_slice.columns) was now (λ bytes told e k. columns_fault bytes s F o e told.0 c.requires.leaves k) (c.in-Ok-take_slice.ensures.reads o F p.records behind) in
    let all = reads_then o F F (λ bytes. IsFaultOf bytes s F) tt (Ok c.in-Ok-take_slice.columns) link was now inv.reads slice in
    let taken = subst (λ (D : List (List Triplet)). AreTaken link.held o F p.records k (length F) xs ys D) (sym (ap columns_view c.deref.ensures.value))
    (subst (λ (h : Option Files). AreTaken h o F p.records k (length F) xs ys (columns_view c.in-Ok-take_slice.columns.items)) inv.reads.link.same (c.in-Ok-take_slice.ensures.taken o F p.records behind)) in
    record {
      printed = printed_more s F link.held o c.slices.left _ k before middle after xs ys C p taken (printed_by_leaves fs c.args.fields.now C k middle after c.in-Ok-push_lines.ensures.lines) (omega (arith, c.min-records.ensures)) refl;
      reads = reads_value o F F (λ bytes. IsFaultOf bytes s F) c.in-Ok-take_slice.columns tt link now all;
    }
