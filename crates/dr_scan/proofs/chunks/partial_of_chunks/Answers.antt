use Rattle.std.proofs.Common.{◌≡◌, ◌∙◌, length, refl, sym, ap, subst, arith}
use Rattle.std.specs.Prelude.{Option, Some, IfOk}
use Rattle.std.specs.List.{flat_map}
use Rattle.std.proofs.lemmas.List.{length-map}
use Rattle.dr_formats.specs.File.{leaves_read}
use Rattle.dr_formats.specs.Opening.{leaf_ranges}
use Rattle.dr_nested.specs.SchemaView.{schema_view}
use Rattle.dr_nested.specs.PathView.{path_view}
use Rattle.dr_outside.specs.Link.{Files}
use Rattle.dr_chunk.specs.Ranges.{is_read_inside}
use Rattle.dr_chunk.proofs.AskLemmas.{asks_then}
use Rattle.dr_file.specs.Asking.{is_for_path}
use Rattle.dr_file.specs.Leaving.{ServesOpened}
use Rattle.dr_file.specs.OpenedFiles.{path_of, rows_of}
use Rattle.dr_file.specs.declared.file_fault.FileFault.{FileFault}
use Rattle.dr_file.proofs.LeavingLemmas.{same_fault_leaves, then_leaves, refused_leaves, value_leaves}
use Rattle.dr_plan.specs.Planned.{plan_leaves}
use Rattle.dr_scan.specs.FileRecords.{IsFaultOf}
use Rattle.dr_scan.proofs.ColumnsLemmas.{err_is}
use Rattle.dr_scan.specs.Chunked.{batch_forms, GoesOrEnds}
use Rattle.dr_columns.proofs.StepLemmas.{paths_count}
use Rattle.dr_scan.specs.Rests.{IsRestOf}
use Rattle.dr_scan.specs.Streamed.{IsOfOpened}
use Rattle.dr_scan.specs.declared.take_chunks.End.{End}
use Rattle.dr_scan.proofs.ChunkedLemmas.{all_chunks, chunks_begin}
use Rattle.dr_scan.proofs.RestLemmas.{given_counted}
use Rattle.dr_scan.proofs.UnderwayLemmas.{still_serves, still_told}
use Rattle.dr_scan.proofs.chunks.partial_of_chunks.Goals as goal

pub take_chunks-requires : goal.take_chunks-requires
take_chunks-requires g c =
    let s = schema_view c.args.schema.now in
    let p = c.args.plan.now in
    let F = plan_leaves p in
    let o = c.args.opened.now in
    let held = (g.L.Link.shows c.args.link.now).held in
    let xs = c.in_ok-streams.streams.items in
    let vs = c.in_ok-leaves.leaves.items in
    let x = c.in_ok-chunks.chunks in
    let n : length F ≡ length p.leaves.items = length-map p.leaves.items path_view in
    let streams = c.in_ok-streams.ensures.begun held F (omega (arith, n, c.len.ensures, p.leaves.ok.0)) in
    let forms = c.in_ok-leaves.ensures.forms ∙ ap batch_forms c.deref.ensures.value in
    let begun = chunks_begin s p held o xs x vs c.args.scan c.rows.result c.new-read.result c.requires.planned streams forms c.in_ok-leaves.ensures.none c.in_ok-leaves.ensures.ends c.requires.scan (c.in_ok-chunks.ensures.begun s) c.in_ok-chunks.ensures.leaves c.rows.ensures.rows c.new-read.ensures in
    (s, p, o, begun)

pub returns-in_err-take_chunks-clause-cause : goal.returns-in_err-take_chunks-clause-cause
returns-in_err-take_chunks-clause-cause g c = λ bytes told.
    let s = schema_view c.args.schema.now in
    let p = c.args.plan.now in
    let F = plan_leaves p in
    let o = c.args.opened.now in
    let held = (g.L.Link.shows c.args.link.now).held in
    let xs = c.in_ok-streams.streams.items in
    let vs = c.in_ok-leaves.leaves.items in
    let x = c.in_ok-chunks.chunks in
    let n : length F ≡ length p.leaves.items = length-map p.leaves.items path_view in
    let streams = c.in_ok-streams.ensures.begun held F (omega (arith, n, c.len.ensures, p.leaves.ok.0)) in
    let forms = c.in_ok-leaves.ensures.forms ∙ ap batch_forms c.deref.ensures.value in
    let begun = chunks_begin s p held o xs x vs c.args.scan c.rows.result c.new-read.result c.requires.planned streams forms c.in_ok-leaves.ensures.none c.in_ok-leaves.ensures.ends c.requires.scan (c.in_ok-chunks.ensures.begun s) c.in_ok-chunks.ensures.leaves c.rows.ensures.rows c.new-read.ensures in
    let reads = c.in_err-take_chunks.ensures.reads s p o begun in
    err_is (IsFaultOf bytes s F) _ c.in_err-take_chunks.field-0.0 c.from_residual-in_err-take_chunks.ensures.1 (reads.cause bytes told)

pub returns-in_err-take_chunks-clause-asked : goal.returns-in_err-take_chunks-clause-asked
returns-in_err-take_chunks-clause-asked g c =
    let s = schema_view c.args.schema.now in
    let p = c.args.plan.now in
    let F = plan_leaves p in
    let o = c.args.opened.now in
    let held = (g.L.Link.shows c.args.link.now).held in
    let xs = c.in_ok-streams.streams.items in
    let vs = c.in_ok-leaves.leaves.items in
    let x = c.in_ok-chunks.chunks in
    let n : length F ≡ length p.leaves.items = length-map p.leaves.items path_view in
    let streams = c.in_ok-streams.ensures.begun held F (omega (arith, n, c.len.ensures, p.leaves.ok.0)) in
    let forms = c.in_ok-leaves.ensures.forms ∙ ap batch_forms c.deref.ensures.value in
    let begun = chunks_begin s p held o xs x vs c.args.scan c.rows.result c.new-read.result c.requires.planned streams forms c.in_ok-leaves.ensures.none c.in_ok-leaves.ensures.ends c.requires.scan (c.in_ok-chunks.ensures.begun s) c.in_ok-chunks.ensures.leaves c.rows.ensures.rows c.new-read.ensures in
    let reads = c.in_err-take_chunks.ensures.reads s p o begun in
    reads.asked

pub returns-in_err-take_chunks-clause-paths : goal.returns-in_err-take_chunks-clause-paths
returns-in_err-take_chunks-clause-paths g c =
    let s = schema_view c.args.schema.now in
    let p = c.args.plan.now in
    let F = plan_leaves p in
    let o = c.args.opened.now in
    let held = (g.L.Link.shows c.args.link.now).held in
    let xs = c.in_ok-streams.streams.items in
    let vs = c.in_ok-leaves.leaves.items in
    let x = c.in_ok-chunks.chunks in
    let n : length F ≡ length p.leaves.items = length-map p.leaves.items path_view in
    let streams = c.in_ok-streams.ensures.begun held F (omega (arith, n, c.len.ensures, p.leaves.ok.0)) in
    let forms = c.in_ok-leaves.ensures.forms ∙ ap batch_forms c.deref.ensures.value in
    let begun = chunks_begin s p held o xs x vs c.args.scan c.rows.result c.new-read.result c.requires.planned streams forms c.in_ok-leaves.ensures.none c.in_ok-leaves.ensures.ends c.requires.scan (c.in_ok-chunks.ensures.begun s) c.in_ok-chunks.ensures.leaves c.rows.ensures.rows c.new-read.ensures in
    let reads = c.in_err-take_chunks.ensures.reads s p o begun in
    reads.paths

pub returns-in_err-take_chunks-clause-link : goal.returns-in_err-take_chunks-clause-link
returns-in_err-take_chunks-clause-link g c =
    let s = schema_view c.args.schema.now in
    let p = c.args.plan.now in
    let F = plan_leaves p in
    let o = c.args.opened.now in
    let held = (g.L.Link.shows c.args.link.now).held in
    let xs = c.in_ok-streams.streams.items in
    let vs = c.in_ok-leaves.leaves.items in
    let x = c.in_ok-chunks.chunks in
    let n : length F ≡ length p.leaves.items = length-map p.leaves.items path_view in
    let streams = c.in_ok-streams.ensures.begun held F (omega (arith, n, c.len.ensures, p.leaves.ok.0)) in
    let forms = c.in_ok-leaves.ensures.forms ∙ ap batch_forms c.deref.ensures.value in
    let begun = chunks_begin s p held o xs x vs c.args.scan c.rows.result c.new-read.result c.requires.planned streams forms c.in_ok-leaves.ensures.none c.in_ok-leaves.ensures.ends c.requires.scan (c.in_ok-chunks.ensures.begun s) c.in_ok-chunks.ensures.leaves c.rows.ensures.rows c.new-read.ensures in
    let reads = c.in_err-take_chunks.ensures.reads s p o begun in
    same_fault_leaves _ c.in_err-take_chunks.field-0.0 _ _ _ c.from_residual-in_err-take_chunks.ensures.1 reads.link

pub returns-in-All-clause-partial : goal.returns-in-All-clause-partial
returns-in-All-clause-partial g c =
    let s = schema_view c.args.schema.now in
    let p = c.args.plan.now in
    let F = plan_leaves p in
    let o = c.args.opened.now in
    let held = (g.L.Link.shows c.args.link.now).held in
    let xs = c.in_ok-streams.streams.items in
    let vs = c.in_ok-leaves.leaves.items in
    let x = c.in_ok-chunks.chunks in
    let n : length F ≡ length p.leaves.items = length-map p.leaves.items path_view in
    let streams = c.in_ok-streams.ensures.begun held F (omega (arith, n, c.len.ensures, p.leaves.ok.0)) in
    let forms = c.in_ok-leaves.ensures.forms ∙ ap batch_forms c.deref.ensures.value in
    let begun = chunks_begin s p held o xs x vs c.args.scan c.rows.result c.new-read.result c.requires.planned streams forms c.in_ok-leaves.ensures.none c.in_ok-leaves.ensures.ends c.requires.scan (c.in_ok-chunks.ensures.begun s) c.in_ok-chunks.ensures.leaves c.rows.ensures.rows c.new-read.ensures in
    let new = c.take_chunks.new in
    let w = subst (λ (e : End). GoesOrEnds s p held o new.streams.items new.chunks new.read (Some e)) c.in-All.is (c.in_ok-take_chunks.ensures.ends s p o begun) in
    let at = w.0 in
    all_chunks s p held o at.given at.records new.streams.items new.chunks _ at.streams at.taken at.of_streams w.1
    (c.taken.ensures ∙ given_counted (length F) at.given new.read (λ i l. at.taken.behind.past i (let m = paths_count p in omega (arith, m, l))) at.count)
    (c.close.ensures.partial s p (rows_of o) at.given at.records at.taken) (c.close.ensures.of_plan s p (rows_of o) at.given at.records at.taken)

pub returns-in-All-clause-asked : goal.returns-in-All-clause-asked
returns-in-All-clause-asked g c =
    let s = schema_view c.args.schema.now in
    let p = c.args.plan.now in
    let F = plan_leaves p in
    let o = c.args.opened.now in
    let held = (g.L.Link.shows c.args.link.now).held in
    let xs = c.in_ok-streams.streams.items in
    let vs = c.in_ok-leaves.leaves.items in
    let x = c.in_ok-chunks.chunks in
    let n : length F ≡ length p.leaves.items = length-map p.leaves.items path_view in
    let streams = c.in_ok-streams.ensures.begun held F (omega (arith, n, c.len.ensures, p.leaves.ok.0)) in
    let forms = c.in_ok-leaves.ensures.forms ∙ ap batch_forms c.deref.ensures.value in
    let begun = chunks_begin s p held o xs x vs c.args.scan c.rows.result c.new-read.result c.requires.planned streams forms c.in_ok-leaves.ensures.none c.in_ok-leaves.ensures.ends c.requires.scan (c.in_ok-chunks.ensures.begun s) c.in_ok-chunks.ensures.leaves c.rows.ensures.rows c.new-read.ensures in
    let reads = c.in_ok-take_chunks.ensures.reads s p o begun in
    reads.asked

pub returns-in-All-clause-paths : goal.returns-in-All-clause-paths
returns-in-All-clause-paths g c =
    let s = schema_view c.args.schema.now in
    let p = c.args.plan.now in
    let F = plan_leaves p in
    let o = c.args.opened.now in
    let held = (g.L.Link.shows c.args.link.now).held in
    let xs = c.in_ok-streams.streams.items in
    let vs = c.in_ok-leaves.leaves.items in
    let x = c.in_ok-chunks.chunks in
    let n : length F ≡ length p.leaves.items = length-map p.leaves.items path_view in
    let streams = c.in_ok-streams.ensures.begun held F (omega (arith, n, c.len.ensures, p.leaves.ok.0)) in
    let forms = c.in_ok-leaves.ensures.forms ∙ ap batch_forms c.deref.ensures.value in
    let begun = chunks_begin s p held o xs x vs c.args.scan c.rows.result c.new-read.result c.requires.planned streams forms c.in_ok-leaves.ensures.none c.in_ok-leaves.ensures.ends c.requires.scan (c.in_ok-chunks.ensures.begun s) c.in_ok-chunks.ensures.leaves c.rows.ensures.rows c.new-read.ensures in
    let reads = c.in_ok-take_chunks.ensures.reads s p o begun in
    reads.paths

pub returns-in-All-clause-link : goal.returns-in-All-clause-link
returns-in-All-clause-link g c =
    let s = schema_view c.args.schema.now in
    let p = c.args.plan.now in
    let F = plan_leaves p in
    let o = c.args.opened.now in
    let held = (g.L.Link.shows c.args.link.now).held in
    let xs = c.in_ok-streams.streams.items in
    let vs = c.in_ok-leaves.leaves.items in
    let x = c.in_ok-chunks.chunks in
    let n : length F ≡ length p.leaves.items = length-map p.leaves.items path_view in
    let streams = c.in_ok-streams.ensures.begun held F (omega (arith, n, c.len.ensures, p.leaves.ok.0)) in
    let forms = c.in_ok-leaves.ensures.forms ∙ ap batch_forms c.deref.ensures.value in
    let begun = chunks_begin s p held o xs x vs c.args.scan c.rows.result c.new-read.result c.requires.planned streams forms c.in_ok-leaves.ensures.none c.in_ok-leaves.ensures.ends c.requires.scan (c.in_ok-chunks.ensures.begun s) c.in_ok-chunks.ensures.leaves c.rows.ensures.rows c.new-read.ensures in
    let reads = c.in_ok-take_chunks.ensures.reads s p o begun in
    value_leaves c.in_ok-take_chunks.field-0 _ _ _ _ reads.link

pub rest_of-requires : goal.rest_of-requires
rest_of-requires g c =
    let s = schema_view c.args.schema.now in
    let p = c.args.plan.now in
    let F = plan_leaves p in
    let o = c.args.opened.now in
    let held = (g.L.Link.shows c.args.link.now).held in
    let xs = c.in_ok-streams.streams.items in
    let vs = c.in_ok-leaves.leaves.items in
    let x = c.in_ok-chunks.chunks in
    let n : length F ≡ length p.leaves.items = length-map p.leaves.items path_view in
    let streams = c.in_ok-streams.ensures.begun held F (omega (arith, n, c.len.ensures, p.leaves.ok.0)) in
    let forms = c.in_ok-leaves.ensures.forms ∙ ap batch_forms c.deref.ensures.value in
    let begun = chunks_begin s p held o xs x vs c.args.scan c.rows.result c.new-read.result c.requires.planned streams forms c.in_ok-leaves.ensures.none c.in_ok-leaves.ensures.ends c.requires.scan (c.in_ok-chunks.ensures.begun s) c.in_ok-chunks.ensures.leaves c.rows.ensures.rows c.new-read.ensures in
    let new = c.take_chunks.new in
    let w = subst (λ (e : End). GoesOrEnds s p held o new.streams.items new.chunks new.read (Some e)) c.in-Long.is (c.in_ok-take_chunks.ensures.ends s p o begun) in
    let at = w.0 in
    at.of_streams.forms

pub returns-in_err-rest-in-Long-clause-asked : goal.returns-in_err-rest-in-Long-clause-asked
returns-in_err-rest-in-Long-clause-asked g c =
    let s = schema_view c.args.schema.now in
    let p = c.args.plan.now in
    let F = plan_leaves p in
    let o = c.args.opened.now in
    let held = (g.L.Link.shows c.args.link.now).held in
    let xs = c.in_ok-streams.streams.items in
    let vs = c.in_ok-leaves.leaves.items in
    let x = c.in_ok-chunks.chunks in
    let n : length F ≡ length p.leaves.items = length-map p.leaves.items path_view in
    let streams = c.in_ok-streams.ensures.begun held F (omega (arith, n, c.len.ensures, p.leaves.ok.0)) in
    let forms = c.in_ok-leaves.ensures.forms ∙ ap batch_forms c.deref.ensures.value in
    let begun = chunks_begin s p held o xs x vs c.args.scan c.rows.result c.new-read.result c.requires.planned streams forms c.in_ok-leaves.ensures.none c.in_ok-leaves.ensures.ends c.requires.scan (c.in_ok-chunks.ensures.begun s) c.in_ok-chunks.ensures.leaves c.rows.ensures.rows c.new-read.ensures in
    let reads = c.in_ok-take_chunks.ensures.reads s p o begun in
    reads.asked

pub returns-in_err-rest-in-Long-clause-paths : goal.returns-in_err-rest-in-Long-clause-paths
returns-in_err-rest-in-Long-clause-paths g c =
    let s = schema_view c.args.schema.now in
    let p = c.args.plan.now in
    let F = plan_leaves p in
    let o = c.args.opened.now in
    let held = (g.L.Link.shows c.args.link.now).held in
    let xs = c.in_ok-streams.streams.items in
    let vs = c.in_ok-leaves.leaves.items in
    let x = c.in_ok-chunks.chunks in
    let n : length F ≡ length p.leaves.items = length-map p.leaves.items path_view in
    let streams = c.in_ok-streams.ensures.begun held F (omega (arith, n, c.len.ensures, p.leaves.ok.0)) in
    let forms = c.in_ok-leaves.ensures.forms ∙ ap batch_forms c.deref.ensures.value in
    let begun = chunks_begin s p held o xs x vs c.args.scan c.rows.result c.new-read.result c.requires.planned streams forms c.in_ok-leaves.ensures.none c.in_ok-leaves.ensures.ends c.requires.scan (c.in_ok-chunks.ensures.begun s) c.in_ok-chunks.ensures.leaves c.rows.ensures.rows c.new-read.ensures in
    let reads = c.in_ok-take_chunks.ensures.reads s p o begun in
    reads.paths

pub returns-in_err-rest-in-Long-clause-link : goal.returns-in_err-rest-in-Long-clause-link
returns-in_err-rest-in-Long-clause-link g c =
    let s = schema_view c.args.schema.now in
    let p = c.args.plan.now in
    let F = plan_leaves p in
    let o = c.args.opened.now in
    let held = (g.L.Link.shows c.args.link.now).held in
    let xs = c.in_ok-streams.streams.items in
    let vs = c.in_ok-leaves.leaves.items in
    let x = c.in_ok-chunks.chunks in
    let n : length F ≡ length p.leaves.items = length-map p.leaves.items path_view in
    let streams = c.in_ok-streams.ensures.begun held F (omega (arith, n, c.len.ensures, p.leaves.ok.0)) in
    let forms = c.in_ok-leaves.ensures.forms ∙ ap batch_forms c.deref.ensures.value in
    let begun = chunks_begin s p held o xs x vs c.args.scan c.rows.result c.new-read.result c.requires.planned streams forms c.in_ok-leaves.ensures.none c.in_ok-leaves.ensures.ends c.requires.scan (c.in_ok-chunks.ensures.begun s) c.in_ok-chunks.ensures.leaves c.rows.ensures.rows c.new-read.ensures in
    let reads = c.in_ok-take_chunks.ensures.reads s p o begun in
    let before = g.L.Link.shows c.args.link.now in
    let after = g.L.Link.shows c.take_chunks.new.link in
    same_fault_leaves {A = End} _ FileFault.NoMemory (ServesOpened before o) before after c.from_residual-in_err-rest-in-Long.ensures.1 (refused_leaves c.in_ok-take_chunks.field-0 FileFault.NoMemory (ServesOpened before o) before after refl reads.link)

pub partial_of_rest-requires-clause-rest : goal.partial_of_rest-requires-clause-rest
partial_of_rest-requires-clause-rest g c =
    let s = schema_view c.args.schema.now in
    let p = c.args.plan.now in
    let F = plan_leaves p in
    let o = c.args.opened.now in
    let held = (g.L.Link.shows c.args.link.now).held in
    let xs = c.in_ok-streams.streams.items in
    let vs = c.in_ok-leaves.leaves.items in
    let x = c.in_ok-chunks.chunks in
    let n : length F ≡ length p.leaves.items = length-map p.leaves.items path_view in
    let streams = c.in_ok-streams.ensures.begun held F (omega (arith, n, c.len.ensures, p.leaves.ok.0)) in
    let forms = c.in_ok-leaves.ensures.forms ∙ ap batch_forms c.deref.ensures.value in
    let begun = chunks_begin s p held o xs x vs c.args.scan c.rows.result c.new-read.result c.requires.planned streams forms c.in_ok-leaves.ensures.none c.in_ok-leaves.ensures.ends c.requires.scan (c.in_ok-chunks.ensures.begun s) c.in_ok-chunks.ensures.leaves c.rows.ensures.rows c.new-read.ensures in
    let reads = c.in_ok-take_chunks.ensures.reads s p o begun in
    let new = c.take_chunks.new in
    let w = subst (λ (e : End). GoesOrEnds s p held o new.streams.items new.chunks new.read (Some e)) c.in-Long.is (c.in_ok-take_chunks.ensures.ends s p o begun) in
    let at = w.0 in
    subst (λ (h : Option Files). IsRestOf s p h o c.in_ok-rest-in-Long.rest) (sym reads.link.same)
    (c.in_ok-rest-in-Long.ensures s p held o at.given at.records at.streams at.taken at.of_streams at.count w.1)

pub returns-in_ok-rest-in-Long-clause-partial : goal.returns-in_ok-rest-in-Long-clause-partial
returns-in_ok-rest-in-Long-clause-partial g c =
    let s = schema_view c.args.schema.now in
    let p = c.args.plan.now in
    let F = plan_leaves p in
    let o = c.args.opened.now in
    let held = (g.L.Link.shows c.args.link.now).held in
    let xs = c.in_ok-streams.streams.items in
    let vs = c.in_ok-leaves.leaves.items in
    let x = c.in_ok-chunks.chunks in
    let n : length F ≡ length p.leaves.items = length-map p.leaves.items path_view in
    let streams = c.in_ok-streams.ensures.begun held F (omega (arith, n, c.len.ensures, p.leaves.ok.0)) in
    let forms = c.in_ok-leaves.ensures.forms ∙ ap batch_forms c.deref.ensures.value in
    let begun = chunks_begin s p held o xs x vs c.args.scan c.rows.result c.new-read.result c.requires.planned streams forms c.in_ok-leaves.ensures.none c.in_ok-leaves.ensures.ends c.requires.scan (c.in_ok-chunks.ensures.begun s) c.in_ok-chunks.ensures.leaves c.rows.ensures.rows c.new-read.ensures in
    let reads = c.in_ok-take_chunks.ensures.reads s p o begun in
    subst (λ (h : Option Files). IfOk c.partial_of_rest.result (IsOfOpened s p h o)) reads.link.same c.partial_of_rest.ensures.partial

pub returns-in_ok-rest-in-Long-clause-cause : goal.returns-in_ok-rest-in-Long-clause-cause
returns-in_ok-rest-in-Long-clause-cause g c = λ bytes told.
    let s = schema_view c.args.schema.now in
    let p = c.args.plan.now in
    let F = plan_leaves p in
    let o = c.args.opened.now in
    let held = (g.L.Link.shows c.args.link.now).held in
    let xs = c.in_ok-streams.streams.items in
    let vs = c.in_ok-leaves.leaves.items in
    let x = c.in_ok-chunks.chunks in
    let n : length F ≡ length p.leaves.items = length-map p.leaves.items path_view in
    let streams = c.in_ok-streams.ensures.begun held F (omega (arith, n, c.len.ensures, p.leaves.ok.0)) in
    let forms = c.in_ok-leaves.ensures.forms ∙ ap batch_forms c.deref.ensures.value in
    let begun = chunks_begin s p held o xs x vs c.args.scan c.rows.result c.new-read.result c.requires.planned streams forms c.in_ok-leaves.ensures.none c.in_ok-leaves.ensures.ends c.requires.scan (c.in_ok-chunks.ensures.begun s) c.in_ok-chunks.ensures.leaves c.rows.ensures.rows c.new-read.ensures in
    let reads = c.in_ok-take_chunks.ensures.reads s p o begun in
    c.partial_of_rest.ensures.cause bytes (still_told held (g.L.Link.shows c.take_chunks.new.link).held o F bytes reads.link.same told)

pub returns-in_ok-rest-in-Long-clause-asked : goal.returns-in_ok-rest-in-Long-clause-asked
returns-in_ok-rest-in-Long-clause-asked g c = λ bytes f told e.
    let s = schema_view c.args.schema.now in
    let p = c.args.plan.now in
    let F = plan_leaves p in
    let o = c.args.opened.now in
    let held = (g.L.Link.shows c.args.link.now).held in
    let xs = c.in_ok-streams.streams.items in
    let vs = c.in_ok-leaves.leaves.items in
    let x = c.in_ok-chunks.chunks in
    let n : length F ≡ length p.leaves.items = length-map p.leaves.items path_view in
    let streams = c.in_ok-streams.ensures.begun held F (omega (arith, n, c.len.ensures, p.leaves.ok.0)) in
    let forms = c.in_ok-leaves.ensures.forms ∙ ap batch_forms c.deref.ensures.value in
    let begun = chunks_begin s p held o xs x vs c.args.scan c.rows.result c.new-read.result c.requires.planned streams forms c.in_ok-leaves.ensures.none c.in_ok-leaves.ensures.ends c.requires.scan (c.in_ok-chunks.ensures.begun s) c.in_ok-chunks.ensures.leaves c.rows.ensures.rows c.new-read.ensures in
    let reads = c.in_ok-take_chunks.ensures.reads s p o begun in
    asks_then (is_read_inside (path_of o) (flat_map (leaf_ranges f) (leaves_read f F))) _ _ _ (reads.asked bytes f told e)
    (c.partial_of_rest.ensures.asked bytes f (still_told held (g.L.Link.shows c.take_chunks.new.link).held o F bytes reads.link.same told) e)

pub returns-in_ok-rest-in-Long-clause-paths : goal.returns-in_ok-rest-in-Long-clause-paths
returns-in_ok-rest-in-Long-clause-paths g c =
    let s = schema_view c.args.schema.now in
    let p = c.args.plan.now in
    let F = plan_leaves p in
    let o = c.args.opened.now in
    let held = (g.L.Link.shows c.args.link.now).held in
    let xs = c.in_ok-streams.streams.items in
    let vs = c.in_ok-leaves.leaves.items in
    let x = c.in_ok-chunks.chunks in
    let n : length F ≡ length p.leaves.items = length-map p.leaves.items path_view in
    let streams = c.in_ok-streams.ensures.begun held F (omega (arith, n, c.len.ensures, p.leaves.ok.0)) in
    let forms = c.in_ok-leaves.ensures.forms ∙ ap batch_forms c.deref.ensures.value in
    let begun = chunks_begin s p held o xs x vs c.args.scan c.rows.result c.new-read.result c.requires.planned streams forms c.in_ok-leaves.ensures.none c.in_ok-leaves.ensures.ends c.requires.scan (c.in_ok-chunks.ensures.begun s) c.in_ok-chunks.ensures.leaves c.rows.ensures.rows c.new-read.ensures in
    let reads = c.in_ok-take_chunks.ensures.reads s p o begun in
    asks_then (is_for_path (path_of o)) _ _ _ reads.paths c.partial_of_rest.ensures.paths

pub returns-in_ok-rest-in-Long-clause-link : goal.returns-in_ok-rest-in-Long-clause-link
returns-in_ok-rest-in-Long-clause-link g c =
    let s = schema_view c.args.schema.now in
    let p = c.args.plan.now in
    let F = plan_leaves p in
    let o = c.args.opened.now in
    let held = (g.L.Link.shows c.args.link.now).held in
    let xs = c.in_ok-streams.streams.items in
    let vs = c.in_ok-leaves.leaves.items in
    let x = c.in_ok-chunks.chunks in
    let n : length F ≡ length p.leaves.items = length-map p.leaves.items path_view in
    let streams = c.in_ok-streams.ensures.begun held F (omega (arith, n, c.len.ensures, p.leaves.ok.0)) in
    let forms = c.in_ok-leaves.ensures.forms ∙ ap batch_forms c.deref.ensures.value in
    let begun = chunks_begin s p held o xs x vs c.args.scan c.rows.result c.new-read.result c.requires.planned streams forms c.in_ok-leaves.ensures.none c.in_ok-leaves.ensures.ends c.requires.scan (c.in_ok-chunks.ensures.begun s) c.in_ok-chunks.ensures.leaves c.rows.ensures.rows c.new-read.ensures in
    let reads = c.in_ok-take_chunks.ensures.reads s p o begun in
    let before = g.L.Link.shows c.args.link.now in
    let between = g.L.Link.shows c.take_chunks.new.link in
    then_leaves c.in_ok-take_chunks.field-0 _ (ServesOpened before o) (ServesOpened between o) before between _ reads.link (λ bytes k. still_serves o before between bytes reads.link.same reads.link.stays_steady k) c.partial_of_rest.ensures.link
