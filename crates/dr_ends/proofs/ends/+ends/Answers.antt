use Rattle.std.proofs.Common.{◌≡◌, ◌∙◌, ◌<◌, ap, sym, arith, map, drop, take, length, string_bytes, List}
use Rattle.std.proofs.lemmas.List.{length-map, take_all}
use Rattle.dr_cells.specs.Results.{ResultCell, read_object, read_lists, read_times, first_count, count_lists}
use Rattle.dr_cells.specs.Shapes.{shape_view, lists_view}
use Rattle.dr_cells.specs.Views.{cells_view}
use Rattle.dr_cells.specs.declared.shape.Shape as shapes
use Rattle.dr_cells.specs.declared.shape.ListShape as lists
use Rattle.dr_cells.proofs.ShapeLemmas.{view-shape_of}
use Rattle.dr_ends.proofs.EndLemmas.{list_passed, object_passed, object_rest, count_lists-view, shape_at}
use Rattle.dr_ends.proofs.ends.+ends.Goals as goal

pub end_of_lists-lists-preserved : goal.end_of_lists-lists-preserved
end_of_lists-lists-preserved t c =
    let ls = c.args.lists.now.items in
    let k = c.lists.number in
    let l = c.index-list.result.now in
    let cells : List ResultCell = cells_view c.args.cells.now in
    let h : k < length ls = omega (arith, c.lists-test.true, c.min-number-end.ensures, c.len.ensures, c.args.lists.now.ok.0) in
    c.end_of_objects-next.ensures
    ∙ ap (λ n. (read_times (read_object (shape_at l)) n (drop c.lists.next cells)).rest) (c.count_at-count.ensures ∙ ap first_count c.skip.ensures)
    ∙ ap (λ (xs : List ResultCell). (read_times (read_object (shape_at l)) (first_count (drop k (drop c.args.counts cells))) xs).rest) c.lists.invariant
    ∙ sym (list_passed ls (drop c.args.counts cells) (drop c.args.at cells) k l h c.index-list.ensures)

pub end_of_object-returns : goal.end_of_object-returns
end_of_object-returns t c =
    let s = c.args.shape.now in
    let o = shapes.out-Shape s in
    let cells : List ResultCell = cells_view c.args.cells.now in
    let names : c.len.result ≡ length (map string_bytes o.names.items) = omega (arith, length-map o.names.items string_bytes, c.len.ensures, o.names.ok.0) in
    let counted : c.len-2.result ≡ count_lists (lists_view o.lists.items) = omega (arith, count_lists-view o.lists.items, c.len-2.ensures, o.lists.ok.0) in
    let all : take c.len-3.result o.lists.items ≡ o.lists.items = take_all c.len-3.result o.lists.items (omega (arith, c.len-3.ensures, o.lists.ok.0)) in
    c.end_of_lists.ensures
    ∙ ap (λ (ls : List lists.ListShape). (read_lists (lists_view ls) (drop c.skip-counts.result cells) (drop c.skip-inner.result cells)).rest) all
    ∙ object_rest (shape_view s) (map string_bytes o.names.items) (lists_view o.lists.items) (drop c.args.at cells) (drop c.skip-counts.result cells) (drop c.skip-inner.result cells) (view-shape_of s)
    (c.skip-counts.ensures ∙ ap (λ n. drop n (drop c.args.at cells)) names)
    (c.skip-inner.ensures ∙ ap (λ n. drop n (drop c.skip-counts.result cells)) counted)

pub end_of_objects-objects-preserved : goal.end_of_objects-objects-preserved
end_of_objects-objects-preserved t c =
    let s = shape_view c.args.shape.now in
    let cells : List ResultCell = cells_view c.args.cells.now in
    c.end_of_object-next.ensures
    ∙ ap (λ (xs : List ResultCell). (read_object s xs).rest) c.objects.invariant
    ∙ sym (object_passed (read_object s) c.objects.counter (drop c.args.at cells))
