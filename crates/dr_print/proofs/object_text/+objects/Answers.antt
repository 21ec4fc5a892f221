use Rattle.std.proofs.Common.{◌≡◌, ◌+◌, ◌++◌, ◌∙◌, ap, false, String, Global, sym, map, drop, string_bytes, arith, length, get_or, List, nat_eq, not, vec_len, ℕ}
use Rattle.std.proofs.lemmas.List.{length-map}
use Rattle.dr_cells.specs.Results.{ResultCell, read_object, count_lists, list_shape, first_count}
use Rattle.dr_cells.specs.Views.{cells_view}
use Rattle.dr_print.specs.declared.quoted_shape.QuotedShape as shapes
use Rattle.dr_print.specs.declared.quoted_shape.QuotedList as lists
use Rattle.dr_print.specs.Parts.{value_members}
use Rattle.dr_print.specs.Quoted.{quoted_view, quoted_lists_view}
use Rattle.dr_print.proofs.PartLemmas.{not_empty, object_more, object_rest, list_more, times_more, lists_from, count_lists-view}
use Rattle.dr_print.proofs.QuotedLemmas.{view-quoted_of}
use Rattle.dr_print.proofs.object_text.+objects.Goals as goal
use Rattle.dr_meaning.specs.Lists.{comma_if, separated}

pub push_lists-lists-preserved : goal.push_lists-lists-preserved
push_lists-lists-preserved t c =
    let ls = c.args.lists.now.items in
    let k = c.lists.number in
    let l = c.list-item.result in
    let cells : List ResultCell = cells_view c.args.cells.now in
    let e : c.deref-list-items.result.now ≡ ls = c.deref-list-items.ensures.value in
    list_more (quoted_lists_view ls) (quoted_lists_view (drop k ls)) c.as_str.result.now (quoted_view (lists.out-QuotedList l).shape) (quoted_lists_view (drop (k + 1) ls)) (drop c.args.counts cells) k c.count_at-count.result
    (drop c.args.at cells) (drop c.lists.inner cells) (drop c.in_ok-inner.inner cells) c.args.behind (string_bytes c.args.text.now) (string_bytes c.lists.text)
    (string_bytes c.push_comma.new.text) (string_bytes c.push_str.new.self) (string_bytes c.push_str-in-lists.new.self) (string_bytes c.push_objects.new.text) (string_bytes c.push_str-in-lists-2.new.self)
    (lists_from ls k l (omega (arith, ap length e)) (c.list-item.is ∙ ap (λ (xs : List lists.QuotedList). get_or xs k l) e)
    ∙ ap (λ (n : List ℕ). list_shape n (quoted_view (lists.out-QuotedList l).shape) (quoted_lists_view (drop (k + 1) ls))) (sym c.as_str.ensures.value))
    (c.count_at-count.ensures ∙ ap first_count c.skip.ensures)
    c.in_ok-inner.ensures.place
    (c.in_ok-push_comma.ensures ∙ ap (λ b. string_bytes c.lists.text ++ comma_if b) c.stands_before.ensures)
    c.in_ok-push_str.ensures.bytes c.in_ok-push_str-2.ensures.bytes c.in_ok-inner.ensures.text c.in_ok-push_str-3.ensures.bytes c.lists.invariant

pub push_object-returns-clause-text : goal.push_object-returns-clause-text
push_object-returns-clause-text t c =
    let s = c.args.shape.now in
    let o = shapes.out-QuotedShape s in
    let cells : List ResultCell = cells_view c.args.cells.now in
    let names : c.len.result ≡ length (map string_bytes o.names.items) = omega (arith, length-map o.names.items string_bytes, c.len.ensures, o.names.ok.0) in
    let lists : c.len-2.result ≡ count_lists (quoted_lists_view o.lists.items) = omega (arith, count_lists-view o.lists.items, c.len-2.ensures, o.lists.ok.0) in
    let many : vec_len o.names ≡ length (map string_bytes o.names.items) = omega (arith, length-map o.names.items string_bytes, o.names.ok.0) in
    object_more (quoted_view s) (map string_bytes o.names.items) (quoted_lists_view o.lists.items) (drop c.args.at cells) (drop c.skip-counts.result cells) (drop c.skip-inner.result cells) (not c.is_empty-behind.result)
    (string_bytes c.args.text.now) (string_bytes c.push_str.new.self) (string_bytes c.push_values.new.text) (string_bytes c.push_lists.new.text) (string_bytes c.push_str-2.new.self)
    (view-quoted_of s)
    (c.skip-counts.ensures ∙ ap (λ n. drop n (drop c.args.at cells)) names)
    (c.skip-inner.ensures ∙ ap (λ n. drop n (drop c.skip-counts.result cells)) lists)
    (ap not c.is_empty-behind.ensures ∙ ap (λ n. not (nat_eq n 0)) many ∙ not_empty (length (map string_bytes o.names.items)))
    c.in_ok-push_str.ensures.bytes
    (c.in_ok-push_values.ensures ∙ ap (λ (ns : List (String Global)). string_bytes c.push_str.new.self ++ separated false (value_members (map string_bytes ns) (drop c.args.at cells))) c.deref.ensures.value)
    c.in_ok-end.ensures.text
    c.in_ok-push_str-2.ensures.bytes

pub push_object-returns-clause-place : goal.push_object-returns-clause-place
push_object-returns-clause-place t c =
    let s = c.args.shape.now in
    let o = shapes.out-QuotedShape s in
    let cells : List ResultCell = cells_view c.args.cells.now in
    let names : c.len.result ≡ length (map string_bytes o.names.items) = omega (arith, length-map o.names.items string_bytes, c.len.ensures, o.names.ok.0) in
    let lists : c.len-2.result ≡ count_lists (quoted_lists_view o.lists.items) = omega (arith, count_lists-view o.lists.items, c.len-2.ensures, o.lists.ok.0) in
    c.in_ok-end.ensures.place
    ∙ object_rest (quoted_view s) (map string_bytes o.names.items) (quoted_lists_view o.lists.items) (drop c.args.at cells) (drop c.skip-counts.result cells) (drop c.skip-inner.result cells) (view-quoted_of s)
    (c.skip-counts.ensures ∙ ap (λ n. drop n (drop c.args.at cells)) names)
    (c.skip-inner.ensures ∙ ap (λ n. drop n (drop c.skip-counts.result cells)) lists)

pub push_objects-objects-preserved : goal.push_objects-objects-preserved
push_objects-objects-preserved t c =
    let cells : List ResultCell = cells_view c.args.cells.now in
    times_more (read_object (quoted_view c.args.shape.now)) c.args.count c.objects.number (drop c.args.at cells) (drop c.objects.next cells) (drop c.in_ok-next.next cells)
    (string_bytes c.args.text.now) (string_bytes c.objects.text) (string_bytes c.push_comma.new.text) (string_bytes c.push_object.new.text)
    c.objects-test.true c.in_ok-push_comma.ensures c.in_ok-next.ensures.text c.in_ok-next.ensures.place c.objects.invariant
