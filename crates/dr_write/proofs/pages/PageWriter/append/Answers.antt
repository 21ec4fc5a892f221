use Rattle.std.proofs.Common.{◌≡◌, ◌∙◌, ◌++◌, ap, arith, length}
use Rattle.dr_levels.specs.Views.{triplets_view, triplets_form}
use Rattle.dr_compact.specs.Views.{tree_view}
use Rattle.dr_meta.specs.Views.{page_view}
use Rattle.dr_page.specs.Views.{page_form_view}
use Rattle.dr_write.proofs.HeadLemmas.{page_written}
use Rattle.dr_write.proofs.pages.PageWriter.append.Goals as goal

pub returns : goal.returns
returns c =
    let ts = c.args.triplets in
    let f = triplets_form ts in
    let body = c.write.new.out in
    let size : c.len.result ≡ length body.items = omega (arith, c.len.ensures, body.ok.0) in
    page_written (page_form_view c.args.form) f.kind c.args.max_repetition f.greatest (triplets_view ts) (tree_view c.in_ok-tree.tree) (page_view c.in_ok-head.head) c.len.result
    c.clear.new.self.items body.items c.args.out.now.items c.write_struct.new.out.items c.extend_from_slice.new.self.items c.clear.ensures.items c.in_ok-lengths.ensures.written size
    (c.in_ok-head.ensures c.args.max_repetition c.in_ok-lengths.ensures.lengths) c.in_ok-tree.ensures c.in_ok-write_struct.ensures.written
    (c.in_ok-extend_from_slice.ensures.items ∙ ap (λ xs. c.write_struct.new.out.items ++ xs) c.deref.ensures.value)
