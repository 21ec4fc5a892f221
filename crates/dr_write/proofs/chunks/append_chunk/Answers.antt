use Rattle.std.proofs.Common.{◌∙◌}
use Rattle.dr_levels.specs.Views.{column_form, triplets_view, triplets_form}
use Rattle.dr_page.specs.Views.{page_form_view}
use Rattle.dr_write.proofs.ChunkLemmas.{writable_front, writable_rest, page_joins}
use Rattle.dr_write.proofs.chunks.append_chunk.Goals as goal

pub append-requires-clause-writable : goal.append-requires-clause-writable
append-requires-clause-writable c =
    writable_front (triplets_form c.split_at.result.0) (column_form c.args.column.now) c.args.max_repetition c.page_length.result (triplets_view c.pages.rest) (triplets_view c.split_at.result.0)
    (c.split_at.ensures.front_form ∙ c.pages.invariant.1) c.split_at.ensures.front c.pages.invariant.2

pub pages-preserved : goal.pages-preserved
pages-preserved c = (
  page_joins (page_form_view c.args.form) (triplets_form c.split_at.result.0) (triplets_form c.pages.rest) (column_form c.args.column.now) c.args.max_repetition c.page_length.result c.pages.out.items c.append.new.out.items _
      (triplets_view c.pages.rest) (triplets_view c.split_at.result.0) (triplets_view c.split_at.result.1)
      c.split_at.ensures.front_form c.pages.invariant.1 c.split_at.ensures.front c.split_at.ensures.back c.in_ok-append.ensures c.page_length.ensures.page c.pages.invariant.0,
  c.split_at.ensures.back_form ∙ c.pages.invariant.1,
  writable_rest (column_form c.args.column.now) c.args.max_repetition c.page_length.result (triplets_view c.pages.rest) (triplets_view c.split_at.result.1) c.split_at.ensures.back c.pages.invariant.2,
)
