use Rattle.std.proofs.Common.{◌≡◌, ◌++◌, length, true}
use Rattle.std.specs.List.{list_all}
use Rattle.dr_formats.specs.Page.{is_triplet}
use Rattle.dr_levels.specs.Views.{column_view, column_form, triplets_view, triplets_form}
use Rattle.dr_page.specs.Views.{page_form_view}
use Rattle.dr_write.specs.Chunks.{chunk_of}
use Rattle.dr_write.proofs.chunks.append_chunk.Given as goal

-- the pages of the triplets that are left are still to join
abbrev pub invariant-pages : goal.invariant-pages
invariant-pages l =
    (l.out.items ++ chunk_of (page_form_view l.form) (column_form l.column).kind l.max_repetition (column_form l.column).greatest (triplets_view l.rest)
    ≡ l.initial.out.items ++ chunk_of (page_form_view l.form) (column_form l.column).kind l.max_repetition (column_form l.column).greatest (column_view l.column))
    × (triplets_form l.rest ≡ column_form l.column)
    × (list_all (is_triplet (column_form l.column).kind l.max_repetition (column_form l.column).greatest) (triplets_view l.rest) ≡ true)

abbrev pub decreases-pages : goal.decreases-pages
decreases-pages l = length (triplets_view l.rest)
