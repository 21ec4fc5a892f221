-- What is put of a chunk of records, source by source, where all records are kept.
use Rattle.std.proofs.Common.{◌≡◌, List, [], ◌∷◌, ◌++◌, None, refl, sym, ap, ◌∙◌}
use Rattle.std.specs.List.{filter_map, flat_map}
use Rattle.dr_meaning.specs.Record.{Node}
use Rattle.dr_meaning.specs.Rows.{rows}
use Rattle.dr_meaning.specs.Expression.{longest_chain}
use Rattle.dr_meaning.specs.Kept.{kept}
use Rattle.dr_meaning.specs.Query.{groups, Query}
use Rattle.dr_partials.specs.Partials.{Partial}
use Rattle.dr_partials.specs.PartialTypes.{aggregates_among}
use Rattle.dr_partials.specs.Putting.{Put, put_all, puts_of_selection, puts_of}
use Rattle.dr_partials.specs.Readings.{Reading, readings_of, puts_of_reading, puts_of_groups}
use Rattle.dr_partials.specs.SourcesPut.{puts_of_sources}
use Rattle.dr_partials.specs.ChunkPuts.{query_of_all, ChunksAreTaken}
use Rattle.dr_partials.proofs.TogetherLemmas.{both_same, puts_of_both}
use Rattle.dr_partials.proofs.ReadingLemmas.{terms_are_readings}
use Rattle.dr_partials.proofs.SourcePutLemmas.{sources_put_all}

all_kept : (ns : List Node) → filter_map (kept None) ns ≡ ns
all_kept [] = refl
all_kept (n ∷ ns) = ap (λ (ms : List Node). n ∷ ms) (all_kept ns)

pub chunks_are_taken : ChunksAreTaken
chunks_are_taken keys items at ks R S x d h =
    let q : Query = query_of_all keys items in
    let f : Reading → List Put = puts_of_reading keys S in
    let xs : List Reading = readings_of keys 0 (aggregates_among items) in
    let gs : List Put = puts_of_groups keys (flat_map (rows (longest_chain keys)) S) in
    let y : Partial = put_all q (puts_of q R) x in
    both_same q gs gs (puts_of_sources f at xs ks) (flat_map f xs) (λ (z : Partial). refl) (sources_put_all q f at ks xs d h) y
    ∙ (ap (λ (ps : List Put). put_all q (gs ++ ps) y) (sym (terms_are_readings keys 0 (aggregates_among items) S))
    ∙ (ap (λ (ns : List Node). put_all q (puts_of_selection (groups keys items) ns) y) (sym (all_kept S)) ∙ sym (puts_of_both q R S x)))
