use Rattle.std.proofs.Common.{◌∙◌, List, Bool, map, length, ap, false}
use Rattle.std.proofs.lemmas.List.{length-map}
use Rattle.dr_meaning.specs.Column.{Triplet}
use Rattle.dr_levels.specs.Views.{triplets_view}
use Rattle.dr_beside.specs.Neighbours.{column_at}
use Rattle.dr_beside.specs.Spreading.{repetitions_of}
use Rattle.dr_rows_beside.specs.KeptBits.{bits_of, common_at}
use Rattle.dr_rows_beside.proofs.KeepingLemmas.{spread_long}
use Rattle.dr_columns.proofs.kept_sourcing.take_kept_fired.Goals as goal

pub take_kept_source-requires-clause-bits : goal.take_kept_source-requires-clause-bits
take_kept_source-requires-clause-bits c =
    let C = map triplets_view c.args.columns.now in
    let k = c.args.keeping.now in
    let leaf = c.args.fired.now.source.leaf in
    ap (λ (bs : List Bool). length bs) (c.deref.ensures.value ∙ c.in_ok-sift.ensures)
    ∙ spread_long (common_at k leaf) false (bits_of C k.own k.others.items (common_at k leaf)) (repetitions_of (column_at C leaf))
    ∙ length-map (column_at C leaf) (λ (t : Triplet). t.repetition)
