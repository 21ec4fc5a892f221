use Rattle.std.proofs.Common.{◌∙◌, arith, refl}
use Rattle.dr_levels.specs.Views.{triplets_form}
use Rattle.dr_agreement.proofs.OutlinedLemmas.{column_of}
use Rattle.dr_rows_beside.proofs.PlaceLemmas.{whole_column, texts_of_kind}
use Rattle.dr_rows_beside.proofs.place.Place.new.Goals as goal

pub invariant_of-result : goal.invariant_of-result
invariant_of-result c =
    let t = c.index-columns-leaf.result in
    record {
      within = omega arith;
      counted = refl;
      dense = (whole_column t c.greatest_definition.result c.levels.result.now c.values.result c.greatest_definition.ensures c.levels.ensures c.values.ensures.values).0;
      texts = texts_of_kind (triplets_form t).kind c.values.result c.values.ensures.kind;
    }

pub returns-clause-left : goal.returns-clause-left
returns-clause-left c =
    let t = c.index-columns-leaf.result in
    (whole_column t c.greatest_definition.result c.levels.result.now c.values.result c.greatest_definition.ensures c.levels.ensures c.values.ensures.values).1
    ∙ column_of c.args.columns.now c.args.leaf t c.requires c.index-columns-leaf.is
