use Rattle.std.proofs.Common.{sym, subst, arith}
use Rattle.dr_nested.specs.PathView.{path_view}
use Rattle.dr_striper.specs.Striping.{leaf_form}
use Rattle.dr_striper.specs.Lent.{Lends}
use Rattle.dr_striper.specs.Views.{nulls, twigs_view, shapes_view}
use Rattle.dr_striper.proofs.LentLemmas.{lends_at}
use Rattle.dr_striper.proofs.copying.copy_columns.Goals as goal

pub copy_field-requires : goal.copy_field-requires
copy_field-requires c =
    let L = nulls c.args.levels.now in
    let ss = shapes_view c.args.branches.now in
    let bs = twigs_view c.args.branches.now in
    record {
      lends = subst (λ m. Lends (path_view m).path (leaf_form (path_view m)) L ss bs) (sym c.index-fields-number.is)
          (lends_at c.fields.number c.args.fields.now c.index-fields-number.result L ss bs (omega (arith, c.fields-test.true, c.fields.auto.number-end)) c.requires.lends);
    }
