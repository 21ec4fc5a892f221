use Rattle.std.proofs.Common.{refl}
use Rattle.dr_levels.specs.Views.{column_view}
use Rattle.dr_columns.proofs.StepLemmas.{lent_now}
use Rattle.dr_columns.proofs.chunks.Chunks.lend.Goals as goal

pub returns-clause-lent : goal.returns-clause-lent
returns-clause-lent c =
    let e = c.lend.ensures in
    lent_now c.args.self.now c.args.leaf c.index_mut.result.now c.lend.new.self _ (column_view c.lend.new.out) c.lend.result c.requires.within c.index_mut.ensures.value refl e.column e.kept e.lent e.ended e.form
