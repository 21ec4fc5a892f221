use Rattle.dr_levels.specs.Dense.{text_values}
use Rattle.dr_levels.specs.Views.{column_view}
use Rattle.dr_page.proofs.ValueSteps.{longer_by}
use Rattle.dr_page.proofs.value_cursor.ValueCursor.extend_texts.Goals as goal

pub returns-clause-longer : goal.returns-clause-longer
returns-clause-longer c =
    longer_by c.args.out.now.greatest c.args.pairs.now (text_values c.in_ok-texts.texts.now c.deref.result.now) (column_view c.args.out.now) (column_view c.extend_texts.new.self) c.in_ok-extend_texts.ensures.triplets
