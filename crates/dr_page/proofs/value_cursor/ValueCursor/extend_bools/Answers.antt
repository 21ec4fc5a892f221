use Rattle.std.proofs.Common.{map}
use Rattle.dr_meaning.specs.Record.{bool_value}
use Rattle.dr_levels.specs.Views.{column_view}
use Rattle.dr_page.proofs.ValueSteps.{longer_by}
use Rattle.dr_page.proofs.value_cursor.ValueCursor.extend_bools.Goals as goal

pub returns-clause-longer : goal.returns-clause-longer
returns-clause-longer c =
    longer_by c.args.out.now.greatest c.args.pairs.now (map bool_value c.deref.result.now) (column_view c.args.out.now) (column_view c.extend_bools.new.self) c.in_ok-extend_bools.ensures.triplets
