use Rattle.dr_levels.specs.Views.{move_view}
use Rattle.dr_within.proofs.RowLemmas.{read_more}
use Rattle.dr_within.proofs.row.Row.keep.Goals as goal

pub returns-clause-reads : goal.returns-clause-reads
returns-clause-reads c = λ n ms h o. let k = c.keep_value.ensures in read_more n ms (move_view c.args.read.now) c.args.self.now (record { slots = c.keep_value.new.slots; key = c.args.self.now.key }) h o k.as_many k.here k.enter k.leave
