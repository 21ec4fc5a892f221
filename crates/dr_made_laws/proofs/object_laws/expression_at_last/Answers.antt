use Rattle.std.specs.Prelude.{Option}
use Rattle.dr_meaning.specs.Record.{Value}
use Rattle.dr_made_laws.proofs.LastReadLemmas.{meant_at_last}
use Rattle.dr_made_laws.proofs.object_laws.expression_at_last.Goals as goal

pub returns : goal.returns
returns c = meant_at_last (Option Value)
