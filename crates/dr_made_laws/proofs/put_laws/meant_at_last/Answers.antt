use Rattle.std.specs.Prelude.{List, Option}
use Rattle.dr_meaning.specs.Record.{Value}
use Rattle.dr_partials.specs.Putting.{Put}
use Rattle.dr_made_laws.proofs.LastReadLemmas.{meant_at_last, last_stands, longest_of_both}
use Rattle.dr_made_laws.proofs.put_laws.meant_at_last.Goals as goal

pub returns : goal.returns
returns c = record { values = meant_at_last (List (Option Value)); puts = meant_at_last Put; watched = last_stands; longest = longest_of_both }
