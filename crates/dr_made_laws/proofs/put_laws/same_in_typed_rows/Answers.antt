use Rattle.std.specs.Prelude.{List, Option}
use Rattle.dr_meaning.specs.Record.{Value}
use Rattle.dr_partials.specs.Putting.{Put}
use Rattle.dr_made_laws.proofs.AlikeLemmas.{alike_readings, alike_conditions, constant_conditions}
use Rattle.dr_made_laws.proofs.put_laws.same_in_typed_rows.Goals as goal

pub returns : goal.returns
returns c = record {
  values = alike_readings (List (Option Value));
  puts = alike_readings Put;
  condition = alike_conditions;
  constant = constant_conditions;
}
