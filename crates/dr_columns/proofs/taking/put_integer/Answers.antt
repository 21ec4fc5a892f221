use Rattle.std.specs.Prelude.{option_map}
use Rattle.dr_meaning.specs.Record.{int_value}
use Rattle.dr_columns.proofs.NumberLemmas.{value_is_put}
use Rattle.dr_columns.proofs.taking.put_integer.Goals as goal

pub returns-clause-put : goal.returns-clause-put
returns-clause-put c = value_is_put c.take_integer.result c.args.groups.now c.take_integer.new.self c.args.group c.args.aggregate (option_map int_value c.args.integer) c.requires c.take_integer.ensures.groups
