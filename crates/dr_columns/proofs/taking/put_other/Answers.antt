use Rattle.std.proofs.Common.{arith}
use Rattle.std.specs.Prelude.{option_map}
use Rattle.dr_levels.specs.Views.{lent_value}
use Rattle.dr_columns.proofs.NumberLemmas.{as_many_tuples, value_is_put}
use Rattle.dr_columns.proofs.taking.put_other.Goals as goal

pub take_in-requires : goal.take_in-requires
take_in-requires c = omega (arith, as_many_tuples c.args.groups.now.groups.items, c.requires)

pub returns-clause-put : goal.returns-clause-put
returns-clause-put c = value_is_put c.take_in.result c.args.groups.now c.take_in.new.self c.args.group c.args.aggregate (option_map lent_value c.args.value) c.requires c.take_in.ensures.groups
