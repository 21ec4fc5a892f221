use Rattle.std.proofs.Common.{[], List, Option}
use Rattle.dr_meaning.specs.Record.{Value}
use Rattle.dr_group.specs.ManyTaken.{many_view}
use Rattle.dr_group.specs.Maps.{tuples_view}
use Rattle.dr_columns.proofs.KeylessLemmas.{many_put}
use Rattle.dr_columns.proofs.NumberLemmas.{is_among}
use Rattle.dr_columns.proofs.taking.put_many.Goals as goal

pub take_many-requires : goal.take_many-requires
take_many-requires c = let t : List (Option Value) = [] in is_among (tuples_view c.args.groups.now) c.args.group t c.requires

pub returns-clause-put : goal.returns-clause-put
returns-clause-put c =
    let t : List (Option Value) = [] in
    many_put c.take_many.result c.args.groups.now c.take_many.new.self c.args.group c.args.aggregate t (many_view c.args.many) c.requires c.take_many.ensures.groups
