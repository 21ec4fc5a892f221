use Rattle.std.proofs.Common.{ap, sym, subst, Err, ℕ, List}
use Rattle.std.specs.Prelude.{option_map, Option}
use Rattle.dr_load.specs.Plans.{plan_view}
use Rattle.dr_load.specs.Loads.{LoadsTable}
use Rattle.dr_load.proofs.LoadLemmas.{table_none, table_put, table_stands, table_loaded}
use Rattle.dr_load.proofs.loading.load.Goals as goal

pub returns-in-None-clause-puts : goal.returns-in-None-clause-puts
returns-in-None-clause-puts g c =
    table_none (plan_view c.args.plan.now) c.in-Ok.loaded.tablets (g.S.Source.shows c.args.source.now).left (g.K.Link.shows c.args.keeper.now) (g.K.Link.shows c.load_tablets.new.keeper)
    (ap (option_map (λ path. path.now)) c.in-None.is) c.in-Ok.ensures.accepted c.in-Ok.ensures.tablets c.in-Ok.ensures.puts

pub returns-in-Ok-put_table-clause-puts : goal.returns-in-Ok-put_table-clause-puts
returns-in-Ok-put_table-clause-puts g c =
    table_put (plan_view c.args.plan.now) c.in-Ok.loaded.tablets c.in-Some.path.now (g.S.Source.shows c.args.source.now).left (g.K.Link.shows c.args.keeper.now) (g.K.Link.shows c.load_tablets.new.keeper) (g.K.Link.shows c.put_table.new.keeper)
    (ap (option_map (λ path. path.now)) c.in-Some.is) c.in-Ok.ensures.accepted c.in-Ok.ensures.tablets c.in-Ok.ensures.puts c.in-Ok-put_table.ensures.put

pub returns-in-Err-put_table-clause-stands : goal.returns-in-Err-put_table-clause-stands
returns-in-Err-put_table-clause-stands g c =
    table_stands (plan_view c.args.plan.now) c.in-Ok.loaded.tablets c.in-Some.path.now (g.S.Source.shows c.args.source.now).left (g.K.Link.shows c.args.keeper.now) (g.K.Link.shows c.load_tablets.new.keeper) (g.K.Link.shows c.put_table.new.keeper) c.in-Err-put_table.fault
    (ap (option_map (λ path. path.now)) c.in-Some.is) c.in-Ok.ensures.accepted c.in-Ok.ensures.tablets c.in-Ok.ensures.puts c.in-Err-put_table.ensures.broken c.in-Err-put_table.ensures.line (λ e. c.in-Err-put_table.ensures.read (ap (λ x. Err x) e))

pub returns-in-None-clause-table : goal.returns-in-None-clause-table
returns-in-None-clause-table g c =
    subst (λ (o : Option (List ℕ)). LoadsTable (plan_view c.args.plan.now) o c.in-Ok.loaded.tablets (g.S.Source.shows c.args.source.now).left (g.K.Link.shows c.args.keeper.now).held (g.K.Link.shows c.load_tablets.new.keeper).held)
    (sym (ap (option_map (λ path. path.now)) c.in-None.is)) c.in-Ok.ensures.table

pub returns-in-Ok-put_table-clause-table : goal.returns-in-Ok-put_table-clause-table
returns-in-Ok-put_table-clause-table g c =
    table_loaded (plan_view c.args.plan.now) c.in-Ok.loaded.tablets c.in-Some.path.now (g.S.Source.shows c.args.source.now).left (g.K.Link.shows c.args.keeper.now) (g.K.Link.shows c.load_tablets.new.keeper) (g.K.Link.shows c.put_table.new.keeper)
    (ap (option_map (λ path. path.now)) c.in-Some.is) c.in-Ok.ensures.table c.in-Ok-put_table.ensures.put
