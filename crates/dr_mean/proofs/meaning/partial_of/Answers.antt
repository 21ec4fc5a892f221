use Rattle.dr_cells.specs.Rows.{rows_view}
use Rattle.dr_mean.proofs.MeanLemmas.{lines_are}
use Rattle.dr_mean.proofs.meaning.partial_of.Goals as goal

pub returns-in_ok-lines-in-Objects-clause-partial : goal.returns-in_ok-lines-in-Objects-clause-partial
returns-in_ok-lines-in-Objects-clause-partial c =
    λ a. lines_are c.args.plan.now c.args.records.now a c.in-Objects.items c.in-Objects.object (rows_view c.in_ok-lines-in-Objects.lines) c.in-Objects.is (c.in_ok-lines-in-Objects.ensures.rows a)
