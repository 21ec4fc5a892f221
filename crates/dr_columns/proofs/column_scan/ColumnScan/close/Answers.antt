use Rattle.dr_columns.proofs.TakenLemmas.{has_partial}
use Rattle.dr_columns.proofs.column_scan.ColumnScan.close.Goals as goal

pub returns-clause-partial : goal.returns-clause-partial
returns-clause-partial c = λ s p R t. has_partial s p R c.args.self t

pub returns-clause-of_plan : goal.returns-clause-of_plan
returns-clause-of_plan c = λ s p R t. t.gathers
