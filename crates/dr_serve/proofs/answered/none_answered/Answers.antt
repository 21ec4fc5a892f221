use Rattle.std.proofs.Common.{List, Bool, [], sym, subst}
use Rattle.dr_serve.specs.GrowsOn.{IsOfPieces}
use Rattle.dr_table.specs.Views.{table_view}
use Rattle.dr_tree.specs.Views.{tree_view}
use Rattle.dr_serve.proofs.FoundLemmas.{none_answered}
use Rattle.dr_serve.proofs.JournalLemmas.{none_of_pieces}
use Rattle.dr_serve.proofs.answered.none_answered.Goals as goal

pub returns-clause-answered : goal.returns-clause-answered
returns-clause-answered g c =
    none_answered (table_view c.args.table.now) c.args.plan.now (tree_view c.args.tree.now) g.S.TableJob.is_true c.in_ok-grown.grown c.in_ok-has_piece.has_piece.items c.requires c.in_ok-has_piece.ensures
    (c.in_ok-grown.ensures (table_view c.args.table.now).schema.fields)

pub returns-clause-none : goal.returns-clause-none
returns-clause-none g c = subst (λ (bs : List Bool). IsOfPieces [] bs) (sym c.in_ok-has_piece.ensures) (none_of_pieces c.args.table.now.tablets c.args.table.now.few_tablets)
