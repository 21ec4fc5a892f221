use Rattle.dr_table.specs.Views.{table_view}
use Rattle.dr_tree.specs.Views.{tree_view}
use Rattle.dr_serve.specs.Closing.{HasAnswered}
use Rattle.dr_serve.specs.Working.{table_job, IsPieceFound}
use Rattle.dr_serve.proofs.ServingLemmas.{held_by}
use Rattle.dr_serve.proofs.serving.serve_by.Given as goal

abbrev pub ghosts-closed-S-TableJob : goal.ghosts-closed-S-TableJob
ghosts-closed-S-TableJob g a = record {
  job = table_job (table_view a.table.now) a.lag;
  is_true = IsPieceFound (table_view a.table.now) a.plan.now (held_by g.L.Link.shows a.links.now);
  has_grown = HasAnswered (table_view a.table.now) a.plan.now (tree_view a.tree.now) (IsPieceFound (table_view a.table.now) a.plan.now (held_by g.L.Link.shows a.links.now));
}

abbrev pub ghosts-closed-S-Room : goal.ghosts-closed-S-Room
ghosts-closed-S-Room g a = record { table = a.added.table }

abbrev pub ghosts-closed-B-Room : goal.ghosts-closed-B-Room
ghosts-closed-B-Room g a = record { table = a.ground.table }
