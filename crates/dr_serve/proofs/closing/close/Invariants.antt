use Rattle.std.proofs.Common.{◌≡◌, List, Option, drop, map}
use Rattle.dr_group.specs.declared.partial.Partial.{Partial}
use Rattle.dr_partials.specs.Trees.{Tree}
use Rattle.dr_table.specs.Views.{table_view}
use Rattle.dr_table.specs.LeftViews.{all_left_view}
use Rattle.dr_serve.specs.Closing.{HasFound, HasClosed, has_some}
use Rattle.dr_serve.specs.Links.{Worked}
use Rattle.dr_serve.proofs.closing.close.Given as goal

-- the tablets before this one are closed, whatever the tree and the pieces of which this had grown
abbrev pub invariant-tablets : goal.invariant-tablets
invariant-tablets g l =
    ((tree : Tree) (places : List (Option Partial)) → HasFound (table_view l.table) l.plan tree g.S.TableJob.is_true places l.initial.closed.grown → l.has_piece.items ≡ map has_some places
    → HasClosed (table_view l.table) l.plan tree g.S.TableJob.is_true (g.L.Link.shows l.initial.link) (g.L.Link.shows l.link) places (drop l.tablet places) l.tablet l.closed.grown (all_left_view l.closed.left.items))
    × Worked (table_view l.table) l.plan (g.L.Link.shows l.initial.link) (g.L.Link.shows l.link)
