use Rattle.std.specs.Prelude.{◌*◌, ◌-◌, length}
use mathlib.Core.List.{IsPrefix}
use Rattle.dr_dispatch.specs.Job.{pairs}
use Rattle.dr_table.specs.Views.{table_view}
use Rattle.dr_serve.specs.Working.{IsCauseFor}
use Rattle.dr_serve.specs.Ends.{EndsAll}
use Rattle.dr_serve.specs.Links.{Worked}
use Rattle.dr_serve.proofs.turns.work.Given as goal

-- each turn before this one ended
abbrev pub invariant-turns : goal.invariant-turns
invariant-turns g l =
    IsPrefix l.initial.pass.seen l.pass.seen
    × EndsAll (IsCauseFor (table_view l.table) l.plan (g.L.Link.shows l.initial.link)) (g.L.Link.shows l.initial.link).faults (g.L.Link.shows l.link).faults l.initial.pass l.pass
    × Worked (table_view l.table) l.plan (g.L.Link.shows l.initial.link) (g.L.Link.shows l.link)

-- each turn adds an event, of which there are three a pair at most
abbrev pub decreases-turns : goal.decreases-turns
decreases-turns g l = 3 * pairs g.S.TableJob.job - length l.pass.seen
