use Rattle.std.proofs.Common.{◌≡◌, sym, subst}
use Rattle.dr_partials.specs.Partials as meant
use Rattle.dr_partials.specs.Putting as putting
use Rattle.dr_plan.specs.Planned.{planned_query}
use Rattle.dr_group.specs.Gathering.{Becomes}
use Rattle.dr_group.specs.Groups.{put_view}
use Rattle.dr_group.specs.Maps.{groups_view}
use Rattle.dr_group.specs.Partials.{partial_view, IsPartialOf}
use Rattle.dr_cells.specs.Rows.{rows_view}
use Rattle.dr_group.specs.declared.partial.Partial.{Partial}
use Rattle.dr_group.proofs.PartialLemmas.{put_lines, put_groups}
use Rattle.dr_group.proofs.partial.Partial.put.Goals as goal

pub returns-in-Lines-clause-partial : goal.returns-in-Lines-clause-partial
returns-in-Lines-clause-partial c = λ p h.
    let t = put_view c.args.key.now c.args.taken in
    subst (λ (x : Partial). partial_view x ≡ putting.put (planned_query p) t (partial_view x)) (sym c.in-Lines.is) (put_lines p t (rows_view c.in-Lines.field-0))

pub returns-in-Groups-clause-partial : goal.returns-in-Groups-clause-partial
returns-in-Groups-clause-partial c = λ p h.
    let t = put_view c.args.key.now c.args.taken in
    subst (λ (x : Partial). Becomes (partial_view x) (meant.grouped (groups_view c.put.new.self)) (putting.put (planned_query p) t (partial_view x)) c.put.result) (sym c.in-Groups.is)
    (put_groups c.put.result p c.in-Groups.groups t (groups_view c.put.new.self) (subst (IsPartialOf p) c.in-Groups.is h) c.put.ensures.groups)
