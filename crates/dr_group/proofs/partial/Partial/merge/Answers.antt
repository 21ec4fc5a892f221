use Rattle.std.proofs.Common.{◌∙◌, ap₂, sym, subst}
use Rattle.dr_partials.specs.Partials as meant
use Rattle.dr_cells.specs.Rows.{rows_view}
use Rattle.dr_group.specs.Gathering.{Becomes}
use Rattle.dr_group.specs.Maps.{groups_view}
use Rattle.dr_group.specs.Partials.{partial_view}
use Rattle.dr_group.specs.declared.partial.Partial.{Partial}
use Rattle.dr_group.proofs.PartialLemmas.{merge_lines, merge_grouped, merge_lines_groups, merge_groups_lines}
use Rattle.dr_group.proofs.partial.Partial.merge.Goals as goal

pub returns-in-Lines-other-clause-partial : goal.returns-in-Lines-other-clause-partial
returns-in-Lines-other-clause-partial c =
    subst (λ (x : Partial). Becomes (partial_view x) (meant.lines (rows_view c.append.new.self)) (meant.merge (partial_view x) (partial_view c.args.other)) c.append.result) (sym c.in-Lines.is)
    (subst (λ (y : Partial). Becomes (meant.lines (rows_view c.in-Lines.rows)) (meant.lines (rows_view c.append.new.self)) (meant.merge (meant.lines (rows_view c.in-Lines.rows)) (partial_view y)) c.append.result) (sym c.in-Lines-other.is)
    (merge_lines c.append.result (rows_view c.in-Lines.rows) (rows_view c.append.new.self) (rows_view c.in-Lines-other.more) c.append.ensures.rows))

pub returns-in-Lines-clause-partial : goal.returns-in-Lines-clause-partial
returns-in-Lines-clause-partial c =
    merge_lines_groups (rows_view c.in-Lines.rows) (groups_view c.in-Groups-other.field-0)
    ∙ ap₂ (λ (x y : Partial). meant.merge (partial_view x) (partial_view y)) (sym c.in-Lines.is) (sym c.in-Groups-other.is)

pub returns-in-Groups-other-2-clause-partial : goal.returns-in-Groups-other-2-clause-partial
returns-in-Groups-other-2-clause-partial c =
    subst (λ (x : Partial). Becomes (partial_view x) (meant.grouped (groups_view c.merge.new.self)) (meant.merge (partial_view x) (partial_view c.args.other)) c.merge.result) (sym c.in-Groups.is)
    (subst (λ (y : Partial). Becomes (meant.grouped (groups_view c.in-Groups.groups)) (meant.grouped (groups_view c.merge.new.self)) (meant.merge (meant.grouped (groups_view c.in-Groups.groups)) (partial_view y)) c.merge.result) (sym c.in-Groups-other-2.is)
    (merge_grouped c.merge.result (groups_view c.in-Groups.groups) (groups_view c.merge.new.self) (groups_view c.in-Groups-other-2.more) c.merge.ensures.groups))

pub returns-clause-partial : goal.returns-clause-partial
returns-clause-partial c =
    merge_groups_lines (groups_view c.in-Groups.groups) (rows_view c.in-Lines-other-2.field-0)
    ∙ ap₂ (λ (x y : Partial). meant.merge (partial_view x) (partial_view y)) (sym c.in-Groups.is) (sym c.in-Lines-other-2.is)
