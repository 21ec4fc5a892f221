use Rattle.dr_group.specs.Partials.{partial_view}
use Rattle.dr_group.specs.declared.partial.Partial.{Partial}
use Rattle.dr_tree.specs.Waiting.{lines_of}
use Rattle.dr_tree.proofs.GrowLemmas.{finished, finished_lines, finished_groups, finished_none, groups_of_plan}
use Rattle.dr_tree.proofs.growing.Growing.finish.Goals as goal

pub returns-in-Lines-clause-gathered : goal.returns-in-Lines-clause-gathered
returns-in-Lines-clause-gathered g c =
    λ w piece h e. finished w c.args.self piece (lines_of c.in_ok-append_all-in-Lines.field-0) h e
    (finished_lines w c.args.self c.in-Lines.rows c.in_ok-append_all-in-Lines.field-0 h c.in-Lines.is c.in_ok-append_all-in-Lines.ensures.lines)

pub returns-in-Some-clause-gathered : goal.returns-in-Some-clause-gathered
returns-in-Some-clause-gathered g c =
    λ w piece h e. finished w c.args.self piece (partial_view (Partial.Groups c.in-Some.all)) h e
    (finished_groups w c.args.self c.in-Groups.none h c.in-Groups.is c.in_ok-all-in-Groups.field-0 c.in_ok-all-in-Groups.ensures c.in-Some.all c.in-Some.is)

pub returns-in-Some-clause-of_plan : goal.returns-in-Some-clause-of_plan
returns-in-Some-clause-of_plan g c =
    λ w h. groups_of_plan w c.args.self c.in-Groups.none h c.in-Groups.is c.in_ok-all-in-Groups.field-0 c.in_ok-all-in-Groups.ensures c.in-Some.all c.in-Some.is

pub returns-clause-gathered : goal.returns-clause-gathered
returns-clause-gathered g c =
    λ w piece h e. finished w c.args.self piece (partial_view (Partial.Groups c.in-Groups.none)) h e
    (finished_none w c.args.self c.in-Groups.none h c.in-Groups.is c.in_ok-all-in-Groups.field-0 c.in_ok-all-in-Groups.ensures c.in-None.is)
