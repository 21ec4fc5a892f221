use Rattle.std.proofs.Common.{IfOk, map, take, drop, sym, ◌∙◌, subst}
use Rattle.dr_outside.specs.Link.{LinkShown}
use Rattle.dr_table.specs.Views.{table_view}
use Rattle.dr_tree.specs.Views.{tree_view}
use Rattle.dr_serve.specs.Served.{ServedAs}
use Rattle.dr_serve.specs.declared.outcome.Served.{Served}
use Rattle.dr_serve.proofs.ServingLemmas.{take_length, first_of_part, part_leaves}
use Rattle.dr_serve.proofs.serving.serve.Goals as goal

pub returns-clause-serves : goal.returns-clause-serves
returns-clause-serves g c =
    let shows = g.L.Link.shows in
    let olds = c.args.links.now in
    let part = c.serve_by.new.links in
    let rest = drop c.args.workers olds in
    let same = first_of_part shows c.args.workers olds part rest c.requires.workers.0 c.requires.workers.1 c.serve_by.ensures.count in
    λ q is.
    subst (λ (l : LinkShown). IfOk c.serve_by.result (λ (s : Served). ServedAs (table_view c.args.table.now) c.args.plan.now q (tree_view c.args.tree.now) c.args.least (map shows (take c.args.workers olds)) l s.outcome)) (sym same)
    (c.serve_by.ensures.serves q is)

pub returns-clause-links : goal.returns-clause-links
returns-clause-links g c =
    let olds = c.args.links.now in
    let n = take_length c.args.workers olds c.requires.workers.1 in
    part_leaves g.L.Link.shows (table_view c.args.table.now) c.args.plan.now c.args.workers olds c.serve_by.new.links (c.serve_by.ensures.count ∙ n) c.requires.workers.1 c.serve_by.ensures.links
