use Rattle.std.proofs.Common.{◌++◌, ◌∙◌, ap, map}
use Rattle.dr_nested.specs.PathView.{path_view}
use Rattle.dr_rewrite.specs.Lines.{leaf_line}
use Rattle.dr_rewrite.specs.declared.paths.Names.{Names}
use Rattle.dr_rewrite.proofs.NestedLemmas.{leaf_written}
use Rattle.dr_rewrite.proofs.nested.leaf_query.Goals as goal

pub returns : goal.returns
returns c =
    let names : Names = record { schema = c.args.schema; leaves = c.deref.result } in
    let p = c.args.plan.now in
    let table = c.args.table.now in
    c.in_ok-push_leaf_line.ensures
    ∙ (ap (λ b. b ++ leaf_line names table p.test.items p.joining p.selection) c.new-text.ensures.bytes ∙ leaf_written names table p (ap (map path_view) c.deref.ensures.value))
