use Rattle.std.proofs.Common.{ap, ◌∙◌}
use Rattle.dr_nested.specs.Views.{fields_view}
use Rattle.dr_plan.specs.Objects.{object_view}
use Rattle.dr_within.specs.LevelTable.{Rows, tree_rows}
use Rattle.dr_within.proofs.TableLemmas.{table_is}
use Rattle.dr_within.proofs.LevelSteps.{nothing_there}
use Rattle.dr_within.proofs.levels.Levels.of.Goals as goal

pub returns : goal.returns
returns c = λ items e.
    let fs = fields_view c.args.schema.now.fields.items in
    let o = object_view c.args.object.now in
    table_is fs items o (record { rows = c.add_object.new.rows }) e (c.in_ok-add_object.ensures ∙ ap (λ (t : Rows). tree_rows fs 0 o t) (nothing_there c.new-rows.result.items c.new-rows.ensures.items))
